-- Members of lists, and of what a function gives of them.
use Rattle.std.proofs.Common.{◌≡◌, ℕ, ◌<◌, ◌⊎◌, List, [], ◌∷◌, length, get_or, take, map, sym, ap, ◌∙◌, subst, inl, inr, ⊎_elim, Option, Some, None, min, arith}
use Rattle.std.proofs.lemmas.List.{length-take, get_or-take}
use Rattle.std.specs.Prelude.{Contains}
pub use Rattle.label_graph.proofs.Members.{contains_cons, contains_here, contains_there, contains_nothing}
use Rattle.std.specs.List.{filter_map, cons_option}

module _ {X : Type 0} where
  pub contains_cons_option : (o : Option X) (xs : List X) (y : X) → Contains xs y → Contains (cons_option o xs) y
  contains_cons_option None xs y m = m
  contains_cons_option (Some x) xs y m = contains_there x xs y m

  pub from_cons_option : (o : Option X) (xs : List X) (y : X) → Contains (cons_option o xs) y → (o ≡ Some y) ⊎ Contains xs y
  from_cons_option None xs y m = inr m
  from_cons_option (Some x) xs y m = ⊎_elim (λ same. inl (ap Some same)) (λ later. inr later) (contains_cons x xs y m)

  -- a member of the first part of a list
  pub contains_take : (n : ℕ) (xs : List X) (y : X) → Contains (take n xs) y → (k : ℕ) × (k < n) × (k < length xs) × (get_or xs k y ≡ y)
  contains_take n xs y m =
      let lt : m.0 < length (take n xs) = m.1 in
      let sized : length (take n xs) ≡ min n (length xs) = length-take n xs in
      let low : m.0 < n = omega arith in
      (m.0, low, omega arith, sym (get_or-take n xs m.0 y low) ∙ m.2)

  -- equal at each place of the ascending order, so equal
  pub contains_pair : (xs : List X) (x : X) (k : ℕ) → k < length xs → get_or xs k x ≡ x → Contains xs x
  contains_pair xs x k lt e = (k, lt, e)

module _ {X Y : Type 0} (h : X → Option Y) where
  pub contains_filter_map : (xs : List X) (x : X) (y : Y) → Contains xs x → h x ≡ Some y → Contains (filter_map h xs) y
  contains_filter_map [] x y m e = absurd (contains_nothing x m)
  contains_filter_map (z ∷ xs) x y m e =
      ⊎_elim
      (λ same. let f : h z ≡ Some y = ap h same ∙ e in rw f (contains_here y (filter_map h xs)))
      (λ later. contains_cons_option (h z) (filter_map h xs) y (contains_filter_map xs x y later e))
      (contains_cons z xs x m)

  pub from_filter_map : (xs : List X) (y : Y) → Contains (filter_map h xs) y → (x : X) × Contains xs x × (h x ≡ Some y)
  from_filter_map [] y m = absurd (contains_nothing y m)
  from_filter_map (z ∷ xs) y m =
      ⊎_elim
      (λ same. (z, contains_here z xs, same))
      (λ later. let rest = from_filter_map xs y later in (rest.0, contains_there z xs rest.0 rest.1, rest.2))
      (from_cons_option (h z) (filter_map h xs) y m)

module _ {X Y : Type 0} (f : X → Y) where
  pub contains_map : (xs : List X) (x : X) → Contains xs x → Contains (map f xs) (f x)
  contains_map [] x m = absurd (contains_nothing x m)
  contains_map (z ∷ xs) x m =
      ⊎_elim
      (λ same. subst (λ (y : X). Contains (map f (z ∷ xs)) (f y)) same (contains_here (f z) (map f xs)))
      (λ later. contains_there (f z) (map f xs) (f x) (contains_map xs x later))
      (contains_cons z xs x m)

  pub from_map : (xs : List X) (y : Y) → Contains (map f xs) y → (x : X) × Contains xs x × (f x ≡ y)
  from_map [] y m = absurd (contains_nothing y m)
  from_map (z ∷ xs) y m =
      ⊎_elim
      (λ same. (z, contains_here z xs, same))
      (λ later. let rest = from_map xs y later in (rest.0, contains_there z xs rest.0 rest.1, rest.2))
      (contains_cons (f z) (map f xs) y m)
