-- Places of names among the parts of a text that they are.
use Rattle.std.proofs.Common.{◌≡◌, ℕ, ◌+◌, Bool, true, false, cond, List, [], ◌∷◌, ◌++◌, length, Some, None, refl, sym, ap, ◌∙◌, arith, Bor}
use Rattle.std.specs.Prelude.{map, nat_lt, not, ◌||◌, if◌then◌else◌, position, bytes_eq}
use Rattle.std.specs.List.{position_or_len, list_any}
use Rattle.std.proofs.lemmas.List.{length-map, map-append}
use Rattle.indexmap.specs.IndexSet.{insert_key}
use Rattle.mps_text.specs.Meaning.{place_of}
use Rattle.arc_num.proofs.Places.{place_none}

len_map : {X Y : Type 0} (p : Y → Bool) (f : X → Y) (xs : List X) → position_or_len p (map f xs) ≡ position_or_len (λ x. p (f x)) xs
len_map p f [] = refl
len_map p f (x ∷ xs) = ap (λ (n : ℕ). cond (not (p (f x))) (1 + n) 0) (len_map p f xs)

pub place_map : {X Y : Type 0} (p : Y → Bool) (f : X → Y) (xs : List X) → position p (map f xs) ≡ position (λ x. p (f x)) xs
place_map p f xs =
    ap (λ (n : ℕ). cond (nat_lt n (length (map f xs))) (Some n) None) (len_map p f xs)
    ∙ ap (λ (n : ℕ). cond (nat_lt (position_or_len (λ x. p (f x)) xs) n) (Some (position_or_len (λ x. p (f x)) xs)) None) (length-map xs f)

pub none_passes : {X : Type 0} (p : X → Bool) (xs : List X) → length xs ≡ position_or_len p xs → list_any p xs ≡ false
none_passes p [] h = refl
none_passes {X} p (x ∷ xs) h = by (p x) refl (none_passes p xs)
  where
    by : (b : Bool) → p x ≡ b → (length xs ≡ position_or_len p xs → list_any p xs ≡ false) → (p x || list_any p xs) ≡ false
    by true e next = let z : position_or_len p (x ∷ xs) ≡ 0 = rw e refl in absurd (omega arith)
    by false e next = let z : position_or_len p (x ∷ xs) ≡ 1 + position_or_len p xs = rw e refl in rw e (next (omega arith))

pub place_by : (name : List ℕ) (keys : List (Bor (List ℕ))) (names : List (List ℕ)) → map (λ k. k.now) keys ≡ names → position (λ k. bytes_eq name k.now) keys ≡ place_of name names
place_by name keys names h = sym (place_map (bytes_eq name) (λ (k : Bor (List ℕ)). k.now) keys) ∙ ap (place_of name) h

pub names_added : (name : Bor (List ℕ)) (keys after : List (Bor (List ℕ))) (names : List (List ℕ)) → map (λ k. k.now) keys ≡ names → place_of name.now names ≡ None
    → after ≡ insert_key (λ x y. bytes_eq x.now y.now) keys name → map (λ k. k.now) after ≡ names ++ name.now ∷ []
names_added name keys after names h new e =
    let none : list_any (λ k. bytes_eq name.now k.now) keys ≡ false =
    none_passes (λ (k : Bor (List ℕ)). bytes_eq name.now k.now) keys (place_none (λ (k : Bor (List ℕ)). bytes_eq name.now k.now) keys (place_by name.now keys names h ∙ new)) in
    let same : after ≡ keys ++ name ∷ [] = e ∙ ap (λ (b : Bool). if b then keys else keys ++ name ∷ []) none in
    ap (map (λ (k : Bor (List ℕ)). k.now)) same ∙ (map-append (λ (k : Bor (List ℕ)). k.now) keys (name ∷ []) ∙ ap (λ (z : List (List ℕ)). z ++ name.now ∷ []) h)
