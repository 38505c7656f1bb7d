-- A part of a text is read exactly where its tokens spell its row of fields.
use Rattle.std.proofs.Common.{zero, suc, ◌≡◌, ℕ, ◌+◌, Bool, true, false, cond, List, [], ◌∷◌, ◌++◌, length, Result, Ok, Err, refl, sym, ap, ◌∙◌, subst, append_assoc, append-nil, arith}
use Rattle.std.specs.List.{All, flat_map}
use Rattle.std.proofs.lemmas.List.Elements.{All-nil, All-cons, All-head, All-tail}
use Rattle.packing_laws.specs.declared.fault.ReadFault.{ReadFault}
use Rattle.packing_laws.specs.Places.{Place, ◌>>=◌, token_in, several, end_in}
use Rattle.packing_laws.specs.Layouts.{Field, SpellsField, Spells}

-- the first of the tokens spells the field
abbrev pub FirstSpells : List (List ℕ) → Field → Type 0
FirstSpells [] f = ⊥
FirstSpells (t ∷ ts) f = SpellsField t f

-- the tokens behind the first
abbrev pub others_of : List (List ℕ) → List (List ℕ)
others_of [] = []
others_of (t ∷ ts) = ts

-- the place behind the next token
abbrev pub behind : Place → Place
behind p = record { count = p.count + 1; left = others_of p.left }

-- from one place to another the tokens spell the row
abbrev pub Passes : Place → List Field → Place → Type 0
Passes p [] q = p ≡ q
Passes p (f ∷ fs) q = FirstSpells p.left f × Passes (behind p) fs q

pub Passes-join : (p : Place) (r s : List Field) (m q : Place) → Passes p r m → Passes m s q → Passes p (r ++ s) q
Passes-join p [] s m q h k = subst (λ (x : Place). Passes x s q) (sym h) k
Passes-join p (f ∷ fs) s m q h k = (h.0, Passes-join (behind p) fs s m q h.1 k)

pub Passes-split : (p : Place) (r s : List Field) (q : Place) → Passes p (r ++ s) q → (m : Place) × (Passes p r m × Passes m s q)
Passes-split p [] s q h = (p, (refl, h))
Passes-split p (f ∷ fs) s q h = let rest = Passes-split (behind p) fs s q h.1 in (rest.0, ((h.0, rest.1.0), rest.1.1))

-- the tokens up to the last are the row
pub Spells-passed : (ts : List (List ℕ)) (count : ℕ) (r : List Field) (q : Place) → Passes (record { count = count; left = ts }) r q → q.left ≡ [] → Spells ts r
Spells-passed ts count [] q h e = subst (λ (x : List (List ℕ)). Spells x []) (sym (ap (λ (x : Place). x.left) h ∙ e)) tt
Spells-passed [] count (f ∷ fs) q h e = absurd (h.0)
Spells-passed (t ∷ ts) count (f ∷ fs) q h e = (h.0, Spells-passed ts (count + 1) fs q h.1 e)

pub Passes-spelled : (ts : List (List ℕ)) (count : ℕ) (r : List Field) → Spells ts r → (q : Place) × (Passes (record { count = count; left = ts }) r q × (q.left ≡ []))
Passes-spelled [] count [] h = (record { count = count; left = [] }, (refl, refl))
Passes-spelled [] count (f ∷ fs) h = absurd h
Passes-spelled (t ∷ ts) count [] h = absurd h
Passes-spelled (t ∷ ts) count (f ∷ fs) h = let rest = Passes-spelled ts (count + 1) fs h.1 in (rest.0, ((h.0, rest.1.0), rest.1.1))

-- a part of a text is read exactly where its value is lawful and its tokens spell the row of the value
pub record IsExact {A : Type 0} (read : Place → Result (A × Place) ReadFault) (row : A → List Field) (Lawful : A → Type 0) : Type 0 where
  pub sound : (p : Place) (x : A) (q : Place) → read p ≡ Ok (x, q) → Lawful x × Passes p (row x) q
  pub complete : (p : Place) (x : A) (q : Place) → Lawful x → Passes p (row x) q → read p ≡ Ok (x, q)

module _ {A B : Type 0} where
  -- what was read first, and what was read next
  pub read_both : (r : Result A ReadFault) (f : A → Result B ReadFault) (y : B) → (r >>= f) ≡ Ok y → (x : A) × ((r ≡ Ok x) × (f x ≡ Ok y))
  read_both (Ok x) f y h = (x, (refl, h))
  read_both (Err e) f y h = absurd (cc)

  pub both_read : (r : Result A ReadFault) (f : A → Result B ReadFault) (x : A) (y : B) → r ≡ Ok x → f x ≡ Ok y → (r >>= f) ≡ Ok y
  both_read r f x y h k = rw h k

module _ {A : Type 0} where
  -- equal answers hold equal values and places
  pub same_value : (r : Result (A × Place) ReadFault) (x y : A) (p q : Place) → r ≡ Ok (x, p) → r ≡ Ok (y, q) → x ≡ y
  same_value r x y p q h k = let e : (x, p) ≡ (y, q) = cc in ap (λ (z : A × Place). z.0) e

  pub same_place : (r : Result (A × Place) ReadFault) (x y : A) (p q : Place) → r ≡ Ok (x, p) → r ≡ Ok (y, q) → p ≡ q
  same_place r x y p q h k = let e : (x, p) ≡ (y, q) = cc in ap (λ (z : A × Place). z.1) e

-- one token: what it stands for is one field
module _ {A : Type 0} (meaning : ℕ → List ℕ → Result A ReadFault) (field : A → Field) (Lawful : A → Type 0)
    (means : (k : ℕ) (t : List ℕ) (x : A) → meaning k t ≡ Ok x → Lawful x × SpellsField t (field x))
    (meant : (k : ℕ) (t : List ℕ) (x : A) → Lawful x → SpellsField t (field x) → meaning k t ≡ Ok x) where
  token_sound : (count : ℕ) (ts : List (List ℕ)) (x : A) (q : Place) → token_in meaning count ts ≡ Ok (x, q) → Lawful x × Passes (record { count = count; left = ts }) (field x ∷ []) q
  token_sound count [] x q h = absurd (cc)
  token_sound count (t ∷ ts) x q h =
      let both = read_both (meaning (count + 1) t) (λ (y : A). Ok (y, record { count = count + 1; left = ts })) (x, q) h in
      let place : Place = record { count = count + 1; left = ts } in
      let lawful = means (count + 1) t both.0 both.1.0 in
      let value : both.0 ≡ x = same_value (Ok (both.0, place)) both.0 x place q refl both.1.1 in
      let spelled = subst (λ (z : A). Lawful z × SpellsField t (field z)) value lawful in
      (spelled.0, (spelled.1, same_place (Ok (both.0, place)) both.0 x place q refl both.1.1))

  token_complete : (count : ℕ) (ts : List (List ℕ)) (x : A) (q : Place) → Lawful x → Passes (record { count = count; left = ts }) (field x ∷ []) q → token_in meaning count ts ≡ Ok (x, q)
  token_complete count [] x q l h = absurd (h.0)
  token_complete count (t ∷ ts) x q l h = rw (meant (count + 1) t x l h.0) (ap (λ (z : Place). Ok (x, z)) h.1)

  pub token-exact : IsExact (λ (p : Place). token_in meaning p.count p.left) (λ (x : A). field x ∷ []) Lawful
  token-exact = record {
    sound = λ p x q h. token_sound p.count p.left x q h;
    complete = λ p x q l h. token_complete p.count p.left x q l h;
  }

-- several values
abbrev pub EachLawful : {A : Type 0} → (List A → A → Type 0) → List A → List A → Type 0
EachLawful Lawful xs [] = Unit {0}
EachLawful Lawful xs (y ∷ ys) = Lawful xs y × EachLawful Lawful (xs ++ y ∷ []) ys

module _ {A : Type 0} (each : List A → Place → Result (A × Place) ReadFault) (row : A → List Field) (Lawful : List A → A → Type 0)
    (exact : (xs : List A) → IsExact (each xs) row (Lawful xs)) where
  -- what is read behind the values that are there
  abbrev Added : ℕ → List A → Place → List A → Place → Type 0
  Added n xs p zs q = (ys : List A) × ((zs ≡ xs ++ ys) × ((length ys ≡ n) × (EachLawful Lawful xs ys × Passes p (flat_map row ys) q)))

  several_sound : (n : ℕ) (xs : List A) (p : Place) (zs : List A) (q : Place) → several n each xs p ≡ Ok (zs, q) → Added n xs p zs q
  several_sound zero xs p zs q h =
      let value = same_value _ xs zs p q refl h in
      let place = same_place _ xs zs p q refl h in
      ([], (sym value ∙ sym (append-nil xs), (refl, (tt, place))))
  several_sound (suc n) xs p zs q h =
      let both = read_both (each xs p) (λ (x : A × Place). several n each (xs ++ x.0 ∷ []) x.1) (zs, q) h in
      let x = both.0 in
      let first = (exact xs).sound p x.0 x.1 both.1.0 in
      let more = several_sound n (xs ++ x.0 ∷ []) x.1 zs q both.1.1 in
      (x.0 ∷ more.0, (more.1.0 ∙ append_assoc xs (x.0 ∷ []) more.0, (ap suc more.1.1.0, ((first.0, more.1.1.1.0), Passes-join p (row x.0) (flat_map row more.0) x.1 q first.1 more.1.1.1.1))))

  several_complete : (n : ℕ) (xs : List A) (p : Place) (ys : List A) (q : Place) → length ys ≡ n → EachLawful Lawful xs ys → Passes p (flat_map row ys) q → several n each xs p ≡ Ok (xs ++ ys, q)
  several_complete zero xs p [] q e l h = ap (λ (z : Place). Ok (xs, z)) h ∙ ap (λ (z : List A). Ok (z, q)) (sym (append-nil xs))
  several_complete zero xs p (y ∷ ys) q e l h = absurd (omega arith)
  several_complete (suc n) xs p [] q e l h = absurd (omega arith)
  several_complete (suc n) xs p (y ∷ ys) q e l h =
      let split = Passes-split p (row y) (flat_map row ys) q h in
      let first = (exact xs).complete p y split.0 l.0 split.1.0 in
      let more = several_complete n (xs ++ y ∷ []) split.0 ys q (omega arith) l.1 split.1.1 in
      both_read (each xs p) (λ (x : A × Place). several n each (xs ++ x.0 ∷ []) x.1) (y, split.0) (xs ++ y ∷ ys, q) first (more ∙ ap (λ (z : List A). Ok (z, q)) (append_assoc xs (y ∷ []) ys))

  pub several-exact : (n : ℕ) → IsExact (several n each []) (flat_map row) (λ (ys : List A). (length ys ≡ n) × EachLawful Lawful [] ys)
  several-exact n = record {
    sound = λ p zs q h.
        let added = several_sound n [] p zs q h in
        subst (λ (z : List A). ((length z ≡ n) × EachLawful Lawful [] z) × Passes p (flat_map row z) q) (sym added.1.0) ((added.1.1.0, added.1.1.1.0), added.1.1.1.1);
    complete = λ p ys q l h. several_complete n [] p ys q l.0 l.1 h;
  }

module _ {A : Type 0} where
  -- the same part, described in other words
  pub exact-same : (read : Place → Result (A × Place) ReadFault) (row other_row : A → List Field) (Lawful Other : A → Type 0) → ((x : A) → row x ≡ other_row x) → ((x : A) → Lawful x → Other x) → ((x : A) → Other x → Lawful x) → IsExact read row Lawful → IsExact read other_row Other
  exact-same read row other_row Lawful Other same to from exact = record {
    sound = λ p x q h. let s = exact.sound p x q h in (to x s.0, subst (λ (r : List Field). Passes p r q) (same x) s.1);
    complete = λ p x q l h. exact.complete p x q (from x l) (subst (λ (r : List Field). Passes p r q) (sym (same x)) h);
  }

  -- each value is lawful, whatever the ones before it
  pub each-All : (P : A → Type 0) (xs ys : List A) → EachLawful (λ (_ : List A) (x : A). P x) xs ys → All P ys
  each-All P xs [] h = All-nil P
  each-All P xs (y ∷ ys) h = All-cons P y ys h.0 (each-All P (xs ++ y ∷ []) ys h.1)

  pub All-each : (P : A → Type 0) (xs ys : List A) → All P ys → EachLawful (λ (_ : List A) (x : A). P x) xs ys
  All-each P xs [] h = tt
  All-each P xs (y ∷ ys) h = (All-head P y ys h, All-each P (xs ++ y ∷ []) ys (All-tail P y ys h))

  -- where one of two answers is a fault, the other was chosen
  pub chosen : (b : Bool) (e : ReadFault) (r : A) (y : A) → cond b (Err e) (Ok r) ≡ Ok y → (b ≡ false) × (r ≡ y)
  chosen true e r y h = absurd (cc)
  chosen false e r y h = (refl, cc)

-- the end of the text
pub end_reached : (count : ℕ) (ts : List (List ℕ)) (u : Unit {0}) → end_in count ts ≡ Ok u → ts ≡ []
end_reached count [] u h = refl
end_reached count (t ∷ ts) u h = absurd (cc)

pub reached_end : (count : ℕ) (ts : List (List ℕ)) → ts ≡ [] → end_in count ts ≡ Ok tt
reached_end count ts e = rw e refl
