-- What the elements of a list give by their names.
use Rattle.std.proofs.Common.{suc, ◌≡◌, ◌≢◌, ℕ, Bool, true, false, List, [], ◌∷◌, ◌++◌, length, get_or, Option, Some, None, inl, inr, refl, sym, ap, ◌∙◌, subst, arith}
use Rattle.std.specs.Prelude.{bytes_eq, map, flat_map, if◌then◌else◌, ◌⊎◌}
use Rattle.std.specs.List.{AllByRecursion}
use Rattle.std.specs.Option.{option_or}
use Rattle.std.proofs.lemmas.List.{map-append, length-map}
use Rattle.std.proofs.lemmas.List.Elements.{recursion_from_All}
use Rattle.std.proofs.lemmas.List.Quantifiers.{position-Some}
use Rattle.flow_model.specs.Programs.{AreDistinct}
use Rattle.mps_text.specs.Meaning.{place_of}
use Rattle.mps_text.specs.Given.{Cell, cells_of, first_given}
use Rattle.mps_text.proofs.NamePlaces.{seam}
use Rattle.mps_text.proofs.Steps.{same_bytes}
use Rattle.mps_text.proofs.Follow.{added}
use Rattle.mps_text.proofs.GivenColumns.{given_append, or_none}

-- Lists that are looked through.

pub or_assoc : {B : Type 0} (a b c : Option B) → option_or (option_or a b) c ≡ option_or a (option_or b c)
or_assoc None b c = refl
or_assoc (Some x) b c = refl

-- what an element gives, where it has this name
abbrev pub named : {A B : Type 0} → (A → List ℕ) → (A → Option B) → List ℕ → A → Option B
named name give key x = if bytes_eq (name x) key then give x else None

given_map : {A B : Type 0} (f : A → Option B) (xs : List A) → first_given (λ (o : Option B). o) (map f xs) ≡ first_given f xs
given_map f [] = refl
given_map {A} {B} f (x ∷ xs) = ap (option_or (f x)) (given_map f xs)

pub given_same : {A B : Type 0} (f : A → Option B) (xs ys : List A) → map f ys ≡ map f xs → first_given f ys ≡ first_given f xs
given_same {A} {B} f xs ys h = sym (given_map f ys) ∙ (ap (first_given (λ (o : Option B). o)) h ∙ given_map f xs)

-- one element that gives more
pub given_changed : {A B : Type 0} (f : A → Option B) (more : Option B) (before : List A) (old new : A) (behind : List A) → f new ≡ option_or (f old) more → option_or more (first_given f behind) ≡ option_or (first_given f behind) more
    → first_given f (before ++ new ∷ behind) ≡ option_or (first_given f (before ++ old ∷ behind)) more
given_changed {A} {B} f more before old new behind gives turns =
    let a = first_given f before in
    let b = first_given f behind in
    given_append f before (new ∷ behind)
    ∙ (ap (λ (o : Option B). option_or a (option_or o b)) gives
    ∙ (ap (option_or a) (or_assoc (f old) more b ∙ (ap (option_or (f old)) turns ∙ sym (or_assoc (f old) b more)))
    ∙ (sym (or_assoc a (option_or (f old) b) more) ∙ ap (λ (o : Option B). option_or o more) (sym (given_append f before (old ∷ behind))))))

pub apart_tail : (x : List ℕ) (xs : List (List ℕ)) → AreDistinct (x ∷ xs) → AreDistinct xs
apart_tail x xs h i j d lt small = h (suc i) (suc j) d (omega arith) (omega arith)

pub apart_behind : (xs : List (List ℕ)) (y : List ℕ) (ys : List (List ℕ)) → AreDistinct (xs ++ y ∷ ys) → AllByRecursion (λ z. y ≢ z) ys
apart_behind [] y ys h = recursion_from_All (λ z. y ≢ z) ys (λ k d lt. h 0 (suc k) d (omega arith) (omega arith))
apart_behind (x ∷ xs) y ys h = apart_behind xs y ys (apart_tail x (xs ++ y ∷ ys) h)

pub none_named : {A B : Type 0} (name : A → List ℕ) (give : A → Option B) (key : List ℕ) (xs : List A) → AllByRecursion (λ z. key ≢ z) (map name xs) → first_given (named name give key) xs ≡ None
none_named name give key [] h = refl
none_named {A} {B} name give key (x ∷ xs) h = by (bytes_eq (name x) key) refl (none_named name give key xs h.1)
  where
    by : (b : Bool) → bytes_eq (name x) key ≡ b → first_given (named name give key) xs ≡ None → option_or (if b then give x else None) (first_given (named name give key) xs) ≡ None
    by true e next = absurd (h.0 (sym (same_bytes (name x) key e)))
    by false e next = next

-- no element behind one of this name gives anything
behind_none : {A B : Type 0} (name : A → List ℕ) (give : A → Option B) (key : List ℕ) (before : List A) (old : A) (behind : List A) → AreDistinct (map name (before ++ old ∷ behind)) → name old ≡ key → first_given (named name give key) behind ≡ None
behind_none {A} name give key before old behind apart is =
    let split = map-append name before (old ∷ behind) in
    none_named name give key behind (subst (λ (k : List ℕ). AllByRecursion (λ z. k ≢ z) (map name behind)) is (apart_behind (map name before) (name old) (map name behind) (subst AreDistinct split apart)))

-- the name of the element at a place
pub name_there : {A : Type 0} (name : A → List ℕ) (before : List A) (old : A) (behind : List A) (key : List ℕ) (place : ℕ) → length before ≡ place → place_of key (map name (before ++ old ∷ behind)) ≡ Some place → key ≡ name old
name_there {A} name before old behind key place at found =
    let there = position-Some (bytes_eq key) (map name (before ++ old ∷ behind)) place [] found in
    let split = map-append name before (old ∷ behind) in
    let size : length (map name before) ≡ place = length-map before name ∙ at in
    same_bytes key (get_or (map name (before ++ old ∷ behind)) place []) there.1
    ∙ (ap (λ (z : List (List ℕ)). get_or z place []) split
    ∙ (ap (λ (n : ℕ). get_or (map name before ++ name old ∷ map name behind) n []) (sym size) ∙ seam (map name before) (name old) (map name behind) []))

-- an element of this name, or of another, that gives more
pub named_more : {A B : Type 0} (name : A → List ℕ) (give : A → Option B) (key : List ℕ) (before : List A) (old new : A) (behind : List A) (more : Option B)
    → AreDistinct (map name (before ++ old ∷ behind)) → name new ≡ name old → (name old ≡ key → give new ≡ option_or (give old) more) → (bytes_eq (name old) key ≡ false → more ≡ None)
    → first_given (named name give key) (before ++ new ∷ behind) ≡ option_or (first_given (named name give key) (before ++ old ∷ behind)) more
named_more {A} {B} name give key before old new behind more apart kept here other = by (bytes_eq (name old) key) refl
  where
    f : A → Option B
    f = named name give key

    turns : (x : Option B) → first_given (named name give key) behind ≡ None ⊎ more ≡ None → option_or more (first_given (named name give key) behind) ≡ option_or (first_given (named name give key) behind) more
    turns x (inl none) = ap (option_or more) none ∙ (or_none more ∙ ap (λ (o : Option B). option_or o more) (sym none))
    turns x (inr none) = ap (λ (o : Option B). option_or o (first_given (named name give key) behind)) none ∙ (sym (or_none (first_given (named name give key) behind)) ∙ ap (option_or (first_given (named name give key) behind)) (sym none))

    by : (b : Bool) → bytes_eq (name old) key ≡ b → first_given (named name give key) (before ++ new ∷ behind) ≡ option_or (first_given (named name give key) (before ++ old ∷ behind)) more
    by true e =
        let is = same_bytes (name old) key e in
        let at_new : named name give key new ≡ give new = ap (λ (b : Bool). if b then give new else None) (ap (λ (z : List ℕ). bytes_eq z key) kept ∙ e) in
        let at_old : named name give key old ≡ give old = ap (λ (b : Bool). if b then give old else None) e in
        given_changed (named name give key) more before old new behind (at_new ∙ (here is ∙ ap (λ (o : Option B). option_or o more) (sym at_old))) (turns None (inl (behind_none name give key before old behind apart is)))
    by false e =
        let none = other e in
        let at_new : named name give key new ≡ None = ap (λ (b : Bool). if b then give new else None) (ap (λ (z : List ℕ). bytes_eq z key) kept ∙ e) in
        let at_old : named name give key old ≡ None = ap (λ (b : Bool). if b then give old else None) e in
        given_changed (named name give key) more before old new behind (at_new ∙ (sym none ∙ ap (λ (o : Option B). option_or o more) (sym at_old))) (turns None (inr none))

-- lines that give one after the other
pub or_all : {B : Type 0} (gives : List (List ℕ) → Option B) (o : Option B) (lines : List (List (List ℕ))) → added (λ (o : Option B) (fields : List (List ℕ)). option_or o (gives fields)) o lines ≡ option_or o (first_given gives lines)
or_all gives o [] = sym (or_none o)
or_all {B} gives o (fields ∷ lines) = or_all gives (option_or o (gives fields)) lines ∙ or_assoc o (gives fields) (first_given gives lines)

pub flat_given : {A : Type 0} (f : Cell → Option A) (lines : List (List (List ℕ))) → first_given (λ (fields : List (List ℕ)). first_given f (cells_of fields)) lines ≡ first_given f (flat_map cells_of lines)
flat_given f [] = refl
flat_given {A} f (fields ∷ lines) = ap (option_or (first_given f (cells_of fields))) (flat_given f lines) ∙ sym (given_append f (cells_of fields) (flat_map cells_of lines))
