-- The names of the columns of a graph: each another one, so that a name has at most one place.
use Rattle.std.proofs.Common.{suc, zero, ◌≡◌, ℕ, ◌+◌, ◌^◌, ◌<◌, Bool, true, false, List, [], ◌∷◌, length, Some, None, refl, sym, ap, ◌∙◌, arith}
use Rattle.std.specs.Prelude.{map, nat_lt, position, slice_get, bytes_eq}
use Rattle.std.specs.List.{position_or_len, enumerate_from}
use Rattle.std.proofs.lemmas.Bool.Decides.{nat_tests}
use Rattle.std.proofs.lemmas.Slice.Eq.{bytes_eq-Decides}
use Rattle.flow_graph.specs.declared.parts.ArcKind.{ArcKind}
use Rattle.flow_graph.specs.Arcs.{TypeValue, numbered}
use Rattle.flow_model.specs.Models.{arc_name}
use Rattle.flow_model.proofs.Names.{arc_names}
use Rattle.solution_text.specs.Fields.{column_names}

-- the names of these arcs, of which the first has this number
abbrev pub names_from : ℕ → List ArcKind → List (List ℕ)
names_from n kinds = map (λ arc. arc_name arc.0 arc.1) (enumerate_from n kinds)

pub name_at : (n : ℕ) (kinds : List ArcKind) (k : ℕ) (name : List ℕ) → slice_get (names_from n kinds) k ≡ Some name
    → (kind : ArcKind) × (slice_get kinds k ≡ Some kind) × (name ≡ arc_name (n + k) kind) × (k < length kinds)
name_at n [] k name h = absurd (cc)
name_at n (kind ∷ kinds) zero name h =
    let same : arc_name n kind ≡ name = cc in
    (kind, refl, sym same ∙ ap (λ (a : ℕ). arc_name a kind) (omega arith), omega arith)
name_at n (kind ∷ kinds) (suc k) name h =
    let found = name_at (n + 1) kinds k name h in
    (found.0, found.1, found.2 ∙ ap (λ (a : ℕ). arc_name a found.0) (omega arith), let lt = found.3 in omega (arith, lt))

eq_same : (x : List ℕ) → bytes_eq x x ≡ true
eq_same x = (bytes_eq-Decides x x).1 refl

eq_apart : (x y : List ℕ) → (x ≡ y → ⊥) → bytes_eq x y ≡ false
eq_apart x y apart = by (bytes_eq x y) refl
  where
    by : (b : Bool) → bytes_eq x y ≡ b → b ≡ false
    by true e = absurd (apart ((bytes_eq-Decides x y).0 e))
    by false e = refl

-- names at two places differ
pub others_apart : (kinds : List ArcKind) (k j : ℕ) (name other : List ℕ) → length kinds < 2 ^ 31 → slice_get (names_from 1 kinds) k ≡ Some name → slice_get (names_from 1 kinds) j ≡ Some other → (j ≡ k → ⊥)
    → bytes_eq name other ≡ false
others_apart kinds k j name other few one two apart =
    let first = name_at 1 kinds k name one in
    let second = name_at 1 kinds j other two in
    let first_within = first.3 in
    let second_within = second.3 in
    eq_apart name other (λ same.
    let numbers : 1 + k ≡ 1 + j = arc_names (1 + k) (1 + j) first.0 second.0 (omega (arith, first_within, few)) (omega (arith, second_within, few)) (sym first.2 ∙ same ∙ second.2) in
    apart (omega (arith, numbers)))

-- the name of an arc stands at its place
place_from : (n : ℕ) (kinds : List ArcKind) (k : ℕ) (kind : ArcKind) → n + length kinds < 2 ^ 32 → slice_get kinds k ≡ Some kind → position_or_len (bytes_eq (arc_name (n + k) kind)) (names_from n kinds) ≡ k
place_from n [] k kind few h = absurd (cc)
place_from n (x ∷ kinds) zero kind few h =
    let same : arc_name (n + 0) kind ≡ arc_name n x = ap (λ (a : ℕ). arc_name a kind) (omega arith) ∙ ap (arc_name n) (let e : x ≡ kind = cc in sym e) in
    let hit : bytes_eq (arc_name (n + 0) kind) (arc_name n x) ≡ true = (bytes_eq-Decides (arc_name (n + 0) kind) (arc_name n x)).1 same in
    rw hit refl
place_from n (x ∷ kinds) (suc k) kind few h =
    let within = place_within kinds k kind h in
    let miss : bytes_eq (arc_name (n + suc k) kind) (arc_name n x) ≡ false =
    eq_apart (arc_name (n + suc k) kind) (arc_name n x) (λ same.
    let numbers : n + suc k ≡ n = arc_names (n + suc k) n kind x (omega (arith, few, within)) (omega (arith, few)) same in
    omega (arith, numbers)) in
    let name : arc_name (n + suc k) kind ≡ arc_name (n + 1 + k) kind = ap (λ (a : ℕ). arc_name a kind) (omega arith) in
    let rest = place_from (n + 1) kinds k kind (omega (arith, few)) h in
    rw miss (ap (λ (z : List ℕ). 1 + position_or_len (bytes_eq z) (names_from (n + 1) kinds)) name ∙ (ap (λ (z : ℕ). 1 + z) rest ∙ omega arith))
  where
    place_within : (kinds : List ArcKind) (k : ℕ) (kind : ArcKind) → slice_get kinds k ≡ Some kind → k < length kinds
    place_within [] k kind h = absurd (cc)
    place_within (y ∷ kinds) zero kind h = omega arith
    place_within (y ∷ kinds) (suc k) kind h = let lt = place_within kinds k kind h in omega (arith, lt)

length_names : (n : ℕ) (kinds : List ArcKind) → length (names_from n kinds) ≡ length kinds
length_names n [] = refl
length_names n (x ∷ kinds) = let rest = length_names (n + 1) kinds in omega (arith, rest)

pub column_count : (g : List TypeValue) → length (column_names g) ≡ length (numbered g)
column_count g = length_names 1 (numbered g)

place_as : (p : List ℕ → Bool) (xs : List (List ℕ)) (k : ℕ) → position_or_len p xs ≡ k → k < length xs → position p xs ≡ Some k
place_as p xs k e lt =
    let within : nat_lt (position_or_len p xs) (length xs) ≡ true = rw e (grind (arith, nat_tests)) in
    rw within (ap (λ (z : ℕ). Some z) e)

pub named_place : (g : List TypeValue) (k : ℕ) (kind : ArcKind) → length (numbered g) < 2 ^ 31 → k < length (numbered g) → slice_get (numbered g) k ≡ Some kind
    → position (bytes_eq (arc_name (1 + k) kind)) (column_names g) ≡ Some k
named_place g k kind few within h =
    place_as (bytes_eq (arc_name (1 + k) kind)) (column_names g) k (place_from 1 (numbered g) k kind (omega (arith, few)) h) (let count = column_count g in omega (arith, count, within))

-- a name that no arc has stands nowhere
all_miss : (name : List ℕ) (n : ℕ) (kinds : List ArcKind) → ((k : ℕ) (kind : ArcKind) → slice_get kinds k ≡ Some kind → name ≡ arc_name (n + k) kind → ⊥) → position_or_len (bytes_eq name) (names_from n kinds) ≡ length kinds
all_miss name n [] h = refl
all_miss name n (x ∷ kinds) h =
    let miss : bytes_eq name (arc_name n x) ≡ false = eq_apart name (arc_name n x) (λ same. h 0 x refl (same ∙ ap (λ (a : ℕ). arc_name a x) (omega arith))) in
    let rest = all_miss name (n + 1) kinds (λ k kind at same. h (suc k) kind at (same ∙ ap (λ (a : ℕ). arc_name a kind) (omega arith))) in
    rw miss (ap (λ (z : ℕ). 1 + z) rest ∙ omega arith)

pub unnamed_place : (g : List TypeValue) (name : List ℕ) → ((k : ℕ) (kind : ArcKind) → slice_get (numbered g) k ≡ Some kind → name ≡ arc_name (1 + k) kind → ⊥) → position (bytes_eq name) (column_names g) ≡ None
unnamed_place g name h =
    let end = all_miss name 1 (numbered g) h in
    let count = column_count g in
    let past : nat_lt (position_or_len (bytes_eq name) (column_names g)) (length (column_names g)) ≡ false = rw (end, count) (grind (arith, nat_tests)) in
    rw past refl
