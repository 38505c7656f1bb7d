-- The row of arcs of lists of types, and which numbers are those of a type.
use Rattle.std.proofs.Common.{◌≡◌, ℕ, suc, ◌+◌, ◌-◌, ◌<◌, ◌≤◌, List, [], ◌∷◌, ◌++◌, length, map, take, refl, sym, ap, ◌∙◌, subst, append_assoc, append-nil, length-append, arith}
use Rattle.std.specs.Prelude.{sum_by}
use Rattle.std.proofs.lemmas.List.{length-map}
use Rattle.std.proofs.lemmas.List.Sums.{sum_by-cons, sum_by-append, sum_by-take-le, sum_by_more_le}
use Rattle.std.proofs.lemmas.List.Elements.{All-push}
use Rattle.arc_num.specs.declared.TheConstants.{MAX_ARCS, MAX_NUMBERED, MAX_TYPES}
use Rattle.flow_graph.specs.declared.parts.ArcKind.{ArcKind}
use Rattle.flow_graph.specs.Arcs.{TypeValue, IsFlowType, IsFlowGraph, kind_of, row_of, numbered_from, numbered, last_arc}
use Rattle.flow_graph.specs.inner.Stored.{IsStored}
use Rattle.packing_laws.specs.Instances.{IsAmong}

pub numbered_from-append : (t : ℕ) (xs ys : List TypeValue) → numbered_from t (xs ++ ys) ≡ numbered_from t xs ++ numbered_from (t + length xs) ys
numbered_from-append t [] ys = ap (λ (n : ℕ). numbered_from n ys) (omega arith)
numbered_from-append t (x ∷ xs) ys =
    let rest = numbered_from-append (t + 1) xs ys in
    let at : t + 1 + length xs ≡ t + length (x ∷ xs) = omega arith in
    let there : numbered_from (t + 1) (xs ++ ys) ≡ numbered_from (t + 1) xs ++ numbered_from (t + length (x ∷ xs)) ys = subst (λ (n : ℕ). numbered_from (t + 1) (xs ++ ys) ≡ numbered_from (t + 1) xs ++ numbered_from n ys) at rest in
    ap (λ (row : List ArcKind). row_of t x.arcs ++ row) there ∙ sym (append_assoc (row_of t x.arcs) (numbered_from (t + 1) xs) (numbered_from (t + length (x ∷ xs)) ys))

-- how long the row is: a bin arc for each type, beside its arcs
pub length-numbered_from : (t : ℕ) (xs : List TypeValue) → length (numbered_from t xs) ≡ sum_by (λ x. length x.arcs + 1) xs
length-numbered_from t [] = refl
length-numbered_from t (x ∷ xs) =
    let rest = length-numbered_from (t + 1) xs in
    let here = length-map x.arcs (kind_of t) in
    let joined = length-append (row_of t x.arcs) (numbered_from (t + 1) xs) in
    let row : length (row_of t x.arcs) ≡ suc (length (map (kind_of t) x.arcs)) = refl in
    rw (sum_by-cons (λ (y : TypeValue). length y.arcs + 1) x xs) (omega (arith, rest, here, joined, row))

pub sum_by-bins : (xs : List TypeValue) → sum_by (λ x. length x.arcs + 1) xs ≡ sum_by (λ x. length x.arcs) xs + length xs
sum_by-bins [] = refl
sum_by-bins (x ∷ xs) =
    let rest = sum_by-bins xs in
    rw (sum_by-cons (λ (y : TypeValue). length y.arcs + 1) x xs, sum_by-cons (λ (y : TypeValue). length y.arcs) x xs) (omega (arith, rest))

-- there are not too many arcs
pub few_arcs : (g : List TypeValue) → IsFlowGraph g → sum_by (λ x. length x.arcs + 1) g ≤ MAX_NUMBERED
few_arcs g is = let bins = sum_by-bins g in let few = is.few in let room = is.room in omega (arith, bins, few, room)

pub few_numbered : (g : List TypeValue) → IsFlowGraph g → length (numbered g) ≤ MAX_NUMBERED
few_numbered g is = let few = few_arcs g is in let long = length-numbered_from 1 g in omega (arith, few, long)

-- nor in the first types
pub few_before : (g : List TypeValue) → IsFlowGraph g → (n : ℕ) → sum_by (λ x. length x.arcs + 1) (take n g) ≤ MAX_NUMBERED
few_before g is n = let few = few_arcs g is in let front = sum_by-take-le (λ (x : TypeValue). length x.arcs + 1) g n in omega (arith, few, front)

-- nor is the number of the last arc of a type too great
pub few_to_last : (g : List TypeValue) → IsFlowGraph g → (t : ℕ) → IsAmong t (length g) → last_arc g t ≤ MAX_NUMBERED
few_to_last g is t among =
    let few = few_arcs g is in
    let part = sum_by_more_le (λ (x : TypeValue). length x.arcs + 1) g (t - 1) (record { nodes = 1; arcs = [] }) (omega (arith, among.0, among.1)) in
    omega (arith, few, part)

-- a further type keeps what a graph keeps
pub IsStored-push : (g : List TypeValue) (kinds : List ArcKind) (x : TypeValue) → IsStored g kinds → IsFlowType x → length g < MAX_TYPES → sum_by (λ x. length x.arcs) g + length x.arcs ≤ MAX_ARCS → IsStored (g ++ x ∷ []) (kinds ++ row_of (length g + 1) x.arcs)
IsStored-push g kinds x stored is few room =
    let sum = sum_by-append (λ (y : TypeValue). length y.arcs) g (x ∷ []) in
    let one = sum_by-cons (λ (y : TypeValue). length y.arcs) x [] in
    let long = length-append g (x ∷ []) in
    let row : numbered (g ++ x ∷ []) ≡ numbered g ++ (row_of (1 + length g) x.arcs ++ []) = numbered_from-append 1 g (x ∷ []) in
    let at : 1 + length g ≡ length g + 1 = omega arith in
    record {
      graph = record { few = omega (arith, long, few); room = omega (arith, sum, one, room); each = All-push IsFlowType g x stored.graph.each is };
      row = ap (λ (k : List ArcKind). k ++ row_of (length g + 1) x.arcs) stored.row ∙ ap (λ (n : ℕ). numbered g ++ row_of n x.arcs) (sym at) ∙ ap (λ (k : List ArcKind). numbered g ++ k) (sym (append-nil (row_of (1 + length g) x.arcs))) ∙ sym row;
    }

-- the same where the new types and the new row are given by equations
pub stored_push : (g types : List TypeValue) (kinds added row : List ArcKind) (x y : TypeValue) (t : ℕ) → IsStored g kinds → IsFlowType x → length g < MAX_TYPES → sum_by (λ x. length x.arcs) g + length x.arcs ≤ MAX_ARCS → y ≡ x → t ≡ length g + 1 → added ≡ row_of t x.arcs → types ≡ g ++ y ∷ [] → row ≡ kinds ++ added → IsStored types row
stored_push g types kinds added row x y t stored is few room same at new whole joined =
    let types_are : g ++ x ∷ [] ≡ types = ap (λ (z : TypeValue). g ++ z ∷ []) (sym same) ∙ sym whole in
    let row_is : kinds ++ row_of (length g + 1) x.arcs ≡ row = ap (λ (n : ℕ). kinds ++ row_of n x.arcs) (sym at) ∙ ap (λ (k : List ArcKind). kinds ++ k) (sym new) ∙ sym joined in
    subst (λ (k : List ArcKind). IsStored types k) row_is (subst (λ (z : List TypeValue). IsStored z (kinds ++ row_of (length g + 1) x.arcs)) types_are (IsStored-push g kinds x stored is few room))
