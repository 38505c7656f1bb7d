-- The first arc that ends in a node, and that there is just one.
use Rattle.std.proofs.Common.{◌≡◌, ℕ, zero, suc, ◌+◌, ◌-◌, ◌<◌, ◌≤◌, Bool, true, false, not, cond, ◌==◌, List, [], ◌∷◌, length, take, refl, sym, ap, ◌∙◌, subst, ⊎_elim, arith}
use Rattle.std.specs.Prelude.{Option, Some, None, slice_get, ◌||◌}
use Rattle.std.specs.Option.{IsSomeAnd}
use Rattle.std.specs.List.{list_any}
use Rattle.std.proofs.lemmas.Bool.{cases_Bool, cases_order, and_parts, and_from, eqb-true, eq-eqb, not-true, both_ways}
use Rattle.std.proofs.lemmas.Option.{slice_get-get_or}
use Rattle.packing_laws.specs.Instances.{IsAmong}
use Rattle.flow_graph.specs.declared.parts.TypeArc.{TypeArc}
use Rattle.flow_graph.specs.declared.parts.ArcKind.{ArcKind}
use Rattle.flow_graph.specs.declared.parts.ArcKind.TheVariants.{Bin, Loss, Piece}
use Rattle.flow_graph.specs.Arcs.{TypeValue, IsFlowType, IsFlowGraph, flow_type, kind_of, numbered, arc_at, first_arc}
use Rattle.flow_graph.specs.Chords.{ends_in, is_first_after, is_tree, IsTreeArcOf}
use Rattle.flow_graph.specs.Laws.{HasOneTreeArc}
use Rattle.flow_graph.proofs.Places.{arc_at-suc, has_numbers}

or_right : (x y : Bool) → y ≡ true → (x || y) ≡ true
or_right true y h = refl
or_right false y h = h

-- what passes before a place is found there
any_before : {X : Type 0} (p : X → Bool) (xs : List X) (i j : ℕ) (x : X) → slice_get xs i ≡ Some x → p x ≡ true → i < j → list_any p (take j xs) ≡ true
any_before p [] i j x at passes before = cc
any_before p (y ∷ ys) i zero x at passes before = absurd (omega (arith, before))
any_before p (y ∷ ys) zero (suc j) x at passes before =
    let same : y ≡ x = cc in
    ap (λ (b : Bool). b || list_any p (take j ys)) (ap p same ∙ passes)
any_before p (y ∷ ys) (suc i) (suc j) x at passes before = or_right (p y) (list_any p (take j ys)) (any_before p ys i j x at passes (omega (arith, before)))

-- where something passes, something is the first to pass
first_passing : {X : Type 0} (p : X → Bool) (xs : List X) (k : ℕ) (x : X) → slice_get xs k ≡ Some x → p x ≡ true → (i : ℕ) × (y : X) × (slice_get xs i ≡ Some y) × (p y ≡ true) × (list_any p (take i xs) ≡ false)
first_passing p [] k x at passes = cc
first_passing p (y ∷ ys) zero x at passes = (zero, x, at, passes, refl)
first_passing p (y ∷ ys) (suc k) x at passes =
    ⊎_elim
    (λ yes. (zero, y, refl, yes, refl))
    (λ no. let rest = first_passing p ys k x at passes in
    (suc rest.0, rest.1, rest.2, rest.3, ap (λ (b : Bool). b || list_any p (take rest.0 ys)) no ∙ rest.4))
    (cases_Bool (p y))

pub some_and : {X : Type 0} (o : Option X) (P : X → Type 0) → IsSomeAnd o P → (x : X) × (o ≡ Some x) × P x
some_and None P h = absurd h
some_and (Some x) P h = (x, refl, h)

-- an arc that ends in the node is the first exactly where none ends there before it
first_from_ends : (before : List ArcKind) (e : ArcKind) (t v : ℕ) → ends_in t v e ≡ true → is_first_after before (Some e) ≡ not (list_any (ends_in t v) before)
first_from_ends before (Bin s) t v ends = cc
first_from_ends before (Loss s tail head) t v ends =
    let parts = and_parts (s == t) (head == v) ends in
    ap (λ (n : ℕ). not (list_any (ends_in n head) before)) (eqb-true s t parts.0) ∙ ap (λ (n : ℕ). not (list_any (ends_in t n) before)) (eqb-true head v parts.1)
first_from_ends before (Piece s tail head item form) t v ends =
    let parts = and_parts (s == t) (head == v) ends in
    ap (λ (n : ℕ). not (list_any (ends_in n head) before)) (eqb-true s t parts.0) ∙ ap (λ (n : ℕ). not (list_any (ends_in t n) before)) (eqb-true head v parts.1)

either_ends : (b : Bool) (t v tail head item form : ℕ) → head ≡ v → ends_in t v (cond b (Loss t tail head) (Piece t tail head item form)) ≡ true
either_ends true t v tail head item form same = and_from (t == t) (head == v) (eq-eqb t t refl) (eq-eqb head v same)
either_ends false t v tail head item form same = and_from (t == t) (head == v) (eq-eqb t t refl) (eq-eqb head v same)

-- the place of a number
placed : (g : List TypeValue) (a : ℕ) (e : ArcKind) → arc_at g a ≡ Some e → (i : ℕ) × (a ≡ suc i) × (slice_get (numbered g) i ≡ Some e)
placed g zero e at = cc
placed g (suc i) e at = (i, refl, sym (arc_at-suc g i) ∙ at)

is_tree-suc : (g : List TypeValue) (i : ℕ) (e : ArcKind) (t v : ℕ) → slice_get (numbered g) i ≡ Some e → ends_in t v e ≡ true → is_tree g (suc i) ≡ not (list_any (ends_in t v) (take i (numbered g)))
is_tree-suc g i e t v at ends =
    let one : suc i - 1 ≡ i = omega arith in
    ap (λ (n : ℕ). is_first_after (take n (numbered g)) (arc_at g (suc i))) one ∙ ap (is_first_after (take i (numbered g))) (arc_at-suc g i ∙ at) ∙ first_from_ends (take i (numbered g)) e t v ends

-- no arc that ends in the node comes before its tree arc
not_before : (g : List TypeValue) (i j : ℕ) (e f : ArcKind) (t v : ℕ) → slice_get (numbered g) i ≡ Some e → ends_in t v e ≡ true → slice_get (numbered g) j ≡ Some f → ends_in t v f ≡ true → is_tree g (suc j) ≡ true → i < j → ⊥
not_before g i j e f t v at ends there too tree before =
    let none : list_any (ends_in t v) (take j (numbered g)) ≡ false = not-true (list_any (ends_in t v) (take j (numbered g))) (sym (is_tree-suc g j f t v there too) ∙ tree) in
    both_ways (list_any (ends_in t v) (take j (numbered g))) none (any_before (ends_in t v) (numbered g) i j e at ends before)

same_tree_arc : (g : List TypeValue) (t v a b : ℕ) → IsTreeArcOf g t v a → IsTreeArcOf g t v b → a ≡ b
same_tree_arc g t v a b one other =
    let e = some_and (arc_at g a) (λ (e : ArcKind). ends_in t v e ≡ true) one.1 in
    let f = some_and (arc_at g b) (λ (e : ArcKind). ends_in t v e ≡ true) other.1 in
    let i = placed g a e.0 e.1 in
    let j = placed g b f.0 f.1 in
    let tree_i : is_tree g (suc i.0) ≡ true = subst (λ (n : ℕ). is_tree g n ≡ true) i.1 one.0 in
    let tree_j : is_tree g (suc j.0) ≡ true = subst (λ (n : ℕ). is_tree g n ≡ true) j.1 other.0 in
    ⊎_elim
    (λ same. i.1 ∙ ap suc same ∙ sym j.1)
    (λ apart. ⊎_elim
    (λ before. absurd (not_before g i.0 j.0 e.0 f.0 t v i.2 e.2 j.2 f.2 tree_j before))
    (λ after. absurd (not_before g j.0 i.0 f.0 e.0 t v j.2 f.2 i.2 e.2 tree_i after))
    apart)
    (cases_order i.0 j.0)

some_tree_arc : (g : List TypeValue) → IsFlowGraph g → (t : ℕ) → IsAmong t (length g) → (v : ℕ) → 1 < v → v ≤ (flow_type g t).nodes → (a : ℕ) × IsTreeArcOf g t v a
some_tree_arc g is t among v low high =
    let own : IsFlowType (flow_type g t) = is.each (t - 1) (record { nodes = 1; arcs = [] }) (omega (arith, among.0, among.1)) in
    let last = own.enters v low high in
    let e : TypeArc = last.0 in
    let k : ℕ = last.1.0 in
    let at : slice_get (flow_type g t).arcs k ≡ Some e = slice_get-get_or (flow_type g t).arcs k e last.1.1 ∙ ap Some last.1.2 in
    let i = placed g (first_arc g t + 1 + k) (kind_of t e) ((has_numbers g t among).arcs k e at) in
    let ends : ends_in t v (kind_of t e) ≡ true = either_ends (e.item == 0) t v e.tail e.head e.item e.form last.2 in
    let first = first_passing (ends_in t v) (numbered g) i.0 (kind_of t e) i.2 ends in
    (suc first.0, (is_tree-suc g first.0 first.1 t v first.2 first.3 ∙ ap not first.4, subst (λ (o : Option ArcKind). IsSomeAnd o (λ e. ends_in t v e ≡ true)) (sym (arc_at-suc g first.0 ∙ first.2)) first.3))

pub one_tree_arc : (g : List TypeValue) → IsFlowGraph g → (t : ℕ) → IsAmong t (length g) → (v : ℕ) → 1 < v → v ≤ (flow_type g t).nodes → HasOneTreeArc g t v
one_tree_arc g is t among v low high =
    let found = some_tree_arc g is t among v low high in
    record { arc = found.0; tree = found.1; only = λ a tree. same_tree_arc g t v a found.0 tree found.1 }
