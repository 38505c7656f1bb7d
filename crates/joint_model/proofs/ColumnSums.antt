-- The columns of the arcs, one at a time: what they add up to, and their bounds.
use Rattle.std.proofs.Common.{◌≡◌, ℕ, zero, suc, ◌+◌, ◌*◌, ◌<◌, List, [], ◌∷◌, ◌++◌, length, map, get_or, take, refl, sym, ap, ◌∙◌, arith, All, ℤ, pos, ◌-ℤ◌, ◌*ℤ◌}
use Rattle.std.specs.List.{enumerate_from}
use Rattle.std.proofs.lemmas.Int.{ints}
use Rattle.std.proofs.lemmas.List.{length-take-le, map-append, take_more}
use Rattle.std.proofs.lemmas.List.Elements.{All-head, All-tail}
use Rattle.packing_laws.specs.Instances.{InstanceValue}
use Rattle.flow_graph.specs.declared.parts.ArcKind.{ArcKind}
use Rattle.flow_model.specs.declared.programs.Column.{Column}
use Rattle.flow_model.specs.Boxes.{IsInRange, root_range}
use Rattle.flow_model.specs.Flows.{weigh_arcs}
use Rattle.flow_model.specs.Programs.{AreWithin, weigh}
use Rattle.flow_model.proofs.RowLists.{enumerate_from-append}
use Rattle.flow_model.proofs.Solutions.{scale}
use Rattle.joint_arcs.specs.Joined.{JointValue}
use Rattle.joint_model.specs.JointModels.{arc_column}

-- one column more
pub columns_more : (I : InstanceValue) (g : JointValue) (row : List ArcKind) (i n : ℕ) (d : ArcKind) (columns : List Column) → i < length row → n ≡ i → columns ≡ map (arc_column I g) (enumerate_from 1 (take i row)) → columns ++ arc_column I g (n + 1, get_or row i d) ∷ [] ≡ map (arc_column I g) (enumerate_from 1 (take (i + 1) row))
columns_more I g row i n d columns within same old =
    let kind : ArcKind = get_or row i d in
    let front : List Column = map (arc_column I g) (enumerate_from 1 (take i row)) in
    let long : 1 + length (take i row) ≡ n + 1 = let part = length-take-le i row (omega (arith, within)) in omega (arith, part, same) in
    ap (λ zs. zs ++ arc_column I g (n + 1, kind) ∷ []) old ∙ ap (λ (m : ℕ). front ++ arc_column I g (m, kind) ∷ []) (sym long) ∙ sym (map-append (arc_column I g) (enumerate_from 1 (take i row)) (enumerate_from (1 + length (take i row)) (kind ∷ []))) ∙ ap (map (arc_column I g)) (sym (enumerate_from-append 1 (take i row) (kind ∷ []))) ∙ ap (λ zs. map (arc_column I g) (enumerate_from 1 zs)) (sym (take_more row i d within))

module _ (I : InstanceValue) (g : JointValue) where
  -- a sum over the columns of the arcs, where what is summed is a difference
  pub weigh_columns : (Q : ArcKind → Type 0) (f : Column → ℤ) (p q : ArcKind → ℕ) → ((n : ℕ) (kind : ArcKind) → Q kind → f (arc_column I g (n, kind)) ≡ pos (p kind) -ℤ pos (q kind)) → (n : ℕ) (kinds : List ArcKind) (values : List ℕ) → All Q kinds → weigh f (map (arc_column I g) (enumerate_from n kinds)) values ≡ pos (weigh_arcs p kinds values) -ℤ pos (weigh_arcs q kinds values)
  weigh_columns Q f p q each n [] values all = omega (arith, ints)
  weigh_columns Q f p q each n (kind ∷ kinds) [] all = omega (arith, ints)
  weigh_columns Q f p q each n (kind ∷ kinds) (x ∷ values) all =
      let rest = weigh_columns Q f p q each (n + 1) kinds values (All-tail Q kind kinds all) in
      let first : f (arc_column I g (n, kind)) *ℤ pos x ≡ pos (p kind * x) -ℤ pos (q kind * x) = ap (λ z. z *ℤ pos x) (each n kind (All-head Q kind kinds all)) ∙ scale (p kind) (q kind) x in
      omega (arith, ints, rest, first)

-- a value for each arc, in its widest range
abbrev pub AreBounded : InstanceValue → List ArcKind → List ℕ → Type 0
AreBounded I kinds values = (length values ≡ length kinds) × ((i : ℕ) → i < length kinds → IsInRange (get_or (map (root_range I) kinds) i (0, 0)) (get_or values i 0))

module _ (I : InstanceValue) (g : JointValue) where
  pub bounds_to : (n : ℕ) (kinds : List ArcKind) (values : List ℕ) → AreWithin (map (arc_column I g) (enumerate_from n kinds)) values → AreBounded I kinds values
  bounds_to n [] [] h = (refl, λ i within. absurd (omega (arith, within)))
  bounds_to n [] (x ∷ values) h = absurd h
  bounds_to n (kind ∷ kinds) [] h = absurd h
  bounds_to n (kind ∷ kinds) (x ∷ values) h =
      let rest = bounds_to (n + 1) kinds values h.2 in
      (ap suc rest.0, each (h.0, h.1) rest.1) where
        each : IsInRange (root_range I kind) x → ((i : ℕ) → i < length kinds → IsInRange (get_or (map (root_range I) kinds) i (0, 0)) (get_or values i 0)) → (i : ℕ) → i < length (kind ∷ kinds) → IsInRange (get_or (map (root_range I) (kind ∷ kinds)) i (0, 0)) (get_or (x ∷ values) i 0)
        each first rest zero within = first
        each first rest (suc i) within = rest i (omega (arith, within))

  pub bounds_from : (n : ℕ) (kinds : List ArcKind) (values : List ℕ) → AreBounded I kinds values → AreWithin (map (arc_column I g) (enumerate_from n kinds)) values
  bounds_from n [] [] h = tt
  bounds_from n [] (x ∷ values) h = let size = h.0 in absurd (omega (arith, size))
  bounds_from n (kind ∷ kinds) [] h = let size = h.0 in absurd (omega (arith, size))
  bounds_from n (kind ∷ kinds) (x ∷ values) h =
      let first : IsInRange (root_range I kind) x = h.1 0 (omega arith) in
      (first.0, first.1, bounds_from (n + 1) kinds values (let size = h.0 in omega (arith, size), λ i within. h.1 (suc i) (omega (arith, within))))
