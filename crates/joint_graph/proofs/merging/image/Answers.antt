use Rattle.std.proofs.Common.{◌≡◌, ℕ, List, length, get_or, sym, ap, ◌∙◌, subst, rules}
use Rattle.std.specs.Prelude.{All}
use Rattle.std.specs.List.{filter_map}
use Rattle.std.proofs.lemmas.List.Elements.{Contains-get_or}
use Rattle.label_graph.specs.declared.parts.GraphArc.{GraphArc}
use Rattle.label_graph.specs.declared.parts.Piece.{Piece}
use Rattle.label_graph.specs.inner.Merges.{HasEnds, merged_arc}
use Rattle.label_graph.proofs.MergedArcs.{sorted-arcs}
use Rattle.joint_graph.specs.Joints.{JointValue, IsJoint}
use Rattle.joint_graph.specs.Merged.{IsImage}
use Rattle.joint_graph.specs.inner.Ranks.{IsInto}
use Rattle.joint_graph.proofs.MergedNodes.{ends}
use Rattle.joint_graph.proofs.JointGlue.{image-all}
use Rattle.joint_graph.proofs.merging.image.Goals as goal

pub merged_arcs-requires : goal.merged_arcs-requires
merged_arcs-requires g c =
    let graph = c.args.graph.now in
    let r = c.args.ranked.now in
    let into = c.in_ok-into.into.items in
    let whole = subst (λ (n : ℕ). IsInto r.numbers.items r.count n into) (ap length c.caps.ensures) c.in_ok-into.ensures in
    let all : All (λ (e : GraphArc). HasEnds (length into) e) graph.arcs = λ k d lt. ends g.row.N graph c.known.ensures r.numbers.items r.count c.requires.numbered into whole (get_or graph.arcs k d) (Contains-get_or graph.arcs k d lt) in
    record {
      ends = subst (λ (es : List GraphArc). All (λ (e : GraphArc). HasEnds (length c.as_slice.result.now) e) es) (sym c.arcs.ensures)
          (subst (λ (zs : List ℕ). All (λ (e : GraphArc). HasEnds (length zs) e) graph.arcs) (sym c.as_slice.ensures.value) all);
    }

pub new-requires : goal.new-requires
new-requires g c =
    let graph = c.args.graph.now in
    let r = c.args.ranked.now in
    let into = c.in_ok-into.into.items in
    let sorted = c.sort_distinct.new.all.items in
    let whole = subst (λ (n : ℕ). IsInto r.numbers.items r.count n into) (ap length c.caps.ensures) c.in_ok-into.ensures in
    let made : c.in_ok-arcs.arcs.items ≡ filter_map (merged_arc into) graph.arcs = c.in_ok-arcs.ensures ∙ (λ i. filter_map (merged_arc (c.as_slice.ensures.value i)) (c.arcs.ensures i)) in
    let all = image-all g.row.N graph c.known.ensures r.numbers.items r.count c.requires.numbered c.requires.rises c.requires.fits into whole c.in_ok-arcs.arcs.items sorted made (sorted-arcs _ c.arcs_are_in_order.ensures sorted c.sort_distinct.ensures.sorted) c.sort_distinct.ensures.same in
    let pieces : c.in_ok-pieces.pieces.items ≡ graph.pieces = c.in_ok-pieces.ensures.items ∙ c.pieces.ensures in
    let caps : c.in_ok-caps.caps.items ≡ graph.caps = c.in_ok-caps.ensures.items ∙ c.caps-2.ensures in
    let joint = subst (λ (ps : List (Piece g.row.N)). IsJoint g.row.N (record { pieces = ps; caps = c.in_ok-caps.caps.items; inner = r.count; arcs = sorted })) (sym pieces)
    (subst (λ (cs : List (List ℕ)). IsJoint g.row.N (record { pieces = graph.pieces; caps = cs; inner = r.count; arcs = sorted })) (sym caps) all.0) in
    (search rules, (search rules, (search rules, joint)))

pub returns-clause-image : goal.returns-clause-image
returns-clause-image g c =
    let graph = c.args.graph.now in
    let r = c.args.ranked.now in
    let into = c.in_ok-into.into.items in
    let sorted = c.sort_distinct.new.all.items in
    let whole = subst (λ (n : ℕ). IsInto r.numbers.items r.count n into) (ap length c.caps.ensures) c.in_ok-into.ensures in
    let made : c.in_ok-arcs.arcs.items ≡ filter_map (merged_arc into) graph.arcs = c.in_ok-arcs.ensures ∙ (λ i. filter_map (merged_arc (c.as_slice.ensures.value i)) (c.arcs.ensures i)) in
    let all = image-all g.row.N graph c.known.ensures r.numbers.items r.count c.requires.numbered c.requires.rises c.requires.fits into whole c.in_ok-arcs.arcs.items sorted made (sorted-arcs _ c.arcs_are_in_order.ensures sorted c.sort_distinct.ensures.sorted) c.sort_distinct.ensures.same in
    let pieces : c.in_ok-pieces.pieces.items ≡ graph.pieces = c.in_ok-pieces.ensures.items ∙ c.pieces.ensures in
    let caps : c.in_ok-caps.caps.items ≡ graph.caps = c.in_ok-caps.ensures.items ∙ c.caps-2.ensures in
    let same : c.new.result ≡ record { pieces = graph.pieces; caps = graph.caps; inner = r.count; arcs = sorted } = c.new.ensures ∙ (λ i. record { pieces = pieces i; caps = caps i; inner = r.count; arcs = sorted }) in
    (into, whole, subst (λ (z : JointValue g.row.N). IsImage graph into z) (sym same) all.1)

pub returns-clause-count : goal.returns-clause-count
returns-clause-count g c = ap (λ (z : JointValue g.row.N). z.inner) c.new.ensures
