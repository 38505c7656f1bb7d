use Rattle.std.proofs.Common.{◌≡◌, ℕ, List, ◌+◌, ◌-◌, ◌<◌, ◌≤◌, [], ◌++◌, get_or, arith, sym, ap, subst, ◌∙◌}
use Rattle.std.specs.Option.{option_to_list}
use Rattle.packing_laws.specs.Packings.{Content}
use Rattle.flow_graph.specs.declared.parts.ArcKind.{ArcKind}
use Rattle.flow_graph.specs.declared.parts.ArcKind.TheVariants.{Bin}
use Rattle.pattern_extract.specs.Extracts.{unit_on}
use Rattle.joint_arcs.specs.Joined.{head_of, numbered}
use Rattle.joint_extract.specs.inner.Circuits.{HaveLeft, IsCircuit}
use Rattle.joint_extract.proofs.RowPlaces.{row-few}
use Rattle.joint_extract.proofs.Cursors.{way-kind, way-within}
use Rattle.joint_extract.proofs.Steps.{IsWalked, bin-inside, out-of, walk-circuit, walk-left, walk-more, walk-start, way-on, way-up}
use Rattle.joint_extract.proofs.walks.walk_round.Goals as goal

pub loop-node-init : goal.loop-node-init
loop-node-init c =
    let g = c.args.graph.now in
    let left = c.args.left.now in
    let first = walk-start g left 18446744073709551615 c.known.ensures c.requires.some (omega arith) in
    let arcs = subst (λ (arcs : List ℕ). IsWalked g left 1 18446744073709551615 arcs []) (sym c.new-arcs.ensures.items) first in
    record {
      walked = subst (λ (counts : Content). IsWalked g left 1 18446744073709551615 c.new-arcs.result.items counts) (sym c.new-counts.ensures.items) arcs;
      cursors = c.requires.cursors;
    }

pub advance-place-requires-clause-some : goal.advance-place-requires-clause-some
advance-place-requires-clause-some c =
    let g = c.args.graph.now in
    let left = c.args.left.now in
    let v = c.loop-node.node in
    let walked = c.loop-node.invariant.walked in
    let most : v ≤ g.inner = let test = c.loop-node-test.true in let inner = c.inner_count-inner.ensures in omega (arith, test, inner) in
    way-on g left v most (out-of g left v c.requires.size (c.requires.conserved v (walked.low, walked.high)) walked.comes)

pub overflow_cast-place : goal.overflow_cast-place
overflow_cast-place c =
    let g = c.args.graph.now in
    let within = way-within (numbered g) c.args.left.now c.loop-node.node c.advance-place.result c.advance-place.ensures.way in
    let few = row-few g c.known.ensures in
    omega (arith, within, few)

pub overflow_add-place : goal.overflow_add-place
overflow_add-place c =
    let g = c.args.graph.now in
    let within = way-within (numbered g) c.args.left.now c.loop-node.node c.advance-place.result c.advance-place.ensures.way in
    let few = row-few g c.known.ensures in
    omega (arith, within, few)

pub loop-node-smaller : goal.loop-node-smaller
loop-node-smaller c =
    let g = c.args.graph.now in
    let left = c.args.left.now in
    let v = c.loop-node.node in
    let k = c.advance-place.result in
    let way = c.advance-place.ensures.way in
    let up = way-up g left v c.loop-node.times c.min-times.result k c.loop-node.arcs.items c.loop-node.counts.items way c.known.ensures c.requires.size c.loop-node.invariant.walked in
    let head : c.head-node.result ≡ head_of way.kind = c.head-node.ensures ∙ ap (λ (row : List ArcKind). head_of (get_or row k (Bin 0))) c.row-row.ensures ∙ ap head_of (way-kind (numbered g) left v k (Bin 0) way) in
    let test = c.loop-node-test.true in
    let rises = up.rises in
    let falls : c.inner_count-inner.result + 1 - c.head-node.result < c.inner_count-inner.result + 1 - v = omega (arith, rises, head, test) in
    falls

pub loop-node-preserved : goal.loop-node-preserved
loop-node-preserved c =
    let g = c.args.graph.now in
    let left = c.args.left.now in
    let v = c.loop-node.node in
    let k = c.advance-place.result in
    let times = c.min-times.result in
    let way = c.advance-place.ensures.way in
    let kind : get_or c.row-row.result.now k (Bin 0) ≡ way.kind = ap (λ (row : List ArcKind). get_or row k (Bin 0)) c.row-row.ensures ∙ way-kind (numbered g) left v k (Bin 0) way in
    let head : c.head-node.result ≡ head_of way.kind = c.head-node.ensures ∙ ap head_of kind in
    let counts : c.put_unit.new.counts.items ≡ c.loop-node.counts.items ++ option_to_list (unit_on way.kind) =
    c.in_ok-put_unit.ensures ∙ ap (λ (x : ArcKind). c.loop-node.counts.items ++ option_to_list (unit_on x)) kind in
    let walked = walk-more g left v c.loop-node.times times k c.loop-node.arcs.items c.loop-node.counts.items way c.known.ensures c.requires.size c.loop-node.invariant.walked c.min-times.ensures in
    let pushed = subst (λ (arcs : List ℕ). IsWalked g left (head_of way.kind) times arcs (c.loop-node.counts.items ++ option_to_list (unit_on way.kind))) (sym c.in_ok-push.ensures.items) walked in
    let filled = subst (λ (cs : Content). IsWalked g left (head_of way.kind) times c.push.new.self.items cs) (sym counts) pushed in
    record {
      walked = subst (λ (u : ℕ). IsWalked g left u times c.push.new.self.items c.put_unit.new.counts.items) (sym head) filled;
      cursors = c.advance-place.ensures.cursors;
    }

pub bounds-left-t : goal.bounds-left-t
bounds-left-t c =
    let g = c.args.graph.now in
    let left = c.args.left.now in
    let v = c.loop-node.node in
    let walked = c.loop-node.invariant.walked in
    let far : g.inner < v = let test = c.loop-node-test.false in let inner = c.inner_count-inner.ensures in omega (arith, test, inner) in
    let type_is : v - c.inner_count-inner.result ≡ v - g.inner = ap (λ (n : ℕ). v - n) c.inner_count-inner.ensures in
    let out = out-of g left v c.requires.size (c.requires.conserved v (walked.low, walked.high)) walked.comes in
    bin-inside g left v (v - c.inner_count-inner.result) c.loop-node.times c.loop-node.arcs.items c.loop-node.counts.items c.known.ensures c.requires.size far type_is walked out

pub returns-clause-circuit : goal.returns-clause-circuit
returns-clause-circuit c =
    let g = c.args.graph.now in
    let left = c.args.left.now in
    let v = c.loop-node.node in
    let t = v - c.inner_count-inner.result in
    let walked = c.loop-node.invariant.walked in
    let far : g.inner < v = let test = c.loop-node-test.false in let inner = c.inner_count-inner.ensures in omega (arith, test, inner) in
    let type_is : t ≡ v - g.inner = ap (λ (n : ℕ). v - n) c.inner_count-inner.ensures in
    let out = out-of g left v c.requires.size (c.requires.conserved v (walked.low, walked.high)) walked.comes in
    let circuit = walk-circuit g left v t c.loop-node.times c.loop-node.arcs.items c.loop-node.counts.items c.known.ensures c.requires.size far type_is walked out c.min-times-2.result c.min-times-2.ensures in
    let arcs = subst (λ (arcs : List ℕ). IsCircuit g (record { bin_type = t; times = c.min-times-2.result; counts = c.loop-node.counts.items }) arcs) (sym (c.new-2.ensures ∙ c.in_ok-push-2.ensures.items)) circuit in
    subst (λ (counts : Content). IsCircuit g (record { bin_type = t; times = c.min-times-2.result; counts = counts }) c.new-2.result) (sym c.new.ensures) arcs

pub returns-clause-left : goal.returns-clause-left
returns-clause-left c =
    let g = c.args.graph.now in
    let left = c.args.left.now in
    let v = c.loop-node.node in
    let t = v - c.inner_count-inner.result in
    let walked = c.loop-node.invariant.walked in
    let far : g.inner < v = let test = c.loop-node-test.false in let inner = c.inner_count-inner.ensures in omega (arith, test, inner) in
    let type_is : t ≡ v - g.inner = ap (λ (n : ℕ). v - n) c.inner_count-inner.ensures in
    let out = out-of g left v c.requires.size (c.requires.conserved v (walked.low, walked.high)) walked.comes in
    let have = walk-left g left v t c.loop-node.times c.loop-node.arcs.items c.loop-node.counts.items c.known.ensures c.requires.size far type_is walked out c.min-times-2.result c.min-times-2.ensures in
    subst (HaveLeft left c.min-times-2.result) (sym (c.new-2.ensures ∙ c.in_ok-push-2.ensures.items)) have
