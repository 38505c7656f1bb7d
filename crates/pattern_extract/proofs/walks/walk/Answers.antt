use Rattle.std.proofs.Common.{◌≡◌, ℕ, List, ◌<◌, ◌-◌, ◌∷◌, length, get_or, arith, sym, ap, subst, ◌∙◌}
use Rattle.flow_graph.specs.declared.parts.ArcKind.{ArcKind}
use Rattle.flow_graph.specs.declared.parts.ArcKind.TheVariants.{Bin}
use Rattle.flow_graph.specs.Arcs.{flow_type, numbered, first_arc}
use Rattle.flow_graph.proofs.Numbers.{few_numbered}
use Rattle.pattern_extract.specs.inner.Walks.{head_of, IsUsedUp}
use Rattle.pattern_extract.proofs.Cursors.{way-kind, way-within}
use Rattle.pattern_extract.proofs.Steps.{IsWalked, walk-start, walk-more, way-on, way-up, used-start, used-more}
use Rattle.pattern_extract.proofs.walks.walk.Goals as goal

pub loop-node-init : goal.loop-node-init
loop-node-init c =
    let g = c.args.graph.now in
    let left = c.args.left.now in
    let t = c.args.t in
    let first = walk-start g left t c.known.ensures c.requires.of_type c.requires.some in
    let empty = subst (λ (arcs : List ℕ). IsWalked g left t 1 (get_or left (first_arc g t - 1) 0) arcs) (sym c.new-arcs.ensures.items) first in
    record {
      walked = subst (λ (a : ℕ). IsWalked g left t 1 (get_or left (a - 1) 0) c.new-arcs.result.items) (sym c.bin_arc.ensures) empty;
      used = subst (λ (a : ℕ). IsUsedUp left (get_or left (a - 1) 0) (first_arc g t ∷ c.new-arcs.result.items)) (sym c.bin_arc.ensures)
          (subst (λ (arcs : List ℕ). IsUsedUp left (get_or left (first_arc g t - 1) 0) (first_arc g t ∷ arcs)) (sym c.new-arcs.ensures.items) (used-start left (first_arc g t)));
      cursors = c.requires.cursors;
    }

pub advance-place-requires-clause-some : goal.advance-place-requires-clause-some
advance-place-requires-clause-some c =
    let walked = c.loop-node.invariant.walked in
    way-on c.args.graph.now c.args.left.now c.args.t c.loop-node.node c.requires.size
    (c.requires.conserved c.args.t c.loop-node.node c.requires.of_type (walked.low, walked.high))
    (λ e. c.loop-node-test.true (e ∙ sym c.target-nodes.ensures))
    walked.comes

pub overflow_cast-place : goal.overflow_cast-place
overflow_cast-place c =
    let way = c.advance-place.ensures.way in
    let within : c.advance-place.result < length (numbered c.args.graph.now) = way-within (numbered c.args.graph.now) c.args.left.now c.args.t c.loop-node.node c.advance-place.result way in
    let few = few_numbered c.args.graph.now c.known.ensures in
    omega (arith, within, few)

pub overflow_add-place : goal.overflow_add-place
overflow_add-place c =
    let way = c.advance-place.ensures.way in
    let within : c.advance-place.result < length (numbered c.args.graph.now) = way-within (numbered c.args.graph.now) c.args.left.now c.args.t c.loop-node.node c.advance-place.result way in
    let few = few_numbered c.args.graph.now c.known.ensures in
    omega (arith, within, few)

pub loop-node-smaller : goal.loop-node-smaller
loop-node-smaller c =
    let g = c.args.graph.now in
    let k = c.advance-place.result in
    let way = c.advance-place.ensures.way in
    let up = way-up g c.args.left.now c.args.t c.loop-node.node k way c.known.ensures in
    let head : c.head-node.result ≡ head_of way.kind = c.head-node.ensures ∙ ap (λ (row : List ArcKind). head_of (get_or row k (Bin 0))) c.row-row.ensures ∙ ap head_of (way-kind (numbered g) c.args.left.now c.args.t c.loop-node.node k (Bin 0) way) in
    let last : c.target-nodes.result ≡ (flow_type g c.args.t).nodes = c.target-nodes.ensures in
    let falls : c.target-nodes.result - c.head-node.result < c.target-nodes.result - c.loop-node.node = omega (arith, up.0, up.1, head, last) in
    falls

pub loop-node-preserved : goal.loop-node-preserved
loop-node-preserved c =
    let g = c.args.graph.now in
    let left = c.args.left.now in
    let t = c.args.t in
    let k = c.advance-place.result in
    let way = c.advance-place.ensures.way in
    let head : c.head-node.result ≡ head_of way.kind = c.head-node.ensures ∙ ap (λ (row : List ArcKind). head_of (get_or row k (Bin 0))) c.row-row.ensures ∙ ap head_of (way-kind (numbered g) left t c.loop-node.node k (Bin 0) way) in
    let walked = walk-more g left t c.loop-node.node c.loop-node.times k c.min-times.result c.loop-node.arcs.items way c.known.ensures c.loop-node.invariant.walked c.min-times.ensures in
    let pushed = subst (λ (arcs : List ℕ). IsWalked g left t (head_of way.kind) c.min-times.result arcs) (sym c.in_ok-push.ensures.items) walked in
    record {
      walked = subst (λ (v : ℕ). IsWalked g left t v c.min-times.result c.push.new.self.items) (sym head) pushed;
      used = subst (λ (arcs : List ℕ). IsUsedUp left c.min-times.result (first_arc g t ∷ arcs)) (sym c.in_ok-push.ensures.items)
          (used-more left c.loop-node.times k c.min-times.result (first_arc g t ∷ c.loop-node.arcs.items) c.min-times.ensures c.loop-node.invariant.used);
      cursors = c.advance-place.ensures.cursors;
    }
