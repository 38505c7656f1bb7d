use Rattle.std.proofs.Common.{◌≡◌, ◌≤◌, ◌<◌, ◌-◌, ◌+◌, ◌∙◌, ℕ, List, length, get_or, set, sym, ap, subst, arith}
use Rattle.std.proofs.lemmas.List.{length-set}
use Rattle.flow_graph.specs.declared.parts.ArcKind.{ArcKind}
use Rattle.flow_graph.specs.declared.parts.ArcKind.TheVariants.{Bin}
use Rattle.joint_arcs.specs.Joined.{numbered}
use Rattle.joint_extract.specs.inner.Circuits.{start_of}
use Rattle.joint_extract.proofs.Cursors.{AreFirst, cursors-first, first-more, start-there}
use Rattle.joint_extract.proofs.walks.first_places.Goals as goal

pub overflow_sub-start : goal.overflow_sub-start
overflow_sub-start c =
    let n = c.loop-place.place - 1 in
    let row = c.row-row.result.now in
    let low : c.args.graph.now.types ≤ n = let test = c.loop-place-test.true in let types = c.type_count-place-start.ensures in omega (arith, test, types) in
    let within : n < length row = let test = c.loop-place-test.true in let most = c.loop-place.auto.place in omega (arith, test, most) in
    (start-there c.args.graph.now row n c.start.result (Bin 0) c.known.ensures c.row-row.ensures low within c.start.ensures).0

pub index_mut-requires : goal.index_mut-requires
index_mut-requires c =
    let n = c.loop-place.place - 1 in
    let row = c.row-row.result.now in
    let low : c.args.graph.now.types ≤ n = let test = c.loop-place-test.true in let types = c.type_count-place-start.ensures in omega (arith, test, types) in
    let within : n < length row = let test = c.loop-place-test.true in let most = c.loop-place.auto.place in omega (arith, test, most) in
    let inside = start-there c.args.graph.now row n c.start.result (Bin 0) c.known.ensures c.row-row.ensures low within c.start.ensures in
    let nodes = c.loop-place.invariant.nodes in
    omega (arith, inside.0, inside.1, nodes)

pub loop-place-preserved : goal.loop-place-preserved
loop-place-preserved c =
    let g = c.args.graph.now in
    let n = c.loop-place.place - 1 in
    let row = c.row-row.result.now in
    let places = c.loop-place.places.items in
    let test = c.loop-place-test.true in
    let low : g.types ≤ n = let types = c.type_count-place-start.ensures in omega (arith, test, types) in
    let within : n < length (numbered g) = let most = c.loop-place.auto.place in let long = ap (length {A = ArcKind}) c.row-row.ensures in omega (arith, test, most, long) in
    let next : c.loop-place.place ≡ n + 1 = omega (arith, test) in
    let start : start_of (get_or (numbered g) n (Bin 0)) ≡ c.start.result = sym (c.start.ensures ∙ ap (λ (r : List ArcKind). start_of (get_or r n (Bin 0))) c.row-row.ensures) in
    let more = first-more g places n (Bin 0) c.known.ensures c.loop-place.invariant.nodes low within (subst (AreFirst g places) next c.loop-place.invariant.first) in
    record {
      nodes = length-set places (c.start.result - 1) n ∙ c.loop-place.invariant.nodes;
      first = subst (λ (s : ℕ). AreFirst g (set places (s - 1) n) n) start more;
    }

pub returns-clause-first : goal.returns-clause-first
returns-clause-first c =
    let g = c.args.graph.now in
    let end : c.loop-place.place ≤ g.types = let test = c.loop-place-test.false in let types = c.type_count-place-start.ensures in omega (arith, test, types) in
    cursors-first g c.loop-place.places.items (λ v k kind one low at starts. c.loop-place.invariant.first v k kind one (omega (arith, end, low)) at starts)
