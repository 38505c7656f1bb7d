use Rattle.std.proofs.Common.{◌≡◌, ◌↔◌, ℕ, ◌≤◌, List, length, get_or, map, sym, ap, ◌∙◌, subst, rules, arith}
use Rattle.std.specs.Prelude.{All, AllPairs, Contains}
use Rattle.std.proofs.lemmas.List.Elements.{Contains-get_or}
use Rattle.weight_vec.specs.Weight.{Before}
use Rattle.label_graph.specs.declared.parts.GraphArc.{GraphArc}
use Rattle.label_graph.specs.declared.parts.Piece.{Piece}
use Rattle.label_graph.specs.Graph.{GraphValue, IsGraph}
use Rattle.level_graph.specs.LevelLaws.{AreWeighed}
use Rattle.lift_build.specs.LiftedMains.{IsMainOf}
use Rattle.lift_build.specs.inner.Moves.{HasEnds, ArePlaces, moved_arc}
use Rattle.lift_build.proofs.MainsOf.{found-ends, main-found, main-graph, main-over, sorted-fewer}
use Rattle.lift_build.proofs.mains.build_main.Goals as goal

pub places_of-requires : goal.places_of-requires
places_of-requires g c =
    let same = subst (λ (ls : List (List ℕ)). (l : List ℕ) → Contains c.in_ok-labels.labels.items l ↔ Contains ls l) c.as_slice.ensures c.in_ok-labels.ensures.same in
    let ordered : AllPairs Before c.as_slice-3.result.now = subst (λ (ls : List (List ℕ)). AllPairs Before ls) (sym c.as_slice-3.ensures.value) c.in_ok-labels.ensures.ordered in
    let there : All (λ (l : List ℕ). Contains c.as_slice-3.result.now l) c.as_slice-2.result.now = λ k d lt.
    let l = get_or c.as_slice-2.result.now k d in
    let here : Contains c.in-Ok.found.labels l = subst (λ (ls : List (List ℕ)). Contains ls l) c.as_slice-2.ensures (Contains-get_or c.as_slice-2.result.now k d lt) in
    subst (λ (ls : List (List ℕ)). Contains ls l) (sym c.as_slice-3.ensures.value) ((same l).1 here) in
    (search rules, (c.requires.small, (ordered, there)))

pub arcs_in_order-requires : goal.arcs_in_order-requires
arcs_in_order-requires g c =
    let are : ArePlaces c.in-Ok.found.labels c.in_ok-labels.labels.items c.in_ok-places.places.items = subst (λ (ls : List (List ℕ)). ArePlaces ls c.in_ok-labels.labels.items c.in_ok-places.places.items) c.as_slice-2.ensures (subst (λ (ls : List (List ℕ)). ArePlaces c.as_slice-2.result.now ls c.in_ok-places.places.items) c.as_slice-3.ensures.value c.in_ok-places.ensures) in
    let count : length c.as_slice-5.result.now ≡ length c.in-Ok.found.labels = ap length c.as_slice-5.ensures.value ∙ are.count in
    subst (λ (es : List GraphArc). All (HasEnds (length c.as_slice-5.result.now)) es) (sym c.as_slice-4.ensures) (found-ends c.args.pieces.now c.args.cap.now c.in-Ok.found.labels c.in-Ok.found.arcs c.in-Ok.ensures.whole.sound (length c.as_slice-5.result.now) count)

pub new-requires : goal.new-requires
new-requires g c =
    let same = subst (λ (ls : List (List ℕ)). (l : List ℕ) → Contains c.in_ok-labels.labels.items l ↔ Contains ls l) c.as_slice.ensures c.in_ok-labels.ensures.same in
    let are : ArePlaces c.in-Ok.found.labels c.in_ok-labels.labels.items c.in_ok-places.places.items = subst (λ (ls : List (List ℕ)). ArePlaces ls c.in_ok-labels.labels.items c.in_ok-places.places.items) c.as_slice-2.ensures (subst (λ (ls : List (List ℕ)). ArePlaces c.as_slice-2.result.now ls c.in_ok-places.places.items) c.as_slice-3.ensures.value c.in_ok-places.ensures) in
    let moved = subst (λ (ps : List ℕ). (y : GraphArc) → Contains c.in_ok-arcs.arcs.items y ↔ Contains (map (moved_arc ps) c.in-Ok.found.arcs) y) c.as_slice-5.ensures.value (subst (λ (es : List GraphArc). (y : GraphArc) → Contains c.in_ok-arcs.arcs.items y ↔ Contains (map (moved_arc c.as_slice-5.result.now) es) y) c.as_slice-4.ensures c.in_ok-arcs.ensures.same) in
    let weighed : AreWeighed c.args.pieces.now c.args.cap.now = record { small = c.requires.small; sized = c.known.ensures.places; ranged = c.known.ensures.range; pieces_sized = c.known_pieces.ensures.sized; pieces_ranged = c.known_pieces.ensures.ranged } in
    let graph = main-graph c.args.pieces.now c.args.cap.now c.requires.pieces weighed c.level_graphs_exist.ensures c.level_graphs_are_graphs.ensures c.in-Ok.found.labels c.in-Ok.found.arcs c.in-Ok.ensures.whole c.in_ok-labels.labels.items c.in_ok-arcs.arcs.items c.in_ok-labels.ensures.ordered same c.in_ok-arcs.ensures.ordered c.in_ok-places.places.items are moved c.main_graphs_are_graphs.ensures in
    (search rules, (search rules, (search rules, subst (λ (ps : List (Piece g.row.N)). IsGraph g.row.N (record { pieces = ps; labels = c.in_ok-labels.labels.items; arcs = c.in_ok-arcs.arcs.items })) (sym c.in_ok-pieces.ensures.items) graph)))

pub returns-clause-main : goal.returns-clause-main
returns-clause-main g c =
    let same = subst (λ (ls : List (List ℕ)). (l : List ℕ) → Contains c.in_ok-labels.labels.items l ↔ Contains ls l) c.as_slice.ensures c.in_ok-labels.ensures.same in
    let are : ArePlaces c.in-Ok.found.labels c.in_ok-labels.labels.items c.in_ok-places.places.items = subst (λ (ls : List (List ℕ)). ArePlaces ls c.in_ok-labels.labels.items c.in_ok-places.places.items) c.as_slice-2.ensures (subst (λ (ls : List (List ℕ)). ArePlaces c.as_slice-2.result.now ls c.in_ok-places.places.items) c.as_slice-3.ensures.value c.in_ok-places.ensures) in
    let moved = subst (λ (ps : List ℕ). (y : GraphArc) → Contains c.in_ok-arcs.arcs.items y ↔ Contains (map (moved_arc ps) c.in-Ok.found.arcs) y) c.as_slice-5.ensures.value (subst (λ (es : List GraphArc). (y : GraphArc) → Contains c.in_ok-arcs.arcs.items y ↔ Contains (map (moved_arc c.as_slice-5.result.now) es) y) c.as_slice-4.ensures c.in_ok-arcs.ensures.same) in
    let weighed : AreWeighed c.args.pieces.now c.args.cap.now = record { small = c.requires.small; sized = c.known.ensures.places; ranged = c.known.ensures.range; pieces_sized = c.known_pieces.ensures.sized; pieces_ranged = c.known_pieces.ensures.ranged } in
    let main = main-found c.args.pieces.now c.args.cap.now c.requires.pieces weighed c.level_graphs_exist.ensures c.level_graphs_are_graphs.ensures c.in-Ok.found.labels c.in-Ok.found.arcs c.in-Ok.ensures.whole c.in_ok-labels.labels.items c.in_ok-arcs.arcs.items c.in_ok-labels.ensures.ordered same c.in_ok-arcs.ensures.ordered c.in_ok-places.places.items are moved in
    let copied = subst (λ (ps : List (Piece g.row.N)). IsMainOf {N = g.row.N} c.args.pieces.now c.args.cap.now (record { pieces = ps; labels = c.in_ok-labels.labels.items; arcs = c.in_ok-arcs.arcs.items })) (sym c.in_ok-pieces.ensures.items) main in
    subst (λ (r : GraphValue g.row.N). IsMainOf c.args.pieces.now c.args.cap.now r) (sym c.new.ensures) copied

pub returns-clause-roomy : goal.returns-clause-roomy
returns-clause-roomy g c =
    let moved = subst (λ (ps : List ℕ). (y : GraphArc) → Contains c.in_ok-arcs.arcs.items y ↔ Contains (map (moved_arc ps) c.in-Ok.found.arcs) y) c.as_slice-5.ensures.value (subst (λ (es : List GraphArc). (y : GraphArc) → Contains c.in_ok-arcs.arcs.items y ↔ Contains (map (moved_arc c.as_slice-5.result.now) es) y) c.as_slice-4.ensures c.in_ok-arcs.ensures.same) in
    let fewer : length c.in_ok-arcs.arcs.items ≤ length c.in-Ok.found.arcs = sorted-fewer c.in_ok-places.places.items c.in-Ok.found.arcs c.in_ok-arcs.arcs.items c.in_ok-arcs.ensures.ordered moved in
    let few : length c.in-Ok.found.arcs ≤ c.args.room = c.in-Ok.ensures.roomy in
    let arcs : length c.new.result.arcs ≡ length c.in_ok-arcs.arcs.items = ap (λ (r : GraphValue g.row.N). length r.arcs) c.new.ensures in
    omega (arith, fewer, few, arcs)

pub returns-in-Err-clause-full : goal.returns-in-Err-clause-full
returns-in-Err-clause-full g c e =
    main-over c.args.pieces.now c.args.cap.now c.requires.pieces (record { small = c.requires.small; sized = c.known.ensures.places; ranged = c.known.ensures.range; pieces_sized = c.known_pieces.ensures.sized; pieces_ranged = c.known_pieces.ensures.ranged }) c.level_graphs_exist.ensures c.level_graphs_are_graphs.ensures c.images_exist.ensures c.args.room (c.in-Err.ensures.full e)
