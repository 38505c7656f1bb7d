-- There is a joint main graph of all pieces and capacities.
use Rattle.std.proofs.Common.{◌≡◌, ℕ, zero, suc, ◌+◌, ◌<◌, List, [], ◌∷◌, ◌++◌, length, refl, sym, subst, arith}
use Rattle.std.specs.Prelude.{Contains, All, AllPairs}
use Rattle.std.specs.List.{filter_map}
use Rattle.label_graph.specs.declared.parts.GraphArc.{GraphArc}
use Rattle.label_graph.specs.declared.parts.Piece.{Piece}
use Rattle.label_graph.specs.Graph.{ArcBefore}
use Rattle.label_graph.specs.inner.Merges.{merged_arc}
use Rattle.label_graph.proofs.InOrder.{in_order, arc-trans, arc-compare}
use Rattle.joint_graph.specs.Joints.{JointValue, IsInner}
use Rattle.joint_graph.specs.Ways.{HaveSameRooms}
use Rattle.joint_graph.specs.Merged.{IsJointMain}
use Rattle.joint_graph.specs.JointLaws.{JointMainsExist}
use Rattle.joint_graph.specs.inner.Ranks.{IsInto}
use Rattle.joint_graph.specs.inner.Classes.{AreNumbered}
use Rattle.joint_graph.proofs.LevelPaths.{arc-climbs}
use Rattle.joint_graph.proofs.LevelsOne.{level-first}
use Rattle.joint_graph.proofs.LevelsExist.{levels_exist}
use Rattle.joint_graph.proofs.MergedNodes.{into-first, into-more, merging-by, merges-same, image-by}
use Rattle.joint_graph.proofs.PartsExist.{parts_exist}
use Rattle.joint_graph.proofs.WaysExist.{told-rooms, rooms-itself, rooms-back, rooms-on}

-- the numbers with those of the targets behind them
into_exists : (numbers : List ℕ) (count types : ℕ) → (into : List ℕ) × IsInto numbers count types into
into_exists numbers count zero = (numbers, into-first numbers count)
into_exists numbers count (suc types) =
    let old = into_exists numbers count types in
    let next : types + 1 ≡ suc types = omega arith in
    let new : List ℕ = old.0 ++ (count + types + 1) ∷ [] in
    (new, subst (λ (k : ℕ). IsInto numbers count k new) next (into-more numbers count types old.0 new (count + types + 1) refl refl old.1))

main_exists : (N : ℕ) (g : JointValue N) → IsInner g 1 → All (λ (q : Piece N). length q.weight ≡ N) g.pieces → AllPairs ArcBefore g.arcs → ((e : GraphArc) → Contains g.arcs e → e.tail < e.head) → (main : JointValue N) × IsJointMain g main
main_exists N g first sized up climbs =
    let types = length g.caps in
    let parts = parts_exist (HaveSameRooms g types) (rooms-itself N g sized up climbs types) (rooms-back N g sized up climbs types) (rooms-on N g sized up climbs types) (told-rooms N g sized up climbs types) g.inner in
    let numbers = parts.0 in
    let count = parts.1.0 in
    let are = parts.1.1 in
    let numbered : AreNumbered g numbers count = record {
      sized = are.sized;
      few = are.few;
      low = λ v inner. are.low v inner.0 inner.1;
      high = λ v inner. are.high v inner.0 inner.1;
      onto = are.onto;
    } in
    let into = into_exists numbers count types in
    let merging = merging-by N g numbers count numbered into.0 into.1 first (are.first first.1) in
    let merged = filter_map (merged_arc into.0) g.arcs in
    let sorted = in_order ArcBefore arc-trans arc-compare merged in (
      record { pieces = g.pieces; caps = g.caps; inner = count; arcs = sorted.0 },
      record {
        into = into.0;
        merges = merges-same N g numbers count numbered into.0 into.1 (HaveSameRooms g types) (λ v w a b. are.same v w a.0 a.1 b.0 b.1);
        image = image-by N g count into.0 merging merged sorted.0 refl sorted.1 sorted.2;
      },
    )

pub mains_exist : JointMainsExist
mains_exist N pieces caps sized =
    let levels = levels_exist pieces caps in
    let g = levels.0 in
    let are = levels.1 in
    let g_sized : All (λ (q : Piece N). length q.weight ≡ N) g.pieces = subst (λ (ps : List (Piece N)). All (λ (q : Piece N). length q.weight ≡ N) ps) (sym are.pieces_are) sized in
    let climbs : (e : GraphArc) → Contains g.arcs e → e.tail < e.head = λ e m. (arc-climbs pieces caps are.states are.states_ordered are.states_reached g.arcs are.arcs_are g are.inner_is are.caps_are e m).up in
    let main = main_exists N g (level-first pieces caps g are) g_sized are.arcs_ordered climbs in
    (length main.0.arcs, record { levels = g; main = main.0; levels_are = are; main_is = main.1; arcs_are = refl })
