use Rattle.std.proofs.Common.{◌≡◌, ℕ, List, true}
use Rattle.packing_laws.specs.Instances.{IsAmong}
use Rattle.flow_graph.specs.Arcs.{TypeValue}
use Rattle.flow_graph.specs.Chords.{is_chord, range_at}
use Rattle.fixed_leaf.specs.Leaves.{TellsChords}
use Rattle.search_states.proofs.splitting.open_chord.Given as goal

abbrev pub invariant-loop-index : goal.invariant-loop-index
invariant-loop-index l = record {
  fixed : (g : List TypeValue) → TellsChords g l.chords → (a : ℕ) → IsAmong a l.index → is_chord g a ≡ true → (range_at l.ranges a).0 ≡ (range_at l.ranges a).1;
}
