use Rattle.std.proofs.Common.{◌≡◌, ℕ, List, length}
use Rattle.packing_laws.specs.Instances.{InstanceValue}
use Rattle.flow_graph.specs.Arcs.{TypeValue}
use Rattle.cert_stream.specs.declared.stage.Stage.TheVariants.{Open}
use Rattle.cert_stream.specs.Judges.{IsRead}
use Rattle.cert_stream.proofs.judge.Judge.read_lines.Given as goal

abbrev pub invariant-loop : goal.invariant-loop
invariant-loop g l = record {
  stage : l.self.stage ≡ Open;
  read : (I : InstanceValue) (h : List TypeValue) (bytes : List ℕ) → IsRead I h bytes l.initial.self → IsRead I h bytes l.self;
}

abbrev pub decreases-loop : goal.decreases-loop
decreases-loop g l = length l.self.reader.unread
