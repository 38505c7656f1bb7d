use Rattle.joint_graph.specs.inner.Classes.{AreClasses}
use Rattle.joint_graph.proofs.mains.classes_of.Given as goal

abbrev pub invariant-loop-t : goal.invariant-loop-t
invariant-loop-t g l = AreClasses l.graph l.t l.classes.numbers.items l.classes.count
