use Rattle.std.proofs.Common.{length, refl, ap, arith}
use Rattle.joint_graph.proofs.joints.joint.Goals as goal

pub returns-clause-graphs : goal.returns-clause-graphs
returns-clause-graphs g c =
    record {
      levels = c.in_ok-levels.levels;
      main = c.in_ok-main.main;
      graphs = record {
        levels_are = c.in_ok-levels.ensures;
        main_is = c.in_ok-main.ensures;
        final_is = c.in_ok-last.ensures;
        levels_keep = c.known.ensures;
        main_keep = c.known-2.ensures;
        final_keep = c.known-3.ensures;
      };
      main_nodes = c.size_of-size.ensures.main_nodes;
      main_arcs = c.size_of-size.ensures.main_arcs;
      final_nodes = c.size_of-size.ensures.final_nodes;
      final_arcs = c.size_of-size.ensures.final_arcs;
    }

pub returns-then-arcs-room-clause-full : goal.returns-then-arcs-room-clause-full
returns-then-arcs-room-clause-full g c = λ e. (
  length c.in_ok-main.main.arcs,
  record { levels = c.in_ok-levels.levels; main = c.in_ok-main.main; levels_are = c.in_ok-levels.ensures; main_is = c.in_ok-main.ensures; arcs_are = refl },
  omega (arith, ap length c.arcs.ensures, c.if-arcs-room.true),
)
