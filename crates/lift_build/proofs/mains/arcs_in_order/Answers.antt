use Rattle.std.proofs.Common.{List, sym, subst}
use Rattle.std.specs.Prelude.{Contains}
use Rattle.label_graph.specs.declared.parts.GraphArc.{GraphArc}
use Rattle.label_graph.proofs.MergedArcs.{sorted-arcs}
use Rattle.lift_build.proofs.mains.arcs_in_order.Goals as goal

pub returns : goal.returns
returns c =
    record {
      ordered = sorted-arcs _ c.arcs_are_in_order.ensures c.sort_distinct.new.all.items c.sort_distinct.ensures.sorted;
      same = λ x. (
        λ m. subst (λ (zs : List GraphArc). Contains zs x) c.in_ok-moved.ensures ((c.sort_distinct.ensures.same x).0 m),
        λ m. (c.sort_distinct.ensures.same x).1 (subst (λ (zs : List GraphArc). Contains zs x) (sym c.in_ok-moved.ensures) m),
      );
    }
