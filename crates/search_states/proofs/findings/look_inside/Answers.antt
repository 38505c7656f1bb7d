use Rattle.std.proofs.Common.{inr, rules}
use Rattle.std.specs.Prelude.{IfSome}
use Rattle.search_states.specs.States.{IsNeedIn}
use Rattle.search_states.proofs.findings.look_inside.Goals as goal

pub returns-clause-found : goal.returns-clause-found
returns-clause-found c =
    let need : IfSome c.in_ok-need.need (IsNeedIn c.args.graph.now) = search rules in
    record {
      valued = c.in_ok-shown.ensures.valued;
      best = c.in_ok-best.ensures.best;
      better = λ claim reached. c.in_ok-best.ensures.better claim (c.in_ok-whole.ensures.better claim reached);
      settled = inr c.requires.chord;
      need = need;
    }
