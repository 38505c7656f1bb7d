use Rattle.std.proofs.Common.{ℕ, ◌-◌, length, take, drop, ap, ◌∙◌}
use Rattle.path_prices.proofs.TypeGains.{part-size}
use Rattle.path_prices.proofs.laid.own_prices.Goals as goal

pub returns-clause-size : goal.returns-clause-size
returns-clause-size c =
    ap (λ (r : ℕ × ℕ). length (take (r.1 - r.0) (drop r.0 c.args.arcs.now))) c.numbers-first.ensures.value
    ∙ part-size c.args.graph.now c.args.t c.args.arcs.now c.numbers-first.ensures.rise c.requires.size
