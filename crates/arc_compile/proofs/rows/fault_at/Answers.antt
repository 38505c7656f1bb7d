use Rattle.std.proofs.Common.{refl, arith}
use Rattle.arc_compile.proofs.rows.fault_at.Goals as goal

pub returns-in-TooManyArcs : goal.returns-in-TooManyArcs
returns-in-TooManyArcs c = λ I room le full. let much = full c.in-TooManyArcs.is in (refl, record { arcs = much.0; has = much.1; past = omega (arith, le, much.2) })
