use Rattle.std.proofs.Common.{arith}
use Rattle.search_states.proofs.findings.look_at.Goals as goal

pub open_chord-requires-clause-few : goal.open_chord-requires-clause-few
open_chord-requires-clause-few c =
    let size = c.requires.told.size in
    let few = c.arc_count-few.ensures.known in
    let count = c.arc_count-few.ensures.value in
    omega (arith, size, few, count)
