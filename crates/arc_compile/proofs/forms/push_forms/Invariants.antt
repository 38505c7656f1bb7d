use Rattle.std.proofs.Common.{◌+◌, ◌≤◌, vec_len}
use Rattle.arc_compile.specs.inner.Ranks.{AddsForms}
use Rattle.arc_compile.proofs.forms.push_forms.Given as goal

abbrev pub invariant-loop-f : goal.invariant-loop-f
invariant-loop-f g l = AddsForms {N = g.row.N} l.i l.item l.cap l.further l.f l.fn.ranked.items l.ranked.items × (vec_len l.ranked ≤ vec_len l.fn.ranked + l.f)
