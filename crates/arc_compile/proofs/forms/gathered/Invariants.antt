use Rattle.std.proofs.Common.{ℕ, ◌≡◌, ◌≤◌, take, vec_len}
use Rattle.packing_laws.specs.Instances.{type_at}
use Rattle.arc_compile.specs.inner.Ranks.{AreRanked, forms_of}
use Rattle.arc_compile.proofs.forms.gathered.Given as goal

abbrev pub invariant-loop-i : goal.invariant-loop-i
invariant-loop-i g l = ((t : ℕ) → (type_at l.instance t).cap ≡ l.cap → AreRanked {N = g.row.N} l.instance t l.i l.ranked.items) × (vec_len l.ranked ≤ forms_of (take l.i l.instance.items))
