use Rattle.std.proofs.Common.{◌≡◌, ℕ, ◌+◌, Some, vec_len}
use Rattle.std.specs.Prelude.{slice_get}
use Rattle.arc_compile.specs.Levels.{IsLevelSize}
use Rattle.arc_program.proofs.commands.compile.level_sizes.Given as goal

abbrev pub invariant-loop-t : goal.invariant-loop-t
invariant-loop-t l = (vec_len l.levels ≡ l.t) × ((t : ℕ) (level : ℕ × ℕ) → slice_get l.levels.items t ≡ Some level → IsLevelSize l.instance (t + 1) level.0 level.1)
