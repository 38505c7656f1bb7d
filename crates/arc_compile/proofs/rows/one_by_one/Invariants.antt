use Rattle.std.proofs.Common.{◌≡◌, ℕ, ◌+◌, Some, length}
use Rattle.std.specs.Prelude.{slice_get}
use Rattle.arc_compile.specs.declared.type_graphs.CompiledType.{CompiledType}
use Rattle.arc_compile.specs.inner.Rows.{main_arcs_of, IsDone}
use Rattle.arc_num.specs.declared.TheConstants.{MAX_ARCS}
use Rattle.arc_compile.proofs.rows.one_by_one.Given as goal

abbrev pub invariant-loop-t : goal.invariant-loop-t
invariant-loop-t g l = (l.first + length l.types.items ≡ l.t) × (main_arcs_of l.types.items + l.room ≡ MAX_ARCS) × ((k : ℕ) (x : CompiledType) → slice_get l.types.items k ≡ Some x → IsDone l.instance (l.first + k) x)
