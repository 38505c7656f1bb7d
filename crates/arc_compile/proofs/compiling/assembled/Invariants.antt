use Rattle.std.proofs.Common.{◌≡◌, ◌+◌, take}
use Rattle.arc_num.specs.declared.TheConstants.{MAX_ARCS}
use Rattle.arc_compile.specs.inner.Rows.{main_arcs_of}
use Rattle.arc_compile.proofs.TypesSoFar.{AreCompiledSoFar}
use Rattle.arc_compile.proofs.compiling.assembled.Given as goal

abbrev pub invariant-loop-k : goal.invariant-loop-k
invariant-loop-k l = AreCompiledSoFar l.instance l.k l.graph l.sizes.items l.room × (main_arcs_of (take l.k l.row.types.items) + l.room ≡ MAX_ARCS)
