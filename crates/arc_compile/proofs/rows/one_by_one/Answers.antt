use Rattle.std.proofs.Common.{◌≡◌, ◌+◌, ℕ, List, [], ◌∷◌, Some, length, length-append, refl, sym, ap, subst, arith}
use Rattle.std.specs.Prelude.{slice_get}
use Rattle.arc_compile.specs.declared.type_graphs.CompiledType.{CompiledType}
use Rattle.arc_compile.specs.inner.Rows.{main_arcs_of, IsDone}
use Rattle.std.proofs.lemmas.List.Sums.{sum_by-append}
use Rattle.arc_compile.proofs.RowLemmas.{row_push, row_starved, row_faulty}
use Rattle.arc_compile.proofs.rows.one_by_one.Goals as goal

pub returns-in-Err-push : goal.returns-in-Err-push
returns-in-Err-push g c =
    let I = c.args.instance.now in
    let items = c.in-Err-push.ensures.items in
    let same : length c.push.new.self.items ≡ length c.loop-t.types.items = ap (λ (xs : List CompiledType). length xs) items in
    row_starved I c.args.first c.args.count _ (subst (λ (xs : List CompiledType). (k : ℕ) (x : CompiledType) → slice_get xs k ≡ Some x → IsDone I (c.args.first + k) x) (sym items) c.loop-t.invariant.2) (omega (arith, c.loop-t.invariant.0, c.loop-t-test.true, same)) refl

pub loop-t-preserved : goal.loop-t-preserved
loop-t-preserved g c =
    let I = c.args.instance.now in
    let items = c.in-Ok-push.ensures.items in
    let more = row_push I c.args.first c.loop-t.t c.loop-t.types.items c.in-Ok.compiled c.loop-t.invariant.2 (sym c.loop-t.invariant.0) c.in-Ok.ensures.done in (
      omega (arith, c.loop-t.invariant.0, ap (λ (xs : List CompiledType). length xs) items, length-append c.loop-t.types.items (c.in-Ok.compiled ∷ [])),
      omega (arith, c.loop-t.invariant.1, c.in-Ok.ensures.roomy, ap main_arcs_of items, sum_by-append (λ (x : CompiledType). x.size.main_arcs) c.loop-t.types.items (c.in-Ok.compiled ∷ [])),
      subst (λ (xs : List CompiledType). (k : ℕ) (x : CompiledType) → slice_get xs k ≡ Some x → IsDone I (c.args.first + k) x) (sym items) more,
    )

pub returns-in-Err : goal.returns-in-Err
returns-in-Err g c = row_faulty c.args.instance.now c.args.first c.args.count c.loop-t.t c.loop-t.room c.in-Err.fault _ c.loop-t.invariant.2 c.loop-t.invariant.0 c.loop-t-test.true c.loop-t.invariant.1 c.in-Err.ensures.done refl
