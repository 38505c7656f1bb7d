use Rattle.std.proofs.Common.{◌≡◌, ◌+◌, ◌-◌, ◌<◌, ℕ, List, ◌++◌, ◌∷◌, [], Some, length, get_or, refl, ap, sym, subst, arith}
use Rattle.std.specs.Prelude.{slice_get}
use Rattle.std.proofs.lemmas.Option.{slice_get_read}
use Rattle.flow_graph.specs.Arcs.{TypeValue}
use Rattle.arc_compile.specs.declared.results.TypeSize.{TypeSize}
use Rattle.arc_compile.specs.declared.type_graphs.CompiledType.{CompiledType}
use Rattle.arc_compile.specs.Graphs.{IsTooLarge}
use Rattle.arc_compile.specs.inner.Rows.{type_value}
use Rattle.arc_compile.proofs.TypesSoFar.{AreCompiledSoFar, all_small}
use Rattle.arc_compile.proofs.RowLemmas.{put_one, past_room, faulty, all_done, arcs_more, arcs_all}
use Rattle.arc_compile.proofs.compiling.assembled.Goals as goal

-- the element of a list, as an element of the list that it is a view of
viewed : (xs ys : List CompiledType) (k : ℕ) (x : CompiledType) → xs ≡ ys → k < length xs → x ≡ get_or xs k x → slice_get ys k ≡ Some x
viewed xs ys k x same lt is = subst (λ (zs : List CompiledType). slice_get zs k ≡ Some x) same (slice_get_read xs (length xs) k x refl lt is)

pub returns-then-compiled-room-clause-large : goal.returns-then-compiled-room-clause-large
returns-then-compiled-room-clause-large c = λ t is.
    let I = c.args.instance.now in
    let x = c.compiled-item.result in
    let at = viewed c.as_slice-compiled-items.result.now c.args.row.now.types.items c.loop-k.k x c.as_slice-compiled-items.ensures.value c.loop-k-test.true c.compiled-item.is in
    let there : c.loop-k.k + 1 ≡ t = cc in
    subst (λ (n : ℕ). IsTooLarge I n) there (past_room I c.args.row.now (length I.types) c.loop-k.k c.loop-k.graph c.loop-k.sizes.items c.loop-k.room c.requires c.loop-k.invariant.0 x at refl c.if-compiled-room.true)

pub put_type-requires-clause-room : goal.put_type-requires-clause-room
put_type-requires-clause-room c =
    let x = c.compiled-item.result in
    let at = viewed c.as_slice-compiled-items.result.now c.args.row.now.types.items c.loop-k.k x c.as_slice-compiled-items.ensures.value c.loop-k-test.true c.compiled-item.is in
    omega (arith, c.loop-k.invariant.0.row, c.if-compiled-room.false, (c.requires.each c.loop-k.k x at).fewer)

pub put_type-requires-clause-flow : goal.put_type-requires-clause-flow
put_type-requires-clause-flow c =
    let x = c.compiled-item.result in
    let at = viewed c.as_slice-compiled-items.result.now c.args.row.now.types.items c.loop-k.k x c.as_slice-compiled-items.ensures.value c.loop-k-test.true c.compiled-item.is in
    (c.requires.each c.loop-k.k x at).flow

pub loop-k-preserved : goal.loop-k-preserved
loop-k-preserved c =
    let I = c.args.instance.now in
    let x = c.compiled-item.result in
    let at = viewed c.as_slice-compiled-items.result.now c.args.row.now.types.items c.loop-k.k x c.as_slice-compiled-items.ensures.value c.loop-k-test.true c.compiled-item.is in
    let more = put_one I c.args.row.now (length I.types) c.loop-k.k c.loop-k.graph c.loop-k.sizes.items c.loop-k.room c.requires c.loop-k.invariant.0 x at c.if-compiled-room.false in (
      subst (λ (types : List TypeValue). AreCompiledSoFar I (c.loop-k.k + 1) types c.put_type.new.sizes.items (c.loop-k.room - x.size.main_arcs)) (sym c.in_ok-put_type.ensures.graph)
          (subst (λ (sizes : List TypeSize). AreCompiledSoFar I (c.loop-k.k + 1) (c.loop-k.graph ++ type_value x ∷ []) sizes (c.loop-k.room - x.size.main_arcs)) (sym c.in_ok-put_type.ensures.sizes) more),
      arcs_more c.args.row.now.types.items c.loop-k.k x c.loop-k.room at c.loop-k.invariant.1 c.if-compiled-room.false,
    )

pub returns-in-Some-clause-large : goal.returns-in-Some-clause-large
returns-in-Some-clause-large c =
    let I = c.args.instance.now in
    let viewed_length : length c.as_slice-compiled-items.result.now ≡ length c.args.row.now.types.items = ap (λ (xs : List CompiledType). length xs) c.as_slice-compiled-items.ensures.value in
    faulty I c.args.row.now (length I.types) c.loop-k.k c.loop-k.graph c.loop-k.sizes.items c.loop-k.room c.requires c.loop-k.invariant.0 c.in-Some.fault (omega (arith, c.loop-k.auto.k-end, c.loop-k-test.false, viewed_length)) refl (arcs_all c.args.row.now.types.items c.loop-k.k c.loop-k.room (omega (arith, c.loop-k.auto.k-end, c.loop-k-test.false, viewed_length)) c.loop-k.invariant.1) c.in-Some.is

pub returns-in-None-clause-small : goal.returns-in-None-clause-small
returns-in-None-clause-small c =
    let I = c.args.instance.now in
    let viewed_length : length c.as_slice-compiled-items.result.now ≡ length c.args.row.now.types.items = ap (λ (xs : List CompiledType). length xs) c.as_slice-compiled-items.ensures.value in
    all_small I c.loop-k.k c.loop-k.graph c.loop-k.sizes.items c.loop-k.room c.loop-k.invariant.0
    (all_done I c.args.row.now (length I.types) c.loop-k.k c.loop-k.graph c.loop-k.sizes.items c.loop-k.room c.requires c.loop-k.invariant.0 (omega (arith, c.loop-k.auto.k-end, c.loop-k-test.false, viewed_length)) c.in-None.is)
