-- One bin more, and no bin more.
use Rattle.std.proofs.Common.{◌-◌, ◌≤◌, ℕ, List, [], All, slice_index, slice_set, Option, IfSome, sym, subst, arith}
use Rattle.packing_laws.specs.declared.packings.Bin.{Bin}
use Rattle.packing_laws.specs.Instances.{InstanceValue}
use Rattle.packing_laws.specs.Packings.{Content}
use Rattle.first_fit.specs.declared.filling.Filling.{Filling}
use Rattle.first_fit.specs.inner.Fillings.{IsPiece, IsFilling}
use Rattle.first_fit.specs.inner.Stages.{IsStage}
use Rattle.first_fit.proofs.TakenUnits.{IsTaken}
use Rattle.first_fit.proofs.Packed.{stage-start, stage-next, stage-end}
use Rattle.first_fit.proofs.greedy.pack.Goals as goal

pub best_bin-requires-clause-pieces : goal.best_bin-requires-clause-pieces
best_bin-requires-clause-pieces c = subst (All (IsPiece c.args.instance.now)) (sym c.as_slice.ensures.value) (c.keep_live.ensures c.args.instance.now c.loop-turn.invariant.pieces)

pub loop-turn-preserved : goal.loop-turn-preserved
loop-turn-preserved c =
    let I : InstanceValue = c.args.instance.now in
    let b : Filling = c.in-Some.bin in
    let rest : List ℕ = c.loop-turn.rest in
    let left : List ℕ = c.take_units.new.rest in
    let times : ℕ = c.repeats-times.result in
    let new : Bin = c.in_ok-written.field-0 in
    let filling : IsFilling I rest b = subst (λ (o : Option Filling). IfSome o (IsFilling I rest)) c.in-Some.is c.in_ok-bin.ensures in
    let taken : IsTaken times b.counts.items left rest = subst (λ (d : Content). IsTaken times d left rest) c.as_slice-counts.ensures c.take_units.ensures in
    let enough : times ≤ slice_index c.loop-turn.free (b.bin_type - 1) = omega (arith, c.repeats-times.ensures.most, c.entry.ensures) in
    let next = stage-next I rest c.loop-turn.free left c.loop-turn.bins.items b times new c.in_ok-written.ensures c.loop-turn.invariant.stage filling c.take_units.auto.rest taken enough in
    record {
      pieces = c.keep_live.ensures I c.loop-turn.invariant.pieces;
      stage = subst (λ (bins : List Bin). IsStage I left (slice_set c.loop-turn.free (b.bin_type - 1) (slice_index c.loop-turn.free (b.bin_type - 1) - times)) bins) (sym c.in_ok-push.ensures.items) next;
    }

pub loop-turn-init : goal.loop-turn-init
loop-turn-init c =
    let I : InstanceValue = c.args.instance.now in
    let start : IsStage I c.args.rest.now c.args.free.now [] = rw (c.requires.rest, c.requires.free) (stage-start I) in
    record {
      pieces = c.requires.pieces;
      stage = subst (λ (bins : List Bin). IsStage I c.args.rest.now c.args.free.now bins) (sym c.new-bins.ensures.items) start;
    }

pub returns-then-is_empty : goal.returns-then-is_empty
returns-then-is_empty c = rw c.new.ensures (stage-end c.args.instance.now c.loop-turn.rest c.loop-turn.free c.loop-turn.bins.items c.loop-turn.invariant.stage (c.is_empty.ensures c.if-is_empty.true))
