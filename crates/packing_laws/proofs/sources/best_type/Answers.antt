-- One more type, with room or without; and all of them.
use Rattle.std.proofs.Common.{◌≡◌, ℕ, ◌+◌, ◌-◌, Some, suc, length, slice_index, get_or, ap, sym, subst, ◌∙◌, arith}
use Rattle.packing_laws.specs.declared.instances.BinType.{BinType}
use Rattle.packing_laws.specs.declared.sources.Offer.{Offer}
use Rattle.packing_laws.specs.Instances.{InstanceValue, type_at}
use Rattle.packing_laws.specs.Floors.{room_in}
use Rattle.packing_laws.specs.inner.Offers.{IsOfferOf, AreOffers}
use Rattle.packing_laws.proofs.WrittenPackings.{type-by_number}
use Rattle.packing_laws.proofs.SourceSteps.{offers-skipped, offers-more, offers-best, offers-none}
use Rattle.packing_laws.proofs.sources.best_type.Goals as goal
use Rattle.packing_laws.proofs.sources.best_type.Goals.{then-room-gt0, else-room-gt0}

pub loop-at-preserved : goal.loop-at-preserved
loop-at-preserved c =
    let I : InstanceValue = c.args.instance.now in
    let d : ℕ = c.args.d in
    let n : ℕ = c.loop-at.at in
    let x : BinType = c.bin_type-item.result in
    let next : n + 1 ≡ suc n = omega arith in
    let here : x ≡ type_at I (n + 1) = type-by_number I c.types-bin_type-items.result.now n x c.types-bin_type-items.ensures.value c.loop-at-test.true c.bin_type-item.is in
    let room : get_or c.as_slice.result.now (d - 1) 0 ≡ room_in I d (n + 1) = ap (λ v. get_or v (d - 1) 0) c.as_slice.ensures ∙ ap (λ (y : BinType). get_or y.cap (d - 1) 0) here in
    elim c.if-room-gt0.branch [
      | then-room-gt0 w ↦
          let offer : Offer = record { bin_type = n + 1; room = get_or c.as_slice.result.now (d - 1) 0; cost = x.cost } in
          let of : IsOfferOf I d offer = record { room = room; cost = ap (λ (y : BinType). y.cost) here; some = w.if-room-gt0.true } in
          rw w.best-is (subst (λ m. AreOffers I d m (Some w.better.result)) (sym next) (offers-more I d n c.loop-at.best offer w.better.result next of c.loop-at.invariant w.better.ensures))
      | else-room-gt0 w ↦
          let empty : room_in I d (suc n) ≡ 0 = subst (λ m. room_in I d m ≡ 0) next (omega (arith, room, w.if-room-gt0.false)) in
          rw w.best-is (subst (λ m. AreOffers I d m c.loop-at.best) (sym next) (offers-skipped I d n c.loop-at.best empty c.loop-at.invariant))
    ]

pub returns-in-None-clause-none : goal.returns-in-None-clause-none
returns-in-None-clause-none c =
    let I : InstanceValue = c.args.instance.now in
    let types : length c.types-bin_type-items.result.now ≡ length I.types = ap length c.types-bin_type-items.ensures.value in
    (λ _. offers-none I c.args.d c.loop-at.at (omega (arith, types, c.loop-at-test.false, c.loop-at.auto.at-end)) (subst (AreOffers I c.args.d c.loop-at.at) c.in-None.is c.loop-at.invariant))
