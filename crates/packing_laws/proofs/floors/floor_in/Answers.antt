-- Whether the next type has room or not.
use Rattle.std.proofs.Common.{◌≡◌, ℕ, ◌-◌, ◌*◌, Bool, nat_lt, slice_index, get_or, MatchOption, min, ap, subst, arith}
use Rattle.std.proofs.lemmas.Bool.{lt-ltb, le-ltb}
use Rattle.packing_laws.specs.declared.instances.BinType.{BinType}
use Rattle.packing_laws.specs.Floors.{div_up, material_in}
use Rattle.packing_laws.proofs.LeftOver.{IsLeftOf-taken, IsLeftOf-skipped}
use Rattle.packing_laws.proofs.floors.floor_in.Goals as goal
use Rattle.packing_laws.proofs.floors.floor_in.Goals.{then-room-gt0, else-room-gt0}

pub loop-bin_type-preserved : goal.loop-bin_type-preserved
loop-bin_type-preserved c =
    let d : ℕ = c.args.d in
    let x : BinType = c.bin_type-item.result in
    let cost : BinType → ℕ = λ t. div_up (material_in c.args.instance.now d * t.cost) (slice_index t.cap (d - 1)) in
    let test : BinType → Bool = λ t. nat_lt 0 (slice_index t.cap (d - 1)) in
    let room : get_or c.as_slice.result.now (d - 1) 0 ≡ get_or x.cap (d - 1) 0 = ap (λ v. get_or v (d - 1) 0) c.as_slice.ensures in
    elim c.if-room-gt0.branch [
      | then-room-gt0 w ↦
          let e : w.div_up-cost.result ≡ cost x = cc in
          let is : MatchOption c.loop-bin_type.least (w.smaller.result ≡ cost x) (λ b. w.smaller.result ≡ min b (cost x)) =
          subst (λ (y : ℕ). MatchOption c.loop-bin_type.least (w.smaller.result ≡ y) (λ b. w.smaller.result ≡ min b y)) e w.smaller.ensures
          in
          rw w.least-is (IsLeftOf-taken cost test _ c.loop-bin_type.bin_type-index x c.loop-bin_type.least w.smaller.result _ c.loop-bin_type-test.true c.bin_type-item.is
          (lt-ltb 0 (get_or x.cap (d - 1) 0) (omega arith))
          c.loop-bin_type.invariant is)
      | else-room-gt0 w ↦
          rw w.least-is (IsLeftOf-skipped cost test _ c.loop-bin_type.bin_type-index x c.loop-bin_type.least _ c.loop-bin_type-test.true c.bin_type-item.is
          (le-ltb 0 (get_or x.cap (d - 1) 0) (omega arith))
          c.loop-bin_type.invariant)
    ]
