-- The floor in a dimension is reached by a best type.
use Rattle.std.proofs.Common.{suc, ◌≡◌, ℕ, ◌-◌, ◌*◌, ◌<◌, ◌≤◌, [], length, Bool, true, nat_lt, slice_index, None, arith, get_or}
use Rattle.std.proofs.lemmas.Bool.{lt-ltb, ltb-true}
use Rattle.std.proofs.Math.Nat.{mul-le-mul_right, mul-le-mul_left, le_of_mul-le-mul_right}
use Rattle.packing_laws.specs.declared.instances.BinType.{BinType}
use Rattle.packing_laws.specs.Instances.{type_at}
use Rattle.packing_laws.specs.Floors.{div_up, material_in, floor_in, room_in, BestTypeGivesFloor}
use Rattle.packing_laws.proofs.Least.{least_of-passing, least_of-passing-ge, some-passing, div_up-enough, div_up-le}

-- what a type costs is enough for a type with more room for its cost
better-is_enough : (m w c v e : ℕ) → 0 < v → v * c ≤ w * e → m * c ≤ div_up (m * e) v * w
better-is_enough m w c v e some better =
    let q : ℕ = div_up (m * e) v in
    let enough : m * e * w ≤ q * v * w = mul-le-mul_right w (div_up-enough (m * e) v some) in
    let scaled : m * (v * c) ≤ m * (w * e) = mul-le-mul_left m better in
    le_of_mul-le-mul_right {m = m * c} {n = q * w} {k = v} (omega arith) some

pub best_gives_floor : BestTypeGivesFloor
best_gives_floor I d t best =
    let nothing : BinType = record { cap = []; cost = 0; limit = None } in
    let cost : BinType → ℕ = λ u. div_up (material_in I d * u.cost) (slice_index u.cap (d - 1)) in
    let test : BinType → Bool = λ u. nat_lt 0 (slice_index u.cap (d - 1)) in
    let within : t - 1 < length I.types = omega (arith, best.bin_type.0, best.bin_type.1) in
    let has_room : test (type_at I t) ≡ true = lt-ltb 0 (room_in I d t) best.room in
    let above : floor_in I d ≤ cost (type_at I t) = least_of-passing cost test I.types (t - 1) nothing within has_room in
    let each : (k : ℕ) → k < length I.types → test (get_or I.types k nothing) ≡ true → cost (type_at I t) ≤ cost (get_or I.types k nothing) =
    λ k inside passes.
    let e : suc k - 1 ≡ k = omega arith in
    let room : 0 < slice_index (get_or I.types k nothing).cap (d - 1) = ltb-true 0 (slice_index (get_or I.types k nothing).cap (d - 1)) passes in
    let better : slice_index (get_or I.types k nothing).cap (d - 1) * (type_at I t).cost ≤ room_in I d t * (get_or I.types k nothing).cost = rw e at (best.best (suc k) (omega arith, omega arith)) in
    div_up-le (material_in I d * (type_at I t).cost) (room_in I d t) (cost (get_or I.types k nothing)) best.room
    (better-is_enough (material_in I d) (room_in I d t) (type_at I t).cost (slice_index (get_or I.types k nothing).cap (d - 1)) (get_or I.types k nothing).cost room better)
    in
    let below : cost (type_at I t) ≤ floor_in I d = least_of-passing-ge cost test I.types (cost (type_at I t)) nothing each (some-passing cost test I.types (t - 1) nothing within has_room) in
    omega arith
