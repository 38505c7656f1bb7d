-- All items were looked at.
use Rattle.std.proofs.Common.{◌≡◌, ℕ, ◌<◌, ◌≤◌, ap, List, length, true, refl, subst, arith}
use Rattle.std.specs.List.{list_any}
use Rattle.packing_laws.specs.declared.instances.BinType.{BinType}
use Rattle.packing_laws.specs.Instances.{InstanceValue, IsAmong, item_at}
use Rattle.packing_laws.specs.Floors.{item_fits}
use Rattle.packing_laws.proofs.PackedItems.{places-by_number}
use Rattle.packing_laws.proofs.places.homeless_item.Goals as goal

pub returns-clause-none : goal.returns-clause-none
returns-clause-none c =
    let I : InstanceValue = c.args.instance.now in
    let count : length I.items ≤ c.loop-at.at = omega (arith, ap length c.items-item-items.ensures.value) in
    let each : (i : ℕ) → IsAmong i c.loop-at.at → 0 < (item_at I i).demand → list_any (item_fits (item_at I i)) I.types ≡ true =
    subst (λ (ts : List BinType). (i : ℕ) → IsAmong i c.loop-at.at → 0 < (item_at I i).demand → list_any (item_fits (item_at I i)) ts ≡ true) c.types-types.ensures.value c.loop-at.invariant in
    (λ _. places-by_number I (λ i among. each i (omega (arith, among.0, among.1))), λ _. refl)
