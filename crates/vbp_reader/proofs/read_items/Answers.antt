use Rattle.std.proofs.Common.{rules, ◌≡◌, ◌⊎◌, ℕ, ◌+◌, length, Err, sym, subst, arith}
use Rattle.packing_laws.specs.declared.fault.ReadFault.TheVariants.{Memory}
use Rattle.packing_laws.specs.Layouts.{next_plain_item, plain_item_behind}
use Rattle.layout_walk.proofs.Repeats.{several-fails}
use Rattle.vbp_reader.proofs.read_items.Goals as goal

pub returns-in_err-read_item : goal.returns-in_err-read_item
returns-in_err-read_item c =
    let fault = c.in_err-read_item.field-0.0 in
    let place = c.loop-i.places in
    let count : length c.loop-i.items.items ≡ c.loop-i.i = omega arith in
    let next = subst (λ (n : ℕ). (fault ≡ Memory) ⊎ (next_plain_item c.args.dims (n + 1) place ≡ Err fault)) (sym count) c.in_err-read_item.ensures in
    let whole = several-fails (plain_item_behind c.args.dims) c.args.count c.loop-i.i c.loop-i.items.items place fault _ (omega arith) c.loop-i.invariant.read next in
    search (whole, rules)
