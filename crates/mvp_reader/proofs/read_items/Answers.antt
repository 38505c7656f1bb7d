use Rattle.std.proofs.Common.{rules, ◌≡◌, ◌⊎◌, ℕ, ◌+◌, length, Err, sym, subst, arith}
use Rattle.packing_laws.specs.declared.fault.ReadFault.TheVariants.{Memory}
use Rattle.packing_laws.specs.Layouts.{next_item, item_behind}
use Rattle.layout_walk.proofs.Repeats.{several-fails}
use Rattle.mvp_reader.proofs.read_items.Goals as goal

pub returns-in_err-item : goal.returns-in_err-item
returns-in_err-item c =
    let fault = c.in_err-item.field-0.0 in
    let place = c.loop-i.places in
    let items = c.loop-i.items.items in
    let count : length items ≡ c.loop-i.i = omega arith in
    let numbered = subst (λ (n : ℕ). (fault ≡ Memory) ⊎ (next_item c.args.dims (n + 1) c.loop-i.forms place ≡ Err fault)) (sym count) c.in_err-item.ensures.read in
    let next = subst (λ (n : ℕ). (fault ≡ Memory) ⊎ (next_item c.args.dims (length items + 1) n place ≡ Err fault)) (sym c.loop-i.invariant.forms) numbered in
    let whole = several-fails (item_behind c.args.dims) c.args.count c.loop-i.i items place fault _ (omega arith) c.loop-i.invariant.read next in
    search (whole, rules)
