use Rattle.std.proofs.Common.{rules, ◌≡◌, ℕ, Err, sym, ◌∙◌, subst, arith}
use Rattle.packing_laws.specs.Layouts.{next_cap, cap_behind}
use Rattle.layout_walk.proofs.Repeats.{several-fault}
use Rattle.layout_walk.proofs.item_caps.listed_caps.Goals as goal

pub returns-in_err-cap : goal.returns-in_err-cap
returns-in_err-cap c =
    let fault = c.in_err-cap.field-0.0 in
    let place = c.loop-k.places in
    let next = subst (λ (n : ℕ). next_cap c.args.items n place ≡ Err fault) (sym c.loop-k.invariant.last) c.in_err-cap.ensures.read in
    let whole = sym c.loop-k.invariant.read ∙ several-fault (cap_behind c.args.items) c.args.count c.loop-k._k c.loop-k.caps.items place fault (omega arith) next in
    search (whole, rules)
