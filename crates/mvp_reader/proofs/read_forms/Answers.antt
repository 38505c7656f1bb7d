use Rattle.std.proofs.Common.{rules, ◌≡◌, ◌⊎◌, ℕ, ◌+◌, length, Err, sym, subst, arith}
use Rattle.packing_laws.specs.declared.fault.ReadFault.TheVariants.{Memory}
use Rattle.packing_laws.specs.Places.{next_form}
use Rattle.packing_laws.specs.Layouts.{form_behind}
use Rattle.layout_walk.proofs.Repeats.{several-fails}
use Rattle.mvp_reader.proofs.read_forms.Goals as goal

pub returns-in_err-form-clause-read : goal.returns-in_err-form-clause-read
returns-in_err-form-clause-read c =
    let fault = c.in_err-form.field-0.0 in
    let place = c.loop-f.places in
    let count : length c.loop-f.forms.items ≡ c.loop-f.f = omega arith in
    let next = subst (λ (n : ℕ). (fault ≡ Memory) ⊎ (next_form c.args.dims (c.args.item) (n + 1) place ≡ Err fault)) (sym count) c.in_err-form.ensures in
    let whole = several-fails (form_behind c.args.dims c.args.item) c.args.count c.loop-f.f c.loop-f.forms.items place fault _ (omega arith) c.loop-f.invariant.read next in
    search (whole, rules)
