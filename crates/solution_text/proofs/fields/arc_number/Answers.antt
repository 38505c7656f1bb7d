use Rattle.std.proofs.Common.{◌≡◌, Some, sym, ap, ◌∙◌, arith}
use Rattle.arc_num.specs.Decimals.{number_of}
use Rattle.solution_text.proofs.ArcNumbers.{not_zero_first, zero_first, not_first, spelled, decimal_read}
use Rattle.solution_text.proofs.fields.arc_number.Goals as goal

pub returns-then-starts_with-clause-none : goal.returns-then-starts_with-clause-none
returns-then-starts_with-clause-none c = λ e a positive small same. not_zero_first c.args.digits.now a (zero_first c.args.digits.now c.if-starts_with.ensures.value) positive small same

pub returns-in-Some-clause-some : goal.returns-in-Some-clause-some
returns-in-Some-clause-some c = spelled c.args.digits.now c.in-Some.value (sym c.in-Some.ensures) (not_first c.args.digits.now c.if-starts_with.ensures.value)

pub returns-in_default-clause-none : goal.returns-in_default-clause-none
returns-in_default-clause-none c = λ e a positive small same.
    let read : Some c.in-Some.value ≡ Some a = c.in-Some.ensures ∙ (ap number_of same ∙ decimal_read a (omega (arith, small))) in
    let value : c.in-Some.value ≡ a = cc in
    absurd (omega (arith, value, small))

pub returns-in_default-2-clause-none : goal.returns-in_default-2-clause-none
returns-in_default-2-clause-none c = λ e a positive small same.
    let read = c.in_default.ensures ∙ (ap number_of same ∙ decimal_read a (omega (arith, small))) in
    cc
