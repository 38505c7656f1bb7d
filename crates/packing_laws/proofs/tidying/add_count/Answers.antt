-- The last count takes one more in, or one is put behind it.
use Rattle.std.proofs.Common.{◌≡◌, ◌∙◌, ◌++◌, [], ◌∷◌, List, true, false, ap, sym}
use Rattle.std.specs.Ordering.{is_eq}
use Rattle.std.proofs.lemmas.Bool.{false_from_ne_true}
use Rattle.packing_laws.specs.declared.packings.Count.{Count}
use Rattle.packing_laws.specs.Printed.{form_cmp}
use Rattle.packing_laws.specs.inner.Tidying.{put_last, joined_count}
use Rattle.packing_laws.proofs.Merging.{put_last-joined, put_last-apart, equal_from}
use Rattle.packing_laws.proofs.tidying.add_count.Goals as goal

pub returns-in_ok-push-in-Some : goal.returns-in_ok-push-in-Some
returns-in_ok-push-in-Some c =
    let front : List Count = c.pop.new.self.items in
    let last : Count = c.in-Some.last in
    let old : c.args.forms.now.items ≡ front ++ last ∷ [] = c.in-Some.ensures.items in
    let same : is_eq (form_cmp last c.args.next) ≡ true = ap is_eq (c.is_same_form.ensures.0 c.if-is_same_form.true) in
    c.in_ok-push-in-Some.ensures.items ∙ sym (put_last-joined form_cmp joined_count front last c.args.next same) ∙ ap (λ (l : List Count). put_last form_cmp joined_count l c.args.next) (sym old)

pub returns-in_ok-push-in-Some-3 : goal.returns-in_ok-push-in-Some-3
returns-in_ok-push-in-Some-3 c =
    let front : List Count = c.pop.new.self.items in
    let last : Count = c.in-Some.last in
    let next : Count = c.args.next in
    let old : c.args.forms.now.items ≡ front ++ last ∷ [] = c.in-Some.ensures.items in
    let apart : is_eq (form_cmp last next) ≡ false = false_from_ne_true (is_eq (form_cmp last next)) (λ e. let yes : true ≡ false = sym (c.is_same_form.ensures.1 (equal_from (form_cmp last next) e)) ∙ c.if-is_same_form.false in cc) in
    c.in_ok-push-in-Some-3.ensures.items ∙ ap (λ (l : List Count). l ++ next ∷ []) c.in_ok-push-in-Some-2.ensures.items
    ∙ sym (put_last-apart form_cmp joined_count front last next apart) ∙ ap (λ (l : List Count). put_last form_cmp joined_count l next) (sym old)
