-- The last bin takes more times in, or one is put behind it.
use Rattle.std.proofs.Common.{◌≡◌, ◌∙◌, ◌++◌, [], ◌∷◌, List, true, false, ap, sym}
use Rattle.std.specs.Ordering.{is_eq}
use Rattle.std.proofs.lemmas.Bool.{false_from_ne_true}
use Rattle.packing_laws.specs.declared.packings.Bin.{Bin}
use Rattle.packing_laws.specs.Printed.{bin_cmp}
use Rattle.packing_laws.specs.inner.Tidying.{put_last, joined_bin, bin_of}
use Rattle.packing_laws.proofs.Merging.{put_last-joined, put_last-apart, equal_from}
use Rattle.packing_laws.proofs.tidying.add_line.Goals as goal

pub returns-in_ok-push-in-Some : goal.returns-in_ok-push-in-Some
returns-in_ok-push-in-Some c =
    let front : List Bin = c.pop.new.self.items in
    let last : Bin = c.in-Some.last in
    let old : c.args.bins.now.items ≡ front ++ last ∷ [] = c.in-Some.ensures.items in
    let same : is_eq (bin_cmp last (bin_of c.args.line.now)) ≡ true = ap is_eq (c.is_alike.ensures.0 c.if-is_alike.true) in
    c.in_ok-push-in-Some.ensures.items ∙ sym (put_last-joined bin_cmp joined_bin front last (bin_of c.args.line.now) same) ∙ ap (λ (l : List Bin). put_last bin_cmp joined_bin l (bin_of c.args.line.now)) (sym old)

pub returns-in_ok-push-in-Some-3 : goal.returns-in_ok-push-in-Some-3
returns-in_ok-push-in-Some-3 c =
    let front : List Bin = c.pop.new.self.items in
    let last : Bin = c.in-Some.last in
    let next : Bin = bin_of c.args.line.now in
    let old : c.args.bins.now.items ≡ front ++ last ∷ [] = c.in-Some.ensures.items in
    let apart : is_eq (bin_cmp last next) ≡ false = false_from_ne_true (is_eq (bin_cmp last next)) (λ e. let yes : true ≡ false = sym (c.is_alike.ensures.1 (equal_from (bin_cmp last next) e)) ∙ c.if-is_alike.false in cc) in
    c.in_ok-push-in-Some-3.ensures.items ∙ ap (λ (b : Bin). c.push-else-is_alike.new.self.items ++ b ∷ []) c.in_ok-bin_from-in-Some.ensures ∙ ap (λ (l : List Bin). l ++ next ∷ []) c.in_ok-push-in-Some-2.ensures.items
    ∙ sym (put_last-apart bin_cmp joined_bin front last next apart) ∙ ap (λ (l : List Bin). put_last bin_cmp joined_bin l next) (sym old)
