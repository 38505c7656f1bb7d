-- The bin and one that is done are exchanged for one that holds both.
use Rattle.std.proofs.Common.{◌≡◌, ◌+◌, ◌-◌, ◌^◌, ◌<◌, ◌∷◌, ◌++◌, [], List, ℕ, min, set, sym, ap, subst, ◌∙◌, get_or}
use Rattle.std.proofs.lemmas.List.{get_or_default}
use Rattle.packing_laws.specs.declared.packings.Bin.{Bin}
use Rattle.packing_laws.specs.Instances.{InstanceValue}
use Rattle.packing_laws.specs.Packings.{Content}
use Rattle.packing_laws.specs.Printed.{units_in}
use Rattle.packing_laws.specs.inner.Joining.{IsMadeOf, IsStep}
use Rattle.packing_laws.proofs.BinTotals.{at_times}
use Rattle.packing_laws.proofs.JoinSteps.{both-small, step-with}
use Rattle.packing_laws.proofs.joining.join_with.Goals as goal

pub joined_bin-requires : goal.joined_bin-requires
joined_bin-requires c =
    let I : InstanceValue = c.args.instance.now in
    let b : Bin = c.args.bin in
    let waiting : List Bin = c.args.waiting.now.items in
    let done : List Bin = c.args.done.now.items in
    let k : ℕ = c.args.found.at in
    let d : Bin = c.index-other.result.now in
    let y : Bin = get_or done k d in
    let small : units_in y.counts + units_in b.counts < 2 ^ 32 = both-small I waiting done b c.requires.packing c.known.ensures k d c.requires.partner.within c.requires.used (c.requires.partner.used d) in
    let one : y.counts ≡ c.as_slice.result.now = ap (λ (x : Bin). x.counts) (sym c.index-other.ensures) ∙ sym c.as_slice.ensures in
    let two : b.counts ≡ c.as_slice-2.result.now = sym c.as_slice-2.ensures in
    subst (λ (x : Content). units_in x + units_in c.as_slice-2.result.now < 2 ^ 32) one (subst (λ (x : Content). units_in y.counts + units_in x < 2 ^ 32) two small)

pub returns : goal.returns
returns c =
    let I : InstanceValue = c.args.instance.now in
    let b : Bin = c.args.bin in
    let waiting : List Bin = c.args.waiting.now.items in
    let done : List Bin = c.args.done.now.items in
    let k : ℕ = c.args.found.at in
    let d : Bin = c.index-other.result.now in
    let y : Bin = get_or done k d in
    let m : ℕ = c.min-times.result in
    let z : Bin = c.in_ok-both.both in
    let is : d ≡ y = c.index-other.ensures in
    let least : m ≡ min b.times y.times = c.min-times.ensures ∙ ap (λ (x : Bin). min b.times x.times) is in
    let one : c.as_slice.result.now ≡ y.counts = c.as_slice.ensures ∙ ap (λ (x : Bin). x.counts) is in
    let two : c.as_slice-2.result.now ≡ b.counts = c.as_slice-2.ensures in
    let made : IsMadeOf c.args.found.bin_type m y.counts b.counts z =
    subst (λ (x : Content). IsMadeOf c.args.found.bin_type m x b.counts z) one (subst (λ (x : Content). IsMadeOf c.args.found.bin_type m c.as_slice.result.now x z) two c.in_ok-both.ensures) in
    let step = step-with I waiting done b z k c.args.found.bin_type m d c.requires.used c.requires.packing c.requires.joined c.requires.partner least made in
    let entry : Bin = c.index_mut.result.now in
    let same : y ≡ entry = get_or_default done k d entry c.requires.partner.within ∙ sym c.index_mut.ensures.value in
    let new_waiting : (waiting ++ at_times b (b.times - m) ∷ []) ++ z ∷ [] ≡ c.push-2.new.self.items = sym (c.in_ok-push-2.ensures.items ∙ ap (λ (l : List Bin). l ++ z ∷ []) c.in_ok-push.ensures.items) in
    subst (λ (l : List Bin). IsStep I (waiting ++ b ∷ []) done l (set done k (at_times entry (entry.times - m)))) new_waiting
    (subst (λ (x : Bin). IsStep I (waiting ++ b ∷ []) done ((waiting ++ at_times b (b.times - m) ∷ []) ++ z ∷ []) (set done k (at_times x (x.times - m)))) same step)
