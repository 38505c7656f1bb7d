-- What is put in fits, is left and keeps the cap.
use Rattle.std.proofs.Common.{◌≡◌, ◌*◌, ◌≤◌, ℕ, arith, ap, slice_index, ◌∙◌}
use Rattle.std.proofs.Math.Nat.{mul-le-mul_right}
use Rattle.packing_laws.specs.Packings.{Content, count_of_item}
use Rattle.first_fit.specs.inner.Fillings.{IsMostOf}
use Rattle.first_fit.proofs.FilledBins.{filled}
use Rattle.first_fit.proofs.filling.add.Goals as goal

pub returns-in_ok-put : goal.returns-in_ok-put
returns-in_ok-put c =
    let item : ℕ = c.args.piece.now.item in
    let counts : Content = c.args.bin.now.counts.items in
    let held : c.held.result ≡ count_of_item item counts = c.held.ensures ∙ ap (count_of_item item) c.as_slice-then-fitting-gt0.ensures in
    let allowed : IsMostOf c.args.instance.now c.args.rest.now item c.most_of.result = c.most_of.ensures in
    let within : count_of_item item counts ≤ c.most_of.result = allowed.greatest counts c.requires.before.within c.requires.before.caps in
    filled c.args.instance.now c.args.rest.now c.args.bin.now c.args.piece.now c.weights_of-weights.result.now c.min.result c.put.new.bin c.requires.piece c.weights_of-weights.ensures.value c.weights_of-weights.ensures.dims c.most_of.result allowed (omega (arith, held, within, c.min.ensures)) c.requires.before c.in_ok-put.ensures

pub overflow_sub-free : goal.overflow_sub-free
overflow_sub-free c =
    let item : ℕ = c.args.piece.now.item in
    let counts : Content = c.args.bin.now.counts.items in
    let held : c.held.result ≡ count_of_item item counts = c.held.ensures ∙ ap (count_of_item item) c.as_slice-then-fitting-gt0.ensures in
    let within : count_of_item item counts ≤ c.most_of.result = c.most_of.ensures.greatest counts c.requires.before.within c.requires.before.caps in
    omega (arith, held, within)

pub put-requires-clause-room : goal.put-requires-clause-room
put-requires-clause-room c d within =
    let weight : ℕ = slice_index c.weights_of-weights.result.now d in
    let fits : c.copies_within.result * weight ≤ slice_index c.as_slice.result.now d = c.copies_within.ensures d within in
    let room : slice_index c.as_slice.result.now d ≡ slice_index c.args.bin.now.room.items d = ap (λ v. slice_index v d) c.as_slice.ensures in
    let less : c.min.result ≤ c.copies_within.result = omega (arith, c.min.ensures, c.min-fitting.ensures) in
    let scaled : c.min.result * weight ≤ c.copies_within.result * weight = mul-le-mul_right weight less in
    omega (arith, fits, room, scaled)
