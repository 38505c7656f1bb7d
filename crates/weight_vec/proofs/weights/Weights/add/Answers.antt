use Rattle.std.proofs.Common.{◌≡◌, List, ℕ, length, get_or, arith, ap}
use Rattle.weight_vec.specs.Weight.{plus}
use Rattle.weight_vec.proofs.Places.{plus-made, get_or-plus, range-whole}
use Rattle.weight_vec.proofs.weights.Weights.add.Goals as goal

pub returns-in_err-parts : goal.returns-in_err-parts
returns-in_err-parts g c =
    let d = c.loop-d.d in
    rw c.from_residual.ensures (λ range. c.in_err-parts.ensures
    (omega (arith, range d, get_or-plus c.args.self.now c.args.other.now d, c.loop-d.invariant.rest d (omega arith), ap (λ (z : List ℕ). get_or z d 0) c.other.view_is)))

pub returns : goal.returns
returns g c =
    let here : length c.args.self.now ≡ g.row.N = rw c.self.view_is at c.self.told in
    let there : length c.args.other.now ≡ g.row.N = rw c.other.view_is at c.other.told in
    let made : c.loop-d.parts ≡ plus c.args.self.now c.args.other.now = plus-made c.args.self.now c.args.other.now c.loop-d.parts g.row.N here there (omega arith) (λ k lt. c.loop-d.invariant.done k (omega arith)) in
    (rw (← made) (range-whole c.loop-d.parts g.row.N (omega arith) (λ k lt. c.loop-d.invariant.range k (omega arith))), made)
