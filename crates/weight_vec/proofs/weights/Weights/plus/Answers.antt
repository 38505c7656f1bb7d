use Rattle.std.proofs.Common.{◌≡◌, List, ℕ, ap, length, get_or, arith}
use Rattle.weight_vec.proofs.Places.{plus-made, get_or-plus}
use Rattle.weight_vec.proofs.weights.Weights.plus.Goals as goal

pub returns : goal.returns
returns g c =
    let here : length c.args.self.now ≡ g.row.N = rw c.self.view_is at c.self.told in
    let there : length c.args.other.now ≡ g.row.N = rw c.other.view_is at c.other.told in
    plus-made c.args.self.now c.args.other.now c.loop-d.parts g.row.N here there (omega arith) (λ k lt. c.loop-d.invariant.done k (omega arith))

pub overflow_add-parts : goal.overflow_add-parts
overflow_add-parts g c =
    let d = c.loop-d.d in
    omega (arith, c.requires d, get_or-plus c.args.self.now c.args.other.now d, c.loop-d.invariant.rest d (omega arith), ap (λ (z : List ℕ). get_or z d 0) c.other.view_is)
