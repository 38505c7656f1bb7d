use Rattle.std.proofs.Common.{◌≡◌, length, arith}
use Rattle.weight_vec.proofs.Places.{lower-made}
use Rattle.weight_vec.proofs.weights.Weights.low.Goals as goal

pub returns : goal.returns
returns g c =
    let here : length c.args.self.now ≡ g.row.N = rw c.self.view_is at c.self.told in
    let there : length c.args.other.now ≡ g.row.N = rw c.other.view_is at c.other.told in
    lower-made c.args.self.now c.args.other.now c.loop-d.parts g.row.N here there (omega arith) (λ k lt. c.loop-d.invariant.done k (omega arith))
