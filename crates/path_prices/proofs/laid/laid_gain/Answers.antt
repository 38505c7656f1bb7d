use Rattle.std.proofs.Common.{◌≡◌, ◌≤◌, ℤ, pos, ◌+ℤ◌, to_z, of_z, SFits, get_or, sym, ap, subst, ◌∙◌}
use Rattle.std.specs.Prelude.{unsigned_abs}
use Rattle.std.specs.Int.{w128}
use Rattle.std.proofs.lemmas.Int.{to_z-of_z}
use Rattle.arc_num.specs.declared.TheConstants.{MAX_PRICE}
use Rattle.flow_graph.specs.Arcs.{first_arc}
use Rattle.path_prices.specs.Gains.{IsGain, whole_price}
use Rattle.path_prices.proofs.TypeGains.{gain-is, bin-price-is, bin-small, sum-handed}
use Rattle.path_prices.proofs.laid.laid_gain.Goals as goal

pub returns : goal.returns
returns c = λ p are laid.
    let g = c.args.graph.now in
    let bin : c.bin_arc_price.result ≡ whole_price g p (first_arc g c.args.t) = c.bin_arc_price.ensures ∙ bin-price-is g c.args.t c.known.ensures c.requires.of_type p are c.args.items.now c.args.arcs.now c.requires.room.arcs laid in
    let small : unsigned_abs c.bin_arc_price.result ≤ MAX_PRICE = subst (λ (z : ℤ). unsigned_abs z ≤ MAX_PRICE) (sym c.bin_arc_price.ensures) (bin-small g c.args.t c.requires.of_type c.args.arcs.now c.requires.room.arcs c.requires.small.small_arcs) in
    let sum : c.sum.result ≡ c.bin_arc_price.result +ℤ get_or c.find_values.new.values 1 (pos 0) = c.sum.ensures ∙ sum-handed c.bin_arc_price.result (get_or c.find_values.new.values 1 (pos 0)) small (c.find_values.ensures.within 1) in
    let fits : SFits w128 c.sum.result = record { sfits = c.sum.type_inv } in
    let value : to_z w128 (of_z w128 c.sum.result) ≡ whole_price g p (first_arc g c.args.t) +ℤ get_or c.find_values.new.values 1 (pos 0) = to_z-of_z w128 c.sum.result fits ∙ sum ∙ ap (λ z. z +ℤ get_or c.find_values.new.values 1 (pos 0)) bin in
    subst (IsGain g p c.args.t) (sym value) (gain-is g c.args.t c.known.ensures c.requires.of_type p are c.find_values.new.values c.find_values.ensures.source (c.find_values.ensures.best p are laid))
