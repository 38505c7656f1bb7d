-- Flows as signed numbers.
use Rattle.std.proofs.Common.{◌≡◌, ℕ, ◌*◌, Bool, true, false, cond, List, [], ◌∷◌, map, refl, ap, ◌∙◌, sym, arith, ℤ, pos, ◌+ℤ◌, ◌*ℤ◌}
use Rattle.std.proofs.lemmas.Int.{ints}
use Rattle.flow_graph.specs.declared.parts.ArcKind.{ArcKind}
use Rattle.flow_graph.specs.Arcs.{TypeValue, numbered}
use Rattle.flow_graph.specs.Balance.{AreBalanced, weigh_signed}
use Rattle.flow_graph.specs.Ends.{comes_in, goes_out}
use Rattle.flow_graph.proofs.SignedProducts.{one_mul}
use Rattle.flow_graph.proofs.SignedSums.{unit_if}
use Rattle.flow_model.specs.Flows.{AreConserved, weigh_arcs}
use Rattle.flow_model.specs.Prices.{ConservedIsBalanced}
use Rattle.flow_model.proofs.Ways.{one_if}

unit_product : (b : Bool) (x : ℕ) → cond b (pos 1) (pos 0) *ℤ pos x ≡ pos (cond b 1 0 * x)
unit_product true x = one_mul (pos x) ∙ omega (arith, ints)
unit_product false x = refl

signed_sum : (test : ArcKind → Bool) (kinds : List ArcKind) (values : List ℕ) → weigh_signed (unit_if test) kinds (map pos values) ≡ pos (weigh_arcs (one_if test) kinds values)
signed_sum test [] values = refl
signed_sum test (kind ∷ kinds) [] = refl
signed_sum test (kind ∷ kinds) (x ∷ values) =
    let rest = signed_sum test kinds values in
    let first = unit_product (test kind) x in
    omega (arith, ints, rest, first)

pub conserved_is_balanced : ConservedIsBalanced
conserved_is_balanced = record {
  signed = λ g values conserved t v type node.
      signed_sum (comes_in t v) (numbered g) values ∙ ap pos (conserved t v type node) ∙ sym (signed_sum (goes_out g t v) (numbered g) values);
  whole = λ g values balanced t v type node.
      let into = signed_sum (comes_in t v) (numbered g) values in
      let from = signed_sum (goes_out g t v) (numbered g) values in
      let same = balanced t v type node in
      omega (arith, ints, into, from, same);
}
