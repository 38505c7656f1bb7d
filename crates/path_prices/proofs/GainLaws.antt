-- Each type has a gain, which bounds what its bins gain.
use Rattle.std.proofs.Common.{◌+◌, ℤ, ◌≤ℤ◌, refl, subst, ⊎_elim, arith}
use Rattle.std.proofs.lemmas.Int.{ints}
use Rattle.flow_graph.specs.Arcs.{flow_type, first_arc}
use Rattle.path_prices.specs.Gains.{bin_price, whole_price}
use Rattle.path_prices.specs.Laws.{GainsAreKnown}
use Rattle.path_prices.proofs.Leading.{dearest}
use Rattle.path_prices.proofs.NumberedWays.{leads-path, path-leads, some-path}

pub gains-known : GainsAreKnown
gains-known = record {
  types = λ g p t is among.
      let some = some-path g t is among in
      ⊎_elim
      (λ none. absurd (none some.0 (leads-path g t is among some.0 some.1)))
      (λ best. record {
        gain = bin_price g p t best.numbers;
        is = record {
          path = best.numbers;
          leads = path-leads g t is among best.numbers best.leads;
          price = refl;
          greatest = λ numbers path. let most = best.most numbers (leads-path g t is among numbers path) in omega (arith, ints, most);
        };
      })
      (dearest (whole_price g p) (flow_type g t).arcs (first_arc g t + 1) 1 (flow_type g t).nodes);
  most = λ g p t x z is. (
    (λ most. subst (λ (y : ℤ). y ≤ℤ z) is.price (most is.path is.leads)),
    (λ low numbers path. let most = is.greatest numbers path in omega (arith, ints, most, low)),
  );
}
