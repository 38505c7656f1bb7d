-- The arcs so far.
use Rattle.std.specs.Prelude.{unsigned_abs}
use Rattle.arc_num.specs.declared.TheConstants.{MAX_PRICE}
use Rattle.cert_text.specs.Lines.{IsBetween}
use Rattle.column_master.specs.inner.Listings.{AreListed}
use Rattle.column_master.proofs.prices.listed_arcs.Given as goal

abbrev pub invariant-loop-index : goal.invariant-loop-index
invariant-loop-index l = AreListed (λ x. x.arc) (λ x. IsBetween 1 MAX_PRICE (unsigned_abs x.price)) l.index l.listed
