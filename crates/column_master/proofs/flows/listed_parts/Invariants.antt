-- The parts so far are those of the values so far.
use Rattle.arc_num.specs.declared.TheConstants.{MAX_PRICE}
use Rattle.cert_text.specs.Lines.{IsBetween}
use Rattle.column_master.specs.inner.Listings.{AreListed, HoldsFirst}
use Rattle.column_master.proofs.flows.listed_parts.Given as goal

abbrev pub invariant-loop-index : goal.invariant-loop-index
invariant-loop-index l = record {
  listed : AreListed (λ x. x.arc) (λ x. IsBetween 1 MAX_PRICE x.value) l.index l.listed;
  holds : HoldsFirst l.index l.listed l.values;
}
