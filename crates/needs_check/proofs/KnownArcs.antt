-- What the arcs of a known graph carry.
use Rattle.std.proofs.Common.{ℕ, List, All}
use Rattle.std.proofs.lemmas.List.Elements.{All-weaker}
use Rattle.flow_graph.specs.declared.parts.ArcKind.{ArcKind}
use Rattle.flow_graph.specs.declared.parts.ArcKind.TheVariants.{Bin, Loss, Piece}
use Rattle.flow_graph.specs.Arcs.{TypeValue, numbered}
use Rattle.flow_model.specs.inner.Known.{IsArcOf}
use Rattle.needs_check.specs.inner.Laid.{CarriesAmong}

carries_among : (n : ℕ) (g : List TypeValue) (kind : ArcKind) → IsArcOf n g kind → CarriesAmong n kind
carries_among n g (Bin t) own = tt
carries_among n g (Loss t tail head) own = tt
carries_among n g (Piece t tail head item form) own = own.1

pub carried_among : (n : ℕ) (g : List TypeValue) → All (IsArcOf n g) (numbered g) → All (CarriesAmong n) (numbered g)
carried_among n g arcs = All-weaker (IsArcOf n g) (CarriesAmong n) (carries_among n g) (numbered g) arcs
