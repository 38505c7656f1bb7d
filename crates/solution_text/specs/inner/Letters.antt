-- The letter that the name of an arc's column begins with.
use Rattle.std.specs.Prelude.{ℕ}
use Rattle.flow_graph.specs.declared.parts.ArcKind.{ArcKind}
use Rattle.flow_graph.specs.declared.parts.ArcKind.TheVariants.{Bin, Loss, Piece}

abbrev pub letter_of : ArcKind → ℕ
letter_of (Bin t) = 90
letter_of (Loss t tail head) = 70
letter_of (Piece t tail head item form) = 70
