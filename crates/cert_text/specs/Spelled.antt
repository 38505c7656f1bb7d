-- Which lines have a spelling at a place.
use Rattle.std.specs.Prelude.{ℕ, ◌<◌, ◌^◌, All}
use Rattle.cert_text.specs.declared.lines.Prices.{Prices}
use Rattle.cert_text.specs.declared.lines.TreeLine.{TreeLine}
use Rattle.cert_text.specs.declared.lines.TreeLine.TheVariants.{Split, Needed, Leaf, Step}
use Rattle.cert_text.specs.declared.lines.CertLine.{CertLine}
use Rattle.cert_text.specs.declared.lines.CertLine.TheVariants as cert
use Rattle.cert_text.specs.Lines.{IsInPlace}

-- a number of 32 bits
abbrev pub IsNarrow : ℕ → Type 0
IsNarrow n = n < 2 ^ 32

-- the numbers of items and arcs of prices have 32 bits
abbrev pub AreNarrowPrices : Prices → Type 0
AreNarrowPrices p = All (λ x. IsNarrow x.item) p.items × All (λ x. IsNarrow x.arc) p.arcs

abbrev pub IsNarrowTree : TreeLine → Type 0
IsNarrowTree (Split arc k) = IsNarrow arc × IsNarrow k
IsNarrowTree (Needed arc k need) = IsNarrow arc × IsNarrow k × All (λ x. IsNarrow x.arc) need.parts
IsNarrowTree (Leaf prices) = AreNarrowPrices prices
IsNarrowTree (Step dim step) = Unit {0}

-- all numbers of items, arcs and splits in a line have 32 bits, as each line of a program has
abbrev pub IsNarrowLine : CertLine → Type 0
IsNarrowLine (cert.Head version) = Unit {0}
IsNarrowLine (cert.Claim claim goal) = Unit {0}
IsNarrowLine (cert.Tree line) = IsNarrowTree line
IsNarrowLine cert.End = Unit {0}

-- a line that may stand where so many lines stand before it, in a text of a version, with numbers that a field can have
pub record IsSpelled (before version : ℕ) (line : CertLine) : Type 0 where
  pub place : IsInPlace before version line
  pub narrow : IsNarrowLine line
