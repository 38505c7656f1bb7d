-- Which lines a certificate may have, and at which place.
use Rattle.std.specs.Prelude.{◌≡◌, ◌⊎◌, ℕ, suc, zero, ◌+◌, ◌^◌, ◌≤◌, ◌<◌, ℤ, pos, unsigned_abs, List, [], ◌∷◌, ◌++◌, All, AllPairs, length, map, Option, None, Some}
use Rattle.arc_num.specs.declared.TheConstants.{MAX_DIMS, MAX_ITEMS, MAX_NUMBERED, MAX_PRICE, MAX_VALUE}
use Rattle.cert_text.specs.declared.lines.ItemPrice.{ItemPrice}
use Rattle.cert_text.specs.declared.lines.ArcPrice.{ArcPrice}
use Rattle.cert_text.specs.declared.lines.ArcPart.{ArcPart}
use Rattle.cert_text.specs.declared.lines.Prices.{Prices}
use Rattle.cert_text.specs.declared.lines.Need.{Need}
use Rattle.cert_text.specs.declared.lines.Claim.{Claim}
use Rattle.cert_text.specs.declared.lines.Claim.TheVariants.{Bound, Empty}
use Rattle.cert_text.specs.declared.lines.TreeLine.{TreeLine}
use Rattle.cert_text.specs.declared.lines.TreeLine.TheVariants.{Split, Needed, Leaf, Step}
use Rattle.cert_text.specs.declared.lines.Certificate.{Certificate}
use Rattle.cert_text.specs.declared.lines.CertLine.{CertLine}
use Rattle.cert_text.specs.declared.lines.CertLine.TheVariants as cert

-- a number from one to another
abbrev pub IsBetween : ℕ → ℕ → ℕ → Type 0
IsBetween least most x = (least ≤ x) × (x ≤ most)

-- prices that a line can tell: items and arcs strictly ascending, no price of 0, all within 2^62
pub record ArePrices (p : Prices) : Type 0 where
  pub scale : p.scale ≤ MAX_PRICE
  pub item_count : length p.items ≤ MAX_ITEMS
  pub item_order : AllPairs (λ x y. x.item < y.item) p.items
  pub items : All (λ x. (1 ≤ x.item) × IsBetween 1 MAX_PRICE x.price) p.items
  pub arc_count : length p.arcs ≤ MAX_NUMBERED
  pub arc_order : AllPairs (λ x y. x.arc < y.arc) p.arcs
  pub arcs : All (λ x. (1 ≤ x.arc) × IsBetween 1 MAX_PRICE (unsigned_abs x.price)) p.arcs

-- a need that a line can tell: arcs strictly ascending, and no part of 0
pub record IsNeed (n : Need) : Type 0 where
  pub scale : IsBetween 1 MAX_PRICE n.scale
  pub count : length n.parts ≤ MAX_NUMBERED
  pub order : AllPairs (λ x y. x.arc < y.arc) n.parts
  pub parts : All (λ x. (1 ≤ x.arc) × IsBetween 1 MAX_PRICE x.value) n.parts

-- a goal of a claim in a version: none in version 1 and for an empty claim; else the bound or one more
abbrev pub IsGoal : ℕ → Claim → Option ℕ → Type 0
IsGoal version Empty goal = goal ≡ None
IsGoal version (Bound bound) None = version ≡ 1
IsGoal version (Bound bound) (Some goal) = (2 ≤ version) × ((goal ≡ bound) ⊎ (goal ≡ bound + 1))

-- a claim within 2^62
abbrev pub IsClaim : Claim → Type 0
IsClaim Empty = Unit {0}
IsClaim (Bound bound) = bound ≤ MAX_PRICE

-- a place of the tree that a version can tell: needs from version 2 on, steps from version 3 on
abbrev pub IsTreeLine : ℕ → TreeLine → Type 0
IsTreeLine version (Split arc k) = 1 ≤ arc
IsTreeLine version (Needed arc k need) = (2 ≤ version) × (1 ≤ arc) × IsNeed need
IsTreeLine version (Leaf prices) = ArePrices prices
IsTreeLine version (Step dim step) = (3 ≤ version) × IsBetween 1 MAX_DIMS dim × (step ≤ MAX_VALUE)

-- a line that may stand where so many lines stand before it, in a text of a version: first the head, then the claim, and
-- then places of the tree or the end
abbrev pub IsInPlace : ℕ → ℕ → CertLine → Type 0
IsInPlace before version (cert.Head number) = (before ≡ 0) × IsBetween 1 3 number
IsInPlace before version (cert.Claim claim goal) = (before ≡ 1) × IsClaim claim × IsGoal version claim goal
IsInPlace before version (cert.Tree line) = (2 ≤ before) × IsTreeLine version line
IsInPlace before version cert.End = 2 ≤ before

-- the lines of a certificate
abbrev pub lines_of : Certificate → List CertLine
lines_of c = cert.Head c.version ∷ cert.Claim c.claim c.goal ∷ (map (λ l. cert.Tree l) c.lines ++ cert.End ∷ [])
