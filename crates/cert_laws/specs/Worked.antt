-- A certificate that is worked by hand: three units of an item, of which a bin holds two, cost 6 at least. Either no bin is
-- closed by its arc or one, and then too little is packed; or two are.
use Rattle.std.specs.Prelude.{◌≡◌, List, [], ◌∷◌, None, pos, negsuc, replicate}
use Rattle.flow_model.specs.Worked.{its_graph, three_of_one}
use Rattle.cert_text.specs.declared.lines.Prices.{Prices}
use Rattle.cert_text.specs.declared.lines.Claim.TheVariants.{Bound}
use Rattle.cert_text.specs.declared.lines.TreeLine.TheVariants.{Leaf, Split}
use Rattle.cert_text.specs.declared.lines.CertLine.{CertLine}
use Rattle.cert_text.specs.declared.lines.CertLine.TheVariants as cert
use Rattle.path_prices.specs.Worth.{worth_of}
use Rattle.cert_laws.specs.Rules.{Box, after_lines, at_start, demands_of}

-- no more than one bin, and two or three
abbrev pub few_bins : Box
few_bins = (0, 1) ∷ replicate 4 (0, 3)

abbrev pub more_bins : Box
more_bins = (2, 3) ∷ replicate 4 (0, 3)

-- a unit of the item is worth 1, and a bin -2
abbrev pub too_few : Prices
too_few = record { scale = 0; items = record { item = 1; price = 1 } ∷ []; arcs = record { arc = 1; price = negsuc 1 } ∷ [] }

-- a bin is worth 3
abbrev pub each_bin : Prices
each_bin = record { scale = 1; items = []; arcs = record { arc = 1; price = pos 3 } ∷ [] }

-- the certificate up to its split, and the whole
abbrev pub opening : List CertLine
opening = cert.Head 1 ∷ cert.Claim (Bound 6) None ∷ cert.Tree (Split 1 1) ∷ []

abbrev pub six_at_least : List CertLine
six_at_least = cert.Head 1 ∷ cert.Claim (Bound 6) None ∷ cert.Tree (Split 1 1) ∷ cert.Tree (Leaf too_few) ∷ cert.Tree (Leaf each_bin) ∷ cert.End ∷ []

pub record Examples : Type 0 where
  pub parts : (after_lines (at_start three_of_one its_graph) opening).boxes ≡ few_bins ∷ more_bins ∷ []
  pub closed : (after_lines (at_start three_of_one its_graph) six_at_least).boxes ≡ []
  pub few : worth_of (demands_of three_of_one) few_bins too_few ≡ pos 1
  pub more : worth_of (demands_of three_of_one) more_bins each_bin ≡ pos 6
