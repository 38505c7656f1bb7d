-- The one spelling of a line: its fields, joined by one space, and a line feed. Numbers are written without leading zeros.
use Rattle.std.specs.Prelude.{ℕ, List, [], ◌∷◌, ◌++◌, length, flat_map, Option, None, Some, codes, decimal}
use Rattle.std.specs.List.{join_with_byte}
use Rattle.arc_num.specs.Decimals.{signed_decimal}
use Rattle.cert_text.specs.declared.lines.ItemPrice.{ItemPrice}
use Rattle.cert_text.specs.declared.lines.ArcPrice.{ArcPrice}
use Rattle.cert_text.specs.declared.lines.ArcPart.{ArcPart}
use Rattle.cert_text.specs.declared.lines.Prices.{Prices}
use Rattle.cert_text.specs.declared.lines.Need.{Need}
use Rattle.cert_text.specs.declared.lines.Claim.{Claim}
use Rattle.cert_text.specs.declared.lines.Claim.TheVariants.{Bound, Empty}
use Rattle.cert_text.specs.declared.lines.TreeLine.TheVariants.{Split, Needed, Leaf, Step}
use Rattle.cert_text.specs.declared.lines.Certificate.{Certificate}
use Rattle.cert_text.specs.declared.lines.CertLine.{CertLine}
use Rattle.cert_text.specs.declared.lines.CertLine.TheVariants as cert
use Rattle.cert_text.specs.Lines.{lines_of}

abbrev pub space : ℕ
space = 32

abbrev pub line_feed : ℕ
line_feed = 10

-- pairs of a number and what it has
abbrev pub item_fields : ItemPrice → List (List ℕ)
item_fields x = decimal x.item ∷ decimal x.price ∷ []

abbrev pub arc_fields : ArcPrice → List (List ℕ)
arc_fields x = decimal x.arc ∷ signed_decimal x.price ∷ []

abbrev pub part_fields : ArcPart → List (List ℕ)
part_fields x = decimal x.arc ∷ decimal x.value ∷ []

-- the scale, and items and arcs behind their counts
abbrev pub prices_fields : Prices → List (List ℕ)
prices_fields p =
    decimal p.scale ∷ decimal (length p.items) ∷ (flat_map item_fields p.items ++ decimal (length p.arcs) ∷ flat_map arc_fields p.arcs)

-- the scale, and arcs behind their count
abbrev pub need_fields : Need → List (List ℕ)
need_fields n = decimal n.scale ∷ decimal (length n.parts) ∷ flat_map part_fields n.parts

abbrev pub goal_fields : Option ℕ → List (List ℕ)
goal_fields None = []
goal_fields (Some goal) = codes "goal" ∷ decimal goal ∷ []

abbrev pub claim_fields : Claim → Option ℕ → List (List ℕ)
claim_fields (Bound bound) goal = codes "bound" ∷ decimal bound ∷ goal_fields goal
claim_fields Empty goal = codes "empty" ∷ []

-- the first word of a line, which tells its kind, and the fields behind it
abbrev pub word_of : CertLine → List ℕ
word_of (cert.Head version) = codes "vpack-certificate"
word_of (cert.Claim claim goal) = codes "claim"
word_of (cert.Tree (Split arc k)) = codes "split"
word_of (cert.Tree (Needed arc k need)) = codes "need"
word_of (cert.Tree (Leaf prices)) = codes "leaf"
word_of (cert.Tree (Step dim step)) = codes "step"
word_of cert.End = codes "end"

abbrev pub fields_of : CertLine → List (List ℕ)
fields_of (cert.Head version) = decimal version ∷ []
fields_of (cert.Claim claim goal) = claim_fields claim goal
fields_of (cert.Tree (Split arc k)) = decimal arc ∷ decimal k ∷ []
fields_of (cert.Tree (Needed arc k need)) = decimal arc ∷ decimal k ∷ need_fields need
fields_of (cert.Tree (Leaf prices)) = prices_fields prices
fields_of (cert.Tree (Step dim step)) = decimal dim ∷ decimal step ∷ []
fields_of cert.End = []

abbrev pub line_text_of : CertLine → List ℕ
line_text_of line = join_with_byte space (word_of line ∷ fields_of line) ++ line_feed ∷ []

-- lines, one after the other
abbrev pub text_of : List CertLine → List ℕ
text_of lines = flat_map line_text_of lines

-- the text of a certificate
abbrev pub certificate_text_of : Certificate → List ℕ
certificate_text_of c = text_of (lines_of c)
