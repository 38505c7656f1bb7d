-- How lines are written: each field behind a space.
use Rattle.std.specs.Prelude.{ℕ, List, ◌∷◌, ◌++◌, length, flat_map, decimal}
use Rattle.arc_num.specs.Decimals.{signed_decimal}
use Rattle.cert_text.specs.declared.lines.ItemPrice.{ItemPrice}
use Rattle.cert_text.specs.declared.lines.ArcPrice.{ArcPrice}
use Rattle.cert_text.specs.declared.lines.ArcPart.{ArcPart}
use Rattle.cert_text.specs.declared.lines.Prices.{Prices}
use Rattle.cert_text.specs.declared.lines.Need.{Need}

abbrev pub spaced : List (List ℕ) → List ℕ
spaced fields = flat_map (λ f. 32 ∷ f) fields

abbrev pub item_text : ItemPrice → List ℕ
item_text x = (32 ∷ decimal x.item) ++ (32 ∷ decimal x.price)

abbrev pub arc_text : ArcPrice → List ℕ
arc_text x = (32 ∷ decimal x.arc) ++ (32 ∷ signed_decimal x.price)

abbrev pub part_text : ArcPart → List ℕ
part_text x = (32 ∷ decimal x.arc) ++ (32 ∷ decimal x.value)

abbrev pub items_text : List ItemPrice → List ℕ
items_text xs = (32 ∷ decimal (length xs)) ++ flat_map item_text xs

abbrev pub arcs_text : List ArcPrice → List ℕ
arcs_text xs = (32 ∷ decimal (length xs)) ++ flat_map arc_text xs

abbrev pub need_text : Need → List ℕ
need_text n = (32 ∷ decimal n.scale) ++ ((32 ∷ decimal (length n.parts)) ++ flat_map part_text n.parts)

abbrev pub prices_text : Prices → List ℕ
prices_text p = (32 ∷ decimal p.scale) ++ (items_text p.items ++ arcs_text p.arcs)
