-- The parts of lines: what is found is what stands there, and what stands there is found.
use Rattle.std.proofs.Common.{◌≡◌, ℕ, ◌+◌, ◌≤◌, List, ◌∷◌, ◌++◌, length, Some, refl, sym, ap, subst, ◌∙◌, arith, append_assoc}
use Rattle.std.specs.Prelude.{flat_map, All, decimal}
use Rattle.std.proofs.lemmas.Option.{some_pair_parts}
use Rattle.arc_num.specs.Decimals.{signed_decimal}
use Rattle.arc_num.specs.declared.TheConstants.{MAX_ITEMS, MAX_NUMBERED, MAX_PRICE}
use Rattle.cert_text.specs.declared.lines.ItemPrice.{ItemPrice}
use Rattle.cert_text.specs.declared.lines.ArcPrice.{ArcPrice}
use Rattle.cert_text.specs.declared.lines.ArcPart.{ArcPart}
use Rattle.cert_text.specs.declared.lines.Prices.{Prices}
use Rattle.cert_text.specs.declared.lines.Need.{Need}
use Rattle.cert_text.specs.Lines.{IsBetween, ArePrices, IsNeed}
use Rattle.cert_text.specs.Spelling.{item_fields, arc_fields, part_fields, prices_fields, need_fields}
use Rattle.cert_text.specs.Spelled.{AreNarrowPrices, IsNarrow}
use Rattle.cert_text.specs.inner.Fields.{◌>>=◌, widest, number_at, signed_at, item_at, arc_at, part_at, items_at, arcs_at, parts_at, prices_at, need_at}
use Rattle.cert_text.proofs.Numerals.{IsSigned}
use Rattle.cert_text.proofs.Places.{bind_some, number_takes, number_again, signed_place_takes, signed_place_again}
use Rattle.cert_text.proofs.Ascending.{IsRow, ReadsPair, pairs_take, pairs_again}

abbrev IsPriced : ItemPrice → Type 0
IsPriced x = IsBetween 1 MAX_PRICE x.price

abbrev IsWorth : ArcPrice → Type 0
IsWorth x = IsSigned x.price

abbrev IsPart : ArcPart → Type 0
IsPart x = IsBetween 1 MAX_PRICE x.value

-- ---- pairs

pub item_reads : ReadsPair item_at (λ x. x.item) item_fields IsPriced
unfolding item_at
item_reads = record {
  takes = λ last fields x left e.
      let a = bind_some (number_at (last + 1) widest fields) (λ item. number_at 1 MAX_PRICE item.1 >>= λ price. Some (record { item = item.0; price = price.0 }, price.1)) (x, left) e in
      let b = bind_some (number_at 1 MAX_PRICE a.0.1) (λ price. Some (record { item = a.0.0; price = price.0 }, price.1)) (x, left) a.2 in
      let t = number_takes (last + 1) widest fields a.0.0 a.0.1 a.1 in
      let u = number_takes 1 MAX_PRICE a.0.1 b.0.0 b.0.1 b.1 in
      let made : ItemPrice = record { item = a.0.0; price = b.0.0 } in
      let parts = some_pair_parts made x b.0.1 left b.2 in
      let text : fields ≡ item_fields made ++ left = t.0 ∙ ap (λ w. decimal a.0.0 ∷ w) (u.0 ∙ ap (λ w. decimal b.0.0 ∷ w) parts.1) in
      subst (λ y. (fields ≡ item_fields y ++ left) × IsBetween (last + 1) widest y.item × IsPriced y) parts.0 (text, t.1, u.1);
  again = λ last x left number value.
      rw (number_again (last + 1) widest x.item (decimal x.price ∷ left) number (omega arith), number_again 1 MAX_PRICE x.price left value (omega arith)) refl;
}

pub arc_reads : ReadsPair arc_at (λ x. x.arc) arc_fields IsWorth
unfolding arc_at
arc_reads = record {
  takes = λ last fields x left e.
      let a = bind_some (number_at (last + 1) widest fields) (λ arc. signed_at arc.1 >>= λ price. Some (record { arc = arc.0; price = price.0 }, price.1)) (x, left) e in
      let b = bind_some (signed_at a.0.1) (λ price. Some (record { arc = a.0.0; price = price.0 }, price.1)) (x, left) a.2 in
      let t = number_takes (last + 1) widest fields a.0.0 a.0.1 a.1 in
      let u = signed_place_takes a.0.1 b.0.0 b.0.1 b.1 in
      let made : ArcPrice = record { arc = a.0.0; price = b.0.0 } in
      let parts = some_pair_parts made x b.0.1 left b.2 in
      let text : fields ≡ arc_fields made ++ left = t.0 ∙ ap (λ w. decimal a.0.0 ∷ w) (u.0 ∙ ap (λ w. signed_decimal b.0.0 ∷ w) parts.1) in
      subst (λ y. (fields ≡ arc_fields y ++ left) × IsBetween (last + 1) widest y.arc × IsWorth y) parts.0 (text, t.1, u.1);
  again = λ last x left number value.
      rw (number_again (last + 1) widest x.arc (signed_decimal x.price ∷ left) number (omega arith), signed_place_again x.price left value) refl;
}

pub part_reads : ReadsPair part_at (λ x. x.arc) part_fields IsPart
unfolding part_at
part_reads = record {
  takes = λ last fields x left e.
      let a = bind_some (number_at (last + 1) widest fields) (λ arc. number_at 1 MAX_PRICE arc.1 >>= λ value. Some (record { arc = arc.0; value = value.0 }, value.1)) (x, left) e in
      let b = bind_some (number_at 1 MAX_PRICE a.0.1) (λ value. Some (record { arc = a.0.0; value = value.0 }, value.1)) (x, left) a.2 in
      let t = number_takes (last + 1) widest fields a.0.0 a.0.1 a.1 in
      let u = number_takes 1 MAX_PRICE a.0.1 b.0.0 b.0.1 b.1 in
      let made : ArcPart = record { arc = a.0.0; value = b.0.0 } in
      let parts = some_pair_parts made x b.0.1 left b.2 in
      let text : fields ≡ part_fields made ++ left = t.0 ∙ ap (λ w. decimal a.0.0 ∷ w) (u.0 ∙ ap (λ w. decimal b.0.0 ∷ w) parts.1) in
      subst (λ y. (fields ≡ part_fields y ++ left) × IsBetween (last + 1) widest y.arc × IsPart y) parts.0 (text, t.1, u.1);
  again = λ last x left number value.
      rw (number_again (last + 1) widest x.arc (decimal x.value ∷ left) number (omega arith), number_again 1 MAX_PRICE x.value left value (omega arith)) refl;
}

-- ---- prices and needs

pub prices_take : (fields : List (List ℕ)) (p : Prices) (left : List (List ℕ)) → prices_at fields ≡ Some (p, left) → (fields ≡ prices_fields p ++ left) × ArePrices p × AreNarrowPrices p
unfolding prices_at
prices_take fields p left e =
    let a = bind_some (number_at 0 MAX_PRICE fields) (λ scale. number_at 0 MAX_ITEMS scale.1 >>= λ item_count. items_at item_count.0 0 item_count.1 >>= λ items. number_at 0 MAX_NUMBERED items.1 >>= λ arc_count. arcs_at arc_count.0 0 arc_count.1 >>= λ arcs. Some (record { scale = scale.0; items = items.0; arcs = arcs.0 }, arcs.1)) (p, left) e in
    let b = bind_some (number_at 0 MAX_ITEMS a.0.1) (λ item_count. items_at item_count.0 0 item_count.1 >>= λ items. number_at 0 MAX_NUMBERED items.1 >>= λ arc_count. arcs_at arc_count.0 0 arc_count.1 >>= λ arcs. Some (record { scale = a.0.0; items = items.0; arcs = arcs.0 }, arcs.1)) (p, left) a.2 in
    let c = bind_some (items_at b.0.0 0 b.0.1) (λ items. number_at 0 MAX_NUMBERED items.1 >>= λ arc_count. arcs_at arc_count.0 0 arc_count.1 >>= λ arcs. Some (record { scale = a.0.0; items = items.0; arcs = arcs.0 }, arcs.1)) (p, left) b.2 in
    let d = bind_some (number_at 0 MAX_NUMBERED c.0.1) (λ arc_count. arcs_at arc_count.0 0 arc_count.1 >>= λ arcs. Some (record { scale = a.0.0; items = c.0.0; arcs = arcs.0 }, arcs.1)) (p, left) c.2 in
    let f = bind_some (arcs_at d.0.0 0 d.0.1) (λ arcs. Some (record { scale = a.0.0; items = c.0.0; arcs = arcs.0 }, arcs.1)) (p, left) d.2 in
    let made : Prices = record { scale = a.0.0; items = c.0.0; arcs = f.0.0 } in
    let parts = some_pair_parts made p f.0.1 left f.2 in
    let t = number_takes 0 MAX_PRICE fields a.0.0 a.0.1 a.1 in
    let u = number_takes 0 MAX_ITEMS a.0.1 b.0.0 b.0.1 b.1 in
    let v = pairs_take item_reads b.0.0 0 b.0.1 c.0.0 c.0.1 c.1 in
    let w = number_takes 0 MAX_NUMBERED c.0.1 d.0.0 d.0.1 d.1 in
    let x = pairs_take arc_reads d.0.0 0 d.0.1 f.0.0 f.0.1 f.1 in
    subst (λ q. (fields ≡ prices_fields q ++ left) × ArePrices q × AreNarrowPrices q) parts.0 (
      made_text a.0.0 c.0.0 f.0.0 b.0.0 d.0.0 fields a.0.1 b.0.1 c.0.1 d.0.1 left t.0 u.0 v.text w.0 (x.text ∙ ap (λ r. flat_map arc_fields f.0.0 ++ r) parts.1) v.count_is x.count_is,
      made_prices a.0.0 c.0.0 f.0.0 t.1 (omega (arith, v.count_is, u.1)) (omega (arith, x.count_is, w.1)) v.row x.row,
      (v.row.small, x.row.small),
    )
  where
    made_text : (scale : ℕ) (items : List ItemPrice) (arcs : List ArcPrice) (m n : ℕ) (f0 f1 f2 f3 f4 left : List (List ℕ)) → f0 ≡ decimal scale ∷ f1 → f1 ≡ decimal m ∷ f2 → f2 ≡ flat_map item_fields items ++ f3 → f3 ≡ decimal n ∷ f4 → f4 ≡ flat_map arc_fields arcs ++ left → length items ≡ m → length arcs ≡ n
        → f0 ≡ prices_fields (record { scale = scale; items = items; arcs = arcs }) ++ left
    made_text scale items arcs m n f0 f1 f2 f3 f4 left e0 e1 e2 e3 e4 cm cn =
        e0 ∙ ap (λ w. decimal scale ∷ w) (e1 ∙ ap (λ k. decimal k ∷ f2) (sym cm) ∙ ap (λ w. decimal (length items) ∷ w) (e2 ∙ ap (λ w. flat_map item_fields items ++ w) (e3 ∙ ap (λ k. decimal k ∷ f4) (sym cn) ∙ ap (λ w. decimal (length arcs) ∷ w) e4) ∙ sym (append_assoc (flat_map item_fields items) (decimal (length arcs) ∷ flat_map arc_fields arcs) left)))

    made_prices : (scale : ℕ) (items : List ItemPrice) (arcs : List ArcPrice) → IsBetween 0 MAX_PRICE scale → length items ≤ MAX_ITEMS → length arcs ≤ MAX_NUMBERED → IsRow (λ x. x.item) IsPriced 0 items → IsRow (λ x. x.arc) IsWorth 0 arcs → ArePrices (record { scale = scale; items = items; arcs = arcs })
    made_prices scale items arcs range m n irow arow = record {
      scale = range.1;
      item_count = m;
      item_order = irow.order;
      items = λ k d within. (omega (arith, irow.above k d within), irow.values k d within);
      arc_count = n;
      arc_order = arow.order;
      arcs = λ k d within. (omega (arith, arow.above k d within), arow.values k d within);
    }

pub prices_again : (p : Prices) (left : List (List ℕ)) → ArePrices p → AreNarrowPrices p → prices_at (prices_fields p ++ left) ≡ Some (p, left)
unfolding prices_at
prices_again p left good narrow =
    let items_row : IsRow (λ x. x.item) IsPriced 0 p.items = record { above = λ k d within. omega (arith, (good.items k d within).0); order = good.item_order; small = narrow.0; values = λ k d within. (good.items k d within).1 } in
    let arcs_row : IsRow (λ x. x.arc) IsWorth 0 p.arcs = record { above = λ k d within. omega (arith, (good.arcs k d within).0); order = good.arc_order; small = narrow.1; values = λ k d within. (good.arcs k d within).1 } in
    let behind : List (List ℕ) = decimal (length p.arcs) ∷ (flat_map arc_fields p.arcs ++ left) in
    let text : prices_fields p ++ left ≡ decimal p.scale ∷ decimal (length p.items) ∷ (flat_map item_fields p.items ++ behind) = ap (λ w. decimal p.scale ∷ decimal (length p.items) ∷ w) (append_assoc (flat_map item_fields p.items) (decimal (length p.arcs) ∷ flat_map arc_fields p.arcs) left) in
    ap prices_at text ∙ rw (
      number_again 0 MAX_PRICE p.scale (decimal (length p.items) ∷ (flat_map item_fields p.items ++ behind)) (omega arith, good.scale) (omega arith),
      number_again 0 MAX_ITEMS (length p.items) (flat_map item_fields p.items ++ behind) (omega arith, good.item_count) (omega arith),
      pairs_again item_reads p.items 0 behind items_row,
      number_again 0 MAX_NUMBERED (length p.arcs) (flat_map arc_fields p.arcs ++ left) (omega arith, good.arc_count) (omega arith),
      pairs_again arc_reads p.arcs 0 left arcs_row,
    ) refl

pub need_takes : (fields : List (List ℕ)) (n : Need) (left : List (List ℕ)) → need_at fields ≡ Some (n, left) → (fields ≡ need_fields n ++ left) × IsNeed n × All (λ x. IsNarrow x.arc) n.parts
unfolding need_at
need_takes fields n left e =
    let a = bind_some (number_at 1 MAX_PRICE fields) (λ scale. number_at 0 MAX_NUMBERED scale.1 >>= λ count. parts_at count.0 0 count.1 >>= λ parts. Some (record { scale = scale.0; parts = parts.0 }, parts.1)) (n, left) e in
    let b = bind_some (number_at 0 MAX_NUMBERED a.0.1) (λ count. parts_at count.0 0 count.1 >>= λ parts. Some (record { scale = a.0.0; parts = parts.0 }, parts.1)) (n, left) a.2 in
    let c = bind_some (parts_at b.0.0 0 b.0.1) (λ parts. Some (record { scale = a.0.0; parts = parts.0 }, parts.1)) (n, left) b.2 in
    let made : Need = record { scale = a.0.0; parts = c.0.0 } in
    let halves = some_pair_parts made n c.0.1 left c.2 in
    let t = number_takes 1 MAX_PRICE fields a.0.0 a.0.1 a.1 in
    let u = number_takes 0 MAX_NUMBERED a.0.1 b.0.0 b.0.1 b.1 in
    let v = pairs_take part_reads b.0.0 0 b.0.1 c.0.0 c.0.1 c.1 in
    let row = v.row in
    subst (λ q. (fields ≡ need_fields q ++ left) × IsNeed q × All (λ x. IsNarrow x.arc) q.parts) halves.0 (
      t.0 ∙ ap (λ w. decimal a.0.0 ∷ w) (u.0 ∙ ap (λ k. decimal k ∷ b.0.1) (sym v.count_is) ∙ ap (λ w. decimal (length c.0.0) ∷ w) (v.text ∙ ap (λ w. flat_map part_fields c.0.0 ++ w) halves.1)),
      record { scale = t.1; count = omega (arith, v.count_is, u.1); order = row.order; parts = λ k d within. (omega (arith, row.above k d within), row.values k d within) },
      row.small,
    )

pub need_again : (n : Need) (left : List (List ℕ)) → IsNeed n → All (λ x. IsNarrow x.arc) n.parts → need_at (need_fields n ++ left) ≡ Some (n, left)
unfolding need_at
need_again n left good narrow =
    let row : IsRow (λ x. x.arc) IsPart 0 n.parts = record { above = λ k d within. omega (arith, (good.parts k d within).0); order = good.order; small = narrow; values = λ k d within. (good.parts k d within).1 } in
    rw (
      number_again 1 MAX_PRICE n.scale (decimal (length n.parts) ∷ (flat_map part_fields n.parts ++ left)) good.scale (omega arith),
      number_again 0 MAX_NUMBERED (length n.parts) (flat_map part_fields n.parts ++ left) (omega arith, good.count) (omega arith),
      pairs_again part_reads n.parts 0 left row,
    ) refl
