-- What is written, piece by piece, is the text of a line.
use Rattle.std.proofs.Common.{◌≡◌, ℕ, List, [], ◌∷◌, ◌++◌, length, refl, sym, ap, ◌∙◌, append_assoc}
use Rattle.std.specs.Prelude.{codes, decimal, flat_map, map}
use Rattle.std.specs.List.{join_with_byte}
use Rattle.std.proofs.lemmas.List.{append-nil}
use Rattle.std.proofs.lemmas.List.Concat.{flat_map-cons, flat_map-append}
use Rattle.arc_num.specs.Decimals.{signed_decimal}
use Rattle.cert_text.specs.declared.lines.ItemPrice.{ItemPrice}
use Rattle.cert_text.specs.declared.lines.ArcPrice.{ArcPrice}
use Rattle.cert_text.specs.declared.lines.ArcPart.{ArcPart}
use Rattle.cert_text.specs.declared.lines.Prices.{Prices}
use Rattle.cert_text.specs.declared.lines.Need.{Need}
use Rattle.cert_text.specs.declared.lines.TreeLine.{TreeLine}
use Rattle.cert_text.specs.declared.lines.TreeLine.TheVariants.{Needed, Leaf}
use Rattle.cert_text.specs.declared.lines.Certificate.{Certificate}
use Rattle.cert_text.specs.declared.lines.CertLine.{CertLine}
use Rattle.cert_text.specs.declared.lines.CertLine.TheVariants as cert
use Rattle.cert_text.specs.Spelling.{item_fields, arc_fields, part_fields, need_fields, prices_fields, line_text_of, text_of, certificate_text_of}
use Rattle.cert_text.specs.inner.Written.{spaced, item_text, arc_text, part_text, arcs_text, need_text, prices_text}

pub three : (o a b c w x y : List ℕ) → a ≡ o ++ w → b ≡ a ++ x → c ≡ b ++ y → c ≡ o ++ (w ++ (x ++ y))
three o a b c w x y e f g = g ∙ ap (λ t. t ++ y) (f ∙ ap (λ t. t ++ x) e) ∙ simp append_assoc

pub four : (o a b c d w x y z : List ℕ) → a ≡ o ++ w → b ≡ a ++ x → c ≡ b ++ y → d ≡ c ++ z → d ≡ o ++ (w ++ (x ++ (y ++ z)))
four o a b c d w x y z e f g h = h ∙ ap (λ t. t ++ z) (g ∙ ap (λ t. t ++ y) (f ∙ ap (λ t. t ++ x) e)) ∙ simp append_assoc

pub five : (o a b c d q w x y z v : List ℕ) → a ≡ o ++ w → b ≡ a ++ x → c ≡ b ++ y → d ≡ c ++ z → q ≡ d ++ v → q ≡ o ++ (w ++ (x ++ (y ++ (z ++ v))))
five o a b c d q w x y z v e f g h k = k ∙ ap (λ t. t ++ v) (four o a b c d w x y z e f g h) ∙ simp append_assoc

join_spaced : (w : List ℕ) (fs : List (List ℕ)) → join_with_byte 32 (w ∷ fs) ≡ w ++ spaced fs
join_spaced w [] = sym (append-nil w)
join_spaced w (f ∷ fs) = ap (λ t. w ++ 32 ∷ t) (join_spaced f fs) ∙ ap (λ t. w ++ t) (sym (flat_map-cons (λ g. 32 ∷ g) f fs))

spaced-append : (fs gs : List (List ℕ)) → spaced (fs ++ gs) ≡ spaced fs ++ spaced gs
spaced-append fs gs = flat_map-append (λ f. 32 ∷ f) fs gs

spaced-cons : (f : List ℕ) (fs : List (List ℕ)) → spaced (f ∷ fs) ≡ (32 ∷ f) ++ spaced fs
spaced-cons f fs = flat_map-cons (λ g. 32 ∷ g) f fs

spaced-two : (f g : List ℕ) → spaced (f ∷ g ∷ []) ≡ (32 ∷ f) ++ (32 ∷ g)
spaced-two f g = spaced-cons f (g ∷ []) ∙ ap (λ t. (32 ∷ f) ++ t) (spaced-cons g [] ∙ append-nil (32 ∷ g))

spaced_pairs : {X : Type 0} (spell : X → List (List ℕ)) (text : X → List ℕ) → ((x : X) → spaced (spell x) ≡ text x) → (xs : List X) → spaced (flat_map spell xs) ≡ flat_map text xs
spaced_pairs spell text each [] = refl
spaced_pairs spell text each (x ∷ xs) =
    ap spaced (flat_map-cons spell x xs) ∙ spaced-append (spell x) (flat_map spell xs) ∙ (λ i. each x i ++ spaced_pairs spell text each xs i) ∙ sym (flat_map-cons text x xs)

spaced_parts : (xs : List ArcPart) → spaced (flat_map part_fields xs) ≡ flat_map part_text xs
spaced_parts xs = spaced_pairs part_fields part_text (λ x. spaced-two (decimal x.arc) (decimal x.value)) xs

spaced_items : (xs : List ItemPrice) → spaced (flat_map item_fields xs) ≡ flat_map item_text xs
spaced_items xs = spaced_pairs item_fields item_text (λ x. spaced-two (decimal x.item) (decimal x.price)) xs

spaced_arcs : (xs : List ArcPrice) → spaced (flat_map arc_fields xs) ≡ flat_map arc_text xs
spaced_arcs xs = spaced_pairs arc_fields arc_text (λ x. spaced-two (decimal x.arc) (signed_decimal x.price)) xs

spaced_need : (n : Need) → spaced (need_fields n) ≡ need_text n
spaced_need n =
    spaced-cons (decimal n.scale) (decimal (length n.parts) ∷ flat_map part_fields n.parts)
    ∙ ap (λ t. (32 ∷ decimal n.scale) ++ t) (spaced-cons (decimal (length n.parts)) (flat_map part_fields n.parts) ∙ ap (λ t. (32 ∷ decimal (length n.parts)) ++ t) (spaced_parts n.parts))

spaced_prices : (p : Prices) → spaced (prices_fields p) ≡ prices_text p
spaced_prices p =
    spaced-cons (decimal p.scale) (decimal (length p.items) ∷ (flat_map item_fields p.items ++ decimal (length p.arcs) ∷ flat_map arc_fields p.arcs))
    ∙ ap (λ t. (32 ∷ decimal p.scale) ++ t)
    (spaced-cons (decimal (length p.items)) (flat_map item_fields p.items ++ decimal (length p.arcs) ∷ flat_map arc_fields p.arcs)
    ∙ ap (λ t. (32 ∷ decimal (length p.items)) ++ t)
    (spaced-append (flat_map item_fields p.items) (decimal (length p.arcs) ∷ flat_map arc_fields p.arcs)
    ∙ (λ i. spaced_items p.items i ++ (spaced-cons (decimal (length p.arcs)) (flat_map arc_fields p.arcs) ∙ ap (λ t. (32 ∷ decimal (length p.arcs)) ++ t) (spaced_arcs p.arcs)) i))
    ∙ sym (append_assoc (32 ∷ decimal (length p.items)) (flat_map item_text p.items) (arcs_text p.arcs)))

pub needed_text : (arc k : ℕ) (need : Need) → codes "need" ++ ((32 ∷ decimal arc) ++ ((32 ∷ decimal k) ++ (need_text need ++ 10 ∷ []))) ≡ line_text_of (cert.Tree (Needed arc k need))
needed_text arc k need =
    let fields : List (List ℕ) = decimal arc ∷ decimal k ∷ need_fields need in
    let body : join_with_byte 32 (codes "need" ∷ fields) ≡ codes "need" ++ ((32 ∷ decimal arc) ++ ((32 ∷ decimal k) ++ need_text need)) =
    join_spaced (codes "need") fields ∙ ap (λ t. codes "need" ++ t) (spaced-cons (decimal arc) (decimal k ∷ need_fields need) ∙ ap (λ t. (32 ∷ decimal arc) ++ t) (spaced-cons (decimal k) (need_fields need) ∙ ap (λ t. (32 ∷ decimal k) ++ t) (spaced_need need))) in
    sym (ap (λ t. t ++ 10 ∷ []) body ∙ regroup (codes "need") (32 ∷ decimal arc) (32 ∷ decimal k) (need_text need) (10 ∷ []))
  where
    regroup : (a b c d e : List ℕ) → (a ++ (b ++ (c ++ d))) ++ e ≡ a ++ (b ++ (c ++ (d ++ e)))
    regroup a b c d e = simp append_assoc

pub leaf_text : (p : Prices) → codes "leaf" ++ (prices_text p ++ 10 ∷ []) ≡ line_text_of (cert.Tree (Leaf p))
leaf_text p =
    let body : join_with_byte 32 (codes "leaf" ∷ prices_fields p) ≡ codes "leaf" ++ prices_text p = join_spaced (codes "leaf") (prices_fields p) ∙ ap (λ t. codes "leaf" ++ t) (spaced_prices p) in
    sym (ap (λ t. t ++ 10 ∷ []) body ∙ append_assoc (codes "leaf") (prices_text p) (10 ∷ []))

-- the lines of a certificate, one after the other
tree_texts : (lines : List TreeLine) → text_of (map (λ l. cert.Tree l) lines) ≡ flat_map (λ l. line_text_of (cert.Tree l)) lines
tree_texts [] = refl
tree_texts (l ∷ ls) =
    flat_map-cons line_text_of (cert.Tree l) (map (λ t. cert.Tree t) ls) ∙ ap (λ t. line_text_of (cert.Tree l) ++ t) (tree_texts ls) ∙ sym (flat_map-cons (λ t. line_text_of (cert.Tree t)) l ls)

pub whole_text : (c : Certificate) → line_text_of (cert.Head c.version) ++ (line_text_of (cert.Claim c.claim c.goal) ++ (flat_map (λ l. line_text_of (cert.Tree l)) c.lines ++ line_text_of cert.End)) ≡ certificate_text_of c
whole_text c =
    let trees : List CertLine = map (λ l. cert.Tree l) c.lines in
    let last : text_of (trees ++ cert.End ∷ []) ≡ flat_map (λ l. line_text_of (cert.Tree l)) c.lines ++ line_text_of cert.End =
    flat_map-append line_text_of trees (cert.End ∷ []) ∙ (λ i. tree_texts c.lines i ++ (flat_map-cons line_text_of cert.End [] ∙ append-nil (line_text_of cert.End)) i) in
    sym (flat_map-cons line_text_of (cert.Head c.version) (cert.Claim c.claim c.goal ∷ (trees ++ cert.End ∷ [])) ∙ ap (λ t. line_text_of (cert.Head c.version) ++ t) (flat_map-cons line_text_of (cert.Claim c.claim c.goal) (trees ++ cert.End ∷ []) ∙ ap (λ t. line_text_of (cert.Claim c.claim c.goal) ++ t) last))
