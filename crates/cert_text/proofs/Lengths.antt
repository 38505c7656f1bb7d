-- A line that can be spelled is no longer than a line may be, so what is bad stays bad, however it goes on.
use Rattle.std.proofs.Common.{suc, ◌≡◌, ◌≢◌, ◌⊎◌, inl, inr, ℕ, ◌+◌, ◌*◌, ◌<◌, ◌≤◌, ◌^◌, List, [], ◌∷◌, ◌++◌, length, take, drop, Option, Some, None, ℤ, pos, negsuc, refl, sym, ap, subst, ◌∙◌, arith, append_assoc}
use Rattle.std.specs.Prelude.{◌==◌, codes, decimal, flat_map, position, All}
use Rattle.std.proofs.lemmas.List.{length-append}
use Rattle.std.proofs.lemmas.List.Concat.{length-flat_map}
use Rattle.std.proofs.lemmas.List.Sums.{sum_by-le}
use Rattle.std.proofs.lemmas.List.Elements.{All-head, All-tail}
use Rattle.std.proofs.lemmas.Fmt.{length-decimal-le}
use Rattle.arc_num.specs.Decimals.{signed_decimal}
use Rattle.arc_num.specs.declared.TheConstants.{MAX_LINE}
use Rattle.cert_text.specs.declared.lines.Prices.{Prices}
use Rattle.cert_text.specs.declared.lines.Need.{Need}
use Rattle.cert_text.specs.declared.lines.Claim.TheVariants.{Bound, Empty}
use Rattle.cert_text.specs.declared.lines.TreeLine.TheVariants.{Split, Needed, Leaf, Step}
use Rattle.cert_text.specs.declared.lines.CertLine.{CertLine}
use Rattle.cert_text.specs.declared.lines.CertLine.TheVariants as cert
use Rattle.cert_text.specs.Lines.{ArePrices, IsNeed}
use Rattle.cert_text.specs.Spelling.{line_text_of}
use Rattle.cert_text.specs.Spelled.{IsNarrow, AreNarrowPrices, IsSpelled}
use Rattle.cert_text.specs.Streams.{HasNoFeed, IsFaulty}
use Rattle.cert_text.specs.Laws.{BadStaysBad}
use Rattle.cert_text.specs.inner.Written.{item_text, arc_text, part_text, items_text, arcs_text, need_text, prices_text}
use Rattle.cert_text.proofs.Numerals.{IsSigned}
use Rattle.cert_text.proofs.Texts.{body_of, is_body}
use Rattle.cert_text.proofs.Unread.{without, first_feed}
use Rattle.cert_text.proofs.WrittenLines.{needed_text, leaf_text}

short : (n : ℕ) → n < 2 ^ 32 → length (decimal n) ≤ 10
short n h = length-decimal-le 10 n (omega arith) (omega arith) (omega arith)

middling : (n : ℕ) → n ≤ 2 ^ 62 + 1 → length (decimal n) ≤ 19
middling n h = length-decimal-le 19 n (omega arith) (omega arith) (omega arith)

signed : (z : ℤ) → IsSigned z → length (signed_decimal z) ≤ 20
signed (pos n) h = let s = middling n (omega (arith, h.1)) in omega arith
signed (negsuc n) h = let s = middling (suc n) (omega (arith, h.1)) in omega arith

pairs_short : {X : Type 0} (text : X → List ℕ) (m : ℕ) (xs : List X) → All (λ x. length (text x) ≤ m) xs → length (flat_map text xs) ≤ length xs * m
pairs_short text m xs h = rw (length-flat_map text xs) (sum_by-le (λ x. length (text x)) m xs h)

two_short : (a b : List ℕ) (m n : ℕ) → length a ≤ m → length b ≤ n → length ((32 ∷ a) ++ (32 ∷ b)) ≤ m + n + 2
two_short a b m n p q = omega (arith, length-append (32 ∷ a) (32 ∷ b))

items_short : (p : Prices) → ArePrices p → AreNarrowPrices p → length (items_text p.items) ≤ 31025
items_short p good narrow =
    let each = pairs_short item_text 31 p.items (λ k d within. two_short _ _ 10 19 (short _ (narrow.0 k d within)) (middling _ (omega (arith, (good.items k d within).1.1)))) in
    let count = middling (length p.items) (omega (arith, good.item_count)) in
    omega (arith, each, count, good.item_count, length-append (32 ∷ decimal (length p.items)) (flat_map item_text p.items))

arcs_short : (p : Prices) → ArePrices p → AreNarrowPrices p → length (arcs_text p.arcs) ≤ 32002100
arcs_short p good narrow =
    let each = pairs_short arc_text 32 p.arcs (λ k d within. two_short _ _ 10 20 (short _ (narrow.1 k d within)) (signed _ (good.arcs k d within).1)) in
    let count = middling (length p.arcs) (omega (arith, good.arc_count)) in
    omega (arith, each, count, good.arc_count, length-append (32 ∷ decimal (length p.arcs)) (flat_map arc_text p.arcs))

prices_short : (p : Prices) → ArePrices p → AreNarrowPrices p → length (prices_text p) ≤ 32100000
prices_short p good narrow =
    let scale = middling p.scale (omega (arith, good.scale)) in
    omega (arith, scale, items_short p good narrow, arcs_short p good narrow, length-append (32 ∷ decimal p.scale) (items_text p.items ++ arcs_text p.arcs), length-append (items_text p.items) (arcs_text p.arcs))

need_short : (n : Need) → IsNeed n → All (λ x. IsNarrow x.arc) n.parts → length (need_text n) ≤ 32100000
need_short n good narrow =
    let each = pairs_short part_text 31 n.parts (λ k d within. two_short _ _ 10 19 (short _ (narrow k d within)) (middling _ (omega (arith, (good.parts k d within).1.1)))) in
    let count = middling (length n.parts) (omega (arith, good.count)) in
    let scale = middling n.scale (omega (arith, good.scale.1)) in
    omega (arith, each, count, scale, good.count, length-append (32 ∷ decimal n.scale) ((32 ∷ decimal (length n.parts)) ++ flat_map part_text n.parts), length-append (32 ∷ decimal (length n.parts)) (flat_map part_text n.parts))

-- a word and two fields
of_two : (w a b : List ℕ) (m n : ℕ) → length w ≤ 17 → length a ≤ m → length b ≤ n → m ≤ 40 → n ≤ 40 → length ((w ++ (32 ∷ (a ++ (32 ∷ b)))) ++ 10 ∷ []) ≤ 33554432
of_two w a b m n p q r s t = omega (arith, length-append (w ++ (32 ∷ (a ++ (32 ∷ b)))) (10 ∷ []), length-append w (32 ∷ (a ++ (32 ∷ b))), length-append a (32 ∷ b))

of_four : (w a b c d : List ℕ) → length w ≤ 17 → length a ≤ 20 → length b ≤ 20 → length c ≤ 20 → length d ≤ 20 → length ((w ++ (32 ∷ (a ++ (32 ∷ (b ++ (32 ∷ (c ++ (32 ∷ d)))))))) ++ 10 ∷ []) ≤ 33554432
of_four w a b c d p q r s t = omega (arith, length-append (w ++ (32 ∷ (a ++ (32 ∷ (b ++ (32 ∷ (c ++ (32 ∷ d)))))))) (10 ∷ []), length-append w (32 ∷ (a ++ (32 ∷ (b ++ (32 ∷ (c ++ (32 ∷ d))))))), length-append a (32 ∷ (b ++ (32 ∷ (c ++ (32 ∷ d))))), length-append b (32 ∷ (c ++ (32 ∷ d))), length-append c (32 ∷ d))

of_one : (w a : List ℕ) → length w ≤ 17 → length a ≤ 40 → length ((w ++ (32 ∷ a)) ++ 10 ∷ []) ≤ 33554432
of_one w a p q = omega (arith, length-append (w ++ (32 ∷ a)) (10 ∷ []), length-append w (32 ∷ a))

pub line_short : (before version : ℕ) (l : CertLine) → IsSpelled before version l → length (line_text_of l) ≤ MAX_LINE
line_short before version (cert.Head number) h = of_one (codes "vpack-certificate") (decimal number) (omega arith) (let s = short number (omega (arith, h.place.1.1)) in omega arith)
line_short before version (cert.Claim (Bound bound) None) h = of_two (codes "claim") (codes "bound") (decimal bound) 19 19 (omega arith) (omega arith) (middling bound (omega (arith, h.place.1))) (omega arith) (omega arith)
line_short before version (cert.Claim (Bound bound) (Some goal)) h =
    let s = middling bound (omega (arith, h.place.1)) in
    let t = middling goal (goal_small h.place.2.1) in
    of_four (codes "claim") (codes "bound") (decimal bound) (codes "goal") (decimal goal) (omega arith) (omega arith) (omega arith) (omega arith) (omega arith)
  where
    goal_small : (goal ≡ bound) ⊎ (goal ≡ bound + 1) → goal ≤ 2 ^ 62 + 1
    goal_small (inl e) = omega (arith, h.place.1)
    goal_small (inr e) = omega (arith, h.place.1)
line_short before version (cert.Claim Empty goal) h = of_one (codes "claim") (codes "empty") (omega arith) (omega arith)
line_short before version (cert.Tree (Split arc k)) h = of_two (codes "split") (decimal arc) (decimal k) 10 10 (omega arith) (short arc h.narrow.0) (short k h.narrow.1) (omega arith) (omega arith)
line_short before version (cert.Tree (Needed arc k need)) h =
    let a = short arc h.narrow.0 in
    let b = short k h.narrow.1 in
    let n = need_short need h.place.1.2 h.narrow.2 in
    subst (λ t. length t ≤ MAX_LINE) (needed_text arc k need) (omega (arith, length-append (codes "need") ((32 ∷ decimal arc) ++ ((32 ∷ decimal k) ++ (need_text need ++ 10 ∷ []))), length-append (32 ∷ decimal arc) ((32 ∷ decimal k) ++ (need_text need ++ 10 ∷ [])), length-append (32 ∷ decimal k) (need_text need ++ 10 ∷ []), length-append (need_text need) (10 ∷ [])))
line_short before version (cert.Tree (Leaf prices)) h =
    let n = prices_short prices h.place.1 h.narrow in
    subst (λ t. length t ≤ MAX_LINE) (leaf_text prices) (omega (arith, length-append (codes "leaf") (prices_text prices ++ 10 ∷ []), length-append (prices_text prices) (10 ∷ [])))
line_short before version (cert.Tree (Step dim step)) h = of_two (codes "step") (decimal dim) (decimal step) 10 10 (omega arith) (short dim (omega (arith, h.place.1.1.1))) (short step (omega (arith, h.place.1.2))) (omega arith) (omega arith)
line_short before version cert.End h = omega arith

-- no line feed stands where these bytes hold none
within : (u p b x : List ℕ) → HasNoFeed u → u ++ p ≡ b ++ 10 ∷ x → length b < length u → ⊥
within [] p b x h e lt = absurd (omega arith)
within (c ∷ u) p [] x h e lt = All-head (λ n. n ≢ 10) c u h (cc)
within (c ∷ u) p (d ∷ b) x h e lt = within u p b x (All-tail (λ n. n ≢ 10) c u h) (cc) (omega arith)

pub bad_stays_bad : BadStaysBad
bad_stays_bad r piece (inl bad) = inl bad
bad_stays_bad r piece (inr (inl long)) = by (position (λ b. b == 10) (r.unread ++ piece)) refl
  where
    by : (o : Option ℕ) → position (λ b. b == 10) (r.unread ++ piece) ≡ o → IsFaulty (record r { unread = r.unread ++ piece })
    by None is = inr (inl (without (r.unread ++ piece) is, omega (arith, long.1, length-append r.unread piece)))
    by (Some i) is =
        let cut = (first_feed (r.unread ++ piece) i is).0 in
        inr (inr (record {
          whole = (take i (r.unread ++ piece), drop (i + 1) (r.unread ++ piece), cut.front, cut.parts);
          none = λ l rest next. within r.unread piece (body_of l) rest long.0 (next.bytes ∙ append_assoc (body_of l) (10 ∷ []) rest)
              (omega (arith, long.1, line_short r.read r.version l next.spelled, length-append (body_of l) (10 ∷ [])));
        }))
bad_stays_bad r piece (inr (inr line)) = inr (inr (record {
  whole = (line.whole.0, line.whole.1 ++ piece, line.whole.2, ap (λ t. t ++ piece) line.whole.3 ∙ append_assoc line.whole.0 (10 ∷ line.whole.1) piece);
  none = λ l rest next.
      let same = is_body r.read r.version l line.whole.0 (line.whole.1 ++ piece) rest line.whole.2 next.spelled
      (sym (ap (λ t. t ++ piece) line.whole.3 ∙ append_assoc line.whole.0 (10 ∷ line.whole.1) piece) ∙ next.bytes) in
      line.none l line.whole.1 (record { is_open = next.is_open; spelled = next.spelled; bytes = line.whole.3 ∙ ap (λ t. t ++ 10 ∷ line.whole.1) same.0 ∙ sym (append_assoc (body_of l) (10 ∷ []) line.whole.1) });
}))
