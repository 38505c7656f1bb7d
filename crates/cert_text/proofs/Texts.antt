-- Texts of lines: the fields of a line's text are its fields, and a line ends at its line feed alone.
use Rattle.std.proofs.Common.{suc, ◌≡◌, ◌≢◌, ℕ, ◌+◌, ◌<◌, ◌≤◌, ◌^◌, Bool, true, false, List, [], ◌∷◌, ◌++◌, length, Option, Some, None, ℤ, pos, negsuc, Result, Ok, Err, ◌⊎◌, inl, inr, refl, sym, ap, subst, ◌∙◌, arith, append_assoc}
use Rattle.std.specs.Prelude.{◌==◌, not, codes, decimal, flat_map, All}
use Rattle.std.specs.List.{list_all, join_with_byte}
use Rattle.std.specs.Char.{is_ascii_digit}
use Rattle.std.proofs.lemmas.Bool.Decides.{nat_tests}
use Rattle.std.proofs.lemmas.List.Elements.{All-nil, All-cons, All-head, All-tail, All-append, All-weaker}
use Rattle.std.proofs.lemmas.List.Splits.{slice_split_none, slice_split_at, join_with_byte-slice_split}
use Rattle.std.proofs.lemmas.List.Concat.{flat_map-cons}
use Rattle.arc_num.specs.Decimals.{signed_decimal}
use Rattle.arc_num.proofs.ReadBack.{decimal_reads_back}
use Rattle.cert_text.specs.declared.lines.Prices.{Prices}
use Rattle.cert_text.specs.declared.lines.Need.{Need}
use Rattle.cert_text.specs.declared.lines.Claim.{Claim}
use Rattle.cert_text.specs.declared.lines.Claim.TheVariants.{Bound, Empty}
use Rattle.cert_text.specs.declared.lines.TreeLine.TheVariants.{Split, Needed, Leaf, Step}
use Rattle.cert_text.specs.declared.lines.CertLine.{CertLine}
use Rattle.cert_text.specs.declared.lines.CertLine.TheVariants as cert
use Rattle.cert_text.specs.declared.faults.LineFault.{LineFault}
use Rattle.cert_text.specs.declared.faults.LineFault.TheVariants.{Bad, Memory}
use Rattle.cert_text.specs.Lines.{ArePrices, IsNeed, IsClaim, IsGoal}
use Rattle.cert_text.specs.Spelling.{item_fields, arc_fields, part_fields, prices_fields, need_fields, claim_fields, word_of, fields_of, line_text_of}
use Rattle.cert_text.specs.Spelled.{IsNarrow, AreNarrowPrices, IsSpelled}
use Rattle.cert_text.specs.Streams.{HasNoFeed}
use Rattle.cert_text.specs.inner.Fields.{split_fields, line_in, GivesWhole}
use Rattle.cert_text.specs.inner.Kept.{Places}
use Rattle.cert_text.proofs.Numerals.{both, IsSigned}
use Rattle.cert_text.proofs.WholeLines.{line_takes, line_again}

-- ---- fields hold no space and no line feed

abbrev IsPlainByte : ℕ → Type 0
IsPlainByte b = ((b == 32) ≡ false) × (b ≢ 10)

abbrev pub IsPlain : List ℕ → Type 0
IsPlain f = All IsPlainByte f

digit_plain : (b : ℕ) → is_ascii_digit b ≡ true → IsPlainByte b
digit_plain b h = (grind (arith, nat_tests), grind (arith, nat_tests))

digits_plain : (f : List ℕ) → list_all is_ascii_digit f ≡ true → IsPlain f
digits_plain [] h = All-nil IsPlainByte
digits_plain (b ∷ bs) h = let parts = both (is_ascii_digit b) (list_all is_ascii_digit bs) h in All-cons IsPlainByte b bs (digit_plain b parts.0) (digits_plain bs parts.1)

decimal_plain : (n : ℕ) → n < 2 ^ 64 → IsPlain (decimal n)
decimal_plain n small = digits_plain (decimal n) (both (not (length (decimal n) == 0)) (list_all is_ascii_digit (decimal n)) (decimal_reads_back n small).digits).1

signed_plain : (z : ℤ) → IsSigned z → IsPlain (signed_decimal z)
signed_plain (pos n) h = decimal_plain n (omega (arith, h.1))
signed_plain (negsuc n) h = All-cons IsPlainByte 45 (decimal (suc n)) (refl, grind arith) (decimal_plain (suc n) (omega (arith, h.1)))

plain_codes : (f : List ℕ) → list_all (λ b. not (b == 32)) f ≡ true → list_all (λ b. not (b == 10)) f ≡ true → IsPlain f
plain_codes [] h g = All-nil IsPlainByte
plain_codes (b ∷ bs) h g =
    let p = both (not (b == 32)) (list_all (λ b. not (b == 32)) bs) h in
    let q = both (not (b == 10)) (list_all (λ b. not (b == 10)) bs) g in
    All-cons IsPlainByte b bs (grind (arith, p.0), grind (arith, nat_tests, q.0)) (plain_codes bs p.1 q.1)

flat_plain : {X : Type 0} (spell : X → List (List ℕ)) (xs : List X) → All (λ x. All IsPlain (spell x)) xs → All IsPlain (flat_map spell xs)
flat_plain spell [] h = All-nil IsPlain
flat_plain {X = X} spell (x ∷ xs) h =
    let P : X → Type 0 = λ y. All IsPlain (spell y) in
    subst (All IsPlain) (sym (flat_map-cons spell x xs)) (All-append IsPlain (spell x) (flat_map spell xs) (All-head P x xs h) (flat_plain spell xs (All-tail P x xs h)))

two_plain : (a b : List ℕ) → IsPlain a → IsPlain b → All IsPlain (a ∷ b ∷ [])
two_plain a b p q = All-cons IsPlain a (b ∷ []) p (All-cons IsPlain b [] q (All-nil IsPlain))

onto_plain : (a b : List ℕ) (fs : List (List ℕ)) → IsPlain a → IsPlain b → All IsPlain fs → All IsPlain (a ∷ b ∷ fs)
onto_plain a b fs p q ps = All-cons IsPlain a (b ∷ fs) p (All-cons IsPlain b fs q ps)

prices_plain : (p : Prices) → ArePrices p → AreNarrowPrices p → All IsPlain (prices_fields p)
prices_plain p good narrow =
    let items : All IsPlain (flat_map item_fields p.items) = flat_plain item_fields p.items (λ k d within. two_plain _ _ (decimal_plain _ (omega (arith, narrow.0 k d within))) (decimal_plain _ (omega (arith, (good.items k d within).1.1)))) in
    let arcs : All IsPlain (flat_map arc_fields p.arcs) = flat_plain arc_fields p.arcs (λ k d within. two_plain _ _ (decimal_plain _ (omega (arith, narrow.1 k d within))) (signed_plain _ (good.arcs k d within).1)) in
    let count : All IsPlain (decimal (length p.arcs) ∷ flat_map arc_fields p.arcs) = All-cons IsPlain (decimal (length p.arcs)) (flat_map arc_fields p.arcs) (decimal_plain (length p.arcs) (omega (arith, good.arc_count))) arcs in
    let behind : All IsPlain (flat_map item_fields p.items ++ decimal (length p.arcs) ∷ flat_map arc_fields p.arcs) = All-append IsPlain (flat_map item_fields p.items) (decimal (length p.arcs) ∷ flat_map arc_fields p.arcs) items count in
    onto_plain (decimal p.scale) (decimal (length p.items)) (flat_map item_fields p.items ++ decimal (length p.arcs) ∷ flat_map arc_fields p.arcs) (decimal_plain p.scale (omega (arith, good.scale))) (decimal_plain (length p.items) (omega (arith, good.item_count))) behind

need_plain : (n : Need) → IsNeed n → All (λ x. IsNarrow x.arc) n.parts → All IsPlain (need_fields n)
need_plain n good narrow =
    let parts : All IsPlain (flat_map part_fields n.parts) = flat_plain part_fields n.parts (λ k d within. two_plain _ _ (decimal_plain _ (omega (arith, narrow k d within))) (decimal_plain _ (omega (arith, (good.parts k d within).1.1)))) in
    onto_plain (decimal n.scale) (decimal (length n.parts)) (flat_map part_fields n.parts) (decimal_plain n.scale (omega (arith, good.scale.1))) (decimal_plain (length n.parts) (omega (arith, good.count))) parts

claim_plain : (version : ℕ) (claim : Claim) (goal : Option ℕ) → IsClaim claim → IsGoal version claim goal → All IsPlain (claim_fields claim goal)
claim_plain version (Bound bound) None small good = two_plain (codes "bound") (decimal bound) (plain_codes (codes "bound") refl refl) (decimal_plain bound (omega (arith, small)))
claim_plain version (Bound bound) (Some goal) small good =
    onto_plain (codes "bound") (decimal bound) (codes "goal" ∷ decimal goal ∷ []) (plain_codes (codes "bound") refl refl) (decimal_plain bound (omega (arith, small))) (two_plain (codes "goal") (decimal goal) (plain_codes (codes "goal") refl refl) (decimal_plain goal (goal_small good.1)))
  where
    goal_small : (goal ≡ bound) ⊎ (goal ≡ bound + 1) → goal < 2 ^ 64
    goal_small (inl e) = omega (arith, small)
    goal_small (inr e) = omega (arith, small)
claim_plain version Empty goal small good = All-cons IsPlain (codes "empty") [] (plain_codes (codes "empty") refl refl) (All-nil IsPlain)

fields_plain : (before version : ℕ) (l : CertLine) → IsSpelled before version l → All IsPlain (fields_of l)
fields_plain before version (cert.Head number) h = All-cons IsPlain (decimal number) [] (decimal_plain number (omega (arith, h.place.1.1))) (All-nil IsPlain)
fields_plain before version (cert.Claim claim goal) h = claim_plain version claim goal h.place.1 h.place.2
fields_plain before version (cert.Tree (Split arc k)) h = two_plain (decimal arc) (decimal k) (decimal_plain arc (omega (arith, h.narrow.0))) (decimal_plain k (omega (arith, h.narrow.1)))
fields_plain before version (cert.Tree (Needed arc k need)) h =
    onto_plain (decimal arc) (decimal k) (need_fields need) (decimal_plain arc (omega (arith, h.narrow.0))) (decimal_plain k (omega (arith, h.narrow.1))) (need_plain need h.place.1.2 h.narrow.2)
fields_plain before version (cert.Tree (Leaf prices)) h = prices_plain prices h.place.1 h.narrow
fields_plain before version (cert.Tree (Step dim step)) h = two_plain (decimal dim) (decimal step) (decimal_plain dim (omega (arith, h.place.1.1.1))) (decimal_plain step (omega (arith, h.place.1.2)))
fields_plain before version cert.End h = All-nil IsPlain

word_plain : (l : CertLine) → IsPlain (word_of l)
word_plain (cert.Head number) = plain_codes (codes "vpack-certificate") refl refl
word_plain (cert.Claim claim goal) = plain_codes (codes "claim") refl refl
word_plain (cert.Tree (Split arc k)) = plain_codes (codes "split") refl refl
word_plain (cert.Tree (Needed arc k need)) = plain_codes (codes "need") refl refl
word_plain (cert.Tree (Leaf prices)) = plain_codes (codes "leaf") refl refl
word_plain (cert.Tree (Step dim step)) = plain_codes (codes "step") refl refl
word_plain cert.End = plain_codes (codes "end") refl refl

-- ---- joined fields

split_joined : (f : List ℕ) (fs : List (List ℕ)) → IsPlain f → All IsPlain fs → split_fields (join_with_byte 32 (f ∷ fs)) ≡ f ∷ fs
split_joined f [] p ps = slice_split_none (λ b. b == 32) f (All-weaker IsPlainByte (λ b. (b == 32) ≡ false) (λ b h. h.0) f p)
split_joined f (g ∷ fs) p ps =
    slice_split_at (λ b. b == 32) f 32 (join_with_byte 32 (g ∷ fs)) (All-weaker IsPlainByte (λ b. (b == 32) ≡ false) (λ b h. h.0) f p) refl
    ∙ ap (λ x. f ∷ x) (split_joined g fs (All-head IsPlain g fs ps) (All-tail IsPlain g fs ps))

joined_no_feed : (f : List ℕ) (fs : List (List ℕ)) → IsPlain f → All IsPlain fs → HasNoFeed (join_with_byte 32 (f ∷ fs))
joined_no_feed f [] p ps = All-weaker IsPlainByte (λ b. b ≢ 10) (λ b h. h.1) f p
joined_no_feed f (g ∷ fs) p ps =
    All-append (λ b. b ≢ 10) f (32 ∷ join_with_byte 32 (g ∷ fs)) (All-weaker IsPlainByte (λ b. b ≢ 10) (λ b h. h.1) f p)
    (All-cons (λ b. b ≢ 10) 32 (join_with_byte 32 (g ∷ fs)) (grind arith) (joined_no_feed g fs (All-head IsPlain g fs ps) (All-tail IsPlain g fs ps)))

-- ---- lines

-- the text of a line without its line feed
abbrev pub body_of : CertLine → List ℕ
body_of l = join_with_byte 32 (word_of l ∷ fields_of l)

pub body_no_feed : (before version : ℕ) (l : CertLine) → IsSpelled before version l → HasNoFeed (body_of l)
body_no_feed before version l h = joined_no_feed (word_of l) (fields_of l) (word_plain l) (fields_plain before version l h)

-- texts that hold no line feed and have one behind them
pub same_front : (a b x y : List ℕ) → HasNoFeed a → HasNoFeed b → a ++ 10 ∷ x ≡ b ++ 10 ∷ y → (a ≡ b) × (x ≡ y)
same_front [] [] x y p q e = (refl, cc)
same_front [] (d ∷ b) x y p q e = absurd (All-head (λ n. n ≢ 10) d b q (cc))
same_front (c ∷ a) [] x y p q e = absurd (All-head (λ n. n ≢ 10) c a p (cc))
same_front (c ∷ a) (d ∷ b) x y p q e =
    let head : c ≡ d = cc in
    let tail : a ++ 10 ∷ x ≡ b ++ 10 ∷ y = cc in
    let rest = same_front a b x y (All-tail (λ n. n ≢ 10) c a p) (All-tail (λ n. n ≢ 10) d b q) tail in
    ((λ i. head i ∷ rest.0 i), rest.1)

-- bytes up to a line feed that begin as a line does are this line
pub is_body : (before version : ℕ) (l : CertLine) (text more rest : List ℕ) → HasNoFeed text → IsSpelled before version l → text ++ 10 ∷ more ≡ line_text_of l ++ rest → (text ≡ body_of l) × (more ≡ rest)
is_body before version l text more rest clear h e =
    same_front text (body_of l) more rest clear (body_no_feed before version l h) (e ∙ append_assoc (body_of l) (10 ∷ []) rest)

-- the text of a line is read as this line
pub body_reads : (before version : ℕ) (l : CertLine) → IsSpelled before version l → line_in before version (split_fields (body_of l)) ≡ Some l
body_reads before version l h =
    ap (line_in before version) (split_joined (word_of l) (fields_of l) (word_plain l) (fields_plain before version l h)) ∙ line_again before version l h

-- a text that is read as a line is this line's
pub read_body : (before version : ℕ) (text : List ℕ) (l : CertLine) → 1 ≤ version → line_in before version (split_fields text) ≡ Some l → (text ≡ body_of l) × IsSpelled before version l
read_body before version text l from e =
    let taken = line_takes before version (split_fields text) l from e in
    (sym (join_with_byte-slice_split 32 text) ∙ ap (join_with_byte 32) taken.0, taken.1)

pub placed_is : (r : Result CertLine LineFault) (text : List ℕ) (read version : ℕ) (ended : Bool) → 1 ≤ version → ended ≡ false → GivesWhole r (line_in read version (split_fields text)) → Places r text read version ended
placed_is (Ok l) text read version ended from open_ h = let found = read_body read version text l from h in (open_, found.1, ap (λ x. x ++ 10 ∷ []) found.0)
placed_is (Err Bad) text read version ended from open_ h = λ l more rest clear _ spelled e.
    let same = is_body read version l text more rest clear spelled e in
    let reads : line_in read version (split_fields text) ≡ Some l = ap (λ x. line_in read version (split_fields x)) same.0 ∙ body_reads read version l spelled in
    absurd (cc)
placed_is (Err Memory) text read version ended from open_ h = tt

-- no line has its place behind the end line
pub placed_nowhere : (text : List ℕ) (read version : ℕ) (ended : Bool) → ended ≡ true → Places (Err Bad) text read version ended
placed_nowhere text read version ended e = λ l more rest clear open_ spelled same. absurd (cc)
