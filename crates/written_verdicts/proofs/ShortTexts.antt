-- Certificates of few splits have short texts: each line that splits its box has few parts, and one box more is closed than is split.
use Rattle.std.proofs.Common.{◌≡◌, ℕ, ◌+◌, ◌-◌, ◌*◌, ◌≤◌, ◌<◌, Bool, true, false, cond, List, [], ◌∷◌, ◌++◌, length, map, get_or, Option, None, Some, All, refl, sym, ap, subst, ◌∙◌, arith}
use Rattle.std.specs.Prelude.{codes, decimal, flat_map}
use Rattle.std.proofs.lemmas.Fmt.{length-decimal-le}
use Rattle.std.proofs.lemmas.List.{length-append}
use Rattle.std.proofs.lemmas.List.Concat.{flat_map-cons, length-flat_map}
use Rattle.std.proofs.lemmas.List.Elements.{All-append, All-cons, All-head, All-map, All-nil, All-set, All-tail}
use Rattle.std.proofs.lemmas.List.Sums.{sum_by-cons, sum_by-le}
use Rattle.arc_num.specs.declared.TheConstants.{MAX_CERT, MAX_LINE, MAX_PRICE, MAX_SPLITS, MAX_UNITS}
use Rattle.packing_laws.specs.Instances.{InstanceValue, IsInstance, type_at, units_of}
use Rattle.packing_laws.proofs.WrittenUnits.{units-most}
use Rattle.flow_graph.specs.declared.parts.ArcKind.{ArcKind}
use Rattle.flow_graph.specs.declared.parts.ArcKind.TheVariants.{Bin, Loss, Piece}
use Rattle.flow_graph.specs.Arcs.{TypeValue, IsFlowGraph, numbered}
use Rattle.flow_graph.specs.Chords.{IsGenuine, high_part, low_part, range_at}
use Rattle.flow_graph.proofs.Numbers.{few_numbered}
use Rattle.flow_model.specs.Boxes.{limited, root_range, root_ranges, upper_of}
use Rattle.cert_text.specs.declared.lines.ArcPart.{ArcPart}
use Rattle.cert_text.specs.declared.lines.ArcPrice.{ArcPrice}
use Rattle.cert_text.specs.declared.lines.Certificate.{Certificate}
use Rattle.cert_text.specs.declared.lines.Claim.{Claim}
use Rattle.cert_text.specs.declared.lines.Need.{Need}
use Rattle.cert_text.specs.declared.lines.TreeLine.{TreeLine}
use Rattle.cert_text.specs.declared.lines.TreeLine.TheVariants as line
use Rattle.cert_text.specs.declared.lines.CertLine.{CertLine}
use Rattle.cert_text.specs.declared.lines.CertLine.TheVariants as cert
use Rattle.cert_text.specs.Lines.{IsNeed, lines_of}
use Rattle.cert_text.specs.Spelled.{IsNarrow, IsNarrowLine, IsNarrowTree, IsSpelled}
use Rattle.cert_text.specs.Spelling.{certificate_text_of, line_text_of, text_of}
use Rattle.cert_text.specs.inner.Written.{need_text, part_text}
use Rattle.cert_text.proofs.Lengths.{line_short}
use Rattle.cert_text.proofs.WrittenLines.{needed_text}
use Rattle.cert_laws.specs.declared.causes.Cause.TheVariants as cause
use Rattle.cert_laws.specs.Rules.{AreAccepted, Box, IsAccepted, NamesArcs, NamesItems, Progress, SplitsBox, after_line, at_start, first_box, opened_by}
use Rattle.cert_laws.specs.Shown.{IsCertified}
use Rattle.search_tree.specs.Trees.{HasFewParts, splits_box, splits_in}
use Rattle.written_verdicts.specs.Written.{FewSplitsAreShown}
use Rattle.written_verdicts.proofs.Placed.{in_place, written_is_shown}

-- ---- lines that split a box

-- no line that splits its box and has few parts is longer
abbrev split_most : ℕ
split_most = 15500100

narrow_short : (n : ℕ) → IsNarrow n → length (decimal n) ≤ 10
narrow_short n narrow = length-decimal-le 10 n (omega arith) (omega arith) (omega (arith, narrow))

price_short : (n : ℕ) → n ≤ MAX_PRICE → length (decimal n) ≤ 19
price_short n most = length-decimal-le 19 n (omega arith) (omega arith) (omega (arith, most))

parts_short : (xs : List ArcPart) → All (λ x. length (part_text x) ≤ 31) xs → length (flat_map part_text xs) ≤ length xs * 31
parts_short xs each = rw (length-flat_map part_text xs) (sum_by-le (λ x. length (part_text x)) 31 xs each)

part_short : (x : ArcPart) → IsNarrow x.arc → x.value ≤ MAX_PRICE → length (part_text x) ≤ 31
part_short x narrow most =
    let arc = narrow_short x.arc narrow in
    let value = price_short x.value most in
    let both = length-append (32 ∷ decimal x.arc) (32 ∷ decimal x.value) in
    omega (arith, arc, value, both)

need_short : (n : Need) → IsNeed n → All (λ x. IsNarrow x.arc) n.parts → length n.parts ≤ 500000 → length (need_text n) ≤ 15500040
need_short n is narrow few =
    let each = parts_short n.parts (λ k d within. part_short (get_or n.parts k d) (narrow k d within) (is.parts k d within).1.1) in
    let scale = price_short n.scale is.scale.1 in
    let count = price_short (length n.parts) (omega (arith, few)) in
    let outer = length-append (32 ∷ decimal n.scale) ((32 ∷ decimal (length n.parts)) ++ flat_map part_text n.parts) in
    let inner = length-append (32 ∷ decimal (length n.parts)) (flat_map part_text n.parts) in
    omega (arith, each, scale, count, few, outer, inner)

two_short : (w a b : List ℕ) → length w ≤ 5 → length a ≤ 10 → length b ≤ 10 → length ((w ++ (32 ∷ (a ++ (32 ∷ b)))) ++ 10 ∷ []) ≤ 15500100
two_short w a b word first second =
    let last = length-append (w ++ (32 ∷ (a ++ (32 ∷ b)))) (10 ∷ []) in
    let outer = length-append w (32 ∷ (a ++ (32 ∷ b))) in
    let inner = length-append a (32 ∷ b) in
    omega (arith, word, first, second, last, outer, inner)

split_short : (arc k : ℕ) → IsNarrow arc → IsNarrow k → length (line_text_of (cert.Tree (line.Split arc k))) ≤ split_most
split_short arc k narrow small = two_short (codes "split") (decimal arc) (decimal k) (omega arith) (narrow_short arc narrow) (narrow_short k small)

needed_short : (arc k : ℕ) (n : Need) → IsNarrow arc → IsNarrow k → IsNeed n → All (λ x. IsNarrow x.arc) n.parts → length n.parts ≤ 500000 → length (line_text_of (cert.Tree (line.Needed arc k n))) ≤ split_most
needed_short arc k n narrow small is arcs few =
    let first = narrow_short arc narrow in
    let second = narrow_short k small in
    let need = need_short n is arcs few in
    let whole = length-append (codes "need") ((32 ∷ decimal arc) ++ ((32 ∷ decimal k) ++ (need_text n ++ 10 ∷ []))) in
    let behind = length-append (32 ∷ decimal arc) ((32 ∷ decimal k) ++ (need_text n ++ 10 ∷ [])) in
    let inner = length-append (32 ∷ decimal k) (need_text n ++ 10 ∷ []) in
    let last = length-append (need_text n) (10 ∷ []) in
    subst (λ (t : List ℕ). length t ≤ split_most) (needed_text arc k n) (omega (arith, first, second, need, whole, behind, inner, last))

-- ---- boxes

-- no number of the box is greater than there may be units
abbrev IsSmall : Box → Type 0
IsSmall box = All (λ r. r.1 ≤ MAX_UNITS) box

limited_most : (n : ℕ) (limit : Option ℕ) → limited n limit ≤ n
limited_most n None = omega arith
limited_most n (Some limit) = omega arith

upper_most : (I : InstanceValue) → IsInstance I → (kind : ArcKind) → upper_of I kind ≤ MAX_UNITS
upper_most I inside (Bin t) = let units = units-most I inside in let most = limited_most (units_of I) (type_at I t).limit in omega (arith, units, most)
upper_most I inside (Loss t tail head) = units-most I inside
upper_most I inside (Piece t tail head item form) = units-most I inside

root_small : (I : InstanceValue) (g : List TypeValue) → IsInstance I → IsSmall (root_ranges I g)
root_small I g inside = All-map (λ (r : ℕ × ℕ). r.1 ≤ MAX_UNITS) (root_range I) (numbered g) (λ k d within. upper_most I inside (get_or (numbered g) k d))

split_below : (box : Box) (a k : ℕ) → IsSmall box → IsGenuine box a k → (k < MAX_UNITS) × ((range_at box a).1 ≤ MAX_UNITS)
split_below box a k small genuine =
    let among = genuine.arc in
    let most : (range_at box a).1 ≤ MAX_UNITS = small (a - 1) (0, 0) (omega (arith, among.0, among.1)) in
    let high = genuine.high in
    (omega (arith, most, high), most)

-- what a place of the tree does to the open boxes: one more where it splits the first of them, else one less
record Opens (l : TreeLine) (boxes : List Box) : Type 0 where
  pub small : All IsSmall (opened_by l boxes)
  pub count : length (opened_by l boxes) + cond {A = ℕ} (splits_box l) 0 1 ≡ length boxes + cond {A = ℕ} (splits_box l) 1 0

both_parts : (box : Box) (boxes : List Box) (a k : ℕ) (l : TreeLine) → All IsSmall (box ∷ boxes) → IsGenuine box a k → opened_by l (box ∷ boxes) ≡ opened_by (line.Split a k) (box ∷ boxes) → All IsSmall (opened_by l (box ∷ boxes))
both_parts box boxes a k l small genuine same =
    let P : ℕ × ℕ → Type 0 = λ (r : ℕ × ℕ). r.1 ≤ MAX_UNITS in
    let own : IsSmall box = All-head IsSmall box boxes small in
    let below = split_below box a k own genuine in
    let low = All-set P box (a - 1) ((range_at box a).0, k) (let most = below.0 in omega (arith, most)) own in
    let high = All-set P box (a - 1) (k + 1, (range_at box a).1) below.1 own in
    subst (λ (bs : List Box). All IsSmall bs) (sym same) (All-cons IsSmall (low_part box a k) (high_part box a k ∷ boxes) low (All-cons IsSmall (high_part box a k) boxes high (All-tail IsSmall box boxes small)))

opens : (l : TreeLine) (boxes : List Box) → 0 < length boxes → SplitsBox (first_box boxes) l → All IsSmall boxes → Opens l boxes
opens l [] some splits small = absurd (omega (arith, some))
opens (line.Split a k) (box ∷ boxes) some genuine small = record { small = both_parts box boxes a k (line.Split a k) small genuine refl; count = omega arith }
opens (line.Needed a k n) (box ∷ boxes) some genuine small = record { small = both_parts box boxes a k (line.Needed a k n) small genuine refl; count = omega arith }
opens (line.Leaf prices) (box ∷ boxes) some splits small = record { small = All-tail IsSmall box boxes small; count = omega arith }
opens (line.Step d n) (box ∷ boxes) some splits small = record { small = All-tail IsSmall box boxes small; count = omega arith }

-- ---- all lines

-- these lines have narrow numbers, and a text that is short by the boxes that are open before them and the splits that they make
record AreShort (open_boxes : ℕ) (lines : List TreeLine) : Type 0 where
  pub narrow : All IsNarrowTree lines
  pub short : length (text_of (map (λ l. cert.Tree l) lines ++ cert.End ∷ [])) ≤ splits_in lines * split_most + (splits_in lines + open_boxes) * MAX_LINE + 4

module _ (I : InstanceValue) (g : List TypeValue) (inside : IsInstance I) (graph : IsFlowGraph g) where
  arcs_narrow : {X : Type 0} (arc : X → ℕ) (xs : List X) → All (λ x. arc x ≤ length (numbered g)) xs → All (λ x. IsNarrow (arc x)) xs
  arcs_narrow arc xs named = λ k d within. let few = few_numbered g graph in let own = named k d within in omega (arith, few, own)

  -- an accepted place of the tree has narrow numbers
  narrow_tree : (box : Box) (l : TreeLine) → IsSmall box → NamesItems I l → NamesArcs g l → SplitsBox box l → IsNarrowTree l
  narrow_tree box (line.Split a k) small items arcs genuine =
      let few = few_numbered g graph in
      let below = (split_below box a k small genuine).0 in
      (omega (arith, few, arcs), omega (arith, below))
  narrow_tree box (line.Needed a k n) small items arcs genuine =
      let few = few_numbered g graph in
      let below = (split_below box a k small genuine).0 in
      let own = arcs.0 in
      (omega (arith, few, own), omega (arith, below), arcs_narrow (λ (x : ArcPart). x.arc) n.parts arcs.1)
  narrow_tree box (line.Leaf prices) small items arcs splits =
      ((λ k d within. let few = inside.item_count in let own = items k d within in omega (arith, few, own)), arcs_narrow (λ (x : ArcPrice). x.arc) prices.arcs arcs)
  narrow_tree box (line.Step d n) small items arcs splits = tt

  -- it is short, and shorter where it splits its box
  line_most : (before version : ℕ) (l : TreeLine) → IsSpelled before version (cert.Tree l) → HasFewParts l → length (line_text_of (cert.Tree l)) ≤ cond {A = ℕ} (splits_box l) split_most MAX_LINE
  line_most before version (line.Split a k) spelled few = split_short a k spelled.narrow.0 spelled.narrow.1
  line_most before version (line.Needed a k n) spelled few = needed_short a k n spelled.narrow.0 spelled.narrow.1 spelled.place.1.2 spelled.narrow.2 few
  line_most before version (line.Leaf prices) spelled few = line_short before version (cert.Tree (line.Leaf prices)) spelled
  line_most before version (line.Step d n) spelled few = line_short before version (cert.Tree (line.Step d n)) spelled

  -- a place of the tree in front
  short_more : (l : TreeLine) (lines : List TreeLine) (before now : ℕ) → now + cond {A = ℕ} (splits_box l) 0 1 ≡ before + cond {A = ℕ} (splits_box l) 1 0 → IsNarrowTree l → length (line_text_of (cert.Tree l)) ≤ cond {A = ℕ} (splits_box l) split_most MAX_LINE → AreShort now lines → AreShort before (l ∷ lines)
  short_more l lines before now counts narrow own rest =
      let rest_text : List ℕ = text_of (map (λ l. cert.Tree l) lines ++ cert.End ∷ []) in
      let cut : text_of (map (λ l. cert.Tree l) (l ∷ lines) ++ cert.End ∷ []) ≡ line_text_of (cert.Tree l) ++ rest_text = flat_map-cons line_text_of (cert.Tree l) (map (λ l. cert.Tree l) lines ++ cert.End ∷ []) in
      let size = length-append (line_text_of (cert.Tree l)) rest_text in
      let sum = sum_by-cons (λ (x : TreeLine). cond {A = ℕ} (splits_box x) 1 0) l lines in
      record {
        narrow = All-cons IsNarrowTree l lines narrow rest.narrow;
        short = subst (λ (t : List ℕ). length t ≤ splits_in (l ∷ lines) * split_most + (splits_in (l ∷ lines) + before) * MAX_LINE + 4) (sym cut) (by (splits_box l) counts own size sum rest.short);
      }
    where
      by : (splits : Bool) → now + cond {A = ℕ} splits 0 1 ≡ before + cond {A = ℕ} splits 1 0 → length (line_text_of (cert.Tree l)) ≤ cond {A = ℕ} splits split_most MAX_LINE
          → length (line_text_of (cert.Tree l) ++ text_of (map (λ l. cert.Tree l) lines ++ cert.End ∷ [])) ≡ length (line_text_of (cert.Tree l)) + length (text_of (map (λ l. cert.Tree l) lines ++ cert.End ∷ []))
          → splits_in (l ∷ lines) ≡ cond {A = ℕ} splits 1 0 + splits_in lines
          → length (text_of (map (λ l. cert.Tree l) lines ++ cert.End ∷ [])) ≤ splits_in lines * split_most + (splits_in lines + now) * MAX_LINE + 4
          → length (line_text_of (cert.Tree l) ++ text_of (map (λ l. cert.Tree l) lines ++ cert.End ∷ [])) ≤ splits_in (l ∷ lines) * split_most + (splits_in (l ∷ lines) + before) * MAX_LINE + 4
      by true counts own size sum short = omega (arith, counts, own, size, sum, short)
      by false counts own size sum short = omega (arith, counts, own, size, sum, short)

  -- accepted places of the tree, up to the end line
  tree_short : (p : Progress) (lines : List TreeLine) → All IsSmall p.boxes → All HasFewParts lines → AreAccepted I g p (map (λ l. cert.Tree l) lines ++ cert.End ∷ []) → AreShort (length p.boxes) lines
  tree_short p [] small few accepted = record { narrow = All-nil IsNarrowTree; short = omega arith }
  tree_short p (l ∷ lines) small few accepted =
      let all : IsAccepted I g p (cert.Tree l) = accepted.0 in
      let splits : SplitsBox (first_box p.boxes) l = all 5 cause.NotSplit (omega arith) in
      let some : 0 < length p.boxes = (all 1 cause.Extra (omega arith)).1 in
      let opened = opens l p.boxes some splits small in
      let narrow : IsNarrowTree l = narrow_tree (first_box p.boxes) l (first_small p.boxes some small) (all 3 cause.NoItem (omega arith)) (all 4 cause.NoArc (omega arith)) splits in
      let spelled : IsSpelled p.count p.version (cert.Tree l) = record { place = in_place I g p (cert.Tree l) all; narrow = narrow } in
      short_more l lines (length p.boxes) (length (opened_by l p.boxes)) opened.count narrow (line_most p.count p.version l spelled (All-head HasFewParts l lines few))
      (tree_short (after_line p (cert.Tree l)) lines opened.small (All-tail HasFewParts l lines few) accepted.1)
    where
      first_small : (boxes : List Box) → 0 < length boxes → All IsSmall boxes → IsSmall (first_box boxes)
      first_small [] some small = absurd (omega (arith, some))
      first_small (box ∷ boxes) some small = All-head IsSmall box boxes small

  module _ (c : Certificate) (claim : Claim) (certified : IsCertified I g (lines_of c) claim) (few : All HasFewParts c.lines) where
    abbrev tree_lines : List CertLine
    tree_lines = map (λ l. cert.Tree l) c.lines ++ cert.End ∷ []

    abbrev opening : Progress
    opening = after_line (at_start I g) (cert.Head c.version)

    whole_tree : AreShort 1 c.lines
    whole_tree = tree_short (after_line opening (cert.Claim c.claim c.goal)) c.lines (All-cons IsSmall (root_ranges I g) [] (root_small I g inside) (All-nil IsSmall)) few certified.each.1.1

    all_narrow : All IsNarrowLine (lines_of c)
    all_narrow =
        All-cons IsNarrowLine (cert.Head c.version) (cert.Claim c.claim c.goal ∷ tree_lines) tt
        (All-cons IsNarrowLine (cert.Claim c.claim c.goal) tree_lines tt
        (All-append IsNarrowLine (map (λ l. cert.Tree l) c.lines) (cert.End ∷ []) (All-map IsNarrowLine (λ l. cert.Tree l) c.lines whole_tree.narrow) (All-cons IsNarrowLine cert.End [] tt (All-nil IsNarrowLine))))

    all_short : splits_in c.lines ≤ MAX_SPLITS → length (certificate_text_of c) ≤ MAX_CERT
    all_short splits =
        let head = line_short 0 0 (cert.Head c.version) (record { place = in_place I g (at_start I g) (cert.Head c.version) certified.each.0; narrow = tt }) in
        let told = line_short 1 c.version (cert.Claim c.claim c.goal) (record { place = in_place I g opening (cert.Claim c.claim c.goal) certified.each.1.0; narrow = tt }) in
        let rest = whole_tree.short in
        let one = flat_map-cons line_text_of (cert.Head c.version) (cert.Claim c.claim c.goal ∷ tree_lines) in
        let two = flat_map-cons line_text_of (cert.Claim c.claim c.goal) tree_lines in
        let cut : certificate_text_of c ≡ line_text_of (cert.Head c.version) ++ (line_text_of (cert.Claim c.claim c.goal) ++ text_of tree_lines) = one ∙ ap (λ (t : List ℕ). line_text_of (cert.Head c.version) ++ t) two in
        let outer = length-append (line_text_of (cert.Head c.version)) (line_text_of (cert.Claim c.claim c.goal) ++ text_of tree_lines) in
        let inner = length-append (line_text_of (cert.Claim c.claim c.goal)) (text_of tree_lines) in
        subst (λ (t : List ℕ). length t ≤ MAX_CERT) (sym cut) (omega (arith, splits, head, told, rest, outer, inner))

pub few_splits_are_shown : FewSplitsAreShown
few_splits_are_shown = record {
  short = λ I g c claim inside graph certified splits few. all_short I g inside graph c claim certified few splits;
  shown = λ I g c claim inside graph certified splits few. written_is_shown I g c claim certified (all_narrow I g inside graph c claim certified few) (all_short I g inside graph c claim certified few splits);
}
