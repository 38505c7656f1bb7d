-- The lines that a tree gives are accepted.
use Rattle.std.proofs.Common.{◌≡◌, ℕ, zero, suc, ◌+◌, ◌-◌, ◌≤◌, ◌<◌, false, cond, List, [], ◌∷◌, ◌++◌, drop, take, drop-cons, get_or, length, Option, Some, None, is_some, refl, sym, ap, subst, ◌∙◌, arith, inr, ℤ, pos, ◌+ℤ◌, ◌-ℤ◌, ◌*ℤ◌, add-one}
use Rattle.std.specs.Prelude.{sum_by}
use Rattle.std.proofs.Math.IntN.{pos-*ℤ-pos}
use Rattle.std.proofs.lemmas.Int.{ints}
use Rattle.std.proofs.lemmas.List.{drop_all, length-map, take_all}
use Rattle.std.proofs.lemmas.List.Sums.{sum_by-append, sum_by-cons, sum_by_more}
use Rattle.packing_laws.specs.Instances.{InstanceValue}
use Rattle.flow_graph.specs.Arcs.{TypeValue, numbered}
use Rattle.flow_graph.specs.Chords.{IsGenuine, high_part, low_part}
use Rattle.flow_model.specs.Boxes.{root_range, root_ranges}
use Rattle.cert_text.specs.declared.lines.Claim.{Claim}
use Rattle.cert_text.specs.declared.lines.Claim.TheVariants.{Bound, Empty}
use Rattle.cert_text.specs.declared.lines.CertLine.{CertLine}
use Rattle.cert_text.specs.declared.lines.CertLine.TheVariants as cert
use Rattle.cert_text.specs.declared.lines.TreeLine.{TreeLine}
use Rattle.cert_text.specs.declared.lines.TreeLine.TheVariants as line
use Rattle.cert_text.specs.Lines.{IsClaim, IsGoal}
use Rattle.flow_graph.proofs.SignedProducts.{mul_add}
use Rattle.path_prices.specs.Worth.{IsEnough, bound, empty, worth_of}
use Rattle.cert_laws.specs.Rules.{AreAccepted, Box, IsAccepted, KeepsRule, Progress, after_line, after_lines, at_start, demands_of, opened_by}
use Rattle.cert_laws.specs.Shown.{IsCertified}
use Rattle.cert_laws.proofs.Acceptances.{all_causes, claim_accepted, end_accepted, head_accepted}
use Rattle.search_tree.specs.declared.lines.Target.{Target}
use Rattle.search_tree.specs.declared.places.Place.{Place}
use Rattle.search_tree.specs.declared.places.SplitAt.{SplitAt}
use Rattle.search_tree.specs.Trees.{AreShown, Fills, IsShown, IsSplitOf, IsTree, Reaches, TreeValue, box_of, parts_before, splits_box, splits_in, splits_of}
use Rattle.search_tree.specs.inner.Emitted.{IsEmitted, IsLineOf, IsSplitLine, IsWritten, claimed, leaf, needed, parts_of, plain, split, tree_of}
use Rattle.search_tree.proofs.Growing.{cut_size}

-- lines and one more
accepted_behind : (I : InstanceValue) (g : List TypeValue) (p : Progress) (lines : List CertLine) (l : CertLine) → AreAccepted I g p lines → IsAccepted I g (after_lines p lines) l → AreAccepted I g p (lines ++ l ∷ [])
accepted_behind I g p [] l all own = (own, tt)
accepted_behind I g p (x ∷ lines) l all own = (all.0, accepted_behind I g (after_line p x) lines l all.1 own)

after_behind : (p : Progress) (lines : List CertLine) (l : CertLine) → after_lines p (lines ++ l ∷ []) ≡ after_line (after_lines p lines) l
after_behind p [] l = refl
after_behind p (x ∷ lines) l = after_behind (after_line p x) lines l

tree_behind : (lines : List TreeLine) (l : TreeLine) → tree_of (lines ++ l ∷ []) ≡ tree_of lines ++ cert.Tree l ∷ []
tree_behind [] l = refl
tree_behind (x ∷ lines) l = ap (λ (ls : List CertLine). cert.Tree x ∷ ls) (tree_behind lines l)

-- what places of the tree leave as it was
record IsKept (old new : Progress) : Type 0 where
  pub count : old.count ≤ new.count
  pub version : new.version ≡ old.version
  pub claim : new.claim ≡ old.claim
  pub goal : new.goal ≡ old.goal
  pub ended : new.ended ≡ old.ended

kept : (p : Progress) (lines : List TreeLine) → IsKept p (after_lines p (tree_of lines))
kept p [] = record { count = omega arith; version = refl; claim = refl; goal = refl; ended = refl }
kept p (x ∷ lines) =
    let rest = kept (after_line p (cert.Tree x)) lines in
    let count = rest.count in
    record { count = omega (arith, count); version = rest.version; claim = rest.claim; goal = rest.goal; ended = rest.ended }

-- what is shown is enough for what it reaches
enough_reached : (shown claim : Claim) (scale : ℕ) (worth : ℤ) → Reaches shown claim → IsEnough shown scale worth → IsEnough claim scale worth
enough_reached shown claim scale worth reaches (empty none positive) = empty none positive
enough_reached shown Empty scale worth reaches (bound b is some passes) = absurd (subst (λ (c : Claim). Reaches c Empty) is reaches)
enough_reached shown (Bound least) scale worth reaches (bound b is some passes) =
    let below : least ≤ b = subst (λ (c : Claim). Reaches c (Bound least)) is reaches in
    let more : pos b -ℤ pos 1 ≡ (pos least -ℤ pos 1) +ℤ pos (b - least) = omega (arith, ints, below) in
    let whole : pos scale *ℤ (pos b -ℤ pos 1) ≡ pos scale *ℤ (pos least -ℤ pos 1) +ℤ pos scale *ℤ pos (b - least) = ap (λ z. pos scale *ℤ z) more ∙ mul_add (pos scale) (pos least -ℤ pos 1) (pos (b - least)) in
    let positive = pos-*ℤ-pos scale (b - least) in
    bound least refl some (omega (arith, ints, passes, whole, positive))

-- the box that a place fills, and those behind it
record IsFilled (root : Box) (boxes : List Box) (p : Place) (places : List Place) : Type 0 where
  pub box : Box
  pub others : List Box
  pub all : boxes ≡ box ∷ others
  pub own : box_of root p ≡ box
  pub parts : IsSplitOf box p.split
  pub rest : Fills root (parts_before p.split box others) places

filled : (root : Box) (boxes : List Box) (p : Place) (places : List Place) → Fills root boxes (p ∷ places) → IsFilled root boxes p places
filled root [] p places fills = absurd fills
filled root (box ∷ boxes) p places fills = record { box = box; others = boxes; all = refl; own = fills.0; parts = fills.1; rest = fills.2 }

nothing_left : (root : Box) (boxes : List Box) → Fills root boxes [] → boxes ≡ []
nothing_left root [] fills = refl
nothing_left root (box ∷ boxes) fills = absurd fills

no_length : {X : Type 0} (xs : List X) → length xs ≡ 0 → xs ≡ []
no_length [] size = refl
no_length (x ∷ xs) size = absurd (omega (arith, size))

right_nil : {X : Type 0} (xs ys : List X) → xs ++ ys ≡ [] → ys ≡ []
right_nil [] ys all = all
right_nil (x ∷ xs) ys all = absurd (let size : length (x ∷ (xs ++ ys)) ≡ 0 = ap length all in omega (arith, size))

sum_by-one : {X : Type 0} (f : X → ℕ) (x : X) → sum_by f (x ∷ []) ≡ f x
sum_by-one f x = let all = sum_by-cons f x [] in omega (arith, all)

pub parts_few : (t : Option SplitAt) → parts_of t ≤ 2
parts_few None = omega arith
parts_few (Some s) = omega arith

pub passed_few : (l : TreeLine) (parts : ℕ) → cond (splits_box l) 0 parts ≤ parts
passed_few (line.Split a k) parts = omega arith
passed_few (line.Needed a k need) parts = omega arith
passed_few (line.Leaf prices) parts = omega arith
passed_few (line.Step d n) parts = omega arith

-- what a line opens of the box of its place
record Opens (l : TreeLine) (t : Option SplitAt) (box : Box) (others : List Box) : Type 0 where
  pub over : List Box
  pub size : length over ≡ cond (splits_box l) 0 (parts_of t)
  pub all : parts_before t box others ≡ over ++ opened_by l (box ∷ others)

module _ (I : InstanceValue) (g : List TypeValue) (target : Target) where
  -- behind some places of the tree, with these boxes open
  abbrev standing : ℕ → List Box → Progress
  standing count boxes = record { count = count; version = 2; claim = target.claim; goal = target.goal; boxes = boxes; ended = false }

  module _ (count : ℕ) (late : 2 ≤ count) (box : Box) (others : List Box) (size : length box ≡ length (numbered g)) where
    abbrev here : Progress
    here = standing count (box ∷ others)

    some_open : 0 < length (box ∷ others)
    some_open = omega arith

    split_accepted : (s : SplitAt) (l : TreeLine) → IsGenuine box s.arc s.k → IsSplitLine I g box target.goal s l → IsAccepted I g here (cert.Tree l)
    split_accepted s l genuine (plain is) =
        let arc = genuine.arc in
        subst (λ (x : TreeLine). IsAccepted I g here (cert.Tree x)) (sym is)
        (all_causes (KeepsRule I g here (cert.Tree (line.Split s.arc s.k))) g (inr (late, arc.0)) (refl, some_open) tt tt (omega (arith, arc.1, size)) genuine tt tt (λ t among. tt) tt)
    split_accepted s l genuine (needed n is need arcs holds) =
        let arc = genuine.arc in
        subst (λ (x : TreeLine). IsAccepted I g here (cert.Tree x)) (sym is)
        (all_causes (KeepsRule I g here (cert.Tree (line.Needed s.arc s.k n))) g (inr (late, (omega arith, arc.0, need))) (refl, some_open) tt tt (omega (arith, arc.1, size), arcs) genuine holds tt (λ t among. tt) tt)

    line_accepted : (p : Place) (l : TreeLine) → IsShown I g box p.shown → IsSplitOf box p.split → IsLineOf I g box target p l → IsAccepted I g here (cert.Tree l)
    line_accepted p l shown parts (split s is made) = split_accepted s l (subst (IsSplitOf box) is parts) made
    line_accepted p l shown parts (leaf is makes) =
        subst (λ (x : TreeLine). IsAccepted I g here (cert.Tree x)) (sym is)
        (all_causes (KeepsRule I g here (cert.Tree (line.Leaf p.shown.prices))) g (inr (late, shown.prices)) (refl, some_open) tt shown.items shown.arcs tt tt tt shown.closes.gains
        (enough_reached p.shown.claim target.claim p.shown.prices.scale (worth_of (demands_of I) box p.shown.prices) makes.0 shown.closes.strong))

  behind_line : (p : Place) (l : TreeLine) (box : Box) (others : List Box) → IsLineOf I g box target p l → Opens l p.split box others
  behind_line p l box others (split s is (plain made)) = record {
    over = [];
    size = subst (λ (x : TreeLine). 0 ≡ cond (splits_box x) 0 (parts_of p.split)) (sym made) refl;
    all = subst (λ (x : TreeLine). parts_before p.split box others ≡ opened_by x (box ∷ others)) (sym made) (ap (λ (t : Option SplitAt). parts_before t box others) is);
  }
  behind_line p l box others (split s is (needed n made need arcs holds)) = record {
    over = [];
    size = subst (λ (x : TreeLine). 0 ≡ cond (splits_box x) 0 (parts_of p.split)) (sym made) refl;
    all = subst (λ (x : TreeLine). parts_before p.split box others ≡ opened_by x (box ∷ others)) (sym made) (ap (λ (t : Option SplitAt). parts_before t box others) is);
  }
  behind_line p l box others (leaf made makes) = passed p.split
    where
      passed : (t : Option SplitAt) → Opens l t box others
      passed None = record {
        over = [];
        size = subst (λ (x : TreeLine). ◌≡◌ {A = ℕ} 0 (cond (splits_box x) 0 0)) (sym made) refl;
        all = subst (λ (x : TreeLine). others ≡ opened_by x (box ∷ others)) (sym made) refl;
      }
      passed (Some s) = record {
        over = low_part box s.arc s.k ∷ high_part box s.arc s.k ∷ [];
        size = subst (λ (x : TreeLine). ◌≡◌ {A = ℕ} 2 (cond (splits_box x) 0 2)) (sym made) refl;
        all = subst (λ (x : TreeLine). low_part box s.arc s.k ∷ high_part box s.arc s.k ∷ others ≡ low_part box s.arc s.k ∷ high_part box s.arc s.k ∷ opened_by x (box ∷ others)) (sym made) refl;
      }

  -- how a line and its place count
  line_counts : (p : Place) (l : TreeLine) (box : Box) → IsLineOf I g box target p l → cond {A = ℕ} (splits_box l) 1 0 ≤ cond {A = ℕ} (is_some p.split) 1 0
  line_counts p l box (split s is (plain made)) =
      let left : cond {A = ℕ} (splits_box l) 1 0 ≡ 1 = ap (λ (x : TreeLine). cond {A = ℕ} (splits_box x) 1 0) made in
      let right : cond {A = ℕ} (is_some p.split) 1 0 ≡ 1 = ap (λ (t : Option SplitAt). cond {A = ℕ} (is_some t) 1 0) is in
      omega (arith, left, right)
  line_counts p l box (split s is (needed n made need arcs holds)) =
      let left : cond {A = ℕ} (splits_box l) 1 0 ≡ 1 = ap (λ (x : TreeLine). cond {A = ℕ} (splits_box x) 1 0) made in
      let right : cond {A = ℕ} (is_some p.split) 1 0 ≡ 1 = ap (λ (t : Option SplitAt). cond {A = ℕ} (is_some t) 1 0) is in
      omega (arith, left, right)
  line_counts p l box (leaf made makes) =
      let left : cond {A = ℕ} (splits_box l) 1 0 ≡ 0 = ap (λ (x : TreeLine). cond {A = ℕ} (splits_box x) 1 0) made in
      omega (arith, left)

  -- where the tree is not pruned, a line splits just where its place is split
  line_same : target.is_pruned ≡ false → (p : Place) (l : TreeLine) (box : Box) → IsLineOf I g box target p l → cond {A = ℕ} (splits_box l) 1 0 ≡ cond {A = ℕ} (is_some p.split) 1 0
  line_same whole p l box (split s is (plain made)) = (λ k. cond {A = ℕ} (splits_box (made k)) 1 0) ∙ sym (ap (λ (t : Option SplitAt). cond {A = ℕ} (is_some t) 1 0) is)
  line_same whole p l box (split s is (needed n made need arcs holds)) = (λ k. cond {A = ℕ} (splits_box (made k)) 1 0) ∙ sym (ap (λ (t : Option SplitAt). cond {A = ℕ} (is_some t) 1 0) is)
  line_same whole p l box (leaf made makes) = (λ k. cond {A = ℕ} (splits_box (made k)) 1 0) ∙ sym (ap (λ (t : Option SplitAt). cond {A = ℕ} (is_some t) 1 0) (makes.1 whole))

  line_passes : target.is_pruned ≡ false → (p : Place) (l : TreeLine) (box : Box) → IsLineOf I g box target p l → cond {A = ℕ} (splits_box l) 0 (parts_of p.split) ≡ 0
  line_passes whole p l box (split s is (plain made)) = λ k. cond {A = ℕ} (splits_box (made k)) 0 (parts_of p.split)
  line_passes whole p l box (split s is (needed n made need arcs holds)) = λ k. cond {A = ℕ} (splits_box (made k)) 0 (parts_of p.split)
  line_passes whole p l box (leaf made makes) = λ k. cond {A = ℕ} (splits_box (made k)) 0 (parts_of (makes.1 whole k))

  module _ (T : TreeValue) (root : T.root ≡ root_ranges I g) (shown : AreShown I g T) where
    pub begun : IsTree T.root T.places → IsEmitted I g target T 0 0 []
    begun tree = record {
      over = [];
      over_size = refl;
      accepted = tt;
      fills = subst (λ (b : Box). Fills T.root (b ∷ []) T.places) root tree.fills;
      fewer = omega arith;
      none_passed = λ whole. (refl, refl);
    }

    splits_more : (count : ℕ) (p : Place) → count < length T.places → p ≡ get_or T.places count p → splits_of (take (suc count) T.places) ≡ splits_of (take count T.places) + cond {A = ℕ} (is_some p.split) 1 0
    splits_more count p within read =
        ap (λ (n : ℕ). splits_of (take n T.places)) (sym (add-one count)) ∙ sum_by_more (λ (q : Place). cond (is_some q.split) 1 0) T.places count p within ∙ ap (λ (q : Place). splits_of (take count T.places) + cond {A = ℕ} (is_some q.split) 1 0) (sym read)

    -- the next place, and the boxes that it and the others fill
    next_filled : (count : ℕ) (boxes : List Box) (p : Place) → count < length T.places → p ≡ get_or T.places count p → Fills T.root boxes (drop count T.places) → IsFilled T.root boxes p (drop (suc count) T.places)
    next_filled count boxes p within read fills = filled T.root boxes p (drop (suc count) T.places) (subst (Fills T.root boxes) (drop-cons T.places count p within ∙ ap (λ (q : Place). q ∷ drop (suc count) T.places) (sym read)) fills)

    passed_on : (count passed : ℕ) (lines : List TreeLine) (p : Place) → count < length T.places → p ≡ get_or T.places count p → IsEmitted I g target T count (suc passed) lines → IsEmitted I g target T (suc count) (passed + parts_of p.split) lines
    passed_on count passed lines p within read so_far =
        let boxes : List Box = (after_lines (claimed I g target) (tree_of lines)).boxes in
        let part = beyond so_far.over passed so_far.over_size boxes p (drop (suc count) T.places) (subst (Fills T.root (so_far.over ++ boxes)) (drop-cons T.places count p within ∙ ap (λ (q : Place). q ∷ drop (suc count) T.places) (sym read)) so_far.fills) in
        let more = splits_more count p within read in
        let fewer = so_far.fewer in
        record {
          over = part.0;
          over_size = part.1;
          accepted = so_far.accepted;
          fills = part.2;
          fewer = omega (arith, more, fewer);
          none_passed = λ whole. absurd (let none = (so_far.none_passed whole).0 in omega (arith, none));
        }
      where
        beyond : (over : List Box) (n : ℕ) → length over ≡ suc n → (boxes : List Box) (q : Place) (places : List Place) → Fills T.root (over ++ boxes) (q ∷ places) → (next : List Box) × (length next ≡ n + parts_of q.split) × Fills T.root (next ++ boxes) places
        beyond [] n size boxes q places fills = absurd (omega (arith, size))
        beyond (box ∷ over) n size boxes q places fills = apart q.split fills.2
          where
            apart : (t : Option SplitAt) → Fills T.root (parts_before t box (over ++ boxes)) places → (next : List Box) × (length next ≡ n + parts_of t) × Fills T.root (next ++ boxes) places
            apart None rest = (over, omega (arith, size), rest)
            apart (Some s) rest = (low_part box s.arc s.k ∷ high_part box s.arc s.k ∷ over, omega (arith, size), rest)

    pub told : IsTree T.root T.places → (count : ℕ) (lines : List TreeLine) (p : Place) (l : TreeLine) → count < length T.places → p ≡ get_or T.places count p → IsLineOf I g (box_of T.root p) target p l → IsEmitted I g target T count 0 lines → IsEmitted I g target T (suc count) (cond (splits_box l) 0 (parts_of p.split)) (lines ++ l ∷ [])
    told tree count lines p l within read is so_far =
        let old : Progress = claimed I g target in
        let behind : Progress = after_lines old (tree_of lines) in
        let none : so_far.over ≡ [] = no_length so_far.over so_far.over_size in
        let next = next_filled count behind.boxes p within read (subst (λ (over : List Box). Fills T.root (over ++ behind.boxes) (drop count T.places)) none so_far.fills) in
        let keeps = kept old lines in
        let count_more = keeps.count in
        let stands : behind ≡ standing behind.count (next.box ∷ next.others) = λ k. record { count = behind.count; version = keeps.version k; claim = keeps.claim k; goal = keeps.goal k; boxes = next.all k; ended = keeps.ended k } in
        let line_of : IsLineOf I g next.box target p l = subst (λ (b : Box). IsLineOf I g b target p l) next.own is in
        let known : IsShown I g next.box p.shown = subst (λ (b : Box). IsShown I g b p.shown) next.own (subst (λ (q : Place). IsShown I g (box_of T.root q) q.shown) (sym read) (shown count p within)) in
        let size : length next.box ≡ length (numbered g) = ap (λ (b : Box). length b) (sym next.own) ∙ cut_size T.root p.cuts ∙ ap (λ (b : Box). length b) root ∙ length-map (numbered g) (root_range I) in
        let own : IsAccepted I g behind (cert.Tree l) = subst (λ (q : Progress). IsAccepted I g q (cert.Tree l)) (sym stands) (line_accepted behind.count (omega (arith, count_more)) next.box next.others size p l known next.parts line_of) in
        let opens = behind_line p l next.box next.others line_of in
        let after : after_lines old (tree_of (lines ++ l ∷ [])) ≡ after_line behind (cert.Tree l) = ap (λ (ls : List CertLine). after_lines old ls) (tree_behind lines l) ∙ after_behind old (tree_of lines) (cert.Tree l) in
        let boxes : (after_lines old (tree_of (lines ++ l ∷ []))).boxes ≡ opened_by l (next.box ∷ next.others) = ap (λ (q : Progress). q.boxes) after ∙ ap (λ (bs : List Box). opened_by l bs) next.all in
        let counts = line_counts p l next.box line_of in
        let more = splits_more count p within read in
        let fewer = so_far.fewer in
        let sum : splits_in (lines ++ l ∷ []) ≡ splits_in lines + cond {A = ℕ} (splits_box l) 1 0 = sum_by-append (λ (x : TreeLine). cond (splits_box x) 1 0) lines (l ∷ []) ∙ ap (λ (n : ℕ). splits_in lines + n) (sum_by-one (λ (x : TreeLine). cond (splits_box x) 1 0) l) in
        record {
          over = opens.over;
          over_size = opens.size;
          accepted = subst (AreAccepted I g old) (sym (tree_behind lines l)) (accepted_behind I g old (tree_of lines) (cert.Tree l) so_far.accepted own);
          fills = subst (λ (bs : List Box). Fills T.root (opens.over ++ bs) (drop (suc count) T.places)) (sym boxes) (subst (λ (bs : List Box). Fills T.root bs (drop (suc count) T.places)) opens.all next.rest);
          fewer = omega (arith, counts, more, fewer, sum);
          none_passed = λ whole. (line_passes whole p l next.box line_of, (let same = line_same whole p l next.box line_of in let before = (so_far.none_passed whole).1 in omega (arith, same, before, more, sum)));
        }

    -- the two turns of the loop, as it counts
    pub passing : (count passed parts next : ℕ) (lines all : List TreeLine) (p : Place) → count < length T.places → p ≡ get_or T.places count p → parts ≡ parts_of p.split → 0 < passed → next ≡ passed - 1 + parts → all ≡ lines → IsEmitted I g target T count passed lines → IsEmitted I g target T (count + 1) next all
    passing count zero parts next lines all p within read some positive is same so_far = absurd (omega (arith, positive))
    passing count (suc passed) parts next lines all p within read some positive is same so_far =
        let on = passed_on count passed lines p within read so_far in
        let now : passed + parts_of p.split ≡ next = omega (arith, is, some) in
        subst (λ (n : ℕ). IsEmitted I g target T n next all) (sym (add-one count))
        (subst (λ (n : ℕ). IsEmitted I g target T (suc count) n all) now (subst (λ (ls : List TreeLine). IsEmitted I g target T (suc count) (passed + parts_of p.split) ls) (sym same) on))

    pub telling : IsTree T.root T.places → (count passed parts next : ℕ) (lines all : List TreeLine) (p : Place) (l : TreeLine) → count < length T.places → p ≡ get_or T.places count p → parts ≡ parts_of p.split → (0 < passed → ⊥) → next ≡ cond (splits_box l) 0 parts → all ≡ lines ++ l ∷ [] → IsLineOf I g (box_of T.root p) target p l → IsEmitted I g target T count passed lines → IsEmitted I g target T (count + 1) next all
    telling tree count zero parts next lines all p l within read some none is same made so_far =
        let on = told tree count lines p l within read made so_far in
        let now : cond (splits_box l) 0 (parts_of p.split) ≡ next = ap (λ (n : ℕ). cond (splits_box l) 0 n) (sym some) ∙ sym is in
        subst (λ (n : ℕ). IsEmitted I g target T n next all) (sym (add-one count))
        (subst (λ (n : ℕ). IsEmitted I g target T (suc count) n all) now (subst (λ (ls : List TreeLine). IsEmitted I g target T (suc count) (cond (splits_box l) 0 (parts_of p.split)) ls) (sym same) on))
    telling tree count (suc passed) parts next lines all p l within read some none is same made so_far = absurd (none (omega arith))

    pub written : (passed : ℕ) (lines : List TreeLine) → IsEmitted I g target T (length T.places) passed lines → IsWritten I g target T lines
    written passed lines done =
        let boxes : List Box = (after_lines (claimed I g target) (tree_of lines)).boxes in
        let all : done.over ++ boxes ≡ [] = nothing_left T.root (done.over ++ boxes) (subst (Fills T.root (done.over ++ boxes)) (drop_all (length T.places) T.places (omega arith)) done.fills) in
        let whole : take (length T.places) T.places ≡ T.places = take_all (length T.places) T.places (omega arith) in
        record {
          accepted = done.accepted;
          closed = right_nil done.over boxes all;
          fewer = subst (λ (ps : List Place). splits_in lines ≤ splits_of ps) whole done.fewer;
          all = λ unpruned. (done.none_passed unpruned).1 ∙ ap (λ (ps : List Place). splits_of ps) whole;
        }

  -- the whole certificate
  pub certified : IsClaim target.claim → IsGoal 2 target.claim target.goal → (T : TreeValue) (lines : List TreeLine) → IsWritten I g target T lines → IsCertified I g (cert.Head 2 ∷ cert.Claim target.claim target.goal ∷ (tree_of lines ++ cert.End ∷ [])) target.claim
  certified claim goal T lines written =
      let old : Progress = claimed I g target in
      let behind : Progress = after_lines old (tree_of lines) in
      let keeps = kept old lines in
      let count_more = keeps.count in
      let last : IsAccepted I g behind cert.End = end_accepted I g behind keeps.ended (omega (arith, count_more)) written.closed in
      let after : after_lines old (tree_of lines ++ cert.End ∷ []) ≡ after_line behind cert.End = after_behind old (tree_of lines) cert.End in
      record {
        each = (
          head_accepted I g (at_start I g) refl 2 refl (omega arith, omega arith),
          (
            claim_accepted I g (after_line (at_start I g) (cert.Head 2)) refl target.claim target.goal refl claim goal,
            accepted_behind I g old (tree_of lines) cert.End written.accepted last,
          ),
        );
        whole = ap (λ (q : Progress). q.ended) after;
        told = ap (λ (q : Progress). q.claim) after ∙ keeps.claim;
      }
