-- A tree of chord splits has no more leaves than its root box has points.
use Rattle.std.proofs.Common.{◌≡◌, ℕ, zero, suc, ◌+◌, ◌-◌, ◌≤◌, List, [], ◌∷◌, Option, Some, None, ap, sym, subst, ◌∙◌, length, true, is_some, cond, arith, refl, set, ⊎_elim, ◌≢◌}
use Rattle.std.specs.Prelude.{All, IfSome, sum_by, slice_get}
use Rattle.std.proofs.lemmas.Bool.{cases_eq}
use Rattle.std.specs.Option.{unwrap_or}
use Rattle.std.proofs.lemmas.Option.{none-some}
use Rattle.std.proofs.lemmas.List.{length-set}
use Rattle.std.proofs.lemmas.List.Elements.{All-cons, All-head, All-nil, All-set, All-tail}
use Rattle.std.proofs.lemmas.List.Sums.{sum_by-cons}
use Rattle.flow_graph.specs.Arcs.{TypeValue, numbered}
use Rattle.flow_graph.specs.Chords.{high_part, is_chord, low_part, points_of, range_at}
use Rattle.flow_graph.specs.Laws.{PointsAreCounted}
use Rattle.cert_laws.specs.Rules.{Box}
use Rattle.search_tree.specs.declared.places.Place.{Place}
use Rattle.search_tree.specs.declared.places.SplitAt.{SplitAt}
use Rattle.search_tree.specs.Points.{HasOpenChord, IsOpenPlace, OpenTreesHavePoints}
use Rattle.search_tree.specs.Trees.{Fills, IsSplitOf, box_of, parts_before, splits_of}

module _ (g : List TypeValue) (laws : PointsAreCounted) where
  -- a box with a range for each arc, none of them empty
  record IsWhole (box : Box) : Type 0 where
    pub size : length box ≡ length (numbered g)
    pub order : All (λ r. r.0 ≤ r.1) box

  abbrev SplitsChord : Place → Type 0
  SplitsChord p = IfSome p.split (λ s. is_chord g s.arc ≡ true)

  set_whole : (box : Box) (i lower upper : ℕ) → lower ≤ upper → IsWhole box → IsWhole (set box i (lower, upper))
  set_whole box i lower upper order whole = record {
    size = length-set box i (lower, upper) ∙ whole.size;
    order = All-set (λ (r : ℕ × ℕ). r.0 ≤ r.1) box i (lower, upper) order whole.order;
  }

  some_points : (box : Box) → IsWhole box → 1 ≤ points_of g box
  some_points box whole = (laws.boxes g box whole.size whole.order).some

  more_points : (box : Box) → IsWhole box → HasOpenChord g box → 2 ≤ points_of g box
  more_points box whole open' =
      let points = laws.boxes g box whole.size whole.order in
      let some = points.some in
      let wide = open'.2 in
      ⊎_elim
      (λ (one : points_of g box ≡ 1). let same = points.one.0 one open'.0 open'.1 in absurd (omega (arith, same, wide)))
      (λ (other : points_of g box ≢ 1). omega (arith, some, other))
      (cases_eq (points_of g box) 1)

  abbrev points : List Box → ℕ
  points boxes = sum_by (points_of g) boxes

  parts_whole : (box : Box) (boxes : List Box) (split : Option SplitAt) → IsSplitOf box split → IsWhole box → All IsWhole boxes → All IsWhole (parts_before split box boxes)
  parts_whole box boxes None is whole others = others
  parts_whole box boxes (Some s) is whole others =
      let low = is.low in
      let high = is.high in
      All-cons IsWhole (low_part box s.arc s.k) (high_part box s.arc s.k ∷ boxes) (set_whole box (s.arc - 1) (range_at box s.arc).0 s.k low whole)
      (All-cons IsWhole (high_part box s.arc s.k) boxes (set_whole box (s.arc - 1) (s.k + 1) (range_at box s.arc).1 (omega (arith, high)) whole) others)

  -- with so many points to spare behind a place there are as many to spare before it
  with_place : (spare : ℕ) (box : Box) (boxes : List Box) (p : Place) (places : List Place) (split : Option SplitAt) → split ≡ p.split → IsWhole box → IfSome split (λ s. is_chord g s.arc ≡ true) → IsSplitOf box split → splits_of places + length (parts_before split box boxes) + spare ≤ points (parts_before split box boxes) → splits_of (p ∷ places) + length (box ∷ boxes) + spare ≤ points (box ∷ boxes)
  with_place spare box boxes p places None is whole chord parts rest =
      let none : cond {A = ℕ} (is_some p.split) 1 0 ≡ 0 = ap (λ (t : Option SplitAt). cond {A = ℕ} (is_some t) 1 0) (sym is) in
      let count : splits_of (p ∷ places) ≡ cond {A = ℕ} (is_some p.split) 1 0 + splits_of places = sum_by-cons (λ (q : Place). cond (is_some q.split) 1 0) p places in
      let all : points (box ∷ boxes) ≡ points_of g box + points boxes = sum_by-cons (points_of g) box boxes in
      let some = some_points box whole in
      omega (arith, rest, none, count, all, some)
  with_place spare box boxes p places (Some s) is whole chord parts rest =
      let one : cond {A = ℕ} (is_some p.split) 1 0 ≡ 1 = ap (λ (t : Option SplitAt). cond {A = ℕ} (is_some t) 1 0) (sym is) in
      let count : splits_of (p ∷ places) ≡ cond {A = ℕ} (is_some p.split) 1 0 + splits_of places = sum_by-cons (λ (q : Place). cond (is_some q.split) 1 0) p places in
      let all : points (box ∷ boxes) ≡ points_of g box + points boxes = sum_by-cons (points_of g) box boxes in
      let low : points (low_part box s.arc s.k ∷ high_part box s.arc s.k ∷ boxes) ≡ points_of g (low_part box s.arc s.k) + points (high_part box s.arc s.k ∷ boxes) = sum_by-cons (points_of g) (low_part box s.arc s.k) (high_part box s.arc s.k ∷ boxes) in
      let high : points (high_part box s.arc s.k ∷ boxes) ≡ points_of g (high_part box s.arc s.k) + points boxes = sum_by-cons (points_of g) (high_part box s.arc s.k) boxes in
      let both = (laws.parts g box whole.size s.arc s.k parts).chord chord in
      omega (arith, rest, one, count, all, low, high, both)

  module _ (root : Box) where
    -- the boxes have at least one point for each leaf of the trees that fill them
    leaves_have_points : (boxes : List Box) (places : List Place) → All IsWhole boxes → All SplitsChord places → Fills root boxes places → splits_of places + length boxes + 0 ≤ points boxes
    leaves_have_points [] [] whole chords fills = omega arith
    leaves_have_points [] (p ∷ places) whole chords fills = absurd fills
    leaves_have_points (box ∷ boxes) [] whole chords fills = absurd fills
    leaves_have_points (box ∷ boxes) (p ∷ places) whole chords fills =
        with_place 0 box boxes p places p.split refl (All-head IsWhole box boxes whole) (All-head SplitsChord p places chords) fills.1
        (leaves_have_points (parts_before p.split box boxes) places (parts_whole box boxes p.split fills.1 (All-head IsWhole box boxes whole) (All-tail IsWhole box boxes whole)) (All-tail SplitsChord p places chords) fills.2)

    -- a leaf that could be split spares one more
    open_leaf : (box : Box) (boxes : List Box) (p : Place) (places : List Place) → All IsWhole (box ∷ boxes) → All SplitsChord places → box_of root p ≡ box → IsOpenPlace g root p → Fills root (parts_before p.split box boxes) places → splits_of (p ∷ places) + length (box ∷ boxes) + 1 ≤ points (box ∷ boxes)
    open_leaf box boxes p places whole chords is place fills =
        let none : cond {A = ℕ} (is_some p.split) 1 0 ≡ 0 = ap (λ (t : Option SplitAt). cond {A = ℕ} (is_some t) 1 0) place.leaf in
        let count : splits_of (p ∷ places) ≡ cond {A = ℕ} (is_some p.split) 1 0 + splits_of places = sum_by-cons (λ (q : Place). cond (is_some q.split) 1 0) p places in
        let all : points (box ∷ boxes) ≡ points_of g box + points boxes = sum_by-cons (points_of g) box boxes in
        let two = more_points box (All-head IsWhole box boxes whole) (subst (HasOpenChord g) is place.chord) in
        let rest = leaves_have_points boxes places (All-tail IsWhole box boxes whole) chords (subst (λ (t : Option SplitAt). Fills root (parts_before t box boxes) places) place.leaf fills) in
        omega (arith, none, count, all, two, rest)

    open_trees : (boxes : List Box) (places : List Place) (index : ℕ) (p : Place) → slice_get places index ≡ Some p → IsOpenPlace g root p → All IsWhole boxes → All SplitsChord places → Fills root boxes places → splits_of places + length boxes + 1 ≤ points boxes
    open_trees boxes [] index p got place whole chords fills = absurd (none-some p got)
    open_trees [] (q ∷ places) index p got place whole chords fills = absurd fills
    open_trees (box ∷ boxes) (q ∷ places) zero p got place whole chords fills =
        let same : q ≡ p = ap (λ (o : Option Place). unwrap_or o p) got in
        open_leaf box boxes q places whole (All-tail SplitsChord q places chords) fills.0 (subst (IsOpenPlace g root) (sym same) place) fills.2
    open_trees (box ∷ boxes) (q ∷ places) (suc index) p got place whole chords fills =
        with_place 1 box boxes q places q.split refl (All-head IsWhole box boxes whole) (All-head SplitsChord q places chords) fills.1
        (open_trees (parts_before q.split box boxes) places index p got place (parts_whole box boxes q.split fills.1 (All-head IsWhole box boxes whole) (All-tail IsWhole box boxes whole)) (All-tail SplitsChord q places chords) fills.2)

pub open_trees_have_points : PointsAreCounted → OpenTreesHavePoints
open_trees_have_points laws g T index p size order tree chords got place =
    let whole : IsWhole g laws T.root = record { size = size; order = order } in
    let more = open_trees g laws T.root (T.root ∷ []) T.places index p got place (All-cons (IsWhole g laws) T.root [] whole (All-nil (IsWhole g laws))) chords tree.fills in
    let all : sum_by (points_of g) (T.root ∷ []) ≡ points_of g T.root + 0 = sum_by-cons (points_of g) T.root [] in
    omega (arith, more, all)
