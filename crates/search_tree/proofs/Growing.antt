-- A place that is split.
use Rattle.std.proofs.Common.{◌≡◌, ℕ, zero, suc, ◌+◌, ◌-◌, ◌<◌, ◌≤◌, List, [], ◌∷◌, ◌++◌, Option, Some, None, ◌∙◌, ap, sym, subst, set, insert, get_or, length, refl, arith, true, is_some, cond, Result, Ok, Err, OnOk, OnErr, ◌⊎◌, inl, inr}
use Rattle.std.specs.Prelude.{All, IfSome, sum_by, slice_get, slice_set}
use Rattle.std.proofs.lemmas.List.{get_or-append_right, length-append, length-set}
use Rattle.std.proofs.lemmas.Option.{slice_get_read}
use Rattle.std.proofs.lemmas.List.Elements.{All-append, All-cons, All-head, All-nil, All-tail}
use Rattle.std.proofs.lemmas.List.Sums.{sum_by-append, sum_by-cons}
use Rattle.packing_laws.specs.Instances.{InstanceValue}
use Rattle.flow_graph.specs.Arcs.{TypeValue, numbered}
use Rattle.flow_graph.specs.Chords.{IsGenuine, high_part, is_chord, low_part, range_at}
use Rattle.cert_text.specs.Lines.{IsNeed}
use Rattle.cert_laws.specs.Rules.{Box}
use Rattle.search_tree.specs.declared.places.Cut.{Cut}
use Rattle.search_tree.specs.declared.places.Place.{Place}
use Rattle.search_tree.specs.declared.places.Shown.{Shown}
use Rattle.search_tree.specs.declared.places.SplitAt.{SplitAt}
use Rattle.search_tree.specs.Trees.{AreShown, Fills, IsCut, IsGrown, IsShown, IsSplitOf, IsTree, KeepsNeeds, SplitsChords, TreeValue, box_of, cut_box, high_place, low_place, parts_before, splits_of}
use Rattle.search_tree.specs.inner.Spread.{IsSplitInto, IsSpread}

-- two insertions behind a place, and then the place itself
pub spread : (xs : List Place) (i : ℕ) (s : SplitAt) (low high r : Place) → i < length xs → r ≡ get_or (insert (insert xs (suc i) high) (suc i) low) i r → IsSpread xs i s low high (set (insert (insert xs (suc i) high) (suc i) low) i (record { cuts = r.cuts; shown = r.shown; split = Some s; need = r.need }))
spread [] i s low high r within read = absurd (omega (arith, within))
spread (x ∷ xs) zero s low high r within read = record {
  before = [];
  place = x;
  after = xs;
  old_places = refl;
  at = refl;
  new_places = ap (λ (p : Place). record { cuts = p.cuts; shown = p.shown; split = Some s; need = p.need } ∷ low ∷ high ∷ xs) read;
}
spread (x ∷ xs) (suc i) s low high r within read =
    let rest : IsSpread xs i s low high (set (insert (insert xs (suc i) high) (suc i) low) i (record { cuts = r.cuts; shown = r.shown; split = Some s; need = r.need })) = spread xs i s low high r (omega (arith, within)) read in
    record {
      before = x ∷ rest.before;
      place = rest.place;
      after = rest.after;
      old_places = ap (λ (ps : List Place). x ∷ ps) rest.old_places;
      at = ap suc rest.at;
      new_places = ap (λ (ps : List Place). x ∷ ps) rest.new_places;
    }

-- one cut more
pub cut_more : (root : Box) (cuts : List Cut) (c : Cut) → cut_box root (cuts ++ c ∷ []) ≡ slice_set (cut_box root cuts) (c.arc - 1) (c.lower, c.upper)
cut_more root [] c = refl
cut_more root (d ∷ cuts) c = cut_more (slice_set root (d.arc - 1) (d.lower, d.upper)) cuts c

pub cut_size : (root : Box) (cuts : List Cut) → length (cut_box root cuts) ≡ length root
cut_size root [] = refl
cut_size root (c ∷ cuts) = cut_size (slice_set root (c.arc - 1) (c.lower, c.upper)) cuts ∙ length-set root (c.arc - 1) (c.lower, c.upper)

-- what holds of the others and of the two parts holds of all
all_grown : (P : Place → Type 0) (before after : List Place) (here there low high : Place) → (P here → P there) → (P here → P low) → (P here → P high) → All P (before ++ here ∷ after) → All P (before ++ there ∷ low ∷ high ∷ after)
all_grown P [] after here there low high kept left right all =
    let own : P here = All-head P here after all in
    All-cons P there (low ∷ high ∷ after) (kept own) (All-cons P low (high ∷ after) (left own) (All-cons P high after (right own) (All-tail P here after all)))
all_grown P (x ∷ before) after here there low high kept left right all =
    All-cons P x (before ++ there ∷ low ∷ high ∷ after) (All-head P x (before ++ here ∷ after) all) (all_grown P before after here there low high kept left right (All-tail P x (before ++ here ∷ after) all))

module _ (old : TreeValue) (i : ℕ) (s : SplitAt) (left right : Shown) (new : TreeValue) (grown : IsGrown old i s left right new) where
  abbrev pub box : Box
  box = box_of old.root grown.place

  abbrev pub low : Place
  low = low_place box grown.place s left

  abbrev pub high : Place
  high = high_place box grown.place s right

  abbrev pub there : Place
  there = record grown.place { split = Some s }

  pub low_box : box_of old.root low ≡ low_part box s.arc s.k
  low_box = cut_more old.root grown.place.cuts (record { arc = s.arc; lower = (range_at box s.arc).0; upper = s.k })

  pub high_box : box_of old.root high ≡ high_part box s.arc s.k
  high_box = cut_more old.root grown.place.cuts (record { arc = s.arc; lower = s.k + 1; upper = (range_at box s.arc).1 })

  pub kept_all : (P : Place → Type 0) → (P grown.place → P there) → (P grown.place → P low) → (P grown.place → P high) → All P old.places → All P new.places
  kept_all P own left right all =
      subst (λ (ps : List Place). All P ps) (sym grown.new_places)
      (all_grown P grown.before grown.after grown.place there low high own left right (subst (λ (ps : List Place). All P ps) grown.old_places all))

  pub grown_shown : (I : InstanceValue) (g : List TypeValue) → IsShown I g (low_part box s.arc s.k) left → IsShown I g (high_part box s.arc s.k) right → AreShown I g old → AreShown I g new
  grown_shown I g lower upper shown =
      subst (λ (root : Box). All (λ p. IsShown I g (box_of root p) p.shown) new.places) (sym grown.root)
      (kept_all (λ (p : Place). IsShown I g (box_of old.root p) p.shown)
      (λ own. own)
      (λ own. subst (λ (b : Box). IsShown I g b left) (sym low_box) lower)
      (λ own. subst (λ (b : Box). IsShown I g b right) (sym high_box) upper)
      shown)

  pub grown_chords : (g : List TypeValue) → is_chord g s.arc ≡ true → SplitsChords g old → SplitsChords g new
  grown_chords g chord all = kept_all (λ (p : Place). IfSome p.split (λ t. is_chord g t.arc ≡ true)) (λ own. chord) (λ own. tt) (λ own. tt) all

  pub grown_needs : (g : List TypeValue) → KeepsNeeds g old → KeepsNeeds g new
  grown_needs g all = kept_all (λ (p : Place). IfSome p.need (λ n. IsNeed n × All (λ x. x.arc ≤ length (numbered g)) n.parts)) (λ own. own) (λ own. tt) (λ own. tt) all

  pub grown_splits : grown.place.split ≡ None → splits_of new.places ≡ splits_of old.places + 1
  grown_splits leaf =
      let f : Place → ℕ = λ (p : Place). cond (is_some p.split) 1 0 in
      let none : f grown.place ≡ 0 = ap (λ (t : Option SplitAt). cond {A = ℕ} (is_some t) 1 0) leaf in
      let was : sum_by f old.places ≡ sum_by f grown.before + (f grown.place + sum_by f grown.after) = ap (λ (ps : List Place). sum_by f ps) grown.old_places ∙ sum_by-append f grown.before (grown.place ∷ grown.after) ∙ ap (λ n. sum_by f grown.before + n) (sum_by-cons f grown.place grown.after) in
      let is : sum_by f new.places ≡ sum_by f grown.before + sum_by f (there ∷ low ∷ high ∷ grown.after) = ap (λ (ps : List Place). sum_by f ps) grown.new_places ∙ sum_by-append f grown.before (there ∷ low ∷ high ∷ grown.after) in
      let three : sum_by f (there ∷ low ∷ high ∷ grown.after) ≡ 1 + (0 + (0 + sum_by f grown.after)) = sum_by-cons f there (low ∷ high ∷ grown.after) ∙ ap (λ n. 1 + n) (sum_by-cons f low (high ∷ grown.after) ∙ ap (λ n. 0 + n) (sum_by-cons f high grown.after)) in
      omega (arith, none, was, is, three)

-- the place of a split, which has the box that was read at its index
pub place_read : (box : Box) (places : List Place) (i : ℕ) (s : SplitAt) (left right : Shown) (new : List Place) → (into : IsSplitInto box places i s left right new) → slice_get places i ≡ Some into.place
place_read box places i s left right new into =
    let none : i - i ≡ 0 = omega arith in
    let size = length-append into.before (into.place ∷ into.after) in
    let at = into.at in
    subst (λ (xs : List Place). slice_get xs i ≡ Some into.place) (sym into.old_places)
    (slice_get_read (into.before ++ into.place ∷ into.after) (length (into.before ++ into.place ∷ into.after)) i into.place refl (omega (arith, size, at)) (sym (get_or-append_right into.before (into.place ∷ into.after) i i into.place into.at (omega arith) ∙ ap (λ (k : ℕ). get_or (into.place ∷ into.after) k into.place) none)))

-- a tree that is split at a place with this box
abbrev pub grown_from : (old new : TreeValue) (i : ℕ) (s : SplitAt) (left right : Shown) (box : Box) → new.root ≡ old.root → (into : IsSplitInto box old.places i s left right new.places) → box ≡ box_of old.root into.place → IsGrown old i s left right new
grown_from old new i s left right box root into is = record {
  before = into.before;
  place = into.place;
  after = into.after;
  old_places = into.old_places;
  at = into.at;
  root = root;
  new_places = subst (λ (b : Box). new.places ≡ into.before ++ record into.place { split = Some s } ∷ low_place b into.place s left ∷ high_place b into.place s right ∷ into.after) is into.new_places;
}

-- the places fill the root box after a leaf is split
fills_grown : (root : Box) (boxes : List Box) (before after : List Place) (p low high : Place) (s : SplitAt) → p.split ≡ None → IsSplitOf (box_of root p) (Some s) → box_of root low ≡ low_part (box_of root p) s.arc s.k → box_of root high ≡ high_part (box_of root p) s.arc s.k → low.split ≡ None → high.split ≡ None → Fills root boxes (before ++ p ∷ after) → Fills root boxes (before ++ record p { split = Some s } ∷ low ∷ high ∷ after)
fills_grown root [] [] after p low high s leaf genuine left right none nothing fills = absurd fills
fills_grown root (box ∷ boxes) [] after p low high s leaf genuine left right none nothing fills =
    let rest : Fills root boxes after = subst (λ (t : Option SplitAt). Fills root (parts_before t box boxes) after) leaf fills.2 in
    let own : IsSplitOf box (Some s) = subst (λ (b : Box). IsSplitOf b (Some s)) fills.0 genuine in (
      fills.0,
      own,
      (
        left ∙ ap (λ (b : Box). low_part b s.arc s.k) fills.0,
        subst (IsSplitOf (low_part box s.arc s.k)) (sym none) tt,
        subst (λ (t : Option SplitAt). Fills root (parts_before t (low_part box s.arc s.k) (high_part box s.arc s.k ∷ boxes)) (high ∷ after)) (sym none) (
          right ∙ ap (λ (b : Box). high_part b s.arc s.k) fills.0,
          subst (IsSplitOf (high_part box s.arc s.k)) (sym nothing) tt,
          subst (λ (t : Option SplitAt). Fills root (parts_before t (high_part box s.arc s.k) boxes) after) (sym nothing) rest,
        ),
      ),
    )
fills_grown root [] (q ∷ before) after p low high s leaf genuine left right none nothing fills = absurd fills
fills_grown root (box ∷ boxes) (q ∷ before) after p low high s leaf genuine left right none nothing fills = (fills.0, fills.1, fills_grown root (parts_before q.split box boxes) before after p low high s leaf genuine left right none nothing fills.2)

pub grown_tree : (old new : TreeValue) (i : ℕ) (s : SplitAt) (left right : Shown) (grown : IsGrown old i s left right new) → grown.place.split ≡ None → IsGenuine (box_of old.root grown.place) s.arc s.k → All (λ r. r.0 ≤ r.1) (box_of old.root grown.place) → IsTree old.root old.places → IsTree new.root new.places
grown_tree old new i s left right grown leaf genuine ordered tree =
    let size : ℕ = length old.root in
    let within = genuine.arc in
    let long : length (box_of old.root grown.place) ≡ size = cut_size old.root grown.place.cuts in
    let range = genuine in
    let cut_low : IsCut size (record { arc = s.arc; lower = (range_at (box_of old.root grown.place) s.arc).0; upper = s.k }) = ((omega (arith, within.0), omega (arith, within.1, long)), genuine.low) in
    let cut_high : IsCut size (record { arc = s.arc; lower = s.k + 1; upper = (range_at (box_of old.root grown.place) s.arc).1 }) = ((omega (arith, within.0), omega (arith, within.1, long)), (let high = genuine.high in omega (arith, high))) in
    subst (λ (root : Box). IsTree root new.places) (sym grown.root)
    (record {
      fills = subst (Fills old.root (old.root ∷ [])) (sym grown.new_places)
          (fills_grown old.root (old.root ∷ []) grown.before grown.after grown.place (low old i s left right new grown) (high old i s left right new grown) s leaf genuine (low_box old i s left right new grown) (high_box old i s left right new grown) refl refl (subst (Fills old.root (old.root ∷ [])) grown.old_places tree.fills));
      cuts = kept_all old i s left right new grown (λ (p : Place). All (IsCut size) p.cuts)
          (λ own. own)
          (λ own. All-append (IsCut size) grown.place.cuts (record { arc = s.arc; lower = (range_at (box_of old.root grown.place) s.arc).0; upper = s.k } ∷ []) own (All-cons (IsCut size) (record { arc = s.arc; lower = (range_at (box_of old.root grown.place) s.arc).0; upper = s.k }) [] cut_low (All-nil (IsCut size))))
          (λ own. All-append (IsCut size) grown.place.cuts (record { arc = s.arc; lower = s.k + 1; upper = (range_at (box_of old.root grown.place) s.arc).1 } ∷ []) own (All-cons (IsCut size) (record { arc = s.arc; lower = s.k + 1; upper = (range_at (box_of old.root grown.place) s.arc).1 }) [] cut_high (All-nil (IsCut size))))
          tree.cuts;
    })

-- what a split into two parts says of the tree
module _ (old new : TreeValue) (i : ℕ) (s : SplitAt) (left right : Shown) (box : Box) (root : new.root ≡ old.root) (read : (p : Place) → slice_get old.places i ≡ Some p → box ≡ box_of old.root p) (into : IsSplitInto box old.places i s left right new.places) where
  abbrev pub split_grown : IsGrown old i s left right new
  split_grown = grown_from old new i s left right box root into (read into.place (place_read box old.places i s left right new.places into))

  at_place : slice_get old.places i ≡ Some into.place
  at_place = place_read box old.places i s left right new.places into

  module _ (leaf : (p : Place) → slice_get old.places i ≡ Some p → p.split ≡ None) (genuine : (p : Place) → slice_get old.places i ≡ Some p → IsGenuine (box_of old.root p) s.arc s.k) (ordered : All (λ r. r.0 ≤ r.1) box) where
    ordered_at : All (λ r. r.0 ≤ r.1) (box_of old.root into.place)
    ordered_at = subst (λ (b : Box). All (λ r. r.0 ≤ r.1) b) (read into.place at_place) ordered

    pub split_tree : IsTree old.root old.places → IsTree new.root new.places
    split_tree = grown_tree old new i s left right split_grown (leaf into.place at_place) (genuine into.place at_place) ordered_at

    pub split_more : splits_of new.places ≡ splits_of old.places + 1
    split_more = grown_splits old i s left right new split_grown (leaf into.place at_place)

pub either : {T E P Q : Type 0} (r : Result T E) → OnOk r P → OnErr r Q → P ⊎ Q
either (Ok x) p q = inl p
either (Err x) p q = inr q
