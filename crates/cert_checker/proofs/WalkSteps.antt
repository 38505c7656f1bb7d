-- Steps of a walk: what they leave of the way to the first box, and which boxes are open after them.
use Rattle.std.proofs.Common.{◌≡◌, ℕ, ◌+◌, ◌-◌, ◌<◌, ◌≤◌, Bool, true, false, cond, List, [], ◌∷◌, ◌++◌, length, set, get_or, reverse, refl, sym, ap, ◌∙◌, subst, arith, ◌⊎◌, inl, inr, Result, Ok, Err, Some, OnOk, OnErr}
use Rattle.std.specs.List.{slice_get}
use Rattle.std.proofs.lemmas.Option.{slice_get_within, get_or_from_slice_get}
use Rattle.std.proofs.lemmas.List.{length-set, set-set, set-get_or, reverse-append, reverse-reverse, set-append_right, length-append}
use Rattle.packing_laws.specs.Instances.{IsAmong}
use Rattle.flow_graph.specs.Chords.{IsGenuine, high_part, low_part, range_at}
use Rattle.flow_graph.proofs.Points.{range_own}
use Rattle.cert_laws.specs.Rules.{Box, first_box}
use Rattle.cert_checker.specs.declared.trails.Branch.{Branch}
use Rattle.cert_checker.specs.Trails.{IsBranch, LeadsTo, beside, open_boxes, outer_of, root_of, waiting, WalkValue}
use Rattle.cert_checker.specs.inner.Turns.{IsLowBranch, low_branch, other_branch}

-- a list that ends in an element, from its end
pub reversed : {X : Type 0} (outer : List X) (b : X) → reverse (outer ++ b ∷ []) ≡ b ∷ reverse outer
reversed outer b = reverse-append outer (b ∷ [])

-- the first box has as many ranges as the root
pub root_size : (box : Box) (trail : List Branch) → length (root_of box trail) ≡ length box
root_size box [] = refl
root_size box (b ∷ trail) = root_size (outer_of b box) trail ∙ length-set box (b.arc - 1) (b.lower, b.upper)

module _ (box : Box) (a cut : ℕ) (genuine : IsGenuine box a cut) where
  -- the box comes back
  outer_low : outer_of (low_branch box a) (low_part box a cut) ≡ box
  outer_low = set-set box (a - 1) ((range_at box a).0, cut) (range_at box a) ∙ set-get_or box (a - 1) (0, 0)

  -- the high part waits beside the low one
  beside_low : beside (low_branch box a) (low_part box a cut) ≡ high_part box a cut
  beside_low =
      let upper : (range_at (low_part box a cut) a).1 ≡ cut = ap (λ (r : ℕ × ℕ). r.1) (range_own box a ((range_at box a).0, cut) genuine.arc) in
      ap (λ n. set (low_part box a cut) (a - 1) (n + 1, (range_at box a).1)) upper ∙ set-set box (a - 1) ((range_at box a).0, cut) (cut + 1, (range_at box a).1)

  low_is_branch : IsBranch (low_branch box a) (low_part box a cut)
  low_is_branch = record {
    cut = cut;
    genuine = subst (λ (x : Box). IsGenuine x a cut) (sym outer_low) genuine;
    part = ap (λ (x : Box). low_part x a cut) (sym outer_low);
  }

  pub down_leads : (new : Box) (before after : List Branch) → IsLowBranch box a cut new before after → LeadsTo box before → LeadsTo new after
  down_leads new before after is leads =
      let there : LeadsTo (low_part box a cut) (low_branch box a ∷ before) = (low_is_branch, subst (λ (x : Box). LeadsTo x before) (sym outer_low) leads) in
      let first : LeadsTo new (low_branch box a ∷ before) = subst (λ (x : Box). LeadsTo x (low_branch box a ∷ before)) (sym is.first) there in
      subst (λ (t : List Branch). LeadsTo new t) (sym is.trail) first

  pub down_root : (new : Box) (before after : List Branch) → IsLowBranch box a cut new before after → root_of new after ≡ root_of box before
  down_root new before after is =
      ap (root_of new) is.trail
      ∙ ap (λ (x : Box). root_of x (low_branch box a ∷ before)) is.first
      ∙ ap (λ (x : Box). root_of x before) outer_low

  pub down_boxes : (new : Box) (before after : List Branch) → IsLowBranch box a cut new before after → waiting new after ≡ high_part box a cut ∷ waiting box before
  down_boxes new before after is =
      ap (waiting new) is.trail
      ∙ ap (λ (x : Box). waiting x (low_branch box a ∷ before)) is.first
      ∙ (λ i. beside_low i ∷ waiting (outer_low i) before)

module _ (b : Branch) (box : Box) (low : b.low ≡ true) (is : IsBranch b box) where
  part_low : box ≡ low_part (outer_of b box) b.arc is.cut
  part_low = is.part ∙ ap (λ (l : Bool). cond l (low_part (outer_of b box) b.arc is.cut) (high_part (outer_of b box) b.arc is.cut)) low

  upper_end : (range_at box b.arc).1 ≡ is.cut
  upper_end = ap (λ (x : Box). (range_at x b.arc).1) part_low ∙ ap (λ (r : ℕ × ℕ). r.1) (range_own (outer_of b box) b.arc ((range_at (outer_of b box) b.arc).0, is.cut) is.genuine.arc)

  among : IsAmong b.arc (length box)
  among = let size = length-set box (b.arc - 1) (b.lower, b.upper) in (is.genuine.arc.0, omega (arith, is.genuine.arc.1, size))

  outer_range : range_at (outer_of b box) b.arc ≡ (b.lower, b.upper)
  outer_range = range_own box b.arc (b.lower, b.upper) among

  outer_other : outer_of (other_branch b) (beside b box) ≡ outer_of b box
  outer_other = set-set box (b.arc - 1) ((range_at box b.arc).1 + 1, b.upper) (b.lower, b.upper)

  part_other : beside b box ≡ high_part (outer_of (other_branch b) (beside b box)) b.arc is.cut
  part_other =
      ap (λ n. set box (b.arc - 1) (n + 1, b.upper)) upper_end
      ∙ sym (set-set box (b.arc - 1) (b.lower, b.upper) (is.cut + 1, b.upper))
      ∙ ap (λ n. set (outer_of b box) (b.arc - 1) (is.cut + 1, n)) (sym (ap (λ (r : ℕ × ℕ). r.1) outer_range))
      ∙ ap (λ (x : Box). high_part x b.arc is.cut) (sym outer_other)

  -- the arc and the upper end of the low part, as a turn wants them
  pub turn_arc : IsAmong b.arc (length box)
  turn_arc = among

  pub turn_range : (range_at box b.arc).1 + 1 ≤ b.upper
  turn_range = let high = is.genuine.high in let range = ap (λ (r : ℕ × ℕ). r.1) outer_range in omega (arith, high, range, upper_end)

  pub turn_leads : (outer : List Branch) → LeadsTo (outer_of b box) outer → LeadsTo (beside b box) (other_branch b ∷ outer)
  turn_leads outer leads =
      let branch : IsBranch (other_branch b) (beside b box) = record {
        cut = is.cut;
        genuine = subst (λ (x : Box). IsGenuine x b.arc is.cut) (sym outer_other) is.genuine;
        part = part_other;
      } in
      (branch, subst (λ (x : Box). LeadsTo x outer) (sym outer_other) leads)

  pub turn_root : (outer : List Branch) → root_of (beside b box) (other_branch b ∷ outer) ≡ root_of box (b ∷ outer)
  turn_root outer = ap (λ (x : Box). root_of x outer) outer_other

  pub turn_boxes : (outer : List Branch) → waiting box (b ∷ outer) ≡ beside b box ∷ waiting (beside b box) (other_branch b ∷ outer)
  turn_boxes outer =
      ap (λ (l : Bool). cond l (beside b box ∷ waiting (outer_of b box) outer) (waiting (outer_of b box) outer)) low
      ∙ ap (λ (x : Box). beside b box ∷ waiting x outer) (sym outer_other)

-- the box that was split has the range of the branch, in order
pub back_range : (b : Branch) (box : Box) → IsBranch b box → b.lower ≤ b.upper
back_range b box is =
    let size = length-set box (b.arc - 1) (b.lower, b.upper) in
    let range : range_at (outer_of b box) b.arc ≡ (b.lower, b.upper) = range_own box b.arc (b.lower, b.upper) (is.genuine.arc.0, omega (arith, is.genuine.arc.1, size)) in
    let low = is.genuine.low in
    let high = is.genuine.high in
    let one = ap (λ (r : ℕ × ℕ). r.0) range in
    let two = ap (λ (r : ℕ × ℕ). r.1) range in
    omega (arith, low, high, one, two)

pub back_arc : (b : Branch) (box : Box) → IsBranch b box → IsAmong b.arc (length box)
back_arc b box is = let size = length-set box (b.arc - 1) (b.lower, b.upper) in (is.genuine.arc.0, omega (arith, is.genuine.arc.1, size))

pub back_boxes : (b : Branch) (box : Box) (outer : List Branch) → b.low ≡ false → waiting box (b ∷ outer) ≡ waiting (outer_of b box) outer
back_boxes b box outer high = ap (λ (l : Bool). cond l (beside b box ∷ waiting (outer_of b box) outer) (waiting (outer_of b box) outer)) high

-- what a walk with an open box is made of
module _ (open_now : Bool) (box : Box) (trail : List Branch) (w : WalkValue) (view : record { root = root_of box trail; boxes = open_boxes open_now box trail } ≡ w) (some : 0 < length w.boxes) where
  pub root_is : root_of box trail ≡ w.root
  root_is = ap (λ (v : WalkValue). v.root) view

  pub is_open : open_now ≡ true
  is_open = by open_now (ap (λ (v : WalkValue). v.boxes) view)
    where
      by : (b : Bool) → open_boxes b box trail ≡ w.boxes → b ≡ true
      by true e = refl
      by false e = let none : 0 ≡ length w.boxes = ap (λ (bs : List Box). length bs) e in absurd (omega (arith, none, some))

  pub boxes_are : w.boxes ≡ box ∷ waiting box trail
  boxes_are = sym (ap (λ (v : WalkValue). v.boxes) view) ∙ ap (λ (b : Bool). open_boxes b box trail) is_open

  pub first_is : first_box w.boxes ≡ box
  first_is = ap first_box boxes_are

-- of two facts, one for each answer, one holds
pub either : {X E P Q : Type 0} (result : Result X E) → OnOk result P → OnErr result Q → P ⊎ Q
either (Ok x) p q = inl p
either (Err e) p q = inr q

-- the last element of a list is another
pub last_set : {X : Type 0} (outer : List X) (b new : X) (n : ℕ) → n ≡ length (outer ++ b ∷ []) - 1 → set (outer ++ b ∷ []) n new ≡ outer ++ new ∷ []
last_set outer b new n is =
    let size = length-append outer (b ∷ []) in
    let place : n ≡ length outer = omega (arith, is, size) in
    set-append_right outer (b ∷ []) (length outer) n new refl (omega (arith, place))
    ∙ ap (λ k. outer ++ set (b ∷ []) k new) (let zero_is : n - length outer ≡ 0 = omega (arith, place) in zero_is)

pub last_is : {X : Type 0} (outer : List X) (b d : X) (n : ℕ) → n ≡ length (outer ++ b ∷ []) - 1 → get_or (outer ++ b ∷ []) n d ≡ b
last_is outer b d n is =
    let size = length-append outer (b ∷ []) in
    let place : n ≡ length outer = omega (arith, is, size) in
    ap (λ k. get_or (outer ++ b ∷ []) k d) place ∙ at_end outer b d
  where
    at_end : {X : Type 0} (outer : List X) (b d : X) → get_or (outer ++ b ∷ []) (length outer) d ≡ b
    at_end [] b d = refl
    at_end (x ∷ outer) b d = at_end outer b d

-- a list with a last element ends in it
pub ends_in : {X : Type 0} (xs : List X) (b : X) → slice_get xs (length xs - 1) ≡ Some b → (outer : List X) × (xs ≡ outer ++ b ∷ [])
ends_in {X} xs b is = by (reverse xs) (reverse-reverse xs)
  where
    by : (r : List X) → reverse r ≡ xs → (outer : List X) × (xs ≡ outer ++ b ∷ [])
    by [] same =
        let none : 0 ≡ length xs = ap (λ (l : List X). length l) same in
        let within : length xs - 1 < length xs = slice_get_within xs (length xs - 1) b is in
        absurd (omega (arith, none, within))
    by (y ∷ ys) same =
        let whole : reverse ys ++ y ∷ [] ≡ xs = sym (reverse-append (y ∷ []) ys) ∙ same in
        let there : get_or xs (length xs - 1) y ≡ b = get_or_from_slice_get xs (length xs - 1) b y is in
        let own : get_or (reverse ys ++ y ∷ []) (length xs - 1) y ≡ y = last_is (reverse ys) y y (length xs - 1) (ap (λ (l : List X). length l - 1) (sym whole)) in
        let last : y ≡ b = sym own ∙ ap (λ (l : List X). get_or l (length xs - 1) y) whole ∙ there in
        (reverse ys, sym whole ∙ ap (λ z. reverse ys ++ z ∷ []) last)

-- what a turn leaves
pub record Turned (box new : Box) (before after : List Branch) : Type 0 where
  pub leads : LeadsTo new (reverse after)
  pub root : root_of new (reverse after) ≡ root_of box (reverse before)
  pub boxes : waiting box (reverse before) ≡ new ∷ waiting new (reverse after)

pub turned : (box new : Box) (before after : List Branch) (b : Branch) → (outer : List Branch) × (before ≡ outer ++ b ∷ []) → b.low ≡ true → LeadsTo box (reverse before) → new ≡ beside b box → ((outer : List Branch) → before ≡ outer ++ b ∷ [] → after ≡ outer ++ other_branch b ∷ []) → Turned box new before after
turned box new before after b last low leads first trail =
    let outer : List Branch = last.0 in
    let old : reverse before ≡ b ∷ reverse outer = ap (λ (t : List Branch). reverse t) last.1 ∙ reversed outer b in
    let now : reverse after ≡ other_branch b ∷ reverse outer = ap (λ (t : List Branch). reverse t) (trail outer last.1) ∙ reversed outer (other_branch b) in
    let way : LeadsTo box (b ∷ reverse outer) = subst (λ (t : List Branch). LeadsTo box t) old leads in
    let both : LeadsTo (beside b box) (other_branch b ∷ reverse outer) = turn_leads b box low way.0 (reverse outer) way.1 in
    record {
      leads = subst (λ (x : Box). LeadsTo x (reverse after)) (sym first) (subst (λ (t : List Branch). LeadsTo (beside b box) t) (sym now) both);
      root = ap (λ (x : Box). root_of x (reverse after)) first ∙ ap (root_of (beside b box)) now ∙ turn_root b box low way.0 (reverse outer) ∙ sym (ap (root_of box) old);
      boxes =
          ap (waiting box) old
          ∙ turn_boxes b box low way.0 (reverse outer)
          ∙ ap (λ (t : List Branch). beside b box ∷ waiting (beside b box) t) (sym now)
          ∙ ap (λ (x : Box). x ∷ waiting x (reverse after)) (sym first);
    }
