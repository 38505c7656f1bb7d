-- The answer of a search at its end.
use Rattle.std.proofs.Common.{◌≡◌, ℕ, ◌+◌, ◌≤◌, ◌<◌, min, List, [], ◌∷◌, ◌++◌, Option, None, Some, take, get_or, length, sym, ap, subst, ◌∙◌, arith, All, ⊎_elim, is_some}
use Rattle.std.specs.Prelude.{IfSome, IsNone}
use Rattle.std.specs.Option.{IsSomeAnd, option_map}
use Rattle.std.proofs.lemmas.Bool.{cases_lt}
use Rattle.std.proofs.lemmas.List.{get_or_append_left, length-append, take_more}
use Rattle.std.proofs.lemmas.List.Elements.{All-head, All-more, All-tail}
use Rattle.arc_num.specs.declared.TheConstants.{MAX_PRICE}
use Rattle.packing_laws.specs.Instances.{InstanceValue}
use Rattle.packing_laws.specs.Packings.{cost_of}
use Rattle.packing_laws.specs.Printed.{bins_of}
use Rattle.packing_laws.specs.Floors.{material_of, single_of}
use Rattle.flow_graph.specs.Arcs.{TypeValue}
use Rattle.flow_graph.specs.Chords.{points_of}
use Rattle.flow_model.specs.Boxes.{root_ranges}
use Rattle.flow_model.specs.Flows.{FlowsLieInRoot}
use Rattle.cert_text.specs.declared.lines.Claim.{Claim}
use Rattle.cert_text.specs.declared.lines.Claim.TheVariants.{Bound, Empty}
use Rattle.cert_text.specs.Lines.{IsClaim}
use Rattle.cert_laws.specs.Rules.{Box}
use Rattle.search_tree.specs.declared.places.Place.{Place}
use Rattle.search_tree.specs.declared.places.SplitAt.{SplitAt}
use Rattle.search_tree.specs.Points.{OpenTreesHavePoints}
use Rattle.search_tree.specs.Trees.{IsTree, LeavesReach, Reaches, splits_of}
use Rattle.search_tree.proofs.Needs.{holds_at}
use Rattle.search_states.specs.declared.known.Known.{Known}
use Rattle.search_states.specs.declared.states.State.{State}
use Rattle.search_states.specs.States.{IsKnown, IsOpenLeaf, IsPrinted, IsState, goal_of}
use Rattle.search_states.proofs.Splits.{leaf_chord, leaf_valued}
use Rattle.branch_search.specs.inner.Bounds.{IsBoundOf, IsLeastBound, bound_in, leaf_bound}

left_all : {X : Type 0} (P : X → Type 0) (xs ys : List X) → All P (xs ++ ys) → All P xs
left_all P xs ys all k d within = let size = length-append xs ys in subst P (get_or_append_left xs ys d k within) (all k d (omega (arith, size, within)))

last_all : {X : Type 0} (P : X → Type 0) (xs : List X) (x : X) → All P (xs ++ x ∷ []) → P x
last_all P [] x all = All-head P x [] all
last_all P (y ∷ xs) x all = last_all P xs x (All-tail P y (xs ++ x ∷ []) all)

-- one more place
pub least_more : (places : List Place) (i least bound next : ℕ) (p : Place) → i < length places → p ≡ get_or places i p → IsBoundOf p bound → next ≡ min least bound → IsLeastBound (take i places) least → IsLeastBound (take (i + 1) places) next
least_more places i least bound next p within read is made so_far =
    let f : Place → ℕ = λ q. leaf_bound q.split q.shown.claim in
    let small = so_far.small in
    let own : next ≤ f (get_or places i p) = subst (λ (q : Place). next ≤ f q) read (omega (arith, is, made)) in
    record {
      small = omega (arith, made, small);
      below = All-more (λ (q : Place). next ≤ f q) places i p within (λ k d inside. let before = so_far.below k d inside in omega (arith, before, made)) own;
      reached = λ m fits all.
          let both : All (λ q. m ≤ f q) (take i places ++ get_or places i p ∷ []) = subst (λ (ps : List Place). All (λ q. m ≤ f q) ps) (take_more places i p within) all in
          let before : m ≤ least = so_far.reached m fits (left_all (λ (q : Place). m ≤ f q) (take i places) (get_or places i p ∷ []) both) in
          let last : m ≤ f (get_or places i p) = last_all (λ (q : Place). m ≤ f q) (take i places) (get_or places i p) both in
          let here : m ≤ f p = subst (λ (q : Place). m ≤ f q) (sym read) last in
          omega (arith, before, here, is, made);
    }

module _ (I : InstanceValue) (g : List TypeValue) (s : State) (st : IsState I g s) (index : ℕ) (leaf : IsOpenLeaf s index) (lower : ℕ) (least : IsLeastBound s.tree.places lower) where
  leaf_least : lower ≤ bound_in leaf.place.shown.claim
  leaf_least = subst (λ (t : Option SplitAt). lower ≤ leaf_bound t leaf.place.shown.claim) leaf.is_open.0 (holds_at (λ (p : Place). lower ≤ leaf_bound p.split p.shown.claim) s.tree.places index leaf.place leaf.read least.below)

  below_goal : (claim goal : Claim) → (Reaches claim goal → ⊥) → lower ≤ bound_in claim → Reaches (Bound lower) goal → ⊥
  below_goal Empty goal not within reached = not tt
  below_goal (Bound b) Empty not within reached = reached
  below_goal (Bound b) (Bound z) not within reached = not (omega (arith, within, reached))

  pub lower_is_below : Reaches (Bound lower) (goal_of s.best) → ⊥
  lower_is_below = below_goal leaf.place.shown.claim (goal_of s.best) leaf.is_open.1 leaf_least

  claim_small : (claim goal : Claim) → IsClaim claim → Reaches claim (Bound (material_of I)) → (Reaches claim goal → ⊥) → material_of I ≤ MAX_PRICE
  claim_small Empty goal fits reached not = absurd (not tt)
  claim_small (Bound b) goal fits reached not = omega (arith, fits, reached)

  material_small : material_of I ≤ MAX_PRICE
  material_small = claim_small leaf.place.shown.claim (goal_of s.best) (leaf_valued I g s st index leaf).0.claim (leaf_valued I g s st index leaf).1 leaf.is_open.1

  place_bound : (t : Option SplitAt) (claim : Claim) → Reaches claim (Bound (material_of I)) → material_of I ≤ leaf_bound t claim
  place_bound (Some x) claim reached = material_small
  place_bound None Empty reached = material_small
  place_bound None (Bound b) reached = let small = material_small in omega (arith, reached, small)

  pub material_reached : material_of I ≤ lower
  material_reached = least.reached (material_of I) material_small (λ k d within. place_bound (get_or s.tree.places k d).split (get_or s.tree.places k d).shown.claim (st.valued k d within).1)

  pub printed : (best : Option Known) → IfSome best (IsKnown I) → (Reaches (Bound lower) (goal_of best) → ⊥) → IfSome (option_map (λ (k : Known). k.packing) best) (λ bins. IsPrinted I bins × (lower < cost_of I (bins_of bins)))
  printed None known not = tt
  printed (Some k) known not = (known.printed, (let cost = known.cost in ⊎_elim (λ (below : lower < k.cost). omega (arith, below, cost)) (λ above. absurd (not above)) (cases_lt lower k.cost)))

  pub single_kept : (best : Option Known) → IfSome best (IsKnown I) → IsSomeAnd best (λ k. k.cost ≤ single_of I) → IsSomeAnd (option_map (λ (k : Known). k.packing) best) (λ bins. cost_of I (bins_of bins) ≤ single_of I)
  single_kept None known some = some
  single_kept (Some k) known some = let cost = known.cost in omega (arith, cost, some)

  pub points : OpenTreesHavePoints → FlowsLieInRoot → IsTree s.tree.root s.tree.places → splits_of s.tree.places + 1 < points_of g (root_ranges I g)
  points law roots tree =
      subst (λ (root : Box). splits_of s.tree.places + 1 < points_of g root) st.root
      (law g s.tree index leaf.place (ap (λ (b : Box). length b) st.root ∙ roots.size I g) (subst (λ (root : Box). All (λ r. r.0 ≤ r.1) root) (sym st.root) (roots.order I g)) tree st.chords leaf.read (record { leaf = leaf.is_open.0; chord = leaf_chord I g s st index leaf }))

-- an open leaf is not closed
pub not_closed : (s : State) (index : ℕ) → IsOpenLeaf s index → LeavesReach (goal_of s.best) s.tree → ⊥
not_closed s index leaf closed = leaf.is_open.1 (holds_at (λ (p : Place). IsNone p.split → Reaches p.shown.claim (goal_of s.best)) s.tree.places index leaf.place leaf.read closed (ap (λ (t : Option SplitAt). is_some t) leaf.is_open.0))
