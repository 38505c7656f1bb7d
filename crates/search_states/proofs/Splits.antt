-- An open leaf that is split.
use Rattle.std.proofs.Common.{◌≡◌, ℕ, ◌≤◌, List, Option, None, Some, true, false, is_some, get_or, sym, ap, subst, ◌∙◌, inl, inr, ⊎_elim}
use Rattle.std.specs.Prelude.{All, slice_get}
use Rattle.std.specs.Option.{unwrap_or}
use Rattle.packing_laws.specs.Instances.{InstanceValue}
use Rattle.flow_graph.specs.Arcs.{TypeValue}
use Rattle.flow_graph.specs.Chords.{IsGenuine, high_part, low_part}
use Rattle.flow_model.specs.Boxes.{BoxesSplit, IsPartOf, LiesWithin, high, low, root_ranges}
use Rattle.flow_model.specs.Flows.{FlowsLieInRoot}
use Rattle.cert_text.specs.declared.lines.Claim.{Claim}
use Rattle.cert_laws.specs.Rules.{Box}
use Rattle.search_tree.specs.declared.places.Place.{Place}
use Rattle.search_tree.specs.declared.places.Shown.{Shown}
use Rattle.search_tree.specs.declared.places.SplitAt.{SplitAt}
use Rattle.search_tree.specs.Laws.{PartsAreShown}
use Rattle.search_tree.specs.Points.{HasOpenChord}
use Rattle.search_tree.specs.Trees.{IsGrown, KeepsNeeds, SplitsChords, TreeValue, box_of}
use Rattle.search_tree.proofs.Growing as growing
use Rattle.search_tree.proofs.Needs.{holds_at}
use Rattle.search_states.specs.declared.findings.Finding.{Finding}
use Rattle.search_states.specs.declared.known.Known.{Known}
use Rattle.search_states.specs.declared.notes.Notes.{Notes}
use Rattle.search_states.specs.declared.states.State.{State}
use Rattle.search_states.specs.States.{IsBetter, IsFinding, IsOpenLeaf, IsSettled, IsState, IsValued}

module _ (I : InstanceValue) (g : List TypeValue) (s : State) (st : IsState I g s) (index : ℕ) (leaf : IsOpenLeaf s index) where
  abbrev pub box : Box
  box = box_of s.tree.root leaf.place

  pub leaf_valued : IsValued I g box leaf.place.shown
  leaf_valued = holds_at (λ (p : Place). IsValued I g (box_of s.tree.root p) p.shown) s.tree.places index leaf.place leaf.read st.valued

  pub leaf_part : IsPartOf s.tree.root box
  leaf_part = holds_at (λ (p : Place). IsPartOf s.tree.root (box_of s.tree.root p)) s.tree.places index leaf.place leaf.read st.parts

  pub leaf_chord : HasOpenChord g box
  leaf_chord = ⊎_elim
      (λ closed. absurd (leaf.is_open.1 closed))
      (λ chord. chord)
      (holds_at (λ (p : Place). p.split ≡ None → IsSettled g (box_of s.tree.root p) s.best p.shown.claim) s.tree.places index leaf.place leaf.read st.leaves leaf.is_open.0)

  module _ (splits : BoxesSplit) (roots : FlowsLieInRoot) (ranges : Box) (is : ranges ≡ box) (t : SplitAt) (genuine : IsGenuine ranges t.arc t.k) where
    part_within : (part : Box) → IsPartOf s.tree.root part → LiesWithin part (root_ranges I g)
    part_within part made = subst (λ (root : Box). LiesWithin part root) st.root (splits.parts s.tree.root part (subst (λ (root : Box). All (λ r. r.0 ≤ r.1) root) (sym st.root) (roots.order I g)) made)

    pub low_made : IsPartOf s.tree.root (low_part ranges t.arc t.k)
    low_made = low ranges t.arc t.k (subst (IsPartOf s.tree.root) (sym is) leaf_part) genuine

    pub high_made : IsPartOf s.tree.root (high_part ranges t.arc t.k)
    high_made = high ranges t.arc t.k (subst (IsPartOf s.tree.root) (sym is) leaf_part) genuine

    pub low_within : (part : Box) → part ≡ low_part ranges t.arc t.k → LiesWithin part (root_ranges I g)
    low_within part made = part_within part (subst (IsPartOf s.tree.root) (sym made) low_made)

    pub high_within : (part : Box) → part ≡ high_part ranges t.arc t.k → LiesWithin part (root_ranges I g)
    high_within part made = part_within part (subst (IsPartOf s.tree.root) (sym made) high_made)

    module _ (parts : PartsAreShown) (ordered : All (λ r. r.0 ≤ r.1) ranges) (shown : Shown) (same : shown ≡ leaf.place.shown) where
      known : IsValued I g ranges shown
      known = subst (λ (b : Box). IsValued I g b shown) (sym is) (subst (λ (k : Shown). IsValued I g box k) (sym same) leaf_valued)

      pub low_valued : (part : Box) → part ≡ low_part ranges t.arc t.k → IsValued I g part shown
      low_valued part made = subst (λ (b : Box). IsValued I g b shown) (sym made) (parts.low I g ranges shown t.arc t.k ordered genuine known.0, known.1)

      pub high_valued : (part : Box) → part ≡ high_part ranges t.arc t.k → IsValued I g part shown
      high_valued part made = subst (λ (b : Box). IsValued I g b shown) (sym made) (parts.high I g ranges shown t.arc t.k ordered genuine known.0, known.1)

    module _ (a b : Finding) (lower upper : Box) (lower_is : lower ≡ low_part ranges t.arc t.k) (upper_is : upper ≡ high_part ranges t.arc t.k) (first : IsFinding I g lower s.best a) (second : IsFinding I g upper a.best b) (tree : TreeValue) (grown : IsGrown s.tree index t a.shown b.shown tree) where
      here : slice_get s.tree.places index ≡ Some grown.place
      here = growing.place_read (box_of s.tree.root grown.place) s.tree.places index t a.shown b.shown tree.places (record { before = grown.before; place = grown.place; after = grown.after; old_places = grown.old_places; at = grown.at; new_places = grown.new_places })

      same_place : grown.place ≡ leaf.place
      same_place = ap (λ (o : Option Place). unwrap_or o grown.place) (sym here ∙ leaf.read)

      grown_box : box_of s.tree.root grown.place ≡ ranges
      grown_box = ap (λ (p : Place). box_of s.tree.root p) same_place ∙ sym is

      low_box_is : box_of s.tree.root (growing.low s.tree index t a.shown b.shown tree grown) ≡ lower
      low_box_is = growing.low_box s.tree index t a.shown b.shown tree grown ∙ ap (λ (x : Box). low_part x t.arc t.k) grown_box ∙ sym lower_is

      high_box_is : box_of s.tree.root (growing.high s.tree index t a.shown b.shown tree grown) ≡ upper
      high_box_is = growing.high_box s.tree index t a.shown b.shown tree grown ∙ ap (λ (x : Box). high_part x t.arc t.k) grown_box ∙ sym upper_is

      all_kept : (P : Box → Place → Type 0) → ((q : Place) → P (box_of s.tree.root grown.place) grown.place → P (box_of s.tree.root grown.place) (record grown.place { split = Some t })) → P lower (growing.low s.tree index t a.shown b.shown tree grown) → P upper (growing.high s.tree index t a.shown b.shown tree grown) → All (λ p. P (box_of s.tree.root p) p) s.tree.places → All (λ p. P (box_of tree.root p) p) tree.places
      all_kept P own left right all =
          subst (λ (root : Box). All (λ p. P (box_of root p) p) tree.places) (sym grown.root)
          (growing.kept_all s.tree index t a.shown b.shown tree grown (λ (p : Place). P (box_of s.tree.root p) p)
          (own grown.place)
          (λ before. subst (λ (x : Box). P x (growing.low s.tree index t a.shown b.shown tree grown)) (sym low_box_is) left)
          (λ before. subst (λ (x : Box). P x (growing.high s.tree index t a.shown b.shown tree grown)) (sym high_box_is) right)
          all)

      settled_on : (old new : Option Known) (x : Box) (claim : Claim) → IsBetter old new → IsSettled g x old claim → IsSettled g x new claim
      settled_on old new x claim better settled = ⊎_elim (λ closed. inl (better claim closed)) (λ chord. inr chord) settled

      better : IsBetter s.best b.best
      better = λ claim reached. second.better claim (first.better claim reached)

      pub grown_state : (notes : Notes) → (SplitsChords g s.tree → SplitsChords g tree) → (KeepsNeeds g s.tree → KeepsNeeds g tree) → IsState I g (record { tree = tree; best = b.best; chords = s.chords; notes = notes })
      grown_state notes chords needs = record {
        root = grown.root ∙ st.root;
        parts = subst (λ (root : Box). All (λ p. IsPartOf root (box_of tree.root p)) tree.places) (sym grown.root) (all_kept (λ x p. IsPartOf s.tree.root x) (λ q own. own) (subst (IsPartOf s.tree.root) (sym lower_is) low_made) (subst (IsPartOf s.tree.root) (sym upper_is) high_made) st.parts);
        valued = all_kept (λ x p. IsValued I g x p.shown) (λ q own. own) first.valued second.valued st.valued;
        chords = chords st.chords;
        needs = needs st.needs;
        leaves = all_kept (λ x p. p.split ≡ None → IsSettled g x b.best p.shown.claim)
            (λ q own split. absurd (let bad : true ≡ false = ap (λ (o : Option SplitAt). is_some o) split in cc))
            (λ none. settled_on a.best b.best lower a.shown.claim second.better first.settled)
            (λ none. second.settled)
            (λ k d within none. settled_on s.best b.best (box_of s.tree.root (get_or s.tree.places k d)) (get_or s.tree.places k d).shown.claim better (st.leaves k d within none));
        best = second.best;
        told = st.told;
      }
