-- What is kept at a place leaves the state as it is.
use Rattle.std.proofs.Common.{◌≡◌, ℕ, ◌+◌, ◌<◌, List, [], Some, None, length, refl, sym, ap, subst, ◌∙◌, true, set, get_or, cond, is_some, sum_by, arith}
use Rattle.std.specs.Prelude.{All, IfSome, IsNone, slice_get, slice_set}
use Rattle.std.proofs.lemmas.List.Elements.{All-set}
use Rattle.std.proofs.lemmas.List.Sums.{sum_by-set}
use Rattle.std.proofs.lemmas.Option.{get_or_from_slice_get, slice_get-get_or, slice_get_within}
use Rattle.packing_laws.specs.Instances.{InstanceValue}
use Rattle.flow_graph.specs.Arcs.{TypeValue}
use Rattle.flow_graph.specs.Chords.{is_chord}
use Rattle.flow_model.specs.Boxes.{IsPartOf}
use Rattle.cert_text.specs.declared.lines.Claim.TheVariants.{Empty}
use Rattle.cert_text.specs.declared.lines.Need.{Need}
use Rattle.cert_text.specs.declared.lines.Prices.{Prices}
use Rattle.cert_laws.specs.Rules.{Box}
use Rattle.column_master.specs.Masters.{MasterValue}
use Rattle.column_master.specs.NodePrices.{AreClosing}
use Rattle.search_tree.specs.declared.places.Place.{Place}
use Rattle.search_tree.specs.declared.places.Shown.{Shown}
use Rattle.search_tree.specs.Trees.{IsShown, LeavesReach, Reaches, TreeValue, box_of, splits_of}
use Rattle.search_tree.proofs.Needs.{holds_at}
use Rattle.search_states.specs.declared.states.State.{State}
use Rattle.search_states.specs.States.{IsMasterOf, IsNeedIn, IsRepriced, IsSettled, IsState, IsValued}

-- what holds of all places, and of a changed one if it held of that before, holds of all after the change
changed : (P : Place → Type 0) (places : List Place) (i : ℕ) (p q : Place) → slice_get places i ≡ Some p → (P p → P q) → All P places → All P (slice_set places i q)
changed P places i p q read own all = All-set P places i q (own (holds_at P places i p read all)) all

pub same_splits : (places : List Place) (i : ℕ) (p q : Place) → slice_get places i ≡ Some p → q.split ≡ p.split → splits_of (slice_set places i q) ≡ splits_of places
same_splits places i p q read same =
    let f : Place → ℕ = λ (x : Place). cond (is_some x.split) 1 0 in
    let sums : sum_by f (set places i q) + f (get_or places i p) ≡ sum_by f places + f q = sum_by-set f places i q p (slice_get_within places i p read) in
    let here : f (get_or places i p) ≡ f p = ap f (get_or_from_slice_get places i p p read) in
    let there : f q ≡ f p = ap (λ s. cond {A = ℕ} (is_some s) 1 0) same in
    let all : sum_by f (set places i q) ≡ sum_by f places = omega (arith, sums, here, there) in
    all

-- the place at an index
pub place_at : (s : State) (i : ℕ) → i < length s.tree.places → (p : Place) × (slice_get s.tree.places i ≡ Some p)
place_at s i within =
    let d : Place = record { cuts = []; shown = record { prices = record { scale = 0; items = []; arcs = [] }; claim = Empty }; split = None; need = None } in
    (get_or s.tree.places i d, slice_get-get_or s.tree.places i d within)

module _ (I : InstanceValue) (g : List TypeValue) (s : State) (i : ℕ) (p : Place) (read : slice_get s.tree.places i ≡ Some p) (st : IsState I g s) where
  pub needed_state : (n : Need) (tree : TreeValue) → tree ≡ record s.tree { places = slice_set s.tree.places i (record p { need = Some n }) } → IsNeedIn g n → IsState I g (record s { tree = tree })
  needed_state n tree is fits =
      let q : Place = record p { need = Some n } in
      subst (λ (t : TreeValue). IsState I g (record s { tree = t })) (sym is)
      (record {
        root = st.root;
        parts = changed (λ (x : Place). IsPartOf s.tree.root (box_of s.tree.root x)) s.tree.places i p q read (λ own. own) st.parts;
        valued = changed (λ (x : Place). IsValued I g (box_of s.tree.root x) x.shown) s.tree.places i p q read (λ own. own) st.valued;
        chords = changed (λ (x : Place). IfSome x.split (λ t. is_chord g t.arc ≡ true)) s.tree.places i p q read (λ own. own) st.chords;
        needs = changed (λ (x : Place). IfSome x.need (IsNeedIn g)) s.tree.places i p q read (λ own. fits) st.needs;
        leaves = changed (λ (x : Place). x.split ≡ None → IsSettled g (box_of s.tree.root x) s.best x.shown.claim) s.tree.places i p q read (λ own. own) st.leaves;
        best = st.best;
        told = st.told;
      })

  module _ (prices : Prices) (tree : TreeValue) (is : tree ≡ record s.tree { places = slice_set s.tree.places i (record p { shown = record { prices = prices; claim = p.shown.claim } }) }) where
    abbrev other : Place
    other = record p { shown = record { prices = prices; claim = p.shown.claim } }

    pub repriced_state : IsShown I g (box_of s.tree.root p) (record { prices = prices; claim = p.shown.claim }) → IsState I g (record s { tree = tree })
    repriced_state shown =
        subst (λ (t : TreeValue). IsState I g (record s { tree = t })) (sym is)
        (record {
          root = st.root;
          parts = changed (λ (x : Place). IsPartOf s.tree.root (box_of s.tree.root x)) s.tree.places i p other read (λ own. own) st.parts;
          valued = changed (λ (x : Place). IsValued I g (box_of s.tree.root x) x.shown) s.tree.places i p other read (λ own. (shown, own.1)) st.valued;
          chords = changed (λ (x : Place). IfSome x.split (λ t. is_chord g t.arc ≡ true)) s.tree.places i p other read (λ own. own) st.chords;
          needs = changed (λ (x : Place). IfSome x.need (IsNeedIn g)) s.tree.places i p other read (λ own. own) st.needs;
          leaves = changed (λ (x : Place). x.split ≡ None → IsSettled g (box_of s.tree.root x) s.best x.shown.claim) s.tree.places i p other read (λ own. own) st.leaves;
          best = st.best;
          told = st.told;
        })

-- other prices at a place that show the same
pub repriced : (s : State) (i : ℕ) (p : Place) → slice_get s.tree.places i ≡ Some p → (prices : Prices) (tree : TreeValue) → tree ≡ record s.tree { places = slice_set s.tree.places i (record p { shown = record { prices = prices; claim = p.shown.claim } }) } → IsRepriced s (record s { tree = tree })
repriced s i p read prices tree is =
    let other : Place = record p { shown = record { prices = prices; claim = p.shown.claim } } in
    record {
      best = refl;
      splits = ap (λ (t : TreeValue). splits_of t.places) is ∙ same_splits s.tree.places i p other read refl;
      leaves = λ claim reached. subst (λ (t : TreeValue). LeavesReach claim t) (sym is) (changed (λ (x : Place). IsNone x.split → Reaches x.shown.claim claim) s.tree.places i p other read (λ own. own) reached);
    }

pub repriced_twice : (a b c : State) → IsRepriced a b → IsRepriced b c → IsRepriced a c
repriced_twice a b c first second = record {
  best = second.best ∙ first.best;
  splits = second.splits ∙ first.splits;
  leaves = λ claim reached. second.leaves claim (first.leaves claim reached);
}

pub repriced_same : (a : State) → IsRepriced a a
repriced_same a = record { best = refl; splits = refl; leaves = λ claim reached. reached }

-- what prices show of the box of a place is what they close it for
module _ (I : InstanceValue) (g : List TypeValue) (M : MasterValue) (of : IsMasterOf I g M) (s : State) (i : ℕ) (p : Place) (read : slice_get s.tree.places i ≡ Some p) (st : IsState I g s) (ranges : Box) (is : ranges ≡ box_of s.tree.root p) (shown : Shown) (same : shown ≡ p.shown) where
  own : IsShown I g (box_of s.tree.root p) p.shown
  own = (holds_at (λ (x : Place). IsValued I g (box_of s.tree.root x) x.shown) s.tree.places i p read st.valued).0

  pub place_closes : AreClosing M.instance M.graph ranges shown.claim shown.prices
  place_closes =
      let here : AreClosing I g (box_of s.tree.root p) p.shown.claim p.shown.prices = record { prices = own.prices; items = own.items; arcs = own.arcs; closes = own.closes } in
      let there : AreClosing I g ranges p.shown.claim p.shown.prices = subst (λ (b : Box). AreClosing I g b p.shown.claim p.shown.prices) (sym is) here in
      let again : AreClosing I g ranges shown.claim shown.prices = subst (λ (k : Shown). AreClosing I g ranges k.claim k.prices) (sym same) there in
      subst (λ (J : InstanceValue). AreClosing J M.graph ranges shown.claim shown.prices) (sym of.0) (subst (λ (h : List TypeValue). AreClosing I h ranges shown.claim shown.prices) (sym of.1) again)

  pub place_shown : (prices : Prices) → AreClosing M.instance M.graph ranges shown.claim prices → IsShown I g (box_of s.tree.root p) (record { prices = prices; claim = p.shown.claim })
  place_shown prices closing =
      let again : AreClosing I g ranges shown.claim prices = subst (λ (h : List TypeValue). AreClosing I h ranges shown.claim prices) of.1 (subst (λ (J : InstanceValue). AreClosing J M.graph ranges shown.claim prices) of.0 closing) in
      let there : AreClosing I g ranges p.shown.claim prices = subst (λ (k : Shown). AreClosing I g ranges k.claim prices) same again in
      let here : AreClosing I g (box_of s.tree.root p) p.shown.claim prices = subst (λ (b : Box). AreClosing I g b p.shown.claim prices) is there in
      record { prices = here.prices; items = here.items; arcs = here.arcs; claim = own.claim; closes = here.closes }
