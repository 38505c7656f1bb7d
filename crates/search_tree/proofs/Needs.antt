-- Splits that carry their needs.
use Rattle.std.proofs.Common.{◌≡◌, ℕ, ◌≤◌, ◌<◌, get_or, None, List, Option, Some, is_some, ap, sym, subst, length, All, refl}
use Rattle.std.specs.Prelude.{IfSome, IsNone, slice_get}
use Rattle.std.proofs.lemmas.Option.{get_or_from_slice_get, slice_get_within}
use Rattle.packing_laws.specs.Instances.{InstanceValue}
use Rattle.flow_graph.specs.Arcs.{TypeValue, numbered}
use Rattle.cert_text.specs.declared.lines.Claim.{Claim}
use Rattle.cert_text.specs.declared.lines.Need.{Need}
use Rattle.cert_text.specs.declared.lines.TreeLine.TheVariants as line
use Rattle.cert_text.specs.Lines.{IsNeed}
use Rattle.cert_laws.specs.Needs.{IsNeeded}
use Rattle.search_tree.specs.declared.places.Place.{Place}
use Rattle.search_tree.specs.declared.places.SplitAt.{SplitAt}
use Rattle.search_tree.specs.Trees.{KeepsNeeds, LeavesReach, Reaches, TreeValue, box_of}
use Rattle.search_tree.specs.inner.Emitted.{IsSplitLine, needed}

-- what holds of all places holds of the one at an index
pub holds_at : (P : Place → Type 0) (places : List Place) (i : ℕ) (p : Place) → slice_get places i ≡ Some p → All P places → P p
holds_at P places i p read all = subst P (get_or_from_slice_get places i p p read) (all i p (slice_get_within places i p read))

pub need_kept : (g : List TypeValue) (T : TreeValue) (i : ℕ) (p : Place) (n : Need) → KeepsNeeds g T → slice_get T.places i ≡ Some p → p.need ≡ Some n → IsNeed n × All (λ x. x.arc ≤ length (numbered g)) n.parts
need_kept g T i p n kept read is = subst (λ (o : Option Need). IfSome o (λ m. IsNeed m × All (λ x. x.arc ≤ length (numbered g)) m.parts)) is (holds_at (λ (q : Place). IfSome q.need (λ m. IsNeed m × All (λ x. x.arc ≤ length (numbered g)) m.parts)) T.places i p read kept)

pub with_need : (I : InstanceValue) (g : List TypeValue) (T : TreeValue) (i : ℕ) (p : Place) (goal : Option ℕ) (s : SplitAt) (stored copy : Need) → KeepsNeeds g T → slice_get T.places i ≡ Some p → p.need ≡ Some stored → copy ≡ stored → IsNeeded I g (box_of T.root p) goal stored → IsSplitLine I g (box_of T.root p) goal s (line.Needed s.arc s.k copy)
with_need I g T i p goal s stored copy kept read is same holds =
    let own = need_kept g T i p stored kept read is in
    subst (λ (n : Need). IsSplitLine I g (box_of T.root p) goal s (line.Needed s.arc s.k n)) (sym same) (needed stored refl own.0 own.1 holds)

pub leaf_reaches : (claim : Claim) (T : TreeValue) (i : ℕ) (q : Place) → LeavesReach claim T → i < length T.places → q ≡ get_or T.places i q → q.split ≡ None → Reaches q.shown.claim claim
leaf_reaches claim T i q reached within read leaf =
    let all : IsNone (get_or T.places i q).split → Reaches (get_or T.places i q).shown.claim claim = reached i q within in
    subst (λ (p : Place). IsNone p.split → Reaches p.shown.claim claim) (sym read) all (ap (λ (t : Option SplitAt). is_some t) leaf)
