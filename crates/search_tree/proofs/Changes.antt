-- A place of which more is known leaves the tree as it is.
use Rattle.std.proofs.Common.{◌≡◌, ℕ, zero, suc, ◌<◌, List, [], ◌∷◌, Option, Some, ◌∙◌, ap, sym, subst, set, get_or, length, arith}
use Rattle.std.specs.Prelude.{All, slice_get}
use Rattle.std.proofs.lemmas.List.{get_or_default}
use Rattle.std.proofs.lemmas.List.Elements.{All-set}
use Rattle.std.proofs.lemmas.Option.{get_or_from_slice_get}
use Rattle.cert_text.specs.declared.lines.Need.{Need}
use Rattle.cert_laws.specs.Rules.{Box}
use Rattle.search_tree.specs.declared.places.Place.{Place}
use Rattle.search_tree.specs.declared.places.Shown.{Shown}
use Rattle.search_tree.specs.declared.places.SplitAt.{SplitAt}
use Rattle.search_tree.specs.Trees.{Fills, IsCut, IsSplitOf, IsTree, cut_box, parts_before}

fills_set : (root : Box) (boxes : List Box) (places : List Place) (i : ℕ) (q : Place) → i < length places → q.cuts ≡ (get_or places i q).cuts → q.split ≡ (get_or places i q).split → Fills root boxes places → Fills root boxes (set places i q)
fills_set root boxes [] i q low cuts split fills = absurd (omega (arith, low))
fills_set root [] (p ∷ places) i q low cuts split fills = absurd fills
fills_set root (box ∷ boxes) (p ∷ places) zero q low cuts split fills = (
  ap (cut_box root) cuts ∙ fills.0,
  subst (IsSplitOf box) (sym split) fills.1,
  subst (λ (s : Option SplitAt). Fills root (parts_before s box boxes) places) (sym split) fills.2,
)
fills_set root (box ∷ boxes) (p ∷ places) (suc i) q low cuts split fills = (fills.0, fills.1, fills_set root (parts_before p.split box boxes) places i q (omega (arith, low)) cuts split fills.2)

pub tree_shown : (root : Box) (places : List Place) (i : ℕ) (r : Place) (s : Shown) (n : Option Need) → i < length places → r ≡ get_or places i r → IsTree root places → IsTree root (set places i (record { cuts = r.cuts; shown = s; split = r.split; need = n }))
tree_shown root places i r s n low read tree =
    let q : Place = record { cuts = r.cuts; shown = s; split = r.split; need = n } in
    let there : r ≡ get_or places i q = read ∙ get_or_default places i r q low in
    let own : All (IsCut (length root)) (get_or places i r).cuts = tree.cuts i r low in
    record {
      fills = fills_set root (root ∷ []) places i q low (ap (λ (p : Place). p.cuts) there) (ap (λ (p : Place). p.split) there) tree.fills;
      cuts = All-set (λ (p : Place). All (IsCut (length root)) p.cuts) places i q (subst (λ (p : Place). All (IsCut (length root)) p.cuts) (sym read) own) tree.cuts;
    }

pub same_place : (places : List Place) (i : ℕ) (r p : Place) → r ≡ get_or places i r → slice_get places i ≡ Some p → r ≡ p
same_place places i r p read got = read ∙ get_or_from_slice_get places i p r got
