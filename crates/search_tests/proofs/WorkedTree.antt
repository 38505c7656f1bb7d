-- Prices that close a box, and a tree of one place, of which more is known.
use Rattle.std.proofs.Common.{◌≡◌, ℕ, ◌≤◌, List, [], ◌∷◌, Option, Some, None, sym, subst, length, refl, false, is_some}
use Rattle.std.specs.Prelude.{All, IfSome, slice_get, slice_set}
use Rattle.std.proofs.lemmas.List.Elements.{All-cons, All-nil}
use Rattle.packing_laws.specs.Instances.{InstanceValue}
use Rattle.flow_graph.specs.Arcs.{TypeValue, numbered}
use Rattle.cert_text.specs.declared.lines.Claim.{Claim}
use Rattle.cert_text.specs.declared.lines.Need.{Need}
use Rattle.cert_text.specs.declared.lines.Prices.{Prices}
use Rattle.cert_text.specs.Lines.{IsNeed}
use Rattle.path_prices.specs.Excess.{FirstExcess}
use Rattle.path_prices.specs.Worth.{IsEnough, worth_of}
use Rattle.cert_laws.specs.Rules.{Box, demands_of}
use Rattle.cert_laws.specs.Shown.{Closes}
use Rattle.search_tree.specs.declared.places.Place.{Place}
use Rattle.search_tree.specs.declared.places.Shown.{Shown}
use Rattle.search_tree.specs.Trees.{KeepsNeeds, TreeValue}

-- prices close a box where no type gains more than it costs and the worth is enough
pub closes : (I : InstanceValue) (g : List TypeValue) (box : Box) (p : Prices) (claim : Claim) (excess : Option ℕ) → is_some excess ≡ false → FirstExcess I g p excess → IsEnough claim p.scale (worth_of (demands_of I) box p) → Closes I g p box claim
closes I g box p claim None none gains strong = record { gains = gains; strong = strong }
closes I g box p claim (Some t) none gains strong = absurd (cc)

-- a place that is the only one
abbrev pub lone : Shown → Option Need → Place
lone shown need = record { cuts = []; shown = shown; split = None; need = need }

abbrev pub lone_tree : Box → Shown → Option Need → TreeValue
lone_tree root shown need = record { root = root; places = lone shown need ∷ [] }

pub shown_more : (old new : TreeValue) (root : Box) (first shown : Shown) → old ≡ lone_tree root first None → ((p : Place) → slice_get old.places 0 ≡ Some p → new ≡ record old { places = slice_set old.places 0 (record p { shown = shown }) }) → new ≡ lone_tree root shown None
shown_more old new root first shown is told = subst (λ (T : TreeValue). (p : Place) → slice_get T.places 0 ≡ Some p → new ≡ record T { places = slice_set T.places 0 (record p { shown = shown }) }) is told (lone first None) refl

pub need_more : (old new : TreeValue) (root : Box) (shown : Shown) (need : Need) → old ≡ lone_tree root shown None → ((p : Place) → slice_get old.places 0 ≡ Some p → new ≡ record old { places = slice_set old.places 0 (record p { need = Some need }) }) → new ≡ lone_tree root shown (Some need)
need_more old new root shown need is told = subst (λ (T : TreeValue). (p : Place) → slice_get T.places 0 ≡ Some p → new ≡ record T { places = slice_set T.places 0 (record p { need = Some need }) }) is told (lone shown None) refl

-- its need is one that a line can tell, of arcs that exist
pub lone_needs : (g : List TypeValue) (T : TreeValue) (root : Box) (shown : Shown) (need : Need) → T ≡ lone_tree root shown (Some need) → length (numbered g) ≡ 5 → IsNeed need → All (λ x. x.arc ≤ 5) need.parts → KeepsNeeds g T
lone_needs g T root shown need is size own arcs =
    let most : All (λ x. x.arc ≤ length (numbered g)) need.parts = subst (λ (n : ℕ). All (λ x. x.arc ≤ n) need.parts) (sym size) arcs in
    let P : Place → Type 0 = λ (p : Place). IfSome p.need (λ n. IsNeed n × All (λ x. x.arc ≤ length (numbered g)) n.parts) in
    subst (λ (V : TreeValue). KeepsNeeds g V) (sym is) (All-cons P (lone shown (Some need)) [] (own, most) (All-nil P))
