-- Which arcs are chords.
use Rattle.std.proofs.Common.{◌≡◌, ◌⊎◌, ℕ, ◌-◌, Bool, true, false, not, List, length, refl, sym, ap, ◌∙◌, ⊎_elim, inl, inr}
use Rattle.std.specs.Prelude.{Option, Some, None, is_some, take, ◌&&◌}
use Rattle.std.proofs.lemmas.Bool.{cases_Bool, and_parts, and_from, not-true}
use Rattle.packing_laws.specs.Instances.{IsAmong}
use Rattle.flow_graph.specs.declared.parts.ArcKind.{ArcKind}
use Rattle.flow_graph.specs.declared.parts.ArcKind.TheVariants.{Bin}
use Rattle.flow_graph.specs.Arcs.{TypeValue, numbered, arc_at}
use Rattle.flow_graph.specs.Chords.{is_chord, is_first_after, is_tree}
use Rattle.flow_graph.proofs.ArcKinds.{arc_within}

some_there : {X : Type 0} (o : Option X) → is_some o ≡ true → (x : X) × (o ≡ Some x)
some_there None h = cc
some_there (Some x) h = (x, refl)

pub chord_arc : (g : List TypeValue) (a : ℕ) → is_chord g a ≡ true → (kind : ArcKind) × (arc_at g a ≡ Some kind)
chord_arc g a chord = some_there (arc_at g a) (and_parts (is_some (arc_at g a)) (not (is_tree g a)) chord).0

pub chord_within : (g : List TypeValue) (a : ℕ) → is_chord g a ≡ true → IsAmong a (length (numbered g))
chord_within g a chord = let there = chord_arc g a chord in arc_within g a there.0 there.1

pub no_tree : (g : List TypeValue) (a : ℕ) → is_chord g a ≡ true → is_tree g a ≡ false
no_tree g a chord = not-true (is_tree g a) (and_parts (is_some (arc_at g a)) (not (is_tree g a)) chord).1

pub chord_or_tree : (g : List TypeValue) (a : ℕ) (kind : ArcKind) → arc_at g a ≡ Some kind → (is_tree g a ≡ true) ⊎ (is_chord g a ≡ true)
chord_or_tree g a kind at = ⊎_elim
    (λ tree. inl tree)
    (λ none. inr (and_from (is_some (arc_at g a)) (not (is_tree g a)) (ap is_some at) (ap not none)))
    (cases_Bool (is_tree g a))

-- a bin arc is a chord
pub bin_chord : (g : List TypeValue) (a t : ℕ) → arc_at g a ≡ Some (Bin t) → is_chord g a ≡ true
bin_chord g a t at = and_from (is_some (arc_at g a)) (not (is_tree g a)) (ap is_some at) (ap (λ (o : Option ArcKind). not (is_first_after (take (a - 1) (numbered g)) o)) at)
