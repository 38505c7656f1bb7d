-- The first state of a search.
use Rattle.std.proofs.Common.{◌≡◌, List, [], ◌∷◌, Bool, Option, None, sym, subst, true, length, ◌≤◌}
use Rattle.std.proofs.lemmas.List.Elements.{All-cons, All-nil}
use Rattle.std.specs.Prelude.{All, IfSome}
use Rattle.packing_laws.specs.Instances.{InstanceValue}
use Rattle.flow_graph.specs.Arcs.{TypeValue, numbered}
use Rattle.flow_graph.specs.Chords.{is_chord}
use Rattle.flow_model.specs.Boxes.{IsPartOf, root_ranges, whole}
use Rattle.cert_text.specs.Lines.{IsNeed}
use Rattle.cert_laws.specs.Rules.{Box}
use Rattle.fixed_leaf.specs.Leaves.{TellsChords}
use Rattle.search_tree.specs.declared.places.Place.{Place}
use Rattle.search_tree.specs.Trees.{TreeValue, box_of}
use Rattle.search_states.specs.declared.findings.Finding.{Finding}
use Rattle.search_states.specs.declared.known.Known.{Known}
use Rattle.search_states.specs.declared.notes.Notes.{Notes}
use Rattle.search_states.specs.States.{IsFinding, IsSettled, IsState, IsValued}

pub first : (I : InstanceValue) (g : List TypeValue) (root : Box) (old : Option Known) (f : Finding) (chords : List Bool) (notes : Notes) (tree : TreeValue) → root ≡ root_ranges I g → tree ≡ record { root = root; places = record { cuts = []; shown = f.shown; split = None; need = None } ∷ [] } → TellsChords g chords → IsFinding I g root old f → IsState I g (record { tree = tree; best = f.best; chords = chords; notes = notes })
first I g root old f chords notes tree is made told found =
    let p : Place = record { cuts = []; shown = f.shown; split = None; need = None } in
    let T : TreeValue = record { root = root; places = p ∷ [] } in
    subst (λ (t : TreeValue). IsState I g (record { tree = t; best = f.best; chords = chords; notes = notes })) (sym made)
    (record {
      root = is;
      parts = All-cons (λ (q : Place). IsPartOf root (box_of root q)) p [] whole (All-nil (λ (q : Place). IsPartOf root (box_of root q)));
      valued = All-cons (λ (q : Place). IsValued I g (box_of root q) q.shown) p [] found.valued (All-nil (λ (q : Place). IsValued I g (box_of root q) q.shown));
      chords = All-cons (λ (q : Place). IfSome q.split (λ s. is_chord g s.arc ≡ true)) p [] tt (All-nil (λ (q : Place). IfSome q.split (λ s. is_chord g s.arc ≡ true)));
      needs = All-cons (λ (q : Place). IfSome q.need (λ n. IsNeed n × All (λ x. x.arc ≤ length (numbered g)) n.parts)) p [] tt (All-nil (λ (q : Place). IfSome q.need (λ n. IsNeed n × All (λ x. x.arc ≤ length (numbered g)) n.parts)));
      leaves = All-cons (λ (q : Place). q.split ≡ None → IsSettled g (box_of root q) f.best q.shown.claim) p [] (λ leaf. found.settled) (All-nil (λ (q : Place). q.split ≡ None → IsSettled g (box_of root q) f.best q.shown.claim));
      best = found.best;
      told = told;
    })
