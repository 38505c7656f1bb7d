use Rattle.std.proofs.Common.{◌≡◌, ◌∙◌, ap, sym, subst, List, get_or}
use Rattle.std.specs.Prelude.{slice_set}
use Rattle.search_tree.specs.declared.places.Place.{Place}
use Rattle.search_tree.proofs.Changes.{same_place}
use Rattle.search_states.proofs.Kept.{place_at, repriced, repriced_state}
use Rattle.search_states.proofs.keeping.with_prices.Goals as goal

pub returns-clause-state : goal.returns-clause-state
returns-clause-state c = λ I g shown state.
    let at = place_at c.args.state c.args.index c.requires in
    let here : Place = c.index-places-index.result in
    let there : here ≡ get_or c.args.state.tree.places c.args.index here = c.index-places-index.is ∙ ap (λ (ps : List Place). get_or ps c.args.index here) c.places.ensures in
    let same : get_or c.places.result.now c.args.index here ≡ at.0 = sym c.index-places-index.is ∙ same_place c.args.state.tree.places c.args.index here at.0 there at.1 in
    let tree = subst (λ (p : Place). c.show.new.self ≡ record c.args.state.tree { places = slice_set c.args.state.tree.places c.args.index (record at.0 { shown = record { prices = c.args.prices; claim = p.shown.claim } }) }) same (c.show.ensures at.0 at.1) in
    repriced_state I g c.args.state c.args.index at.0 at.1 state c.args.prices c.show.new.self tree (shown at.0 at.1)

pub returns-clause-same : goal.returns-clause-same
returns-clause-same c =
    let at = place_at c.args.state c.args.index c.requires in
    let here : Place = c.index-places-index.result in
    let there : here ≡ get_or c.args.state.tree.places c.args.index here = c.index-places-index.is ∙ ap (λ (ps : List Place). get_or ps c.args.index here) c.places.ensures in
    let same : get_or c.places.result.now c.args.index here ≡ at.0 = sym c.index-places-index.is ∙ same_place c.args.state.tree.places c.args.index here at.0 there at.1 in
    let tree = subst (λ (p : Place). c.show.new.self ≡ record c.args.state.tree { places = slice_set c.args.state.tree.places c.args.index (record at.0 { shown = record { prices = c.args.prices; claim = p.shown.claim } }) }) same (c.show.ensures at.0 at.1) in
    repriced c.args.state c.args.index at.0 at.1 c.args.prices c.show.new.self tree
