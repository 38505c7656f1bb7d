use Rattle.std.proofs.Common.{◌≡◌, ◌∙◌, ap, sym, List, get_or}
use Rattle.search_tree.specs.declared.places.Place.{Place}
use Rattle.search_tree.proofs.Changes.{same_place}
use Rattle.search_states.proofs.Kept.{place_at, place_closes, place_shown}
use Rattle.search_states.proofs.shortening.shortened_at.Goals as goal

pub shorten-requires-clause-given : goal.shorten-requires-clause-given
shorten-requires-clause-given c =
    let at = place_at c.args.state c.args.index c.requires.inside in
    let here : Place = c.index-places-index.result in
    let there : here ≡ get_or c.args.state.tree.places c.args.index here = c.index-places-index.is ∙ ap (λ (ps : List Place). get_or ps c.args.index here) c.places.ensures in
    let same : c.in_ok-shown.shown ≡ at.0.shown = c.in_ok-shown.ensures ∙ ap (λ (p : Place). p.shown) (sym c.index-places-index.is ∙ same_place c.args.state.tree.places c.args.index here at.0 there at.1) in
    place_closes c.args.instance.now c.args.graph.now c.args.master.now c.requires.master c.args.state c.args.index at.0 at.1 c.requires.state c.in_ok-ranges.ranges (c.in_ok-ranges.ensures.value at.0 at.1) c.in_ok-shown.shown same

pub returns-clause-state : goal.returns-clause-state
returns-clause-state c =
    let here : Place = c.index-places-index.result in
    let there : here ≡ get_or c.args.state.tree.places c.args.index here = c.index-places-index.is ∙ ap (λ (ps : List Place). get_or ps c.args.index here) c.places.ensures in
    c.with_prices.ensures.state c.args.instance.now c.args.graph.now
    (λ p read.
    let same : c.in_ok-shown.shown ≡ p.shown = c.in_ok-shown.ensures ∙ ap (λ (q : Place). q.shown) (sym c.index-places-index.is ∙ same_place c.args.state.tree.places c.args.index here p there read) in
    place_shown c.args.instance.now c.args.graph.now c.args.master.now c.requires.master c.args.state c.args.index p read c.requires.state c.in_ok-ranges.ranges (c.in_ok-ranges.ensures.value p read) c.in_ok-shown.shown same c.in_ok-prices.prices c.in_ok-prices.ensures.closing)
    c.requires.state
