use Rattle.std.proofs.Common.{◌≡◌, List, Some, get_or, sym, subst, ◌∙◌, ap}
use Rattle.cert_laws.specs.Needs.{IsNeeded}
use Rattle.cert_laws.specs.Rules.{Box}
use Rattle.search_tree.specs.declared.places.Place.{Place}
use Rattle.search_tree.proofs.Changes.{same_place}
use Rattle.search_tree.proofs.Needs.{with_need}
use Rattle.search_tree.proofs.lines.split_line.Goals as goal

pub returns-then-check_need-clause-line : goal.returns-then-check_need-clause-line
returns-then-check_need-clause-line c = λ p read.
    let here : Place = c.index-places-index.result in
    let there : here ≡ get_or c.args.tree.now.places c.args.index here = c.index-places-index.is ∙ ap (λ (ps : List Place). get_or ps c.args.index here) c.places.ensures in
    let same : here ≡ p = same_place c.args.tree.now.places c.args.index here p there read in
    let own : here.need ≡ Some c.in-Some.need = ap (λ (q : Place). q.need) c.index-places-index.is ∙ c.in-Some.is in
    let holds = subst (λ (box : Box). IsNeeded c.args.instance.now c.args.graph.now box c.args.goal c.in-Some.need) (c.in_ok-ranges.ensures.value p read) (c.check_need.ensures.value.0 c.if-check_need.true) in
    with_need c.args.instance.now c.args.graph.now c.args.tree.now c.args.index p c.args.goal c.args.split c.in-Some.need c.in_ok-need.need c.requires.needs read (ap (λ (q : Place). q.need) (sym same) ∙ own) c.in_ok-need.ensures holds
