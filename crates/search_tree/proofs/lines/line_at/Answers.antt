use Rattle.std.proofs.Common.{◌≡◌, List, Option, Some, is_some, get_or, sym, subst, ◌∙◌, ap}
use Rattle.std.proofs.lemmas.Result.{IfOk-weaker}
use Rattle.std.specs.Prelude.{IfSome}
use Rattle.cert_text.specs.declared.lines.Prices.{Prices}
use Rattle.cert_text.specs.declared.lines.TreeLine.TheVariants as line
use Rattle.search_tree.specs.declared.places.SplitAt.{SplitAt}
use Rattle.search_tree.specs.declared.places.Place.{Place}
use Rattle.search_tree.specs.inner.Emitted.{MakesLeaf, leaf, split}
use Rattle.search_tree.proofs.Changes.{same_place}
use Rattle.search_tree.proofs.Needs.{leaf_reaches}
use Rattle.search_tree.proofs.lines.line_at.Goals as goal

pub told_split-requires : goal.told_split-requires
told_split-requires c =
    let here : Place = c.index-places-index.result in
    let there : here ≡ get_or c.args.tree.now.places c.args.index here = c.index-places-index.is ∙ ap (λ (ps : List Place). get_or ps c.args.index here) c.places.ensures in
    leaf_reaches c.args.target.claim c.args.tree.now c.args.index here c.requires.reached c.requires.inside there

pub returns-in-Some-clause-line : goal.returns-in-Some-clause-line
returns-in-Some-clause-line c =
    let here : Place = c.index-places-index.result in
    let there : here ≡ get_or c.args.tree.now.places c.args.index here = c.index-places-index.is ∙ ap (λ (ps : List Place). get_or ps c.args.index here) c.places.ensures in
    let told : here.split ≡ Some c.in-Some.split = subst (λ (o : Option SplitAt). IfSome o (λ s. here.split ≡ Some s)) c.in-Some.is c.told_split.ensures.some in
    IfOk-weaker c.split_line.result _ _
    (λ l made p read. split c.in-Some.split (ap (λ (q : Place). q.split) (sym (same_place c.args.tree.now.places c.args.index here p there read)) ∙ told) (made p read))
    c.split_line.ensures.line

pub returns-in_ok-prices_again-in-None-clause-line : goal.returns-in_ok-prices_again-in-None-clause-line
returns-in_ok-prices_again-in-None-clause-line c = λ p read.
    let here : Place = c.index-places-index.result in
    let there : here ≡ get_or c.args.tree.now.places c.args.index here = c.index-places-index.is ∙ ap (λ (ps : List Place). get_or ps c.args.index here) c.places.ensures in
    let same : here ≡ p = same_place c.args.tree.now.places c.args.index here p there read in
    let makes : MakesLeaf c.args.target here = c.told_split.ensures.none (ap (λ (o : Option SplitAt). is_some o) c.in-None.is) in
    leaf (ap (λ (x : Prices). line.Leaf x) (c.in_ok-prices_again-in-None.ensures ∙ ap (λ (q : Place). q.shown.prices) same)) (subst (λ (q : Place). MakesLeaf c.args.target q) same makes)
