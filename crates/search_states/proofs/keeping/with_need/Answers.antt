use Rattle.std.proofs.Common.{◌∙◌, Some, ap, refl}
use Rattle.search_tree.specs.Trees.{TreeValue, splits_of}
use Rattle.search_states.proofs.Kept.{needed_state, place_at, same_splits}
use Rattle.search_states.proofs.keeping.with_need.Goals as goal

pub returns-clause-state : goal.returns-clause-state
returns-clause-state c = λ I g fits state.
    let at = place_at c.args.state c.args.index c.requires in
    needed_state I g c.args.state c.args.index at.0 at.1 state c.args.need c.keep_need.new.self (c.keep_need.ensures at.0 at.1) fits

pub returns-clause-splits : goal.returns-clause-splits
returns-clause-splits c =
    let at = place_at c.args.state c.args.index c.requires in
    ap (λ (t : TreeValue). splits_of t.places) (c.keep_need.ensures at.0 at.1)
    ∙ same_splits c.args.state.tree.places c.args.index at.0 (record at.0 { need = Some c.args.need }) at.1 refl
