use Rattle.std.proofs.Common.{◌≡◌, rules}
use Rattle.search_tree.proofs.Changes.{tree_shown, same_place}
use Rattle.search_tree.proofs.tree.Tree.show.Goals as goal

pub invariant_of-self : goal.invariant_of-self
invariant_of-self c =
    tree_shown c.self.inside.root c.self.inside.places.items c.args.index c.index_mut.result.now c.args.shown c.index_mut.result.now.need (search rules) c.index_mut.ensures.value c.self.invariant

pub returns : goal.returns
returns c = λ p read.
    let same : c.index_mut.result.now ≡ p = same_place c.self.inside.places.items c.args.index c.index_mut.result.now p c.index_mut.ensures.value (search rules) in
    rw same (search rules)
