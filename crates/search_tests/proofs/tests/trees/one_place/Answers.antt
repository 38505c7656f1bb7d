use Rattle.std.proofs.Common.{◌<◌, length, sym, subst, rules, arith}
use Rattle.search_tree.specs.Trees.{TreeValue}
use Rattle.search_tests.proofs.WorkedTree.{need_more, shown_more}
use Rattle.search_tests.proofs.tests.trees.one_place.Goals as goal

pub keep_need-requires : goal.keep_need-requires
keep_need-requires c = subst (λ (T : TreeValue). 0 < length T.places) (sym (shown_more c.in_ok-tree.tree c.show.new.self c.args.root c.args.first c.args.shown (search rules) c.show.ensures)) (omega arith)

pub returns : goal.returns
returns c = need_more c.show.new.self c.keep_need.new.self c.args.root c.args.shown c.args.need (shown_more c.in_ok-tree.tree c.show.new.self c.args.root c.args.first c.args.shown (search rules) c.show.ensures) c.keep_need.ensures
