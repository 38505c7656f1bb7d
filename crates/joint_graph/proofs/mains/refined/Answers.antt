use Rattle.std.proofs.Common.{◌+◌, ℕ, List, length, ap, subst, sym, rules, arith}
use Rattle.std.proofs.lemmas.Result.{IfOk-weaker}
use Rattle.joint_graph.specs.declared.mains.Key.{Key}
use Rattle.joint_graph.specs.inner.Classes.{AreClasses, AreKeys}
use Rattle.joint_graph.proofs.ClassLemmas.{classes-more}
use Rattle.joint_graph.proofs.mains.refined.Goals as goal

pub keys_of-requires : goal.keys_of-requires
keys_of-requires g c = (search rules, (search rules, (c.requires.small, omega (arith, ap length c.as_slice.ensures.value, c.requires.classes.numbered.sized, c.requires.ways.count))))

pub returns : goal.returns
returns g c =
    let graph = c.args.graph.now in
    let numbers = c.args.classes.now.numbers.items in
    let keys = c.in_ok-keys.keys.items in
    let seen = c.as_slice-2.result.now in
    let made = subst (λ (ns : List ℕ). AreKeys ns c.args.ways.now keys) c.as_slice.ensures.value c.in_ok-keys.ensures in
    let are = subst (λ (ks : List (Key g.row.N)). AreKeys numbers c.args.ways.now ks) (sym c.as_slice-2.ensures.value) made in
    IfOk-weaker c.rank_all.result _ _
    (λ r h. subst (λ (n : ℕ). AreClasses graph (c.args._t + 1) r.numbers.items n) (sym h.2)
    (classes-more g.row.N graph c.known.ensures c.args._t numbers c.args.classes.now.count c.requires.classes c.args.ways.now c.requires.ways seen are _ c.order_is_total.ensures c.keys_are_in_order.ensures h.0 r.numbers.items h.1))
    c.rank_all.ensures
