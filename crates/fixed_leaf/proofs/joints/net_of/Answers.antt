-- The nodes of all types, and the joints.
use Rattle.std.proofs.Common.{◌≡◌, ℕ, ◌∙◌, Bool, ap, subst, sym, false, length, replicate, rules}
use Rattle.std.proofs.lemmas.List.{length-replicate}
use Rattle.flow_model.specs.Tallies.{AreStarts}
use Rattle.fixed_leaf.proofs.JointLists.{last_start, places}
use Rattle.fixed_leaf.proofs.joints.net_of.Goals as goal

pub joints_of-requires-clause-placed : goal.joints_of-requires-clause-placed
joints_of-requires-clause-placed c =
    let n : ℕ = c.index.result.now in
    let whole = last_start c.args.graph.now c.in_ok-starts.starts.items c.type_count.result n c.in_ok-starts.ensures c.type_count.ensures.value (search rules) in
    let reached : c.as_mut_slice.result.now ≡ replicate n false = search rules in
    let long : length c.as_mut_slice.result.now ≡ n = ap length reached ∙ length-replicate {A = Bool} n false in
    let are : AreStarts c.args.graph.now c.as_slice.result.now = subst (AreStarts c.args.graph.now) (sym c.as_slice.ensures.value) c.in_ok-starts.ensures in
    places c.args.instance.now c.args.graph.now c.as_slice.result.now (length c.as_mut_slice.result.now) c.known.ensures c.known-2.ensures c.requires are (long ∙ whole)

pub returns : goal.returns
returns c =
    let whole = last_start c.args.graph.now c.in_ok-starts.starts.items c.type_count.result c.index.result.now c.in_ok-starts.ensures c.type_count.ensures.value (search rules) in
    record { nodes = whole; joints = c.in_ok-joints.ensures }
