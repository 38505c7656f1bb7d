use Rattle.std.proofs.Common.{◌≡◌, ◌-◌, ◌<◌, Some, length, sym, subst, ◌∙◌, rules}
use Rattle.std.specs.Option.{IsSomeAnd}
use Rattle.flow_model.specs.inner.Known.{NamesType}
use Rattle.joint_arcs.specs.Joined.{JointValue, arc_at, arc_of, numbered}
use Rattle.joint_arcs.proofs.Rows.{arc_there, named_there}
use Rattle.joint_arcs.proofs.arcs.JointArcs.arc.Goals as goal

pub joined-requires : goal.joined-requires
joined-requires c =
    let g : JointValue = record { inner = c.self.inside.inner; types = c.self.inside.types; arcs = c.self.inside.arcs.items } in
    let row_is : c.deref.result.now ≡ numbered g = c.deref.ensures.value ∙ c.self.invariant.row_is in
    let within : c.args.a - 1 < length c.deref.result.now = search rules in
    subst (λ (h : JointValue). NamesType h.types c.in_ok-kind.kind.now) c.self.view_is (named_there g c.deref.result.now (c.args.a - 1) c.in_ok-kind.kind.now row_is within c.in_ok-kind.ensures.lookup.1)

pub returns-clause-value : goal.returns-clause-value
returns-clause-value c =
    let g : JointValue = record { inner = c.self.inside.inner; types = c.self.inside.types; arcs = c.self.inside.arcs.items } in
    let row_is : c.deref.result.now ≡ numbered g = c.deref.ensures.value ∙ c.self.invariant.row_is in
    let within : c.args.a - 1 < length c.deref.result.now = search rules in
    let there = arc_there g c.deref.result.now c.args.a c.in_ok-kind.kind.now row_is c.if-a-eq0.false within c.in_ok-kind.ensures.lookup.1 in
    let same = subst (λ (h : JointValue). arc_at h c.args.a ≡ Some c.in_ok-kind.kind.now) c.self.view_is there in
    subst (λ o. IsSomeAnd o (λ kind. c.joined.result ≡ arc_of c.args.self.now kind)) (sym same) c.joined.ensures
