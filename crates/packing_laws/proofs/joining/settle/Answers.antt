-- What is in the bins exists; a bin that can't be joined is done.
use Rattle.std.proofs.Common.{List, sym, subst, refl, All}
use Rattle.packing_laws.specs.declared.packings.Bin.{Bin}
use Rattle.packing_laws.specs.Instances.{InstanceValue}
use Rattle.packing_laws.specs.Packings.{Exists}
use Rattle.packing_laws.specs.inner.Joining.{AreApart}
use Rattle.packing_laws.proofs.JoinSteps.{bin-fits, done-fit, step-done}
use Rattle.packing_laws.proofs.joining.settle.Goals as goal

pub partner_of-requires-clause-all : goal.partner_of-requires-clause-all
partner_of-requires-clause-all c =
    subst (λ (bins : List Bin). All (λ b. All (Exists c.args.instance.now) b.counts) bins) (sym c.as_slice.ensures.value)
    (λ k d within. (done-fit c.args.instance.now c.args.waiting.now.items c.args.done.now.items c.args.bin c.requires.packing k d within).exists)

pub partner_of-requires-clause-own : goal.partner_of-requires-clause-own
partner_of-requires-clause-own c = (bin-fits c.args.instance.now c.args.waiting.now.items c.args.done.now.items c.args.bin c.requires.packing).exists

pub returns-in_ok-push-in-None : goal.returns-in_ok-push-in-None
returns-in_ok-push-in-None c =
    let I : InstanceValue = c.args.instance.now in
    let b : Bin = c.args.bin in
    let apart : All (λ other. AreApart I other b) c.args.done.now.items = subst (λ (bins : List Bin). All (λ other. AreApart I other b) bins) c.as_slice.ensures.value (c.in-None.ensures.none refl) in
    rw c.in_ok-push-in-None.ensures.items (step-done I c.args.waiting.now.items c.args.done.now.items b c.requires.packing c.requires.joined apart c.requires.alike)
