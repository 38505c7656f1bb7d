-- A bin that is not used is left out, and one is joined with its like.
use Rattle.std.proofs.Common.{◌∷◌, ◌++◌, [], List, sym, subst}
use Rattle.std.proofs.lemmas.Result.{on_ok_weaker}
use Rattle.packing_laws.specs.declared.packings.Bin.{Bin}
use Rattle.packing_laws.specs.Instances.{InstanceValue}
use Rattle.packing_laws.specs.inner.Joining.{IsHalved, IsStep}
use Rattle.packing_laws.proofs.JoinSteps.{bin-fits, alike-small, step-alike, step-unused}
use Rattle.packing_laws.proofs.joining.place.Goals as goal

pub returns-then-bin-eq0 : goal.returns-then-bin-eq0
returns-then-bin-eq0 c = step-unused c.args.instance.now c.args.waiting.now.items c.args.done.now.items c.args.bin c.if-bin-eq0.true c.requires.packing c.requires.joined

pub shared_type-requires-clause-one : goal.shared_type-requires-clause-one
shared_type-requires-clause-one c = (bin-fits c.args.instance.now c.args.waiting.now.items c.args.done.now.items c.args.bin c.requires.packing).exists

pub shared_type-requires-clause-other : goal.shared_type-requires-clause-other
shared_type-requires-clause-other c = (bin-fits c.args.instance.now c.args.waiting.now.items c.args.done.now.items c.args.bin c.requires.packing).exists

pub halve-requires : goal.halve-requires
halve-requires c = alike-small c.args.instance.now c.args.waiting.now.items c.args.done.now.items c.args.bin c.requires.packing c.known.ensures c.if-bin-gt1.true

pub returns-in-Some : goal.returns-in-Some
returns-in-Some c =
    let I : InstanceValue = c.args.instance.now in
    let b : Bin = c.args.bin in
    let waiting : List Bin = c.args.waiting.now.items in
    let done : List Bin = c.args.done.now.items in
    let new : List Bin = c.halve.new.waiting.items in
    on_ok_weaker {P = IsHalved b c.in-Some.bin_type waiting new} {Q = IsStep I (waiting ++ b ∷ []) done new done} c.halve.result
    (λ halved. subst (λ (l : List Bin). IsStep I (waiting ++ b ∷ []) done l done) (sym halved.2) (step-alike I waiting done b halved.0 c.in-Some.bin_type c.if-bin-gt1.true c.requires.packing c.requires.joined c.in-Some.ensures.some halved.1))
    c.halve.ensures
