-- The three tests together.
use Rattle.std.proofs.Common.{rules, Bool, List, IsTrue, sym, ◌∙◌, subst}
use Rattle.packing_laws.specs.declared.packings.Bin.{Bin}
use Rattle.packing_laws.specs.Instances.{InstanceValue}
use Rattle.packing_laws.specs.Printed.{IsWrittenPacking}
use Rattle.packing_laws.proofs.WrittenPackings.{IsWrittenPacking-made}
use Rattle.packing_laws.proofs.checks.is_packing.Goals as goal
use Rattle.packing_laws.proofs.checks.is_packing.Goals.{then-all_fit, else-all_fit}

pub returns-then-keeps_limits : goal.returns-then-keeps_limits
returns-then-keeps_limits c =
    let I : InstanceValue = c.args.instance.now in
    let bins : List Bin = c.bins-bins.result.now in
    let met : Bool = c.meets_demands.result in
    elim c.if-all_fit.branch [
      | then-all_fit w ↦
          let made : IsTrue met → IsWrittenPacking I bins = λ yes. IsWrittenPacking-made I bins (c.all_fit.ensures.0 w.if-all_fit.true) (w.keeps_limits.ensures.0 (sym w.value-is ∙ c.if-keeps_limits.true)) (c.meets_demands.ensures.0 yes) in
          let asked : IsWrittenPacking I bins → IsTrue met = λ p. c.meets_demands.ensures.1 p.packing.demands in
          subst (λ (xs : List Bin). (IsTrue met → IsWrittenPacking I xs) × (IsWrittenPacking I xs → IsTrue met)) c.bins-bins.ensures (made, asked)
      | else-all_fit w ↦ absurd (search rules)
    ]
