-- A limit that is passed.
use Rattle.std.proofs.Common.{rules, ◌≡◌, ℕ, ◌+◌, ◌≤◌, List, length, IfSome, true, sym, ap, subst, arith}
use Rattle.packing_laws.specs.declared.instances.BinType.{BinType}
use Rattle.packing_laws.specs.declared.packings.Bin.{Bin}
use Rattle.packing_laws.specs.Instances.{InstanceValue, type_at}
use Rattle.packing_laws.specs.Packings.{used_of}
use Rattle.packing_laws.specs.Printed.{bins_of}
use Rattle.packing_laws.proofs.WrittenPackings.{type-by_number}
use Rattle.packing_laws.proofs.checks.keeps_limits.Goals as goal

pub returns-then-not-keeps_limit : goal.returns-then-not-keeps_limit
returns-then-not-keeps_limit c =
    let I : InstanceValue = c.args.instance.now in
    let bins : List Bin = c.args.bins.now in
    let n : ℕ = c.loop-at.at in
    let x : BinType = c.bin_type-item.result in
    let here : x ≡ type_at I (n + 1) = type-by_number I c.types-bin_type-items.result.now n x c.types-bin_type-items.ensures.value c.loop-at-test.true c.bin_type-item.is in (
      search rules,
      λ kept.
          let limit : IfSome (type_at I (n + 1)).limit (λ q. used_of (n + 1) (bins_of bins) ≤ q) = kept (n + 1) (omega arith, omega (arith, c.loop-at-test.true, ap length c.types-bin_type-items.ensures.value)) in
          let own : IfSome x.limit (λ q. used_of (n + 1) (bins_of bins) ≤ q) = subst (λ (y : BinType). IfSome y.limit (λ q. used_of (n + 1) (bins_of bins) ≤ q)) (sym here) limit in
          let yes : c.keeps_limit.result ≡ true = c.keeps_limit.ensures.1 own in
          absurd (search rules),
    )
