-- The bins so far hold too much, or all bins were looked at.
use Rattle.std.proofs.Common.{rules, ◌≡◌, ℕ, ◌+◌, ◌*◌, ◌<◌, List, take, sum_by, sym, ap, ◌∙◌, subst, arith}
use Rattle.std.proofs.lemmas.Bool.{eqb-true, eq-eqb}
use Rattle.std.proofs.lemmas.List.{take_all}
use Rattle.packing_laws.specs.declared.packings.Bin.{Bin}
use Rattle.packing_laws.specs.Packings.{count_of_item, all_of}
use Rattle.packing_laws.specs.Printed.{bins_of}
use Rattle.packing_laws.proofs.WrittenPackings.{count_of_item-bins_of, passed}
use Rattle.packing_laws.proofs.checks.meets_demand.Goals as goal

pub returns-then-held-wanted : goal.returns-then-held-wanted
returns-then-held-wanted c =
    let i : ℕ = c.args.i in
    let bins : List Bin = c.args.bins.now in
    let f : Bin → ℕ = λ b. b.times * count_of_item i b.counts in
    let b : Bin = c.bin-item.result in
    let units : c.units.result ≡ count_of_item i b.counts = c.units.ensures.value ∙ ap (count_of_item i) c.as_slice.ensures in
    let held : c.from.result * c.units.result ≡ f b = ap (λ n. n * c.units.result) c.from.ensures ∙ ap (λ n. b.times * n) units in
    let much : c.loop-bin.wanted < f b = subst (λ (n : ℕ). c.loop-bin.wanted < n) held c.if-held-wanted.true in
    (search rules, λ exact. absurd (passed f bins c.loop-bin.bin-index c.loop-bin.wanted c.args.demand b c.loop-bin-test.true c.bin-item.is c.loop-bin.invariant much (sym (count_of_item-bins_of i bins) ∙ exact)))

pub returns : goal.returns
returns c =
    let i : ℕ = c.args.i in
    let bins : List Bin = c.args.bins.now in
    let f : Bin → ℕ = λ b. b.times * count_of_item i b.counts in
    let whole : take c.loop-bin.bin-index bins ≡ bins = take_all c.loop-bin.bin-index bins c.loop-bin-test.false in
    let left : sum_by f bins + c.loop-bin.wanted ≡ c.args.demand = subst (λ (xs : List Bin). sum_by f xs + c.loop-bin.wanted ≡ c.args.demand) whole c.loop-bin.invariant in
    let held : count_of_item i (all_of (bins_of bins)) ≡ sum_by f bins = count_of_item-bins_of i bins in (
      λ yes. let none : c.loop-bin.wanted ≡ 0 = eqb-true c.loop-bin.wanted 0 yes in omega (arith, left, held, none),
      λ exact. eq-eqb c.loop-bin.wanted 0 (omega (arith, left, held, exact)),
    )
