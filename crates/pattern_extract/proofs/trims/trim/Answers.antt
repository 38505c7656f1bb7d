use Rattle.std.proofs.Common.{◌≡◌, ◌-◌, ◌∙◌, ℕ, List, [], ◌++◌, take, sym, ap, subst}
use Rattle.packing_laws.specs.declared.packings.Bin.{Bin}
use Rattle.pattern_extract.specs.Trims.{AreTrimmed}
use Rattle.pattern_extract.proofs.Trimming.{trimmed-none, trimmed-all}
use Rattle.pattern_extract.proofs.trims.trim.Goals as goal

pub loop-bin-init : goal.loop-bin-init
loop-bin-init c =
    subst (λ (done : List Bin). AreTrimmed c.args.instance.now c.args.bins.items c.args.bins.items done c.args.surplus.now) (sym c.new-done.ensures.items)
    (trimmed-none c.args.instance.now c.args.bins.items c.args.surplus.now c.requires.size c.requires.bins c.requires.units)

pub loop-bin-preserved : goal.loop-bin-preserved
loop-bin-preserved c =
    c.in_ok-trim_bin.ensures.on c.args.instance.now c.args.bins.items
    (subst (λ (pending : List Bin). AreTrimmed c.args.instance.now c.args.bins.items pending c.loop-bin.done.items c.loop-bin.surplus) c.in-Some.ensures.items c.loop-bin.invariant)

pub returns : goal.returns
returns c =
    let none : c.pop.new.self.items ≡ [] = c.in_default.ensures.rest ∙ ap (λ (n : ℕ). take (n - 1) c.loop-bin.pending.items) c.in_default.ensures.cases.0 in
    let empty : c.loop-bin.pending.items ≡ [] = c.in_default.ensures.items ∙ ap (λ (bins : List Bin). bins ++ []) none in
    trimmed-all c.args.instance.now c.args.bins.items c.loop-bin.done.items c.loop-bin.surplus
    (subst (λ (pending : List Bin). AreTrimmed c.args.instance.now c.args.bins.items pending c.loop-bin.done.items c.loop-bin.surplus) empty c.loop-bin.invariant)
