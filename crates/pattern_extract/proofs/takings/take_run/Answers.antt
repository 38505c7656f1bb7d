use Rattle.std.proofs.Common.{◌≡◌, ◌-◌, ◌<◌, ◌≤◌, ℕ, List, length, get_or, set, ap, sym, subst}
use Rattle.flow_graph.specs.Arcs.{first_arc}
use Rattle.pattern_extract.specs.Takings.{HaveLeft, IsTaken}
use Rattle.pattern_extract.proofs.Moves.{bin-within, bin-most, path-apart, path-there, taken-both}
use Rattle.pattern_extract.proofs.takings.take_run.Goals as goal

pub bounds-left-bin : goal.bounds-left-bin
bounds-left-bin c = bin-within c.args.graph.now c.args.run.now c.args.left.now (c.bin_arc.result - 1) c.known.ensures c.requires.run c.requires.size c.requires.left (ap (λ (n : ℕ). n - 1) c.bin_arc.ensures)

pub bounds-left-bin-2 : goal.bounds-left-bin-2
bounds-left-bin-2 c = bin-within c.args.graph.now c.args.run.now c.args.left.now (c.bin_arc.result - 1) c.known.ensures c.requires.run c.requires.size c.requires.left (ap (λ (n : ℕ). n - 1) c.bin_arc.ensures)

pub take_off-requires : goal.take_off-requires
take_off-requires c =
    let g = c.args.graph.now in
    let run = c.args.run.now in
    let old = c.args.left.now in
    let b = c.bin_arc.result - 1 in
    let bin = ap (λ (n : ℕ). n - 1) c.bin_arc.ensures in
    record {
      left = subst (HaveLeft (set old b (get_or old b 0 - run.times)) run.times) (sym c.as_slice.ensures)
          (record {
            apart = path-apart g run old b c.known.ensures c.requires.run c.requires.size c.requires.left bin;
            each = path-there g run old b c.known.ensures c.requires.run c.requires.size c.requires.left bin;
          });
    }

pub returns : goal.returns
returns c =
    let g = c.args.graph.now in
    let run = c.args.run.now in
    let old = c.args.left.now in
    let first = first_arc g run.t in
    let b = c.bin_arc.result - 1 in
    let bin : b ≡ first - 1 = ap (λ (n : ℕ). n - 1) c.bin_arc.ensures in
    let mid = set old b (get_or old b 0 - run.times) in
    taken-both old mid c.take_off.new.left run.times first run.arcs
    (subst (λ (i : ℕ). i < length old) bin (bin-within g run old b c.known.ensures c.requires.run c.requires.size c.requires.left bin))
    (subst (λ (i : ℕ). run.times ≤ get_or old i 0) bin (bin-most g run old b c.known.ensures c.requires.run c.requires.size c.requires.left bin))
    (ap (λ (i : ℕ). set old i (get_or old i 0 - run.times)) bin)
    (subst (λ (arcs : List ℕ). IsTaken mid c.take_off.new.left run.times arcs) c.as_slice.ensures c.take_off.ensures)
