use Rattle.std.proofs.Common.{arith, ℕ, List, length, drop, None, Ok, ◌<◌, ◌^◌, ◌∙◌, sym, ap}
use Rattle.std.specs.Prelude.{map, unwrap_or, replicate, Option}
use Rattle.std.proofs.lemmas.List.{take_at}
use Rattle.flow_graph.specs.Arcs.{numbered}
use Rattle.solution_text.specs.Solutions.{solution_meaning}
use Rattle.solution_text.proofs.Meanings.{lines_mean, ended, fault_meant}
use Rattle.solution_text.proofs.lines.read_solution.Goals as goal

pub returns-in_err-read_lines-clause-meaning : goal.returns-in_err-read_lines-clause-meaning
returns-in_err-read_lines-clause-meaning c =
    let few : length (numbered c.args.graph.now) < 2 ^ 31 = omega (arith, c.arc_count.ensures.value, c.arc_count.ensures.known) in
    let none = c.as_mut_slice.ensures.value ∙ (c.in_ok-found.ensures ∙ ap (λ (n : ℕ). replicate {A = Option ℕ} n None) c.arc_count.ensures.value) in
    let meaning = lines_mean c.args.graph.now c.args.text.now c.as_mut_slice.result.now few none in
    fault_meant c.from_residual-in_err-read_lines.result c.in_err-read_lines.field-0.0 _ (solution_meaning c.args.graph.now c.args.text.now) c.from_residual-in_err-read_lines.ensures.1 (meaning ∙ ap ended c.in_err-read_lines.ensures)

pub returns-clause-meaning : goal.returns-clause-meaning
returns-clause-meaning c =
    let few : length (numbered c.args.graph.now) < 2 ^ 31 = omega (arith, c.arc_count.ensures.value, c.arc_count.ensures.known) in
    let none = c.as_mut_slice.ensures.value ∙ (c.in_ok-found.ensures ∙ ap (λ (n : ℕ). replicate {A = Option ℕ} n None) c.arc_count.ensures.value) in
    let meaning = lines_mean c.args.graph.now c.args.text.now c.as_mut_slice.result.now few none in
    let same = c.as_slice.ensures.value ∙ take_at c.read_lines.new.found (drop (length c.read_lines.new.found) c.in_ok-found.found.items) c.in_ok-found.found.len (omega (arith, c.read_lines.auto.found, c.as_mut_slice.ensures.len)) in
    meaning ∙ (ap ended c.in_ok-read_lines.ensures ∙ ap (λ (z : List ℕ). Ok z) (ap (map (λ (v : Option ℕ). unwrap_or v 0)) (sym same) ∙ (sym c.in_ok-values.ensures ∙ sym c.new.ensures)))
