use Rattle.std.proofs.Common.{◌≡◌, ◌<◌, ◌∙◌, ◌+◌, ap, List, ℕ, ◌++◌, get_or, length, take, arith, append_assoc}
use Rattle.std.proofs.lemmas.List.{get_or_default, take_all}
use Rattle.arc_compile.specs.declared.results.TypeSize.{TypeSize}
use Rattle.arc_program.specs.Reports.{type_and_level, main_and_final, type_lines}
use Rattle.arc_program.proofs.ReportLemmas.{type_lines-more}
use Rattle.arc_program.proofs.reports.push_type_lines.Goals as goal

pub loop-t-preserved : goal.loop-t-preserved
loop-t-preserved c =
    let levels = c.args.levels.now in
    let sizes = c.args.sizes.now in
    let t = c.loop-t.t in
    let level : ℕ × ℕ = get_or levels t (0, 0) in
    let size : TypeSize = get_or sizes t (record { main_nodes = 0; main_arcs = 0; final_nodes = 0; final_arcs = 0 }) in
    let lt : t < length levels = c.loop-t-test.true in
    let low : t < length sizes = omega (arith, lt, c.requires) in
    c.in_ok-push_main_and_final.ensures
    ∙ (ap (λ (zs : List ℕ). zs ++ main_and_final size) c.in_ok-push_type_and_level.ensures
    ∙ (append_assoc c.loop-t.out.items (type_and_level (t + 1) level) (main_and_final size)
    ∙ (ap (λ (zs : List ℕ). zs ++ (type_and_level (t + 1) level ++ main_and_final size)) c.loop-t.invariant
    ∙ type_lines-more levels sizes t level size c.args.out.now.items c.requires lt (get_or_default levels t (0, 0) level lt) (get_or_default sizes t (record { main_nodes = 0; main_arcs = 0; final_nodes = 0; final_arcs = 0 }) size low))))

pub returns : goal.returns
returns c =
    let levels = c.args.levels.now in
    let sizes = c.args.sizes.now in
    let all : take c.loop-t.t levels ≡ levels = take_all c.loop-t.t levels c.loop-t-test.false in
    let every : take c.loop-t.t sizes ≡ sizes = take_all c.loop-t.t sizes (omega (arith, c.requires, c.loop-t-test.false)) in
    c.loop-t.invariant
    ∙ (ap (λ (xs : List (ℕ × ℕ)). c.args.out.now.items ++ type_lines 1 xs (take c.loop-t.t sizes)) all
    ∙ ap (λ (ss : List TypeSize). c.args.out.now.items ++ type_lines 1 levels ss) every)
