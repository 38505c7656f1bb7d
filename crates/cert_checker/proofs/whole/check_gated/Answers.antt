-- The lines are taken one after the other: head and claim, the tree, the end.
use Rattle.std.proofs.Common.{◌≡◌, ◌^◌, ◌<◌, [], ◌∷◌, ◌++◌, List, length, map, subst, arith, rules}
use Rattle.std.specs.Prelude.{IfSome}
use Rattle.std.proofs.lemmas.List.{length-append, length-map}
use Rattle.packing_laws.specs.Instances.{IsInstance}
use Rattle.flow_graph.specs.Arcs.{IsFlowGraph}
use Rattle.cert_text.specs.declared.lines.TreeLine.{TreeLine}
use Rattle.cert_text.specs.declared.lines.CertLine.TheVariants as cert
use Rattle.cert_text.specs.Lines.{lines_of}
use Rattle.cert_laws.specs.Rules.{IsFirstRefused, at_start}
use Rattle.cert_checker.specs.Faults.{refusal_of}
use Rattle.cert_checker.specs.inner.Taken.{HasTaken, head_lines}
use Rattle.cert_checker.proofs.TakenLines.{nothing_taken, as_fault, shown_ok}
use Rattle.cert_checker.proofs.whole.check_gated.Goals as goal

pub returns-in-Err-clause-refused : goal.returns-in-Err-clause-refused
returns-in-Err-clause-refused g c =
    let start : HasTaken c.args.instance.now c.args.graph.now [] c.in_ok-checker.checker = nothing_taken c.args.instance.now c.args.graph.now c.in_ok-checker.checker c.in_ok-checker.ensures in
    as_fault c.args.instance.now c.args.graph.now (lines_of c.args.certificate.now) (refusal_of c.in-Err.fault) (c.in-Err.ensures.err c.args.instance.now c.args.graph.now start (map (λ l. cert.Tree l) c.args.certificate.now.lines ++ cert.End ∷ []))

pub returns-in-Err-go_through-clause-refused : goal.returns-in-Err-go_through-clause-refused
returns-in-Err-go_through-clause-refused g c =
    let start : HasTaken c.args.instance.now c.args.graph.now [] c.in_ok-checker.checker = nothing_taken c.args.instance.now c.args.graph.now c.in_ok-checker.checker c.in_ok-checker.ensures in
    let heads : HasTaken c.args.instance.now c.args.graph.now (head_lines c.args.certificate.now) c.begin.new.checker = c.in-Ok.ensures.ok c.args.instance.now c.args.graph.now start in
    let slice : c.as_slice-places.result.now ≡ c.args.certificate.now.lines = c.as_slice-places.ensures in
    as_fault c.args.instance.now c.args.graph.now (lines_of c.args.certificate.now) (refusal_of c.in-Err-go_through.fault)
    (subst (λ (xs : List TreeLine). IfSome (refusal_of c.in-Err-go_through.fault) (λ r. IsFirstRefused c.args.instance.now c.args.graph.now (at_start c.args.instance.now c.args.graph.now) (head_lines c.args.certificate.now ++ (map (λ l. cert.Tree l) xs ++ cert.End ∷ [])) r.0 r.1)) slice
    (c.in-Err-go_through.ensures.err c.args.instance.now c.args.graph.now (head_lines c.args.certificate.now) heads (cert.End ∷ [])))

pub end-requires : goal.end-requires
end-requires g c =
    let start : HasTaken c.args.instance.now c.args.graph.now [] c.in_ok-checker.checker = nothing_taken c.args.instance.now c.args.graph.now c.in_ok-checker.checker c.in_ok-checker.ensures in
    let heads : HasTaken c.args.instance.now c.args.graph.now (head_lines c.args.certificate.now) c.begin.new.checker = c.in-Ok.ensures.ok c.args.instance.now c.args.graph.now start in
    let slice : c.as_slice-places.result.now ≡ c.args.certificate.now.lines = c.as_slice-places.ensures in
    let tree : HasTaken c.args.instance.now c.args.graph.now (head_lines c.args.certificate.now ++ map (λ l. cert.Tree l) c.args.certificate.now.lines) c.go_through.new.checker =
    subst (λ (xs : List TreeLine). HasTaken c.args.instance.now c.args.graph.now (head_lines c.args.certificate.now ++ map (λ l. cert.Tree l) xs) c.go_through.new.checker) slice (c.in-Ok-go_through.ensures.ok c.args.instance.now c.args.graph.now (head_lines c.args.certificate.now) heads) in
    let small : length c.as_slice-places.result.now < 2 ^ 63 = search rules in
    let same : length c.as_slice-places.result.now ≡ length c.args.certificate.now.lines = (λ k. length (slice k)) in
    let count = tree.count in
    let whole = length-append (head_lines c.args.certificate.now) (map (λ l. cert.Tree l) c.args.certificate.now.lines) in
    let mapped : length (map (λ l. cert.Tree l) c.args.certificate.now.lines) ≡ length c.args.certificate.now.lines = simp length-map in
    omega (arith, count, whole, mapped, same, small)

pub returns-clause-certified : goal.returns-clause-certified
returns-clause-certified g c =
    let start : HasTaken c.args.instance.now c.args.graph.now [] c.in_ok-checker.checker = nothing_taken c.args.instance.now c.args.graph.now c.in_ok-checker.checker c.in_ok-checker.ensures in
    let heads : HasTaken c.args.instance.now c.args.graph.now (head_lines c.args.certificate.now) c.begin.new.checker = c.in-Ok.ensures.ok c.args.instance.now c.args.graph.now start in
    let slice : c.as_slice-places.result.now ≡ c.args.certificate.now.lines = c.as_slice-places.ensures in
    let tree : HasTaken c.args.instance.now c.args.graph.now (head_lines c.args.certificate.now ++ map (λ l. cert.Tree l) c.args.certificate.now.lines) c.go_through.new.checker =
    subst (λ (xs : List TreeLine). HasTaken c.args.instance.now c.args.graph.now (head_lines c.args.certificate.now ++ map (λ l. cert.Tree l) xs) c.go_through.new.checker) slice (c.in-Ok-go_through.ensures.ok c.args.instance.now c.args.graph.now (head_lines c.args.certificate.now) heads) in
    c.end.ensures.ok c.args.instance.now c.args.graph.now (head_lines c.args.certificate.now ++ map (λ l. cert.Tree l) c.args.certificate.now.lines) tree

pub returns-clause-refused : goal.returns-clause-refused
returns-clause-refused g c =
    let start : HasTaken c.args.instance.now c.args.graph.now [] c.in_ok-checker.checker = nothing_taken c.args.instance.now c.args.graph.now c.in_ok-checker.checker c.in_ok-checker.ensures in
    let heads : HasTaken c.args.instance.now c.args.graph.now (head_lines c.args.certificate.now) c.begin.new.checker = c.in-Ok.ensures.ok c.args.instance.now c.args.graph.now start in
    let slice : c.as_slice-places.result.now ≡ c.args.certificate.now.lines = c.as_slice-places.ensures in
    let tree : HasTaken c.args.instance.now c.args.graph.now (head_lines c.args.certificate.now ++ map (λ l. cert.Tree l) c.args.certificate.now.lines) c.go_through.new.checker =
    subst (λ (xs : List TreeLine). HasTaken c.args.instance.now c.args.graph.now (head_lines c.args.certificate.now ++ map (λ l. cert.Tree l) xs) c.go_through.new.checker) slice (c.in-Ok-go_through.ensures.ok c.args.instance.now c.args.graph.now (head_lines c.args.certificate.now) heads) in
    c.end.ensures.err c.args.instance.now c.args.graph.now (head_lines c.args.certificate.now ++ map (λ l. cert.Tree l) c.args.certificate.now.lines) tree

pub returns-clause-shown : goal.returns-clause-shown
returns-clause-shown g c = λ faithful.
    let start : HasTaken c.args.instance.now c.args.graph.now [] c.in_ok-checker.checker = nothing_taken c.args.instance.now c.args.graph.now c.in_ok-checker.checker c.in_ok-checker.ensures in
    let heads : HasTaken c.args.instance.now c.args.graph.now (head_lines c.args.certificate.now) c.begin.new.checker = c.in-Ok.ensures.ok c.args.instance.now c.args.graph.now start in
    let slice : c.as_slice-places.result.now ≡ c.args.certificate.now.lines = c.as_slice-places.ensures in
    let tree : HasTaken c.args.instance.now c.args.graph.now (head_lines c.args.certificate.now ++ map (λ l. cert.Tree l) c.args.certificate.now.lines) c.go_through.new.checker =
    subst (λ (xs : List TreeLine). HasTaken c.args.instance.now c.args.graph.now (head_lines c.args.certificate.now ++ map (λ l. cert.Tree l) xs) c.go_through.new.checker) slice (c.in-Ok-go_through.ensures.ok c.args.instance.now c.args.graph.now (head_lines c.args.certificate.now) heads) in
    let known : IsInstance c.args.instance.now = search rules in
    let graph : IsFlowGraph c.args.graph.now = search rules in
    shown_ok c.certified_is_so.ensures c.args.instance.now c.args.graph.now (lines_of c.args.certificate.now) known graph faithful c.end.result (c.end.ensures.ok c.args.instance.now c.args.graph.now (head_lines c.args.certificate.now ++ map (λ l. cert.Tree l) c.args.certificate.now.lines) tree)
