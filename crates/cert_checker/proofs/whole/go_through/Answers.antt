use Rattle.std.proofs.Common.{map, rules}
use Rattle.cert_text.specs.declared.lines.CertLine.TheVariants as cert
use Rattle.cert_checker.specs.Checkers.{IsSteppedBy}
use Rattle.cert_checker.proofs.TakenLines.{all_taken, one_of_them}
use Rattle.cert_checker.proofs.whole.go_through.Goals as goal

pub returns-clause-ok : goal.returns-clause-ok
returns-clause-ok g c = λ I graph before has.
    let stepped : IsSteppedBy c.args.checker.now (map (λ l. cert.Tree l) c.args.places.now) c.step_all.result c.step_all.new.self = search rules in
    all_taken I graph before c.args.checker.now c.step_all.new.self has (map (λ l. cert.Tree l) c.args.places.now) c.step_all.result stepped

pub returns-clause-err : goal.returns-clause-err
returns-clause-err g c = λ I graph before has.
    let stepped : IsSteppedBy c.args.checker.now (map (λ l. cert.Tree l) c.args.places.now) c.step_all.result c.step_all.new.self = search rules in
    one_of_them I graph before c.args.checker.now c.step_all.new.self has (map (λ l. cert.Tree l) c.args.places.now) c.step_all.result stepped
