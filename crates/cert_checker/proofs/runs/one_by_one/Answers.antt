use Rattle.std.proofs.Common.{◌≡◌, ◌<◌, ◌≤◌, ◌+◌, List, length, get_or, map, drop, sym, ◌∙◌, subst, arith, rules}
use Rattle.std.specs.Prelude.{Option, None, Some}
use Rattle.cert_laws.specs.declared.causes.Cause.{Cause}
use Rattle.cert_checker.specs.inner.LineRefs.{line_of}
use Rattle.cert_text.specs.declared.lines.CertLine.{CertLine}
use Rattle.cert_checker.specs.inner.Runs.{AreTold}
use Rattle.cert_checker.specs.inner.Standing.{IsTold}
use Rattle.cert_checker.proofs.ToldLines.{at_the_end, from_here, told_cons, told_count, told_refused, told_root}
use Rattle.cert_checker.proofs.runs.one_by_one.Goals as goal

pub returns-in-Some : goal.returns-in-Some
returns-in-Some g c =
    let I = c.args.instance.now in
    let graph = c.args.graph.now in
    let lines = c.args.lines.now in
    let i = c.loop-line.line-index in
    let x = c.line-item.result in
    let within : i < length lines = search rules in
    let there : x ≡ get_or lines i x = search rules in
    let told : IsTold I graph c.loop-line.standing (g.T.Line.told x) (Some c.in-Some.cause) c.tell.new.standing = search rules in
    c.loop-line.invariant.leads (Some c.in-Some.cause) c.tell.new.standing
    (subst (λ (ls : List CertLine). AreTold I graph c.loop-line.standing ls (Some c.in-Some.cause) c.tell.new.standing) (sym (from_here g.T.Line.told lines i x within there))
    (told_refused I graph c.loop-line.standing (g.T.Line.told x) (map g.T.Line.told (drop (i + 1) lines)) c.in-Some.cause c.tell.new.standing told))

pub loop-line-preserved : goal.loop-line-preserved
loop-line-preserved g c =
    let I = c.args.instance.now in
    let graph = c.args.graph.now in
    let lines = c.args.lines.now in
    let i = c.loop-line.line-index in
    let x = c.line-item.result in
    let within : i < length lines = search rules in
    let there : x ≡ get_or lines i x = search rules in
    let free : c.in_ok-cause.field-0 ≡ None = c.in_default.is in
    let same : line_of c.shown-shown.result ≡ g.T.Line.told x = search rules in
    let told : IsTold I graph c.loop-line.standing (g.T.Line.told x) None c.tell.new.standing =
    subst (λ (line : CertLine). IsTold I graph c.loop-line.standing line None c.tell.new.standing) same
    (subst (λ (verdict : Option Cause). IsTold I graph c.loop-line.standing (line_of c.shown-shown.result) verdict c.tell.new.standing) free c.in_ok-cause.ensures.told) in
    let count = told_count I graph c.loop-line.standing c.tell.new.standing (g.T.Line.told x) told in
    let before = c.loop-line.invariant.count in
    record {
      count = omega (arith, count, before);
      root = told_root I graph c.loop-line.standing c.tell.new.standing (g.T.Line.told x) told ∙ c.loop-line.invariant.root;
      scratch = c.tell.ensures.scratch ∙ c.loop-line.invariant.scratch;
      room = c.tell.ensures.room;
      leads = λ verdict new rest.
          c.loop-line.invariant.leads verdict new
          (subst (λ (ls : List CertLine). AreTold I graph c.loop-line.standing ls verdict new) (sym (from_here g.T.Line.told lines i x within there))
          (told_cons I graph c.loop-line.standing c.tell.new.standing (g.T.Line.told x) (map g.T.Line.told (drop (i + 1) lines)) verdict new told rest));
    }

pub returns : goal.returns
returns g c =
    let past : length c.args.lines.now ≤ c.loop-line.line-index = search rules in
    c.loop-line.invariant.leads None c.loop-line.standing (at_the_end g.T.Line.told c.args.instance.now c.args.graph.now c.loop-line.standing c.args.lines.now c.loop-line.line-index past)
