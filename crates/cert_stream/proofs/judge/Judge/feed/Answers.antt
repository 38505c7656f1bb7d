use Rattle.std.proofs.Common.{◌≡◌, ◌∙◌, ℕ, ◌≤◌, List, ◌++◌, length, true, false, sym, subst, ap}
use Rattle.arc_num.specs.declared.TheConstants.{MAX_CERT}
use Rattle.packing_laws.specs.Instances.{InstanceValue}
use Rattle.flow_graph.specs.Arcs.{TypeValue}
use Rattle.cert_stream.specs.declared.stage.Stage.{Stage}
use Rattle.cert_stream.specs.declared.stage.Stage.TheVariants.{Open}
use Rattle.cert_stream.specs.inner.Within.{IsWithin, IsWithinAt}
use Rattle.std.specs.Prelude.{IfOk, IsTrue, Result}
use Rattle.arc_num.specs.declared.Memory.{Memory}
use Rattle.std.specs.Prelude.{Bool}
use Rattle.cert_stream.specs.declared.verdict.Verdict.{Verdict}
use Rattle.cert_stream.specs.Judges.{JudgeValue, IsRead, IsFedAt, IsFed}
use Rattle.cert_stream.specs.Verdicts.{IsCertain}
use Rattle.cert_stream.proofs.Fed.{is_certain, on_any}
use Rattle.cert_stream.proofs.judge.Judge.feed.Goals as goal
use Rattle.cert_stream.proofs.judge.Judge.feed.Goals.{in-Open, in-Certain, in-Spent}

pub returns-clause-fed : goal.returns-clause-fed
returns-clause-fed g c = λ I h bytes fed. on_any c.match-self.result _ (c.take.ensures I h bytes fed)

pub returns-clause-certain : goal.returns-clause-certain
returns-clause-certain g c = λ I h bytes fed.
    elim c.match-self.branch [
      | in-Open w ↦ subst (λ (r : Result Bool Memory). IfOk r (λ certain. IsTrue certain → (x : Verdict) × IsCertain I h (bytes ++ c.args.piece.now) x)) (sym w.result-is) (λ t. absurd (let wrong : false ≡ true = t in cc))
      | in-Certain w ↦ subst (λ (r : Result Bool Memory). IfOk r (λ certain. IsTrue certain → (x : Verdict) × IsCertain I h (bytes ++ c.args.piece.now) x)) (sym w.result-is)
          (λ t. (w.in-Certain.field-0, is_certain I h (bytes ++ c.args.piece.now) c.take.new.self w.in-Certain.field-0 (sym (ap (λ (x : JudgeValue). x.stage) c.self.view_is) ∙ w.in-Certain.is) (c.take.ensures I h bytes fed)))
      | in-Spent w ↦ subst (λ (r : Result Bool Memory). IfOk r (λ certain. IsTrue certain → (x : Verdict) × IsCertain I h (bytes ++ c.args.piece.now) x)) (sym w.result-is) tt
    ]

-- a judge that takes bytes was fed no more than there may be
few : (I : InstanceValue) (h : List TypeValue) (bytes : List ℕ) (s : JudgeValue) → s.stage ≡ Open → IsFed I h bytes s → IsWithinAt s.stage s.batch s.reader s.taken → length bytes ≤ MAX_CERT
few I h bytes s is fed within =
    let read : IsRead I h bytes s = subst (λ (x : Stage). IsFedAt I h bytes s x) is fed.held in
    let whole : IsWithin s.batch s.reader s.taken = subst (λ (x : Stage). IsWithinAt x s.batch s.reader s.taken) is within in
    subst (λ (n : ℕ). n ≤ MAX_CERT) read.taken whole.whole

pub returns-clause-few : goal.returns-clause-few
returns-clause-few g c = λ I h bytes fed.
    elim c.match-self.branch [
      | in-Open w ↦ subst (λ (r : Result Bool Memory). IfOk r (λ certain. certain ≡ false → length (bytes ++ c.args.piece.now) ≤ MAX_CERT)) (sym w.result-is)
          (λ _. few I h (bytes ++ c.args.piece.now) c.take.new.self (sym (ap (λ (x : JudgeValue). x.stage) c.self.view_is) ∙ w.in-Open.is) (c.take.ensures I h bytes fed) (subst (λ (x : JudgeValue). IsWithinAt x.stage x.batch x.reader x.taken) c.self.view_is c.self.invariant.0))
      | in-Certain w ↦ subst (λ (r : Result Bool Memory). IfOk r (λ certain. certain ≡ false → length (bytes ++ c.args.piece.now) ≤ MAX_CERT)) (sym w.result-is) (λ e. absurd (let wrong : true ≡ false = e in cc))
      | in-Spent w ↦ subst (λ (r : Result Bool Memory). IfOk r (λ certain. certain ≡ false → length (bytes ++ c.args.piece.now) ≤ MAX_CERT)) (sym w.result-is) tt
    ]
