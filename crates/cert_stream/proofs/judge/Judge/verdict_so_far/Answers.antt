use Rattle.std.proofs.Common.{◌≡◌, ◌∙◌, sym, subst, ap}
use Rattle.std.specs.Prelude.{IfOk, MatchOption, Option, Result}
use Rattle.arc_num.specs.declared.Memory.{Memory}
use Rattle.cert_stream.specs.declared.verdict.Verdict.{Verdict}
use Rattle.cert_stream.specs.declared.stage.Stage.TheVariants.{Open}
use Rattle.cert_stream.specs.Judges.{JudgeValue}
use Rattle.cert_stream.specs.Verdicts.{IsCertain, IsSound}
use Rattle.cert_stream.proofs.Fed.{is_certain, on_any, open_read, sound}
use Rattle.cert_stream.proofs.judge.Judge.verdict_so_far.Goals as goal
use Rattle.cert_stream.proofs.judge.Judge.verdict_so_far.Goals.{in-Open, in-Certain, in-Spent}

pub returns-clause-fed : goal.returns-clause-fed
returns-clause-fed g c = λ I h bytes fed. on_any c.match-self.result _ (c.judge_all.ensures.fed I h bytes fed)

pub returns-clause-known : goal.returns-clause-known
returns-clause-known g c = λ I h bytes fed.
    elim c.match-self.branch [
      | in-Open w ↦
          let stage : c.judge_all.new.self.stage ≡ Open = sym (ap (λ (x : JudgeValue). x.stage) c.self.view_is) ∙ w.in-Open.is in
          let both = open_read I h bytes c.judge_all.new.self stage (c.judge_all.ensures.fed I h bytes fed) in
          subst (λ (r : Result (Option Verdict) Memory). IfOk r (λ found. MatchOption found (IsSound I h bytes) (λ verdict. IsCertain I h bytes verdict))) (sym w.result-is)
          (sound I h bytes c.judge_all.new.self both.0 both.1 (c.judge_all.ensures.none stage))
      | in-Certain w ↦ subst (λ (r : Result (Option Verdict) Memory). IfOk r (λ found. MatchOption found (IsSound I h bytes) (λ verdict. IsCertain I h bytes verdict))) (sym w.result-is)
          (is_certain I h bytes c.judge_all.new.self w.in-Certain.verdict (sym (ap (λ (x : JudgeValue). x.stage) c.self.view_is) ∙ w.in-Certain.is) (c.judge_all.ensures.fed I h bytes fed))
      | in-Spent w ↦ subst (λ (r : Result (Option Verdict) Memory). IfOk r (λ found. MatchOption found (IsSound I h bytes) (λ verdict. IsCertain I h bytes verdict))) (sym w.result-is) tt
    ]
