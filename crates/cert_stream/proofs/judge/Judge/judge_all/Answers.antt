use Rattle.std.proofs.Common.{◌≡◌, sym, subst, rules}
use Rattle.cert_stream.specs.Judges.{IsRead, IsReadOut, JudgeValue}
use Rattle.cert_stream.specs.Verdicts.{IsCertain}
use Rattle.cert_stream.specs.declared.stage.Stage.TheVariants.{Open}
use Rattle.cert_stream.proofs.Fed.{open_fed, open_read, stage_fed}
use Rattle.cert_stream.proofs.Read.{OfStage, all_read, all_refused}
use Rattle.cert_stream.proofs.Within.{open_within, within_judged, within_open}
use Rattle.cert_stream.proofs.judge.Judge.judge_all.Goals as goal

pub invariant_of-self : goal.invariant_of-self
invariant_of-self g c = (
  open_within c.flush.new.self c.self.inside.reader c.self.inside.taken c.self.inside.stage c.in-Open.is
      (within_judged c.self.inside.batch c.self.inside.reader c.self.inside.taken (within_open c.self.inside.batch c.self.inside.reader c.self.inside.taken c.self.inside.stage c.in-Open.is c.self.invariant.0) c.flush.new.self c.in-Ok.ensures.judged c.in-Ok.ensures.none),
  c.self.invariant.1,
  c.self.invariant.2,
)

pub returns-in-Ok-clause-fed : goal.returns-in-Ok-clause-fed
returns-in-Ok-clause-fed g c = λ I h bytes fed.
    let stage : c.args.self.now.stage ≡ Open = search rules in
    let both = open_read I h bytes c.args.self.now stage fed in
    let s : JudgeValue = record { batch = c.self.inside.batch; reader = c.self.inside.reader; taken = c.self.inside.taken; stage = c.self.inside.stage } in
    let is : IsRead I h bytes s = subst (λ (x : JudgeValue). IsRead I h bytes x) (sym c.self.view_is) both.0 in
    let out : IsReadOut s.reader = subst (λ (x : JudgeValue). IsReadOut x.reader) (sym c.self.view_is) both.1 in
    open_fed I h bytes (record { batch = c.flush.new.self; reader = c.self.inside.reader; taken = c.self.inside.taken; stage = c.self.inside.stage }) c.in-Open.is
    (all_read I h bytes s is c.flush.new.self c.in-Ok.ensures.judged c.in-Ok.ensures.none c.self.inside.stage) out

pub returns-in-Err-clause-fed : goal.returns-in-Err-clause-fed
returns-in-Err-clause-fed g c = λ I h bytes fed.
    let stage : c.args.self.now.stage ≡ Open = search rules in
    let both = open_read I h bytes c.args.self.now stage fed in
    let s : JudgeValue = record { batch = c.self.inside.batch; reader = c.self.inside.reader; taken = c.self.inside.taken; stage = c.self.inside.stage } in
    let is : IsRead I h bytes s = subst (λ (x : JudgeValue). IsRead I h bytes x) (sym c.self.view_is) both.0 in
    stage_fed I h bytes (record { batch = c.flush.new.self; reader = c.self.inside.reader; taken = c.self.inside.taken; stage = c.behind-self-inside.result })
    (subst (OfStage (IsCertain I h bytes)) (sym c.behind-self-inside.ensures) (all_refused I h bytes s is c.in-Err.fault c.flush.new.self.checker c.in-Err.ensures.judged))
