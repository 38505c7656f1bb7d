use Rattle.std.proofs.Common.{◌≡◌, ◌⊎◌, ◌+◌, ◌<◌, true, false, length, sym, subst, inl, inr, rules}
use Rattle.cert_stream.specs.Verdicts.{IsCertain, IsVerdict}
use Rattle.cert_stream.specs.Judges.{IsRead, IsReadOut, JudgeValue}
use Rattle.cert_stream.specs.inner.Stages.{stage_of}
use Rattle.cert_checker.specs.Faults.{refusal_of}
use Rattle.cert_stream.proofs.Certain.{certain_now}
use Rattle.cert_stream.proofs.Fed.{closed_cut, closed_early, closed_shown, settled_of}
use Rattle.cert_stream.proofs.Read.{OfStage, all_refused, of_stage}
use Rattle.cert_stream.proofs.judge.Judge.close.Goals as goal
use Rattle.cert_stream.proofs.judge.Judge.close.Goals.{else-not-self-via-then-not-self+else-rest-gt0, else-not-self-via-else-not-self}

pub returns-then-rest-gt0 : goal.returns-then-rest-gt0
returns-then-rest-gt0 g c = λ I h bytes read out.
    let s : JudgeValue = record { batch = c.self.inside.batch; reader = c.self.inside.reader; taken = c.self.inside.taken; stage = c.self.inside.stage } in
    let is : IsRead I h bytes s = subst (λ (x : JudgeValue). IsRead I h bytes x) (sym c.self.view_is) read in
    let runs : s.reader.ended ≡ false = search rules in
    let some : 0 < length s.reader.unread = search rules in
    let number : c.self.inside.lines + 1 ≡ s.reader.read + 1 = search rules in
    settled_of I h bytes (IsVerdict I h bytes) c.stop.result
    (closed_cut I h bytes s is (subst (λ (x : JudgeValue). IsReadOut x.reader) (sym c.self.view_is) out) runs some (c.self.inside.lines + 1) number c.stop.result c.stop.ensures)
    c.settled.result c.settled.ensures

pub returns-in-Ok-finish : goal.returns-in-Ok-finish
returns-in-Ok-finish g c = λ I h bytes read out.
    let s : JudgeValue = record { batch = c.self.inside.batch; reader = c.self.inside.reader; taken = c.self.inside.taken; stage = c.self.inside.stage } in
    let is : IsRead I h bytes s = subst (λ (x : JudgeValue). IsRead I h bytes x) (sym c.self.view_is) read in
    closed_shown I h bytes s is c.flush.new.self.checker c.in-Ok.ensures.judged (subst (λ (x : JudgeValue). IsReadOut x.reader) (sym c.self.view_is) out) c.in-Ok-finish.claim c.in-Ok-finish.ensures

pub returns-in-Ok : goal.returns-in-Ok
returns-in-Ok g c = λ I h bytes read out.
    let s : JudgeValue = record { batch = c.self.inside.batch; reader = c.self.inside.reader; taken = c.self.inside.taken; stage = c.self.inside.stage } in
    let is : IsRead I h bytes s = subst (λ (x : JudgeValue). IsRead I h bytes x) (sym c.self.view_is) read in
    let at_end : s.reader.ended ≡ true ⊎ (length s.reader.unread ≡ 0) = elim c.else-not-self.branch [ else-not-self-via-then-not-self+else-rest-gt0 w ↦ inr (search rules) | else-not-self-via-else-not-self w ↦ inl (search rules) ] in
    settled_of I h bytes (IsVerdict I h bytes) c.behind.result
    (subst (OfStage (IsVerdict I h bytes)) (sym c.behind.ensures) (closed_early I h bytes s is c.flush.new.self.checker c.in-Ok.ensures.judged at_end c.in-Err-finish.fault c.in-Err-finish.ensures))
    c.settled-in-Err-finish.result c.settled-in-Err-finish.ensures

pub returns : goal.returns
returns g c = λ I h bytes read out.
    let s : JudgeValue = record { batch = c.self.inside.batch; reader = c.self.inside.reader; taken = c.self.inside.taken; stage = c.self.inside.stage } in
    let is : IsRead I h bytes s = subst (λ (x : JudgeValue). IsRead I h bytes x) (sym c.self.view_is) read in
    settled_of I h bytes (IsVerdict I h bytes) c.behind-in-Err.result
    (subst (OfStage (IsVerdict I h bytes)) (sym c.behind-in-Err.ensures)
    (of_stage (IsCertain I h bytes) (IsVerdict I h bytes) (certain_now I h bytes) (stage_of (refusal_of c.in-Err.fault)) (all_refused I h bytes s is c.in-Err.fault c.flush.new.self.checker c.in-Err.ensures.judged)))
    c.settled-in-Err.result c.settled-in-Err.ensures
