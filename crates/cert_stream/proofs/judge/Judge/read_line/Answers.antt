use Rattle.std.proofs.Common.{◌≡◌, ◌+◌, false, sym, subst, ap, ◌∙◌}
use Rattle.cert_checker.specs.Faults.{refusal_of}
use Rattle.cert_stream.specs.Judges.{IsRead, JudgeValue}
use Rattle.cert_stream.specs.Verdicts.{IsCertain}
use Rattle.cert_stream.specs.declared.stage.Stage.TheVariants.{Open}
use Rattle.cert_stream.proofs.Fed.{open_held, stage_held}
use Rattle.cert_stream.proofs.Read.{OfStage, read_more, read_refused, stopped_bad}
use Rattle.cert_stream.proofs.Within.{open_within, within_open, within_read}
use Rattle.cert_stream.proofs.judge.Judge.read_line.Goals as goal

pub invariant_of-self : goal.invariant_of-self
invariant_of-self g c =
    let stage : c.self.inside.stage ≡ Open = ap (λ (x : JudgeValue). x.stage) c.self.view_is ∙ c.requires in (
      open_within c.push.new.self c.line.new.self c.self.inside.taken c.self.inside.stage stage
          (within_read c.self.inside.batch c.self.inside.reader c.self.inside.taken (within_open c.self.inside.batch c.self.inside.reader c.self.inside.taken c.self.inside.stage stage c.self.invariant.0) c.in-Line.found c.line.new.self c.in-Line.ensures c.push.new.self c.in-Ok.ensures),
      ap (λ n. n + 1) c.self.invariant.1 ∙ sym c.in-Line.ensures.read,
      c.ends-self-inside.ensures ∙ sym c.in-Line.ensures.ended,
    )

pub returns-in-Ok-clause-held : goal.returns-in-Ok-clause-held
returns-in-Ok-clause-held g c = λ I h bytes read.
    let s : JudgeValue = record { batch = c.self.inside.batch; reader = c.self.inside.reader; taken = c.self.inside.taken; stage = c.self.inside.stage } in
    let is : IsRead I h bytes s = subst (λ (x : JudgeValue). IsRead I h bytes x) (sym c.self.view_is) read in
    let stage : c.self.inside.stage ≡ Open = ap (λ (x : JudgeValue). x.stage) c.self.view_is ∙ c.requires in
    open_held I h bytes (record { batch = c.push.new.self; reader = c.line.new.self; taken = c.self.inside.taken; stage = c.self.inside.stage }) stage
    (read_more I h bytes s is c.in-Line.found c.line.new.self c.in-Line.ensures c.push.new.self c.in-Ok.ensures c.self.inside.stage)

pub returns-in-Err-clause-held : goal.returns-in-Err-clause-held
returns-in-Err-clause-held g c = λ I h bytes read.
    let s : JudgeValue = record { batch = c.self.inside.batch; reader = c.self.inside.reader; taken = c.self.inside.taken; stage = c.self.inside.stage } in
    let is : IsRead I h bytes s = subst (λ (x : JudgeValue). IsRead I h bytes x) (sym c.self.view_is) read in
    stage_held I h bytes (record { batch = c.push.new.self; reader = c.line.new.self; taken = c.self.inside.taken; stage = c.behind-self-inside.result }) c.behind-self-inside.result
    (subst (OfStage (IsCertain I h bytes)) (sym c.behind-self-inside.ensures) (read_refused I h bytes s is c.in-Line.found c.line.new.self c.in-Line.ensures (refusal_of c.in-Err.fault) c.in-Err.ensures))

pub returns-in-Bad-clause-held : goal.returns-in-Bad-clause-held
returns-in-Bad-clause-held g c = λ I h bytes read.
    let s : JudgeValue = record { batch = c.self.inside.batch; reader = c.self.inside.reader; taken = c.self.inside.taken; stage = c.self.inside.stage } in
    let is : IsRead I h bytes s = subst (λ (x : JudgeValue). IsRead I h bytes x) (sym c.self.view_is) read in
    let runs : s.reader.ended ≡ false = sym c.self.invariant.2 ∙ c.if-self.false in
    let number : c.self.inside.lines + 1 ≡ s.reader.read + 1 = ap (λ n. n + 1) c.self.invariant.1 in
    stage_held I h bytes (record { batch = c.stop-self-inside.new.self; reader = c.line.new.self; taken = c.self.inside.taken; stage = c.stop-self-inside.result }) c.stop-self-inside.result
    (stopped_bad I h bytes s is c.in-Bad.ensures.0 runs (c.self.inside.lines + 1) number c.stop-self-inside.result c.stop-self-inside.ensures)
