use Rattle.std.proofs.Common.{◌≡◌, ◌+◌, ◌++◌, ◌∙◌, true, false, sym, subst, ap}
use Rattle.cert_stream.specs.Judges.{IsRead, IsReadOut, JudgeValue}
use Rattle.cert_stream.proofs.Fed.{stage_fed}
use Rattle.cert_stream.proofs.Read.{stopped_at_limit, stopped_long}
use Rattle.cert_stream.proofs.judge.Judge.stop_at_limit.Goals as goal

pub returns-then-self : goal.returns-then-self
returns-then-self g c = λ I h bytes more read out full some.
    let s : JudgeValue = record { batch = c.self.inside.batch; reader = c.self.inside.reader; taken = c.self.inside.taken; stage = c.self.inside.stage } in
    let is : IsRead I h bytes s = subst (λ (x : JudgeValue). IsRead I h bytes x) (sym c.self.view_is) read in
    let out_is : IsReadOut s.reader = subst (λ (x : JudgeValue). IsReadOut x.reader) (sym c.self.view_is) out in
    let ended : s.reader.ended ≡ true = sym c.self.invariant.2 ∙ c.if-self.true in
    let number : c.self.inside.lines + 1 ≡ s.reader.read + 1 = ap (λ n. n + 1) c.self.invariant.1 in
    stage_fed I h (bytes ++ more) (record { batch = c.stop-self-inside.new.self; reader = c.self.inside.reader; taken = c.self.inside.taken; stage = c.stop-self-inside.result })
    (stopped_at_limit I h bytes s is out_is full more some ended (c.self.inside.lines + 1) number c.stop-self-inside.result c.stop-self-inside.ensures)

pub returns-else-self : goal.returns-else-self
returns-else-self g c = λ I h bytes more read out full some.
    let s : JudgeValue = record { batch = c.self.inside.batch; reader = c.self.inside.reader; taken = c.self.inside.taken; stage = c.self.inside.stage } in
    let is : IsRead I h bytes s = subst (λ (x : JudgeValue). IsRead I h bytes x) (sym c.self.view_is) read in
    let out_is : IsReadOut s.reader = subst (λ (x : JudgeValue). IsReadOut x.reader) (sym c.self.view_is) out in
    let runs : s.reader.ended ≡ false = sym c.self.invariant.2 ∙ c.if-self.false in
    stage_fed I h (bytes ++ more) (record { batch = c.stop-self-inside-else-self.new.self; reader = c.self.inside.reader; taken = c.self.inside.taken; stage = c.stop-self-inside-else-self.result })
    (stopped_long I h bytes s is out_is full more some runs c.stop-self-inside-else-self.result c.stop-self-inside-else-self.ensures)
