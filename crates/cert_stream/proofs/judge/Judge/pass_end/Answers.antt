use Rattle.std.proofs.Common.{◌≡◌, ◌≢◌, ◌+◌, [], true, sym, subst, arith, rules, ap, length, List, ℕ}
use Rattle.cert_stream.specs.Judges.{IsRead, JudgeValue}
use Rattle.cert_stream.proofs.Fed.{open_held, stage_held}
use Rattle.cert_stream.proofs.Read.{stopped_extra}
use Rattle.cert_stream.proofs.judge.Judge.pass_end.Goals as goal

pub returns-then-rest-eq0-clause-held : goal.returns-then-rest-eq0-clause-held
returns-then-rest-eq0-clause-held g c = λ I h bytes read. open_held I h bytes c.args.self.now c.requires.is_open read

pub returns-clause-held : goal.returns-clause-held
returns-clause-held g c = λ I h bytes read.
    let s : JudgeValue = record { batch = c.self.inside.batch; reader = c.self.inside.reader; taken = c.self.inside.taken; stage = c.self.inside.stage } in
    let is : IsRead I h bytes s = subst (λ (x : JudgeValue). IsRead I h bytes x) (sym c.self.view_is) read in
    let ended : s.reader.ended ≡ true = search rules in
    let unread = c.rest.ensures in
    let more = c.if-rest-eq0.false in
    let some : s.reader.unread ≢ [] = λ none. (let size : length s.reader.unread ≡ 0 = ap (λ (t : List ℕ). length t) none in omega (arith, size, unread, more)) in
    let number : c.self.inside.lines + 1 ≡ s.reader.read + 1 = ap (λ n. n + 1) c.self.invariant.1 in
    stage_held I h bytes (record { batch = c.stop-self-inside.new.self; reader = c.self.inside.reader; taken = c.self.inside.taken; stage = c.stop-self-inside.result }) c.stop-self-inside.result
    (stopped_extra I h bytes s is some ended (c.self.inside.lines + 1) number c.stop-self-inside.result c.stop-self-inside.ensures)
