use Rattle.std.proofs.Common.{◌≡◌, ◌+◌, ◌≤◌, ◌++◌, length, refl, sym, subst, arith}
use Rattle.arc_num.specs.declared.TheConstants.{MAX_CERT}
use Rattle.cert_stream.specs.Judges.{IsRead, JudgeValue}
use Rattle.cert_stream.proofs.Read.{fed_more}
use Rattle.cert_stream.proofs.judge.Judge.read.Goals as goal

pub returns-in-Ok : goal.returns-in-Ok
returns-in-Ok g c = λ I h bytes read.
    let s : JudgeValue = record { batch = c.self.inside.batch; reader = c.self.inside.reader; taken = c.self.inside.taken; stage = c.self.inside.stage } in
    let is : IsRead I h bytes s = subst (λ (x : JudgeValue). IsRead I h bytes x) (sym c.self.view_is) read in
    let size : c.args.self.now.taken ≡ length bytes = read.taken in
    let room = c.requires.fits in
    let fits : length bytes + length c.args.piece.now ≤ MAX_CERT = omega (arith, size, room) in
    c.read_lines.ensures I h (bytes ++ c.args.piece.now)
    (fed_more I h bytes s is c.args.piece.now fits c.feed.new.self c.in-Ok.ensures.ok (c.self.inside.taken + length c.args.piece.now) refl c.self.inside.stage)
