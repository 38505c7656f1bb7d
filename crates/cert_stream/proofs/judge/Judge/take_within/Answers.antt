use Rattle.std.proofs.Common.{◌≡◌, ◌≢◌, ◌-◌, ◌++◌, ◌∙◌, [], List, ℕ, length, take, drop, subst, ap, append_assoc, arith, length-append, length-take, length-drop}
use Rattle.std.proofs.lemmas.List.{take-append-drop}
use Rattle.arc_num.specs.declared.TheConstants.{MAX_CERT}
use Rattle.cert_stream.specs.Judges.{IsFed, JudgeValue}
use Rattle.cert_stream.proofs.judge.Judge.take_within.Goals as goal

pub returns : goal.returns
returns g c = λ I h bytes read.
    let room : ℕ = MAX_CERT - c.self.inside.taken in
    let head : List ℕ = take room c.args.piece.now in
    let rest : List ℕ = drop room c.args.piece.now in
    let more = c.if-piece-room.false in
    let came : c.self.inside.taken ≡ length bytes = ap (λ (x : JudgeValue). x.taken) c.self.view_is ∙ read.taken in
    let fits = read.fits in
    let size_head = length-take room c.args.piece.now in
    let size_rest = length-drop room c.args.piece.now in
    let size = length-append bytes head in
    let full : length (bytes ++ head) ≡ MAX_CERT = omega (arith, size, size_head, came, fits, more) in
    let some : rest ≢ [] = λ none. (let zero : length rest ≡ 0 = ap (λ (t : List ℕ). length t) none in omega (arith, zero, size_rest, more)) in
    subst (λ (t : List ℕ). IsFed I h t c.pass_limit.new.self)
    (append_assoc bytes head rest ∙ ap (λ (t : List ℕ). bytes ++ t) (take-append-drop room c.args.piece.now))
    (c.pass_limit.ensures I h (bytes ++ head) rest (c.read-2.ensures I h bytes read) full some)
