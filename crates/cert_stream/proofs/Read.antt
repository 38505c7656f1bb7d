-- What a judge has read, and what becomes of it.
use Rattle.std.proofs.Common.{◌≡◌, ◌≢◌, ◌⊎◌, ℕ, ◌+◌, ◌≤◌, true, false, List, [], ◌∷◌, ◌++◌, length, refl, sym, ap, ◌∙◌, subst, inl, inr, append_assoc, arith, length-append}
use Rattle.std.specs.Prelude.{Option, None, Some, IfSome, Result, Ok, Err}
use Rattle.std.proofs.lemmas.List.{append-nil}
use Rattle.arc_num.specs.declared.TheConstants.{MAX_CERT}
use Rattle.packing_laws.specs.Instances.{InstanceValue}
use Rattle.flow_graph.specs.Arcs.{TypeValue}
use Rattle.cert_text.specs.declared.lines.CertLine.{CertLine}
use Rattle.cert_text.specs.declared.lines.CertLine.TheVariants as cert
use Rattle.cert_text.specs.Spelling.{text_of}
use Rattle.cert_text.specs.Spelled.{IsSpelled}
use Rattle.cert_text.specs.Reading.{ReaderValue}
use Rattle.cert_text.specs.Streams.{HasNext, IsFaulty, Reads, Takes, version_after}
use Rattle.cert_laws.specs.declared.causes.Cause.{Cause}
use Rattle.cert_laws.specs.declared.causes.Cause.TheVariants.{Extra, Text}
use Rattle.cert_laws.specs.Rules.{Progress, after_line, after_lines, at_start, AreAccepted, IsFirstRefused, IsRefused}
use Rattle.cert_checker.specs.declared.faults.CheckFault.{CheckFault}
use Rattle.cert_checker.specs.Checkers.{CheckerValue}
use Rattle.cert_checker.specs.Faults.{refusal_of}
use Rattle.cert_checker.proofs.TakenLines.{counts}
use Rattle.cert_stream.specs.declared.verdict.Verdict.{Verdict}
use Rattle.cert_stream.specs.declared.verdict.Verdict.TheVariants.{Faulty, TooLong}
use Rattle.cert_stream.specs.declared.stage.Stage.{Stage}
use Rattle.cert_stream.specs.declared.stage.Stage.TheVariants.{Open, Certain, Spent}
use Rattle.cert_stream.specs.Verdicts.{AreInPlace, Begins, IsCertain, reading}
use Rattle.cert_stream.specs.Judges.{Agrees, HasTold, IsRead, IsReadOut, JudgeValue}
use Rattle.cert_stream.specs.inner.Stages.{stage_behind, stage_of}
use Rattle.cert_stream.specs.inner.Batches.{BatchValue, HasAccepted, IsJudged, IsPassedOn, IsStopped, begun}
use Rattle.cert_stream.proofs.Behind.{accepted_append, after_append, line_ends, line_version, lines_count, placed_append, placed_parts, text_first, text_parts}
use Rattle.cert_stream.proofs.Certain.{IsStanding, certain_extra, certain_fault, certain_on, certainly_long}

-- before the first line no version is looked at
spelled_at : (before v w : ℕ) (line : CertLine) → (v ≡ w) ⊎ (before ≡ 0) → IsSpelled before v line → IsSpelled before w line
spelled_at before v w line (inl same) h = subst (λ (x : ℕ). IsSpelled before x line) same h
spelled_at before v w (cert.Head number) (inr first) h = record { place = h.place; narrow = h.narrow }
spelled_at before v w (cert.Claim claim goal) (inr first) h = absurd (let second = h.place.0 in omega (arith, second, first))
spelled_at before v w (cert.Tree line) (inr first) h = absurd (let later = h.place.0 in omega (arith, later, first))
spelled_at before v w cert.End (inr first) h = absurd (let later = h.place in omega (arith, later, first))

other_way : {v w n : ℕ} → (v ≡ w) ⊎ (n ≡ 0) → (w ≡ v) ⊎ (n ≡ 0)
other_way (inl same) = inl (sym same)
other_way (inr first) = inr first

module _ (r : ReaderValue) (p : Progress) (agrees : Agrees r p) where
  pub next_there : (line : CertLine) (after : List ℕ) → HasNext r line after → HasNext (reading p r.unread) line after
  next_there line after next = record {
    is_open = sym agrees.ended ∙ next.is_open;
    spelled = spelled_at p.count r.version p.version line agrees.version (subst (λ (n : ℕ). IsSpelled n r.version line) agrees.read next.spelled);
    bytes = next.bytes;
  }

  next_back : (line : CertLine) (after : List ℕ) → HasNext (reading p r.unread) line after → HasNext r line after
  next_back line after next = record {
    is_open = agrees.ended ∙ next.is_open;
    spelled = subst (λ (n : ℕ). IsSpelled n r.version line) (sym agrees.read) (spelled_at p.count p.version r.version line (other_way agrees.version) next.spelled);
    bytes = next.bytes;
  }

  pub bad_there : IsFaulty r → IsFaulty (reading p r.unread)
  bad_there (inl bad) = absurd (let wrong : true ≡ false = sym bad ∙ agrees.good in cc)
  bad_there (inr (inl long)) = inr (inl long)
  bad_there (inr (inr line)) = inr (inr (record { whole = line.whole; none = λ l after next. line.none l after (next_back l after next) }))

  pub agrees_behind : (line : CertLine) (new : ReaderValue) → Reads r line new → Agrees new (after_line p line)
  agrees_behind line new reads = record {
    good = reads.stays_good;
    read = reads.read ∙ ap (λ n. n + 1) agrees.read ∙ sym (counts p line);
    ended = reads.ended ∙ sym (line_ends p line (sym agrees.ended ∙ reads.next.is_open));
    version = inl (reads.version ∙ version_same line reads.next.spelled agrees.version ∙ sym (line_version p line));
  }
    where
      version_same : (l : CertLine) → IsSpelled r.read r.version l → (r.version ≡ p.version) ⊎ (p.count ≡ 0) → version_after r.version l ≡ version_after p.version l
      version_same l spelled (inl same) = ap (λ v. version_after v l) same
      version_same (cert.Head number) spelled (inr first) = refl
      version_same (cert.Claim claim goal) spelled (inr first) = absurd (let second = spelled.place.0 in let count = agrees.read in omega (arith, second, count, first))
      version_same (cert.Tree place) spelled (inr first) = absurd (let later = spelled.place.0 in let count = agrees.read in omega (arith, later, count, first))
      version_same cert.End spelled (inr first) = absurd (let later = spelled.place in let count = agrees.read in omega (arith, later, count, first))

-- of a verdict that was reached something holds, unless memory wanted
abbrev pub OfStage : (Verdict → Type 0) → Stage → Type 0
OfStage P Open = ⊥
OfStage P (Certain verdict) = P verdict
OfStage P Spent = Unit {0}

pub of_stage : (P Q : Verdict → Type 0) → ((verdict : Verdict) → P verdict → Q verdict) → (stage : Stage) → OfStage P stage → OfStage Q stage
of_stage P Q weaker Open h = h
of_stage P Q weaker (Certain verdict) h = weaker verdict h
of_stage P Q weaker Spent h = tt

module _ (I : InstanceValue) (g : List TypeValue) where
  -- where accepted lines have led
  abbrev at : List CertLine → Progress
  at lines = after_lines (at_start I g) lines

  -- one more line is told
  pub told_more : (bytes : List ℕ) (r : ReaderValue) (lines : List CertLine) → HasTold I g bytes r lines → (line : CertLine) (new : ReaderValue) → Reads r line new → HasTold I g bytes new (lines ++ line ∷ [])
  told_more bytes r lines told line new reads =
      let next = next_there r (at lines) told.agrees line new.unread reads.next in
      record {
        parts = told.parts ∙ ap (λ (t : List ℕ). text_of lines ++ t) (reads.next.bytes ∙ sym (text_first line [] new.unread)) ∙ sym (text_parts lines (line ∷ []) new.unread);
        spelled = placed_append (at_start I g) lines (line ∷ []) told.spelled (next.is_open, next.spelled, tt);
        agrees = subst (λ (p : Progress). Agrees new p) (sym (after_append (at_start I g) lines (line ∷ []))) (agrees_behind r (at lines) told.agrees line new reads);
      }

  -- a line that waits is refused
  pub refused_line : (bytes : List ℕ) (r : ReaderValue) (lines : List CertLine) → HasTold I g bytes r lines → length bytes ≤ MAX_CERT → (judged waiting : List CertLine) → lines ≡ judged ++ waiting → AreAccepted I g (at_start I g) judged
      → (number : ℕ) (fault : Cause) → IsFirstRefused I g (at judged) waiting number fault → IsCertain I g bytes (Faulty number fault)
  refused_line bytes r lines told fits judged waiting parts accepted number fault first =
      let front : List CertLine = judged ++ first.before in
      let back : List CertLine = first.line ∷ first.after in
      let whole : lines ≡ front ++ back = parts ∙ ap (λ (ls : List CertLine). judged ++ ls) first.all ∙ sym (append_assoc judged first.before back) in
      let places = placed_parts (at_start I g) front back (subst (AreInPlace (at_start I g)) whole told.spelled) in
      let here : at front ≡ after_lines (at judged) first.before = after_append (at_start I g) judged first.before in
      let begins : Begins I g (at_start I g) bytes front (text_of back ++ r.unread) = record {
        parts = told.parts ∙ ap (λ (ls : List CertLine). text_of ls ++ r.unread) whole ∙ text_parts front back r.unread;
        spelled = places.0;
        accepted = accepted_append I g (at_start I g) judged first.before accepted first.accepted;
      } in
      let standing : IsStanding I g (at front) (text_of back ++ r.unread) fault = inr (inr (record {
        line = first.line;
        after = text_of first.after ++ r.unread;
        next = record { is_open = places.1.0; spelled = places.1.1; bytes = text_first first.line first.after r.unread };
        refused = subst (λ (p : Progress). IsRefused I g p first.line fault) (sym here) first.refused;
      })) in
      let count : number ≡ length front + 1 = (let size = length-append judged first.before in let counted = lines_count (at_start I g) judged in let place = first.place in omega (arith, size, counted, place)) in
      subst (λ (n : ℕ). IsCertain I g bytes (Faulty n fault)) (sym count) (certain_fault I g bytes front (text_of back ++ r.unread) fault begins fits standing)

  -- the same of what a checker answered, or memory wanted
  behind_refused : (bytes : List ℕ) (r : ReaderValue) (lines : List CertLine) → HasTold I g bytes r lines → length bytes ≤ MAX_CERT → (judged waiting : List CertLine) → lines ≡ judged ++ waiting → AreAccepted I g (at_start I g) judged
      → (refusal : Option (ℕ × Cause)) → IfSome refusal (λ x. IsFirstRefused I g (at judged) waiting x.0 x.1) → OfStage (IsCertain I g bytes) (stage_of refusal)
  behind_refused bytes r lines told fits judged waiting parts accepted None first = tt
  behind_refused bytes r lines told fits judged waiting parts accepted (Some x) first = refused_line bytes r lines told fits judged waiting parts accepted x.0 x.1 first

  module _ (bytes : List ℕ) (s : JudgeValue) (is : IsRead I g bytes s) where
    -- a line is read, and those that wait are passed on
    pub read_more : (line : CertLine) (r : ReaderValue) → Reads s.reader line r → (b : BatchValue) → IsPassedOn s.batch (line ∷ []) b → (stage : Stage) → IsRead I g bytes (record { batch = b; reader = r; taken = s.taken; stage = stage })
    read_more line r reads b passed stage =
        let moved : HasAccepted (begun I g (at is.judged)) passed.judged b.checker = subst (λ (x : CheckerValue). HasAccepted x passed.judged b.checker) is.checker passed.accepted in
        record {
          taken = is.taken;
          fits = is.fits;
          lines = is.lines ++ line ∷ [];
          told = told_more bytes s.reader is.lines is.told line r reads;
          judged = is.judged ++ passed.judged;
          parts = ap (λ (ls : List CertLine). ls ++ line ∷ []) is.parts ∙ append_assoc is.judged s.batch.lines (line ∷ []) ∙ ap (λ (ls : List CertLine). is.judged ++ ls) passed.lines ∙ sym (append_assoc is.judged passed.judged b.lines);
          accepted = accepted_append I g (at_start I g) is.judged passed.judged is.accepted moved.accepted;
          checker = moved.left ∙ ap (λ (p : Progress). begun I g p) (sym (after_append (at_start I g) is.judged passed.judged));
        }

    -- a line is read, and one that waits is refused
    pub read_refused : (line : CertLine) (r : ReaderValue) → Reads s.reader line r → (refusal : Option (ℕ × Cause)) → IfSome refusal (λ x. IsFirstRefused s.batch.checker.instance s.batch.checker.graph s.batch.checker.progress (s.batch.lines ++ line ∷ []) x.0 x.1) → OfStage (IsCertain I g bytes) (stage_of refusal)
    read_refused line r reads refusal first =
        behind_refused bytes r (is.lines ++ line ∷ []) (told_more bytes s.reader is.lines is.told line r reads) is.fits is.judged (s.batch.lines ++ line ∷ [])
        (ap (λ (ls : List CertLine). ls ++ line ∷ []) is.parts ∙ append_assoc is.judged s.batch.lines (line ∷ [])) is.accepted refusal
        (subst (λ (x : CheckerValue). IfSome refusal (λ y. IsFirstRefused x.instance x.graph x.progress (s.batch.lines ++ line ∷ []) y.0 y.1)) is.checker first)

    -- the lines that wait are judged
    here : (result : Result (Unit {0}) CheckFault) (left : CheckerValue) → IsJudged s.batch.checker s.batch.lines result left → IsJudged (begun I g (at is.judged)) s.batch.lines result left
    here result left judged = subst (λ (x : CheckerValue). IsJudged x s.batch.lines result left) is.checker judged

    pub all_begin : (left : CheckerValue) → IsJudged s.batch.checker s.batch.lines (Ok tt) left → Begins I g (at_start I g) bytes is.lines s.reader.unread
    all_begin left judged = record {
      parts = is.told.parts;
      spelled = is.told.spelled;
      accepted = subst (AreAccepted I g (at_start I g)) (sym is.parts) (accepted_append I g (at_start I g) is.judged s.batch.lines is.accepted (here (Ok tt) left judged).accepted);
    }

    pub all_checker : (left : CheckerValue) → IsJudged s.batch.checker s.batch.lines (Ok tt) left → left ≡ begun I g (at is.lines)
    all_checker left judged = (here (Ok tt) left judged).left ∙ ap (λ (p : Progress). begun I g p) (sym (after_append (at_start I g) is.judged s.batch.lines) ∙ ap at (sym is.parts))

    pub all_read : (b : BatchValue) → IsJudged s.batch.checker s.batch.lines (Ok tt) b.checker → b.lines ≡ [] → (stage : Stage) → IsRead I g bytes (record { batch = b; reader = s.reader; taken = s.taken; stage = stage })
    all_read b judged none stage = record {
      taken = is.taken;
      fits = is.fits;
      lines = is.lines;
      told = is.told;
      judged = is.lines;
      parts = sym (append-nil is.lines) ∙ ap (λ (ls : List CertLine). is.lines ++ ls) (sym none);
      accepted = (all_begin b.checker judged).accepted;
      checker = all_checker b.checker judged;
    }

    pub all_refused : (fault : CheckFault) (left : CheckerValue) → IsJudged s.batch.checker s.batch.lines (Err fault) left → OfStage (IsCertain I g bytes) (stage_of (refusal_of fault))
    all_refused fault left judged = behind_refused bytes s.reader is.lines is.told is.fits is.judged s.batch.lines is.parts is.accepted (refusal_of fault) (here (Err fault) left judged)

    -- what a verdict that stands behind the lines that wait comes to
    module _ (P : Verdict → Type 0) (weaker : (verdict : Verdict) → IsCertain I g bytes verdict → P verdict) (verdict : Verdict) (holds : Begins I g (at_start I g) bytes is.lines s.reader.unread → P verdict) where
      stopped_by : (result : Result (Unit {0}) CheckFault) (left : CheckerValue) → IsJudged s.batch.checker s.batch.lines result left → OfStage P (stage_behind result verdict)
      stopped_by (Ok tt) left judged = holds (all_begin left judged)
      stopped_by (Err fault) left judged = of_stage (IsCertain I g bytes) P weaker (stage_of (refusal_of fault)) (all_refused fault left judged)

      pub stopped : (stage : Stage) → IsStopped s.batch verdict stage → OfStage P stage
      stopped stage stop = subst (OfStage P) (sym stop.3) (stopped_by stop.0 stop.1 stop.2)

    -- the number of the next line
    pub next_number : (number : ℕ) → number ≡ s.reader.read + 1 → number ≡ length is.lines + 1
    next_number number place =
        let counted = lines_count (at_start I g) is.lines in
        let read = is.told.agrees.read in
        omega (arith, place, counted, read)

    stopped_here : (fault : Cause) → IsStanding I g (at is.lines) s.reader.unread fault → (number : ℕ) → number ≡ s.reader.read + 1 → (stage : Stage) → IsStopped s.batch (Faulty number fault) stage → OfStage (IsCertain I g bytes) stage
    stopped_here fault standing number place stage stop =
        stopped (IsCertain I g bytes) (λ verdict certain. certain) (Faulty number fault)
        (λ begins. subst (λ (n : ℕ). IsCertain I g bytes (Faulty n fault)) (sym (next_number number place)) (certain_fault I g bytes is.lines s.reader.unread fault begins is.fits standing))
        stage stop

    -- the reader found the text bad
    pub stopped_bad : IsFaulty s.reader → s.reader.ended ≡ false → (number : ℕ) → number ≡ s.reader.read + 1 → (stage : Stage) → IsStopped s.batch (Faulty number Text) stage → OfStage (IsCertain I g bytes) stage
    stopped_bad bad runs = stopped_here Text (inr (inl (sym is.told.agrees.ended ∙ runs, bad_there s.reader (at is.lines) is.told.agrees bad, refl)))

    -- bytes stand behind the end line
    pub stopped_extra : s.reader.unread ≢ [] → s.reader.ended ≡ true → (number : ℕ) → number ≡ s.reader.read + 1 → (stage : Stage) → IsStopped s.batch (Faulty number Extra) stage → OfStage (IsCertain I g bytes) stage
    stopped_extra some ended = stopped_here Extra (inl ((sym is.told.agrees.ended ∙ ended, some), refl))

    -- the text is longer than may be
    pub stopped_at_limit : IsReadOut s.reader → length bytes ≡ MAX_CERT → (more : List ℕ) → more ≢ [] → s.reader.ended ≡ true → (number : ℕ) → number ≡ s.reader.read + 1 → (stage : Stage) → IsStopped s.batch (Faulty number Extra) stage → OfStage (IsCertain I g (bytes ++ more)) stage
    stopped_at_limit (inl out) full more some ended number place stage stop =
        stopped (IsCertain I g (bytes ++ more)) (λ verdict certain. certain_on I g bytes verdict certain more) (Faulty number Extra)
        (λ begins. subst (λ (n : ℕ). IsCertain I g (bytes ++ more) (Faulty n Extra)) (sym (next_number number place))
        (certain_extra I g bytes is.lines more (subst (λ (rest : List ℕ). Begins I g (at_start I g) bytes is.lines rest) out.1 begins) is.fits (sym is.told.agrees.ended ∙ ended) some))
        stage stop
    stopped_at_limit (inr out) full more some ended number place stage stop = absurd (let wrong : true ≡ false = sym ended ∙ out.0 in cc)

    pub stopped_long : IsReadOut s.reader → length bytes ≡ MAX_CERT → (more : List ℕ) → more ≢ [] → s.reader.ended ≡ false → (stage : Stage) → IsStopped s.batch TooLong stage → OfStage (IsCertain I g (bytes ++ more)) stage
    stopped_long (inl out) full more some runs stage stop = absurd (let wrong : true ≡ false = sym out.0 ∙ runs in cc)
    stopped_long (inr out) full more some runs stage stop =
        stopped (IsCertain I g (bytes ++ more)) (λ verdict certain. certain_on I g bytes verdict certain more) TooLong
        (λ begins. certainly_long I g bytes is.lines s.reader.unread more begins full (sym is.told.agrees.ended ∙ runs) out.1.partial out.1.short some)
        stage stop

    -- one more piece came
    pub fed_more : (piece : List ℕ) → length bytes + length piece ≤ MAX_CERT → (reader : ReaderValue) → Takes s.reader piece reader → (taken : ℕ) → taken ≡ s.taken + length piece → (stage : Stage) → IsRead I g (bytes ++ piece) (record { batch = s.batch; reader = reader; taken = taken; stage = stage })
    fed_more piece room reader takes taken sum stage = record {
      taken = (let size = length-append bytes piece in let before = is.taken in omega (arith, size, before, sum));
      fits = (let size = length-append bytes piece in omega (arith, size, room));
      lines = is.lines;
      told = subst (λ (r : ReaderValue). HasTold I g (bytes ++ piece) r is.lines) (sym takes) (record {
        parts = ap (λ (t : List ℕ). t ++ piece) is.told.parts ∙ append_assoc (text_of is.lines) s.reader.unread piece;
        spelled = is.told.spelled;
        agrees = record { good = is.told.agrees.good; read = is.told.agrees.read; ended = is.told.agrees.ended; version = is.told.agrees.version };
      });
      judged = is.judged;
      parts = is.parts;
      accepted = is.accepted;
      checker = is.checker;
    }
