-- Verdicts that are certain, however the text goes on.
use Rattle.std.proofs.Common.{◌≡◌, ◌≢◌, ◌⊎◌, ℕ, ◌+◌, ◌-◌, ◌≤◌, ◌<◌, true, false, List, [], ◌∷◌, ◌++◌, length, take, refl, sym, ap, ◌∙◌, subst, inl, inr, append_assoc, arith, length-append}
use Rattle.std.proofs.Math.Seq.{take-append-add, take-append_seam}
use Rattle.std.proofs.lemmas.List.{append-nil}
use Rattle.arc_num.specs.declared.TheConstants.{MAX_CERT, MAX_LINE}
use Rattle.packing_laws.specs.Instances.{InstanceValue}
use Rattle.flow_graph.specs.Arcs.{TypeValue}
use Rattle.cert_text.specs.declared.lines.CertLine.{CertLine}
use Rattle.cert_text.specs.Spelling.{text_of}
use Rattle.cert_text.specs.Streams.{HasLine, HasNext, HasNoFeed, IsFaulty}
use Rattle.cert_text.proofs.Lengths.{bad_stays_bad}
use Rattle.cert_laws.specs.declared.causes.Cause.{Cause}
use Rattle.cert_laws.specs.declared.causes.Cause.TheVariants.{Extra, Text}
use Rattle.cert_laws.specs.Rules.{Progress, after_lines, at_start}
use Rattle.cert_stream.specs.declared.verdict.Verdict.{Verdict}
use Rattle.cert_stream.specs.declared.verdict.Verdict.TheVariants.{Faulty, TooLong}
use Rattle.cert_stream.specs.Verdicts.{Begins, HasNoLine, HasRefused, IsCertain, IsLong, IsNextFault, IsPastEnd, IsVerdict, reading}
use Rattle.cert_stream.proofs.Stops.{IsStop, apart, end_stops, fault_stops, feed_inside, has_feed, partial_stops, same_stop}

-- what begins with something is something
stays_some : (xs ys : List ℕ) → xs ≢ [] → xs ++ ys ≢ []
stays_some [] ys some = λ e. some refl
stays_some (x ∷ xs) ys some = λ e. let bad : x ∷ (xs ++ ys) ≡ [] = e in cc

no_line_in_nothing : HasLine [] → ⊥
no_line_in_nothing h =
    let size = length-append h.0 (10 ∷ h.1) in
    let none : length (h.0 ++ 10 ∷ h.1) ≡ length {A = ℕ} [] = sym (ap (λ (t : List ℕ). length t) h.3) in
    omega (arith, size, none)

-- what a reader finds bad is no line
pub bad_is_no_line : (p : Progress) (rest : List ℕ) → p.ended ≡ false → IsFaulty (reading p rest) → HasNoLine p rest
bad_is_no_line p rest runs bad = record { is_open = runs; more = some bad; none = none bad }
  where
    some : IsFaulty (reading p rest) → rest ≢ []
    some (inl found) = λ e. apart false found refl
    some (inr (inl long)) = λ e. (let none : length rest ≡ 0 = ap (λ (t : List ℕ). length t) e in let more = long.1 in omega (arith, none, more))
    some (inr (inr line)) = λ e. no_line_in_nothing (subst HasLine e line.whole)

    none : IsFaulty (reading p rest) → (line : CertLine) (after : List ℕ) → HasNext (reading p rest) line after → ⊥
    none (inl found) line after next = apart false found refl
    none (inr (inl long)) line after next = has_feed line rest after next.bytes long.0
    none (inr (inr bad_line)) line after next = bad_line.none line after next

-- what may still become a line is not found bad
not_waiting : (p : Progress) (rest : List ℕ) → IsFaulty (reading p rest) → HasNoFeed rest → length rest ≤ MAX_LINE → ⊥
not_waiting p rest (inl found) none short = apart false found refl
not_waiting p rest (inr (inl long)) none short = let more = long.1 in omega (arith, more, short)
not_waiting p rest (inr (inr line)) none short = feed_inside line.whole.0 line.whole.1 (subst HasNoFeed line.whole.3 none)

module _ (I : InstanceValue) (g : List TypeValue) where
  -- something is wrong, however the text goes on
  abbrev pub IsStanding : Progress → List ℕ → Cause → Type 0
  IsStanding p rest fault = (IsPastEnd p rest × (fault ≡ Extra)) ⊎ (((p.ended ≡ false) × IsFaulty (reading p rest) × (fault ≡ Text)) ⊎ HasRefused I g p rest fault)

  pub goes_on : (p : Progress) (bytes : List ℕ) (lines : List CertLine) (rest : List ℕ) → Begins I g p bytes lines rest → (more : List ℕ) → Begins I g p (bytes ++ more) lines (rest ++ more)
  goes_on p bytes lines rest begins more = record {
    parts = ap (λ (t : List ℕ). t ++ more) begins.parts ∙ append_assoc (text_of lines) rest more;
    spelled = begins.spelled;
    accepted = begins.accepted;
  }

  pub refused_on : (p : Progress) (rest : List ℕ) (fault : Cause) → HasRefused I g p rest fault → (more : List ℕ) → HasRefused I g p (rest ++ more) fault
  refused_on p rest fault has more = record {
    line = has.line;
    after = has.after ++ more;
    next = record {
      is_open = has.next.is_open;
      spelled = has.next.spelled;
      bytes = ap (λ (t : List ℕ). t ++ more) has.next.bytes ∙ append_assoc _ has.after more;
    };
    refused = has.refused;
  }

  standing_next : (p : Progress) (rest : List ℕ) (fault : Cause) → IsStanding p rest fault → (more : List ℕ) → IsNextFault I g p (rest ++ more) fault
  standing_next p rest fault (inl past) more = inl ((past.0.0, stays_some rest more past.0.1), past.1)
  standing_next p rest fault (inr (inl bad)) more = inr (inr (inl (bad_is_no_line p (rest ++ more) bad.0 (bad_stays_bad (reading p rest) more bad.1), bad.2)))
  standing_next p rest fault (inr (inr has)) more = inr (inr (inr (refused_on p rest fault has more)))

  standing_apart : (p : Progress) (rest : List ℕ) (fault : Cause) → IsStanding p rest fault → (more : List ℕ) → p.ended ≡ false → HasNoFeed (rest ++ more) → length (rest ++ more) ≤ MAX_LINE → ⊥
  standing_apart p rest fault (inl past) more runs none short = apart p.ended past.0.0 runs
  standing_apart p rest fault (inr (inl bad)) more runs none short = not_waiting p (rest ++ more) (bad_stays_bad (reading p rest) more bad.1) none short
  standing_apart p rest fault (inr (inr has)) more runs none short =
      let on = refused_on p rest fault has more in
      has_feed on.line (rest ++ more) on.after on.next.bytes none

  -- a text is not too long where it stops early
  not_long : (bytes : List ℕ) (lines : List CertLine) (rest : List ℕ) → Begins I g (at_start I g) bytes lines rest → length bytes ≤ MAX_CERT
      → ((more : List ℕ) → IsStop I g (after_lines (at_start I g) lines) (rest ++ more))
      → ((more : List ℕ) → (after_lines (at_start I g) lines).ended ≡ false → HasNoFeed (rest ++ more) → length (rest ++ more) ≤ MAX_LINE → ⊥)
      → (more : List ℕ) → IsLong I g (bytes ++ more) → ⊥
  not_long bytes lines rest begins fits stops differs more long =
      let head : List ℕ = take (MAX_CERT - length bytes) more in
      let room : MAX_CERT ≡ length bytes + (MAX_CERT - length bytes) = omega (arith, fits) in
      let cut : take MAX_CERT (bytes ++ more) ≡ bytes ++ head = ap (λ n. take n (bytes ++ more)) room ∙ take-append-add bytes more (MAX_CERT - length bytes) in
      let same = same_stop I g (at_start I g) (bytes ++ head) lines (rest ++ head) long.lines long.rest
      (goes_on (at_start I g) bytes lines rest begins head)
      (subst (λ (t : List ℕ). Begins I g (at_start I g) t long.lines long.rest) cut long.begins)
      (stops head)
      (partial_stops I g (after_lines (at_start I g) long.lines) long.rest long.partial) in
      differs head
      (subst (λ (ls : List CertLine). (after_lines (at_start I g) ls).ended ≡ false) (sym same.0) long.running)
      (subst HasNoFeed (sym same.1) long.partial)
      (subst (λ (t : List ℕ). length t ≤ MAX_LINE) (sym same.1) long.short)

  pub certain_fault : (bytes : List ℕ) (lines : List CertLine) (rest : List ℕ) (fault : Cause) → Begins I g (at_start I g) bytes lines rest → length bytes ≤ MAX_CERT → IsStanding (after_lines (at_start I g) lines) rest fault → IsCertain I g bytes (Faulty (length lines + 1) fault)
  certain_fault bytes lines rest fault begins fits standing more = (
    not_long bytes lines rest begins fits
        (λ others. fault_stops I g (after_lines (at_start I g) lines) (rest ++ others) fault (standing_next (after_lines (at_start I g) lines) rest fault standing others))
        (λ others. standing_apart (after_lines (at_start I g) lines) rest fault standing others)
        more,
    record {
      lines = lines;
      rest = rest ++ more;
      begins = goes_on (at_start I g) bytes lines rest begins more;
      next = standing_next (after_lines (at_start I g) lines) rest fault standing more;
      place = refl;
    },
  )

  -- bytes stand behind an end line that is the last of as many bytes as may be
  pub certain_extra : (bytes : List ℕ) (lines : List CertLine) (more : List ℕ) → Begins I g (at_start I g) bytes lines [] → length bytes ≤ MAX_CERT → (after_lines (at_start I g) lines).ended ≡ true → more ≢ [] → IsCertain I g (bytes ++ more) (Faulty (length lines + 1) Extra)
  certain_extra bytes lines more begins fits ended some others =
      let whole : (bytes ++ more) ++ others ≡ bytes ++ (more ++ others) = append_assoc bytes more others in
      subst (λ (t : List ℕ). IsVerdict I g t (Faulty (length lines + 1) Extra)) (sym whole) (
        not_long bytes lines [] begins fits
            (λ left. end_stops I g (after_lines (at_start I g) lines) ([] ++ left) ended)
            (λ left runs none short. apart (after_lines (at_start I g) lines).ended ended runs)
            (more ++ others),
        record {
          lines = lines;
          rest = more ++ others;
          begins = goes_on (at_start I g) bytes lines [] begins (more ++ others);
          next = inl ((ended, stays_some more others some), refl);
          place = refl;
        },
      )

  pub certainly_long : (bytes : List ℕ) (lines : List CertLine) (rest more : List ℕ) → Begins I g (at_start I g) bytes lines rest → length bytes ≡ MAX_CERT → (after_lines (at_start I g) lines).ended ≡ false → HasNoFeed rest → length rest ≤ MAX_LINE → more ≢ [] → IsCertain I g (bytes ++ more) TooLong
  certainly_long bytes lines rest more begins fits running none short some others =
      let whole : (bytes ++ more) ++ others ≡ bytes ++ (more ++ others) = append_assoc bytes more others in
      let cut : take MAX_CERT (bytes ++ (more ++ others)) ≡ bytes = ap (λ n. take n (bytes ++ (more ++ others))) (sym fits) ∙ take-append_seam bytes (more ++ others) in
      subst (λ (t : List ℕ). IsLong I g t) (sym whole)
      (record {
        more = (let size = length-append bytes (more ++ others) in let left = positive (more ++ others) (stays_some more others some) in omega (arith, size, left, fits));
        lines = lines;
        rest = rest;
        begins = subst (λ (t : List ℕ). Begins I g (at_start I g) t lines rest) (sym cut) begins;
        running = running;
        partial = none;
        short = short;
      })
    where
      positive : (xs : List ℕ) → xs ≢ [] → 0 < length xs
      positive [] some = absurd (some refl)
      positive (x ∷ xs) some = omega arith

  pub certain_on : (bytes : List ℕ) (verdict : Verdict) → IsCertain I g bytes verdict → (more : List ℕ) → IsCertain I g (bytes ++ more) verdict
  certain_on bytes verdict certain more others = subst (λ (t : List ℕ). IsVerdict I g t verdict) (sym (append_assoc bytes more others)) (certain (more ++ others))

  pub certain_now : (bytes : List ℕ) (verdict : Verdict) → IsCertain I g bytes verdict → IsVerdict I g bytes verdict
  certain_now bytes verdict certain = subst (λ (t : List ℕ). IsVerdict I g t verdict) (append-nil bytes) (certain [])
