-- How a judge stands, and the verdict at the end of a text.
use Rattle.std.proofs.Common.{◌≡◌, ◌≢◌, ◌⊎◌, ℕ, ◌+◌, ◌<◌, true, false, List, [], ◌∷◌, ◌++◌, length, refl, sym, ap, ◌∙◌, subst, inl, inr, arith}
use Rattle.std.proofs.lemmas.List.{append-nil}
use Rattle.std.proofs.lemmas.List.Elements.{All-nil}
use Rattle.std.specs.Prelude.{Option, IfOk, OnOk, Result, Ok, Err}
use Rattle.arc_num.specs.declared.Memory.{Memory}
use Rattle.packing_laws.specs.Instances.{InstanceValue}
use Rattle.flow_graph.specs.Arcs.{TypeValue}
use Rattle.cert_text.specs.declared.lines.Claim.{Claim}
use Rattle.cert_text.specs.declared.lines.CertLine.{CertLine}
use Rattle.cert_text.specs.Streams.{HasNoFeed}
use Rattle.cert_laws.specs.declared.causes.Cause.{Cause}
use Rattle.cert_laws.specs.declared.causes.Cause.TheVariants.{Text}
use Rattle.cert_laws.specs.Rules.{Progress, after_lines, at_start, AreAccepted}
use Rattle.cert_checker.specs.declared.faults.CheckFault.{CheckFault}
use Rattle.cert_checker.specs.Checkers.{CheckerValue, IsFinished}
use Rattle.cert_checker.specs.Faults.{refusal_of}
use Rattle.cert_stream.specs.declared.verdict.Verdict.{Verdict}
use Rattle.cert_stream.specs.declared.verdict.Verdict.TheVariants.{Shown, Faulty}
use Rattle.cert_stream.specs.declared.stage.Stage.{Stage}
use Rattle.cert_stream.specs.declared.stage.Stage.TheVariants.{Open, Certain, Spent}
use Rattle.cert_stream.specs.Verdicts.{Begins, IsCertain, IsLong, IsSound, IsVerdict}
use Rattle.cert_stream.specs.Judges.{IsFed, IsFedAt, IsRead, IsReadOut, IsReadOutAt, JudgeValue}
use Rattle.cert_stream.specs.inner.Stages.{stage_of}
use Rattle.cert_stream.specs.inner.Batches.{IsJudged, IsStopped}
use Rattle.cert_stream.proofs.Behind.{lines_count}
use Rattle.cert_stream.proofs.Stops.{apart, has_feed}
use Rattle.cert_stream.proofs.Certain.{certain_now, certain_on}
use Rattle.cert_stream.proofs.Read.{OfStage, all_begin, all_checker, next_number, stopped}

-- what holds always holds of an answer
pub on_any : {A B : Type 0} (result : Result A B) (P : Type 0) → P → OnOk result P
on_any (Ok x) P h = h
on_any (Err e) P h = tt

module _ (I : InstanceValue) (g : List TypeValue) (bytes : List ℕ) where
  pub held_open : (s : JudgeValue) → s.stage ≡ Open → IsFedAt I g bytes s s.stage → IsRead I g bytes s
  held_open s is held = subst (λ (x : Stage). IsFedAt I g bytes s x) is held

  pub open_held : (s : JudgeValue) → s.stage ≡ Open → IsRead I g bytes s → IsFedAt I g bytes s s.stage
  open_held s is read = subst (λ (x : Stage). IsFedAt I g bytes s x) (sym is) read

  pub open_read : (s : JudgeValue) → s.stage ≡ Open → IsFed I g bytes s → IsRead I g bytes s × IsReadOut s.reader
  open_read s is fed = (held_open s is fed.held, subst (λ (x : Stage). IsReadOutAt s x) is fed.read)

  pub open_fed : (s : JudgeValue) → s.stage ≡ Open → IsRead I g bytes s → IsReadOut s.reader → IsFed I g bytes s
  open_fed s is read out = record { held = open_held s is read; read = subst (λ (x : Stage). IsReadOutAt s x) (sym is) out }

  pub stage_held : (s : JudgeValue) (stage : Stage) → OfStage (IsCertain I g bytes) stage → IsFedAt I g bytes s stage
  stage_held s Open h = absurd h
  stage_held s (Certain verdict) h = h
  stage_held s Spent h = tt

  pub stage_out : (s : JudgeValue) (stage : Stage) → OfStage (IsCertain I g bytes) stage → IsReadOutAt s stage
  stage_out s Open h = absurd h
  stage_out s (Certain verdict) h = tt
  stage_out s Spent h = tt

  pub stage_fed : (s : JudgeValue) → OfStage (IsCertain I g bytes) s.stage → IsFed I g bytes s
  stage_fed s h = record { held = stage_held s s.stage h; read = stage_out s s.stage h }

  pub is_certain : (s : JudgeValue) (verdict : Verdict) → s.stage ≡ Certain verdict → IsFed I g bytes s → IsCertain I g bytes verdict
  is_certain s verdict is fed = subst (λ (x : Stage). IsFedAt I g bytes s x) is fed.held

  pub is_verdict : (s : JudgeValue) (verdict : Verdict) → s.stage ≡ Certain verdict → IsFed I g bytes s → IsVerdict I g bytes verdict
  is_verdict s verdict is fed = certain_now I g bytes verdict (is_certain s verdict is fed)

  pub still_certain : (s : JudgeValue) (verdict : Verdict) → s.stage ≡ Certain verdict → IsFed I g bytes s → (more : List ℕ) → IsFed I g (bytes ++ more) s
  still_certain s verdict is fed more = record {
    held = subst (λ (x : Stage). IsFedAt I g (bytes ++ more) s x) (sym is) (certain_on I g bytes verdict (is_certain s verdict is fed) more);
    read = fed.read;
  }

  pub settled_of : (P : Verdict → Type 0) (stage : Stage) → OfStage P stage → (result : Result Verdict Memory) → IfOk result (λ verdict. stage ≡ Certain verdict) → IfOk result P
  settled_of P stage h (Ok verdict) is = subst (OfStage P) is h
  settled_of P stage h (Err memory) is = tt

  module _ (s : JudgeValue) (is : IsRead I g bytes s) where
    fits : IsLong I g bytes → ⊥
    fits long = let more = long.more in let few = is.fits in omega (arith, more, few)

    agrees_open : s.reader.ended ≡ false → (after_lines (at_start I g) is.lines).ended ≡ false
    agrees_open runs = sym is.told.agrees.ended ∙ runs

    -- nothing is wrong so far
    pub sound : IsReadOut s.reader → s.batch.lines ≡ [] → IsSound I g bytes
    sound out none = by out
      where
        all : is.judged ≡ is.lines
        all = sym (is.parts ∙ ap (λ (ls : List CertLine). is.judged ++ ls) none ∙ append-nil is.judged)

        begins : Begins I g (at_start I g) bytes is.lines s.reader.unread
        begins = record { parts = is.told.parts; spelled = is.told.spelled; accepted = subst (AreAccepted I g (at_start I g)) all is.accepted }

        by : IsReadOut s.reader → IsSound I g bytes
        by (inl at_end) = record {
          lines = is.lines;
          rest = s.reader.unread;
          begins = begins;
          partial = subst HasNoFeed (sym at_end.1) (All-nil (λ b. b ≢ 10));
          short = (let size : length s.reader.unread ≡ 0 = ap (λ (t : List ℕ). length t) at_end.1 in omega (arith, size));
          ended = λ ended. at_end.1;
        }
        by (inr waits) = record {
          lines = is.lines;
          rest = s.reader.unread;
          begins = begins;
          partial = waits.1.partial;
          short = waits.1.short;
          ended = λ ended. apart (after_lines (at_start I g) is.lines).ended ended (agrees_open waits.0);
        }

    -- the text ends within a line
    pub closed_cut : IsReadOut s.reader → s.reader.ended ≡ false → 0 < length s.reader.unread → (number : ℕ) → number ≡ s.reader.read + 1 → (stage : Stage) → IsStopped s.batch (Faulty number Text) stage → OfStage (IsVerdict I g bytes) stage
    closed_cut (inl out) runs some number place stage stop = apart s.reader.ended out.0 runs
    closed_cut (inr out) runs some number place stage stop =
        stopped I g bytes s is (IsVerdict I g bytes) (certain_now I g bytes) (Faulty number Text)
        (λ begins. (
          fits,
          record {
            lines = is.lines;
            rest = s.reader.unread;
            begins = begins;
            next = inr (inr (inl (
              record {
                is_open = agrees_open runs;
                more = λ none. (let size : length s.reader.unread ≡ 0 = ap (λ (t : List ℕ). length t) none in omega (arith, size, some));
                none = λ line after next. has_feed line s.reader.unread after next.bytes out.1.partial;
              },
              refl,
            )));
            place = next_number I g bytes s is number place;
          },
        ))
        stage stop

    module _ (left : CheckerValue) (judged : IsJudged s.batch.checker s.batch.lines (Ok tt) left) where
      progress_is : left.progress ≡ after_lines (at_start I g) is.lines
      progress_is = ap (λ (x : CheckerValue). x.progress) (all_checker I g bytes s is left judged)

      -- the text is accepted to its end
      pub closed_shown : IsReadOut s.reader → (claim : Claim) → IsFinished left (Ok claim) → IsVerdict I g bytes (Shown claim)
      closed_shown (inl out) claim finished = (
        fits,
        (
          is.lines,
          record {
            begins = subst (λ (rest : List ℕ). Begins I g (at_start I g) bytes is.lines rest) out.1 (all_begin I g bytes s is left judged);
            ended = sym is.told.agrees.ended ∙ out.0;
          },
          finished.2 ∙ ap (λ (p : Progress). p.claim) progress_is,
        ),
      )
      closed_shown (inr out) claim finished = apart left.progress.ended finished.1 (ap (λ (p : Progress). p.ended) progress_is ∙ agrees_open out.0)

      -- it ends before the end line
      pub closed_early : s.reader.ended ≡ true ⊎ (length s.reader.unread ≡ 0) → (fault : CheckFault) → IsFinished left (Err fault) → OfStage (IsVerdict I g bytes) (stage_of (refusal_of fault))
      closed_early at_end fault (inl refused) = absurd (refused.0 (ap (λ (x : CheckerValue). x.refusal) (all_checker I g bytes s is left judged)))
      closed_early (inl ended) fault (inr early) = apart left.progress.ended (ap (λ (p : Progress). p.ended) progress_is ∙ sym is.told.agrees.ended ∙ ended) early.1
      closed_early (inr none) fault (inr early) =
          subst (λ (o : Option (ℕ × Cause)). OfStage (IsVerdict I g bytes) (stage_of o)) (sym early.2) (
            fits,
            record {
              lines = is.lines;
              rest = s.reader.unread;
              begins = all_begin I g bytes s is left judged;
              next = inr (inl ((sym (ap (λ (p : Progress). p.ended) progress_is) ∙ early.1, nothing s.reader.unread none), refl));
              place = (let count = ap (λ (p : Progress). p.count) progress_is in let counted = lines_count (at_start I g) is.lines in omega (arith, count, counted));
            },
          )
        where
          nothing : (xs : List ℕ) → length xs ≡ 0 → xs ≡ []
          nothing [] e = refl
          nothing (x ∷ xs) e = absurd (omega (arith, e))
