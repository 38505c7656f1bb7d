-- What reading and judging a certificate comes to.
use Rattle.std.proofs.Common.{◌≡◌, ◌∙◌, ℕ, ◌+◌, List, [], ◌++◌, length, take, drop, ap, sym, subst, inl, inr, None, Some, IfSome, IfOk, Result, Ok, Err}
use Rattle.std.proofs.lemmas.List.{append-nil}
use Rattle.std.proofs.Math.Seq.{drop-append_seam, take-append_seam}
use Rattle.arc_num.specs.declared.TheConstants.{MAX_CERT}
use Rattle.arc_io.specs.declared.IoFault.{IoFault}
use Rattle.arc_io.specs.declared.IoFault.TheVariants as io
use Rattle.arc_io.specs.Bytes.{Told}
use Rattle.arc_io.specs.Faults.{Rose}
use Rattle.packing_laws.specs.Instances.{InstanceValue, IsInstance}
use Rattle.flow_graph.specs.Arcs.{TypeValue, IsFlowGraph}
use Rattle.flow_graph.specs.Faithful.{IsFaithful}
use Rattle.cert_stream.specs.declared.verdict.Verdict.{Verdict}
use Rattle.cert_stream.specs.declared.verdict.Verdict.TheVariants.{Shown, Faulty, TooLong}
use Rattle.cert_stream.specs.Verdicts.{IsVerdict, IsSound}
use Rattle.cert_stream.specs.Judges.{JudgeValue}
use Rattle.cert_stream.specs.Laws.{VerdictsAreExact, VerdictsAreSo}
use Rattle.arc_program.specs.World.{ShelfSeen}
use Rattle.arc_program.specs.Reading.{TakesFirst}
use Rattle.arc_program.specs.inner.Loading.{TakesAtMost}
use Rattle.arc_program.specs.inner.Checking.{Brings, IsEnough, ReadsOut, CountsRead, Concludes, ReadsJudged, Judged, IsSo}
use Rattle.arc_program.proofs.SourceLemmas.{one_asked, may_have_read}
use Rattle.arc_program.proofs.Certain.{certain_not_shown}

-- the name that was asked for stays
pub asked_on : (old between new : Told) (name : List ℕ) → IfSome old (λ _. between ≡ Some name) → new ≡ between → IfSome old (λ _. new ≡ Some name)
asked_on None between new name asked same = tt
asked_on (Some was) between new name asked same = same ∙ asked

module _ (exact : VerdictsAreExact) (I : InstanceValue) (g : List TypeValue) where
  -- the verdict on what was fed is that on the text
  enough : (bytes : List ℕ) (v : Verdict) → IsVerdict I g bytes v → (told : Told) → IfSome told (IsEnough I g bytes) → IfSome told (λ all. IsVerdict I g all v)
  enough bytes v is None here = tt
  enough bytes v is (Some all) (inl same) = subst (λ (xs : List ℕ). IsVerdict I g xs v) (sym same) is
  enough bytes v is (Some all) (inr certain) =
      let w : Verdict = certain.0.0 in
      let here : IsVerdict I g bytes w = subst (λ (xs : List ℕ). IsVerdict I g xs w) (append-nil bytes) (certain.0.1 []) in
      let same : w ≡ v = exact I g bytes w v here is in
      subst (λ (xs : List ℕ). IsVerdict I g xs v) (sym certain.1.1) (subst (λ (x : Verdict). IsVerdict I g (bytes ++ certain.1.0) x) same (certain.0.1 certain.1.0))

  -- what was read before a read failed is sound
  sound_first : (bytes : List ℕ) (left : Told) → IsSound I g bytes → (told : Told) → Brings bytes told left → IfSome told (λ all. (n : ℕ) × (left ≡ Some (drop n all)) × IsSound I g (take n all))
  sound_first bytes left sound None here = tt
  sound_first bytes left sound (Some all) here = (
    length bytes,
    here.2 ∙ ap Some (sym (ap (λ (xs : List ℕ). drop (length bytes) xs) here.1 ∙ drop-append_seam bytes here.0)),
    subst (IsSound I g) (sym (ap (λ (xs : List ℕ). take (length bytes) xs) here.1 ∙ take-append_seam bytes here.0)) sound,
  )

  -- what is shown is so
  pub so_end : VerdictsAreSo → IsInstance I → IsFlowGraph g → IsFaithful I g → (s : JudgeValue) (left after : Told) (r : Result Verdict IoFault) → ReadsOut I g (Ok None) s left after → Concludes s r → IfOk r (IsSo I)
  so_end so known graph faithful s left after (Ok (Shown claim)) out concludes = so I g out.0 claim known graph faithful (concludes I g out.0 out.1)
  so_end so known graph faithful s left after (Ok (Faulty number cause)) out concludes = tt
  so_end so known graph faithful s left after (Ok TooLong) out concludes = tt
  so_end so known graph faithful s left after (Err fault) out concludes = tt

  pub so_broken : (s : JudgeValue) (left after : Told) (v : Verdict) → ReadsOut I g (Ok (Some v)) s left after → IsSo I v
  so_broken s left after (Shown claim) out = absurd (certain_not_shown exact I g out.0 claim out.1)
  so_broken s left after (Faulty number cause) out = tt
  so_broken s left after TooLong out = tt

  module _ (name : List ℕ) (before after : ShelfSeen) (left : Told) (start : left ≡ before.held name) (asked : IfSome before.asked (λ _. after.asked ≡ Some name)) (takes : TakesAtMost (MAX_CERT + 1) left after.left) where
    taken : TakesFirst name MAX_CERT before after
    taken = subst (λ (t : Told). TakesAtMost (MAX_CERT + 1) t after.left) start takes

    reads : (v : Verdict) → after.read_faults ≡ before.read_faults → ReadsJudged v name before after
    reads (Shown claim) faults = record { asked = asked; taken = taken; faults = faults }
    reads (Faulty number cause) faults = record { asked = asked; taken = taken; faults = inl faults }
    reads TooLong faults = record { asked = asked; taken = taken; faults = inl faults }

    -- the text was read to its end, or as far as its verdict takes
    pub judged_end : (s : JudgeValue) (r : Result Verdict IoFault) → ReadsOut I g (Ok None) s left after.left → after.read_faults ≡ before.read_faults → Concludes s r → Judged I g name r before after
    judged_end s (Ok v) out faults concludes = (subst (λ (t : Told). IfSome t (λ all. IsVerdict I g all v)) start (enough out.0 v (concludes I g out.0 out.1) left out.2), reads v faults)
    judged_end s (Err io.Failed) out faults concludes = absurd (let bad : io.Failed ≡ io.Memory = concludes I g out.0 out.1 in cc)
    judged_end s (Err io.Memory) out faults concludes = may_have_read name MAX_CERT before after (record { asked = asked; taken = taken; faults = faults })

    -- a read failed behind the verdict
    pub judged_broken : (s : JudgeValue) (v : Verdict) → ReadsOut I g (Ok (Some v)) s left after.left → Rose before.read_faults after.read_faults → Judged I g name (Ok v) before after
    judged_broken s v out rose = (subst (λ (t : Told). IfSome t (λ all. IsVerdict I g all v)) start (told left out.2), torn v out)
      where
        told : (t : Told) → IfSome t (λ all. (rest : List ℕ) × (all ≡ out.0 ++ rest)) → IfSome t (λ all. IsVerdict I g all v)
        told None here = tt
        told (Some all) here = subst (λ (xs : List ℕ). IsVerdict I g xs v) (sym here.1) (out.1 here.0)

        torn : (w : Verdict) → ReadsOut I g (Ok (Some w)) s left after.left → ReadsJudged w name before after
        torn (Shown claim) o = absurd (certain_not_shown exact I g o.0 claim o.1)
        torn (Faulty number cause) o = record { asked = asked; taken = taken; faults = inr rose }
        torn TooLong o = record { asked = asked; taken = taken; faults = inr rose }

    -- a read failed, or memory was wanting
    pub judged_failed : (s : JudgeValue) (fault : IoFault) → ReadsOut I g (Err fault) s left after.left → CountsRead (Err fault) before.read_faults after.read_faults → Judged I g name (Err fault) before after
    judged_failed s io.Failed out rose = (record { asked = asked; taken = inr taken; faults = rose }, inr (subst (λ (t : Told). IfSome t (λ all. (n : ℕ) × (after.left ≡ Some (drop n all)) × IsSound I g (take n all))) start (sound_first out.0 after.left out.1 left out.2)))
    judged_failed s io.Memory out counts = record { asked = one_asked name before.asked after.asked asked; taken = inr (inr taken); faults = counts }
