-- What a checker has taken after one more line, and its first fault.
use Rattle.std.proofs.Common.{◌≡◌, ℕ, ◌+◌, List, [], ◌∷◌, ◌++◌, length, false, refl, sym, ap, ◌∙◌, subst, inl, inr, arith, ⊎_elim}
use Rattle.std.specs.Prelude.{Option, None, Some, IfErr, IfOk, IfSome, OnOk, Result, Ok, Err}
use Rattle.std.proofs.lemmas.List.{append_assoc, length-append}
use Rattle.packing_laws.specs.Instances.{InstanceValue, IsInstance}
use Rattle.flow_graph.specs.Arcs.{TypeValue, IsFlowGraph}
use Rattle.flow_graph.specs.Faithful.{IsFaithful}
use Rattle.cert_text.specs.declared.lines.CertLine.{CertLine}
use Rattle.cert_text.specs.declared.lines.CertLine.TheVariants as cert
use Rattle.cert_laws.specs.declared.causes.Cause.{Cause}
use Rattle.cert_laws.specs.declared.causes.Cause.TheVariants.{Unfinished}
use Rattle.cert_text.specs.declared.lines.Claim.{Claim}
use Rattle.cert_laws.specs.Shown.{CertifiedIsSo, IsCertified, IsFault, Shows}
use Rattle.cert_laws.specs.Rules.{Progress, after_line, after_lines, at_start, AreAccepted, IsAccepted, IsRefused, IsFirstRefused}
use Rattle.cert_checker.specs.declared.faults.CheckFault.{CheckFault}
use Rattle.cert_checker.specs.Checkers.{CheckerValue, IsStepped, IsSteppedBy, IsStepFault, IsBatchFault, IsOneRefused, IsFinished, after_accepted, after_all_accepted}
use Rattle.cert_checker.specs.Faults.{refusal_of}
use Rattle.cert_checker.specs.inner.Taken.{HasTaken, IsTakenFault}
use Rattle.cert_checker.proofs.Settled.{accepted_all, accepted_more, after_all, after_more}

pub counts : (p : Progress) (line : CertLine) → (after_line p line).count ≡ p.count + 1
counts p (cert.Head version) = refl
counts p (cert.Claim claim goal) = refl
counts p (cert.Tree line) = refl
counts p cert.End = refl

-- how many lines count
pub counts_all : (p : Progress) (lines : List CertLine) → (after_lines p lines).count ≡ p.count + length lines
counts_all p [] = omega arith
counts_all p (line ∷ lines) =
    let one = counts p line in
    let rest = counts_all (after_line p line) lines in
    omega (arith, one, rest)

module _ (I : InstanceValue) (g : List TypeValue) (before : List CertLine) (s : CheckerValue) (has : HasTaken I g before s) where
  own_all : (lines : List CertLine) → AreAccepted s.instance s.graph s.progress lines → AreAccepted I g (after_lines (at_start I g) before) lines
  own_all lines accepted =
      subst (λ (p : Progress). AreAccepted I g p lines) has.progress
      (subst (λ (h : List TypeValue). AreAccepted I h s.progress lines) has.graph
      (subst (λ (J : InstanceValue). AreAccepted J s.graph s.progress lines) has.instance accepted))

module _ (I : InstanceValue) (g : List TypeValue) (before : List CertLine) (s : CheckerValue) (has : HasTaken I g before s) (line : CertLine) where
  own : IsAccepted s.instance s.graph s.progress line → IsAccepted I g (after_lines (at_start I g) before) line
  own accepted =
      subst (λ (p : Progress). IsAccepted I g p line) has.progress
      (subst (λ (h : List TypeValue). IsAccepted I h s.progress line) has.graph
      (subst (λ (J : InstanceValue). IsAccepted J s.graph s.progress line) has.instance accepted))

  own_refused : (fault : Cause) → IsRefused s.instance s.graph s.progress line fault → IsRefused I g (after_lines (at_start I g) before) line fault
  own_refused fault refused =
      subst (λ (p : Progress). IsRefused I g p line fault) has.progress
      (subst (λ (h : List TypeValue). IsRefused I h s.progress line fault) has.graph
      (subst (λ (J : InstanceValue). IsRefused J s.graph s.progress line fault) has.instance refused))

  pub taken_more : (new : CheckerValue) → IsStepped s line (Ok tt) new → HasTaken I g (before ++ line ∷ []) new
  taken_more new stepped =
      let size = length-append before (line ∷ []) in
      let count = has.count in
      let on : HasTaken I g (before ++ line ∷ []) (after_accepted s line) = record {
        instance = has.instance;
        graph = has.graph;
        free = has.free;
        accepted = accepted_more I g (at_start I g) before line has.accepted (own stepped.1);
        progress = ap (λ (p : Progress). after_line p line) has.progress ∙ sym (after_more (at_start I g) before line);
        count = counts s.progress line ∙ (let sum : s.progress.count + 1 ≡ length (before ++ line ∷ []) = omega (arith, size, count) in sum);
      } in
      subst (λ (x : CheckerValue). HasTaken I g (before ++ line ∷ []) x) (sym stepped.2) on

  first_refused : (new : CheckerValue) (refusal : Option (ℕ × Cause)) → IsStepFault s line refusal new → (after : List CertLine) → IfSome refusal (λ r. IsFirstRefused I g (at_start I g) (before ++ line ∷ after) r.0 r.1)
  first_refused new None fault after = tt
  first_refused new (Some r) fault after = ⊎_elim
      (λ earlier. absurd (let bad : None ≡ Some r = sym has.free ∙ earlier in cc))
      (λ next. record {
        before = before;
        line = line;
        after = after;
        all = refl;
        accepted = has.accepted;
        refused = own_refused r.1 next.2;
        place = (let number = next.1 in let count = has.count in omega (arith, number, count));
      })
      fault.0

  pub taken_fault : (new : CheckerValue) (fault : CheckFault) → IsStepped s line (Err fault) new → (after : List CertLine) → IfSome (refusal_of fault) (λ r. IsFirstRefused I g (at_start I g) (before ++ line ∷ after) r.0 r.1)
  taken_fault new fault stepped after = first_refused new (refusal_of fault) stepped after

-- a fault of a line whatever comes after it
pub fault_of_one : (I : InstanceValue) (g : List TypeValue) (before : List CertLine) (s : CheckerValue) → HasTaken I g before s → (line : CertLine) (new : CheckerValue) (fault : CheckFault) → IsStepped s line (Err fault) new → IsTakenFault I g before (line ∷ []) fault
fault_of_one I g before s has line new fault stepped after = taken_fault I g before s has line new fault stepped after

-- several lines are taken, or one of them is refused, whatever comes after them
module _ (I : InstanceValue) (g : List TypeValue) (before : List CertLine) (s new : CheckerValue) (has : HasTaken I g before s) (lines : List CertLine) where
  taken_all : AreAccepted s.instance s.graph s.progress lines → new ≡ after_all_accepted s lines → HasTaken I g (before ++ lines) new
  taken_all accepted is =
      let size = length-append before lines in
      let count = has.count in
      let more = counts_all s.progress lines in
      let on : HasTaken I g (before ++ lines) (after_all_accepted s lines) = record {
        instance = has.instance;
        graph = has.graph;
        free = has.free;
        accepted = accepted_all I g (at_start I g) before lines has.accepted (own_all I g before s has lines accepted);
        progress = ap (λ (p : Progress). after_lines p lines) has.progress ∙ sym (after_all (at_start I g) before lines);
        count = omega (arith, size, count, more);
      } in
      subst (λ (x : CheckerValue). HasTaken I g (before ++ lines) x) (sym is) on

  one_refused : (after : List CertLine) (r : ℕ × Cause) → IsOneRefused s lines r new → IsFirstRefused I g (at_start I g) (before ++ (lines ++ after)) r.0 r.1
  one_refused after r one =
      let size = length-append before one.first.before in
      let count = has.count in
      let place = one.first.place in
      record {
        before = before ++ one.first.before;
        line = one.first.line;
        after = one.first.after ++ after;
        all =
            ap (λ (ls : List CertLine). before ++ (ls ++ after)) one.first.all
            ∙ (ap (λ (ls : List CertLine). before ++ ls) (append_assoc one.first.before (one.first.line ∷ one.first.after) after)
            ∙ sym (append_assoc before one.first.before (one.first.line ∷ (one.first.after ++ after))));
        accepted = accepted_all I g (at_start I g) before one.first.before has.accepted (own_all I g before s has one.first.before one.first.accepted);
        refused =
            subst (λ (p : Progress). IsRefused I g p one.first.line r.1) (ap (λ (p : Progress). after_lines p one.first.before) has.progress ∙ sym (after_all (at_start I g) before one.first.before))
            (subst (λ (h : List TypeValue). IsRefused I h (after_lines s.progress one.first.before) one.first.line r.1) has.graph
            (subst (λ (J : InstanceValue). IsRefused J s.graph (after_lines s.progress one.first.before) one.first.line r.1) has.instance one.first.refused));
        place = omega (arith, size, count, place);
      }

  batch_refused : (after : List CertLine) (refusal : Option (ℕ × Cause)) → IsBatchFault s lines refusal new → IfSome refusal (λ r. IsFirstRefused I g (at_start I g) (before ++ (lines ++ after)) r.0 r.1)
  batch_refused after None fault = tt
  batch_refused after (Some r) fault = ⊎_elim
      (λ earlier. absurd (let bad : None ≡ Some r = sym has.free ∙ earlier.0 in cc))
      (λ one. one_refused after r one)
      fault

  pub all_taken : (result : Result (Unit {0}) CheckFault) → IsSteppedBy s lines result new → OnOk result (HasTaken I g (before ++ lines) new)
  all_taken (Ok done) stepped = taken_all stepped.1 stepped.2
  all_taken (Err fault) stepped = tt

  pub one_of_them : (result : Result (Unit {0}) CheckFault) → IsSteppedBy s lines result new → IfErr result (IsTakenFault I g before lines)
  one_of_them (Ok done) stepped = tt
  one_of_them (Err fault) stepped = λ after. batch_refused after (refusal_of fault) stepped

-- the end is taken, and the certificate is whole
pub certified : (I : InstanceValue) (g : List TypeValue) (before : List CertLine) (s : CheckerValue) (claim : Claim) → HasTaken I g before s → IsFinished s (Ok claim) → IsCertified I g before claim
certified I g before s claim has finished = record {
  each = has.accepted;
  whole = ap (λ (p : Progress). p.ended) (sym has.progress) ∙ finished.1;
  told = ap (λ (p : Progress). p.claim) (sym has.progress) ∙ sym finished.2;
}

stopped : (I : InstanceValue) (g : List TypeValue) (before : List CertLine) (s : CheckerValue) → HasTaken I g before s → (refusal : Option (ℕ × Cause)) → (refusal ≡ Some (s.progress.count + 1, Unfinished)) → s.progress.ended ≡ false → IfSome refusal (λ r. IsFault I g before r.0 r.1)
stopped I g before s has refusal is open_now =
    let count = has.count in
    let number : s.progress.count + 1 ≡ length before + 1 = omega (arith, count) in
    subst (λ (o : Option (ℕ × Cause)). IfSome o (λ r. IsFault I g before r.0 r.1)) (sym is) (inr (has.accepted, ap (λ (p : Progress). p.ended) (sym has.progress) ∙ open_now, number, refl))

pub not_certified : (I : InstanceValue) (g : List TypeValue) (before : List CertLine) (s : CheckerValue) (fault : CheckFault) → HasTaken I g before s → IsFinished s (Err fault) → IfSome (refusal_of fault) (λ r. IsFault I g before r.0 r.1)
not_certified I g before s fault has finished = ⊎_elim
    (λ earlier. absurd (earlier.0 has.free))
    (λ rest. stopped I g before s has (refusal_of fault) rest.2 rest.1)
    finished

-- the first refused line is the first fault
pub as_fault : (I : InstanceValue) (g : List TypeValue) (lines : List CertLine) (refusal : Option (ℕ × Cause)) → IfSome refusal (λ r. IsFirstRefused I g (at_start I g) lines r.0 r.1) → IfSome refusal (λ r. IsFault I g lines r.0 r.1)
as_fault I g lines None h = tt
as_fault I g lines (Some r) h = inl h

-- the same of an answer
pub whole_ok : (I : InstanceValue) (g : List TypeValue) (lines : List CertLine) (s : CheckerValue) → HasTaken I g lines s → (result : Result Claim CheckFault) → IsFinished s result → IfOk result (λ claim. IsCertified I g lines claim)
whole_ok I g lines s has (Ok claim) finished = certified I g lines s claim has finished
whole_ok I g lines s has (Err fault) finished = tt

pub whole_err : (I : InstanceValue) (g : List TypeValue) (lines : List CertLine) (s : CheckerValue) → HasTaken I g lines s → (result : Result Claim CheckFault) → IsFinished s result → IfErr result (λ fault. IfSome (refusal_of fault) (λ r. IsFault I g lines r.0 r.1))
whole_err I g lines s has (Ok claim) finished = tt
whole_err I g lines s has (Err fault) finished = not_certified I g lines s fault has finished

-- before the first line
pub nothing_taken : (I : InstanceValue) (g : List TypeValue) (s : CheckerValue) → s ≡ record { instance = I; graph = g; progress = at_start I g; refusal = None } → HasTaken I g [] s
nothing_taken I g s is =
    let start : HasTaken I g [] (record { instance = I; graph = g; progress = at_start I g; refusal = None }) = record { instance = refl; graph = refl; free = refl; accepted = tt; progress = refl; count = refl } in
    subst (λ (x : CheckerValue). HasTaken I g [] x) (sym is) start

-- what is certified is so
pub shown_ok : CertifiedIsSo → (I : InstanceValue) (g : List TypeValue) (lines : List CertLine) → IsInstance I → IsFlowGraph g → IsFaithful I g → (result : Result Claim CheckFault) → IfOk result (λ claim. IsCertified I g lines claim) → IfOk result (λ claim. Shows I claim)
shown_ok law I g lines known graph faithful (Ok claim) is = law I g lines claim known graph faithful is
shown_ok law I g lines known graph faithful (Err fault) is = tt
