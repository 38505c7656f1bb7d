-- What a call with a line answers and leaves, from what is told and settled.
use Rattle.std.proofs.Common.{◌≡◌, ℕ, ◌+◌, List, [], ◌∷◌, ◌++◌, true, refl, sym, ap, ◌∙◌, subst, inr}
use Rattle.std.specs.Prelude.{Option, None, Some, Result, Ok, Err}
use Rattle.packing_laws.specs.Instances.{InstanceValue, IsInstance}
use Rattle.flow_graph.specs.Arcs.{TypeValue, IsFlowGraph}
use Rattle.flow_graph.specs.Faithful.{IsFaithful}
use Rattle.cert_text.specs.declared.lines.Claim.{Claim}
use Rattle.cert_text.specs.declared.lines.CertLine.{CertLine}
use Rattle.cert_laws.specs.declared.causes.Cause.{Cause}
use Rattle.cert_laws.specs.Rules.{Progress, AreAccepted, IsAccepted, after_line, after_lines, at_start}
use Rattle.cert_laws.specs.Shown.{CertifiedIsSo, Shows}
use Rattle.cert_checker.specs.declared.faults.CheckFault.{CheckFault}
use Rattle.path_prices.specs.Scratches.{ScratchValue, IsScratchOf}
use Rattle.needs_check.specs.Rooms.{NeedRoomValue, IsNeedRoomOf}
use Rattle.cert_checker.specs.Faults.{refusal_of}
use Rattle.cert_checker.specs.Checkers.{CheckerValue, IsReached, IsStepped, IsStepFault, after_refused}
use Rattle.cert_checker.specs.inner.Ready.{IsReady, IsSettled}
use Rattle.cert_checker.specs.inner.Standing.{StandingValue, IsTold}

-- lines with one more
pub accepted_more : (I : InstanceValue) (g : List TypeValue) (p : Progress) (lines : List CertLine) (line : CertLine) → AreAccepted I g p lines → IsAccepted I g (after_lines p lines) line → AreAccepted I g p (lines ++ line ∷ [])
accepted_more I g p [] line all one = (one, tt)
accepted_more I g p (first ∷ lines) line all one = (all.0, accepted_more I g (after_line p first) lines line all.1 one)

pub after_more : (p : Progress) (lines : List CertLine) (line : CertLine) → after_lines p (lines ++ line ∷ []) ≡ after_line (after_lines p lines) line
after_more p [] line = refl
after_more p (first ∷ lines) line = after_more (after_line p first) lines line

-- lines with some more
pub accepted_all : (I : InstanceValue) (g : List TypeValue) (p : Progress) (lines more : List CertLine) → AreAccepted I g p lines → AreAccepted I g (after_lines p lines) more → AreAccepted I g p (lines ++ more)
accepted_all I g p [] more first last = last
accepted_all I g p (line ∷ lines) more first last = (first.0, accepted_all I g (after_line p line) lines more first.1 last)

pub after_all : (p : Progress) (lines more : List CertLine) → after_lines p (lines ++ more) ≡ after_lines (after_lines p lines) more
after_all p [] more = refl
after_all p (line ∷ lines) more = after_all (after_line p line) lines more

pub reached_more : (I : InstanceValue) (g : List TypeValue) (p : Progress) (line : CertLine) → IsReached I g p → IsAccepted I g p line → IsReached I g (after_line p line)
reached_more I g p line reached accepted =
    let lines : List CertLine = reached.0 in (
      lines ++ line ∷ [],
      accepted_more I g (at_start I g) lines line reached.1 (subst (λ (q : Progress). IsAccepted I g q line) reached.2 accepted),
      ap (λ (q : Progress). after_line q line) reached.2 ∙ sym (after_more (at_start I g) lines line),
    )

-- a checker stays ready
pub told_ready : (I : InstanceValue) (g : List TypeValue) (old : StandingValue) (line : CertLine) (verdict : Option Cause) (new : StandingValue) (scratch : ScratchValue) (room : NeedRoomValue) → IsTold I g old line verdict new → IsReady I g old scratch room → IsReady I g new scratch room
told_ready I g old line None new scratch room told ready =
    let on : IsReady I g (record { root = old.root; progress = after_line old.progress line }) scratch room = record {
      graph = ready.graph;
      begun = ready.begun;
      sized = ready.sized;
      reached = reached_more I g old.progress line ready.reached told.0;
      items = ready.items;
      prepared = ready.prepared;
      needs = ready.needs;
    } in
    subst (λ (s : StandingValue). IsReady I g s scratch room) (sym told.1) on
told_ready I g old line (Some fault) new scratch room told ready = subst (λ (s : StandingValue). IsReady I g s scratch room) (sym told.1) ready

-- a checker whose rooms are again those of the graph stays ready
pub roomed_ready : (I : InstanceValue) (g : List TypeValue) (standing : StandingValue) (old new : ScratchValue) (before after : NeedRoomValue) → new ≡ old → IsNeedRoomOf g after → IsReady I g standing old before → IsReady I g standing new after
roomed_ready I g standing old new before after same room ready = record {
  graph = ready.graph;
  begun = ready.begun;
  sized = ready.sized;
  reached = ready.reached;
  items = ap (λ (s : ScratchValue). s.items) same ∙ ready.items;
  prepared = subst (λ (s : ScratchValue). IsScratchOf g s) (sym same) ready.prepared;
  needs = room;
}

-- what an accepted end shows
pub shown_from : CertifiedIsSo → (I : InstanceValue) (g : List TypeValue) (p : Progress) (claim : Claim) → IsInstance I → IsFlowGraph g → IsFaithful I g → IsReached I g p → p.ended ≡ true → claim ≡ p.claim → Shows I claim
shown_from law I g p claim known graph faithful reached ended is =
    law I g reached.0 claim known graph faithful (record {
      each = reached.1;
      whole = ap (λ (q : Progress). q.ended) (sym reached.2) ∙ ended;
      told = ap (λ (q : Progress). q.claim) (sym reached.2) ∙ sym is;
    })

-- a checker as it is seen
abbrev pub seen : InstanceValue → List TypeValue → Progress → Option (ℕ × Cause) → CheckerValue
seen I g p refusal = record { instance = I; graph = g; progress = p; refusal = refusal }

pub settled : (I : InstanceValue) (g : List TypeValue) (refusal : Option (ℕ × Cause)) → refusal ≡ None → (old new : StandingValue) (line : CertLine) (verdict : Option Cause) → IsTold I g old line verdict new → (result : Result (Unit {0}) CheckFault) (after : CheckerValue) → IsSettled (seen I g new.progress refusal) verdict result after → IsStepped (seen I g old.progress refusal) line result after
settled I g refusal free old new line None told (Ok done) after is =
    (free, told.0, is ∙ ap (λ (s : StandingValue). seen I g s.progress refusal) told.1)
settled I g refusal free old new line None told (Err fault) after is = absurd is
settled I g refusal free old new line (Some cause) told (Ok done) after is = absurd is
settled I g refusal free old new line (Some cause) told (Err fault) after is =
    let same : new.progress ≡ old.progress = ap (λ (s : StandingValue). s.progress) told.1 in
    let number : refusal_of fault ≡ Some (old.progress.count + 1, cause) = is.0 ∙ ap (λ (p : Progress). Some (p.count + 1, cause)) same in
    let left : after ≡ after_refused (seen I g old.progress refusal) (old.progress.count + 1, cause) = is.1 ∙ ap (λ (p : Progress). after_refused (seen I g p refusal) (p.count + 1, cause)) same in
    let own : IsStepFault (seen I g old.progress refusal) line (Some (old.progress.count + 1, cause)) after = (inr (free, refl, told.0), left) in
    subst (λ (r : Option (ℕ × Cause)). IsStepFault (seen I g old.progress refusal) line r after) (sym number) own
