-- Lines told one after the other: one more in front, and two runs joined.
use Rattle.std.proofs.Common.{◌≡◌, ℕ, ◌+◌, ◌≤◌, Bool, true, false, List, [], ◌∷◌, ◌++◌, length, get_or, map, take, drop, ◌<◌, refl, sym, ap, ◌∙◌, subst, inr, arith}
use Rattle.std.specs.Prelude.{Option, None, Some, is_some, not, IfOk, Result, Ok, Err}
use Rattle.std.proofs.lemmas.List.{drop_all, drop_more, length-map, map-append, take-append-drop}
use Rattle.packing_laws.specs.Instances.{InstanceValue}
use Rattle.flow_graph.specs.Arcs.{TypeValue}
use Rattle.cert_text.specs.declared.lines.CertLine.{CertLine}
use Rattle.cert_laws.specs.declared.causes.Cause.{Cause}
use Rattle.cert_laws.specs.Rules.{Progress, after_line, after_lines, AreAccepted}
use Rattle.cert_checker.specs.declared.faults.CheckFault.{CheckFault}
use Rattle.cert_checker.specs.Checkers.{CheckerValue, IsReached, IsSteppedBy, IsBatchFault, IsOneRefused, after_refused}
use Rattle.cert_checker.specs.inner.Ready.{IsReady, IsSettled}
use Rattle.cert_checker.specs.inner.Runs.{AreTold, behind}
use Rattle.cert_checker.specs.declared.runs.Judged.{Judged}
use Rattle.cert_checker.specs.inner.Standing.{StandingValue, IsTold}
use Rattle.path_prices.specs.Scratches.{ScratchValue}
use Rattle.needs_check.specs.Rooms.{NeedRoomValue}
use Rattle.cert_checker.proofs.Settled.{reached_more, seen}
use Rattle.cert_checker.proofs.TakenLines.{counts, counts_all}

module _ (I : InstanceValue) (g : List TypeValue) where
  -- one more line in front
  pub told_cons : (old mid : StandingValue) (line : CertLine) (lines : List CertLine) (verdict : Option Cause) (new : StandingValue) → IsTold I g old line None mid → AreTold I g mid lines verdict new → AreTold I g old (line ∷ lines) verdict new
  told_cons old mid line lines verdict new told rest = by verdict (subst (λ (s : StandingValue). AreTold I g s lines verdict new) told.1 rest)
    where
      by : (v : Option Cause) → AreTold I g (behind old (line ∷ [])) lines v new → AreTold I g old (line ∷ lines) v new
      by None h = ((told.0, h.0), h.1)
      by (Some fault) h = record {
        before = line ∷ h.before;
        line = h.line;
        after = h.after;
        all = ap (λ (ls : List CertLine). line ∷ ls) h.all;
        accepted = (told.0, h.accepted);
        refused = h.refused;
        left = h.left;
      }

  -- the first line is refused
  pub told_refused : (old : StandingValue) (line : CertLine) (lines : List CertLine) (fault : Cause) (new : StandingValue) → IsTold I g old line (Some fault) new → AreTold I g old (line ∷ lines) (Some fault) new
  told_refused old line lines fault new told = record {
    before = [];
    line = line;
    after = lines;
    all = refl;
    accepted = tt;
    refused = told.0;
    left = told.1;
  }

  -- lines behind accepted ones
  told_behind : (old : StandingValue) (first last : List CertLine) (verdict : Option Cause) (new : StandingValue) → AreAccepted I g old.progress first → AreTold I g (behind old first) last verdict new → AreTold I g old (first ++ last) verdict new
  told_behind old [] last verdict new accepted told = told
  told_behind old (line ∷ first) last verdict new accepted told =
      told_cons old (behind old (line ∷ [])) line (first ++ last) verdict new (accepted.0, refl)
      (told_behind (behind old (line ∷ [])) first last verdict new accepted.1 told)

  reached_all : (p : Progress) (lines : List CertLine) → IsReached I g p → AreAccepted I g p lines → IsReached I g (after_lines p lines)
  reached_all p [] reached accepted = reached
  reached_all p (line ∷ lines) reached accepted = reached_all (after_line p line) lines (reached_more I g p line reached accepted.0) accepted.1

  ready_behind : (old new : StandingValue) (lines : List CertLine) (scratch : ScratchValue) (room : NeedRoomValue) → AreAccepted I g old.progress lines → new ≡ behind old lines → IsReady I g old scratch room → IsReady I g new scratch room
  ready_behind old new lines scratch room accepted is ready =
      let on : IsReady I g (behind old lines) scratch room = record {
        graph = ready.graph;
        begun = ready.begun;
        sized = ready.sized;
        reached = reached_all old.progress lines ready.reached accepted;
        items = ready.items;
        prepared = ready.prepared;
        needs = ready.needs;
      } in
      subst (λ (s : StandingValue). IsReady I g s scratch room) (sym is) on

  -- a checker stays ready
  pub run_ready : (old new : StandingValue) (lines : List CertLine) (verdict : Option Cause) (scratch : ScratchValue) (room : NeedRoomValue) → AreTold I g old lines verdict new → IsReady I g old scratch room → IsReady I g new scratch room
  run_ready old new lines None scratch room told ready = ready_behind old new lines scratch room told.0 told.1 ready
  run_ready old new lines (Some fault) scratch room told ready = ready_behind old new told.before scratch room told.accepted told.left ready

  -- what a call with these lines answers and leaves
  pub run_settled : (refusal : Option (ℕ × Cause)) → refusal ≡ None → (old new : StandingValue) (lines : List CertLine) (verdict : Option Cause) → AreTold I g old lines verdict new → (result : Result (Unit {0}) CheckFault) (after : CheckerValue) → IsSettled (seen I g new.progress refusal) verdict result after → IsSteppedBy (seen I g old.progress refusal) lines result after
  run_settled refusal free old new lines None told (Ok done) after is =
      (free, told.0, is ∙ ap (λ (s : StandingValue). seen I g s.progress refusal) told.1)
  run_settled refusal free old new lines None told (Err fault) after is = absurd is
  run_settled refusal free old new lines (Some cause) told (Ok done) after is = absurd is
  run_settled refusal free old new lines (Some cause) told (Err fault) after is =
      let number : ℕ = new.progress.count + 1 in
      let left : new.progress ≡ after_lines old.progress told.before = ap (λ (s : StandingValue). s.progress) told.left in
      let count = ap (λ (p : Progress). p.count) left in
      let counted = counts_all old.progress told.before in
      let one : IsOneRefused (seen I g old.progress refusal) lines (number, cause) after = record {
        free = free;
        first = record {
          before = told.before;
          line = told.line;
          after = told.after;
          all = told.all;
          accepted = told.accepted;
          refused = told.refused;
          place = omega (arith, count, counted);
        };
        left = is.1 ∙ ap (λ (p : Progress). after_refused (seen I g p refusal) (number, cause)) left;
      } in
      subst (λ (r : Option (ℕ × Cause)). IsBatchFault (seen I g old.progress refusal) lines r after) (sym is.0) (inr one)

-- what comes behind the first of two runs, where that is whole
after_first : (I : InstanceValue) (g : List TypeValue) (old : StandingValue) (first last : List CertLine) (left : Option Cause) (mid : StandingValue) → left ≡ None → AreTold I g old first left mid → (verdict : Option Cause) (new : StandingValue) → AreTold I g (behind old first) last verdict new → AreTold I g old (first ++ last) verdict new
after_first I g old first last None mid free told verdict new rest = told_behind I g old first last verdict new told.0 rest
after_first I g old first last (Some fault) mid free told verdict new rest = absurd (cc)

-- lines from one of them on
pub from_here : {X : Type 0} (f : X → CertLine) (xs : List X) (i : ℕ) (x : X) → i < length xs → x ≡ get_or xs i x → map f (drop i xs) ≡ f x ∷ map f (drop (i + 1) xs)
from_here {X} f xs i x within there =
    ap (λ (ys : List X). map f ys) (drop_more xs i x within ∙ ap (λ (y : X). y ∷ drop (i + 1) xs) (sym there))

pub of_both : {E : Type 0} (I : InstanceValue) (g : List TypeValue) (old : StandingValue) (first last : List CertLine) (left : Judged) → left.refusal ≡ None → AreTold I g old first left.refusal left.standing → (right : Result Judged E) → IfOk right (λ judged. AreTold I g (behind old first) last judged.refusal judged.standing) → IfOk right (λ judged. AreTold I g old (first ++ last) judged.refusal judged.standing)
of_both I g old first last left free told (Ok judged) rest = after_first I g old first last left.refusal left.standing free told judged.refusal judged.standing rest
of_both I g old first last left free told (Err fault) rest = tt

-- a line that was told whatever the instance
nothing : InstanceValue
nothing = record { dims = 0; types = []; items = []; caps = [] }

pub skipped : (old new : StandingValue) (line : CertLine) (verdict : Option Cause) → ((I : InstanceValue) (g : List TypeValue) → IsTold I g old line verdict new) → verdict ≡ None → new ≡ behind old (line ∷ [])
skipped old new line None told free = (told nothing []).1
skipped old new line (Some cause) told free = absurd (cc)

none_when : {T : Type 0} (o : Option T) (b : Bool) → is_some o ≡ not b → b ≡ true → o ≡ None
none_when None b e h = refl
none_when (Some x) true e h = absurd (cc)
none_when (Some x) false e h = absurd (cc)

pub skipped_if : (old new : StandingValue) (line : CertLine) (verdict : Option Cause) → ((I : InstanceValue) (g : List TypeValue) → IsTold I g old line verdict new) → (done : Bool) → is_some verdict ≡ not done → done ≡ true → new ≡ behind old (line ∷ [])
skipped_if old new line verdict told done is h = skipped old new line verdict told (none_when verdict done is h)

-- a line that was told and accepted
module _ (I : InstanceValue) (g : List TypeValue) (old new : StandingValue) (line : CertLine) (told : IsTold I g old line None new) where
  pub told_count : new.progress.count ≡ old.progress.count + 1
  told_count = ap (λ (s : StandingValue). s.progress.count) told.1 ∙ counts old.progress line

  pub told_root : new.root ≡ old.root
  told_root = ap (λ (s : StandingValue). s.root) told.1

-- behind the last line
pub at_the_end : {X : Type 0} (f : X → CertLine) (I : InstanceValue) (g : List TypeValue) (s : StandingValue) (xs : List X) (i : ℕ) → length xs ≤ i → AreTold I g s (map f (drop i xs)) None s
at_the_end {X} f I g s xs i end = subst (λ (ys : List X). AreTold I g s (map f ys) None s) (sym (drop_all i xs end)) (tt, refl)

-- lines that were cut in two
pub both_parts : {X : Type 0} (f : X → CertLine) (xs : List X) (i : ℕ) → map f (take i xs) ++ map f (drop i xs) ≡ map f xs
both_parts {X} f xs i = sym (map-append f (take i xs) (drop i xs)) ∙ ap (λ (ys : List X). map f ys) (take-append-drop i xs)

-- how many lines count behind these
pub behind_count : {X : Type 0} (f : X → CertLine) (old new : StandingValue) (xs : List X) → new ≡ behind old (map f xs) → new.progress.count ≡ old.progress.count + length xs
behind_count f old new xs is =
    let size : length (map f xs) ≡ length xs = simp length-map in
    ap (λ (s : StandingValue). s.progress.count) is ∙ (counts_all old.progress (map f xs) ∙ ap (λ (n : ℕ). old.progress.count + n) size)

-- what was told behind a standing, behind its like
pub told_from : (I : InstanceValue) (g : List TypeValue) (s t : StandingValue) → s ≡ t → {E : Type 0} (lines : List CertLine) (result : Result Judged E) → IfOk result (λ judged. AreTold I g s lines judged.refusal judged.standing) → IfOk result (λ judged. AreTold I g t lines judged.refusal judged.standing)
told_from I g s t same lines result h = subst (λ (x : StandingValue). IfOk result (λ judged. AreTold I g x lines judged.refusal judged.standing)) same h
