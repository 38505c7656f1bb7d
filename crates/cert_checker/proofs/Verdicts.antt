-- Whether a line is accepted, by its kind.
use Rattle.std.proofs.Common.{◌≡◌, ◌↔◌, ℕ, ◌<◌, Bool, true, false, List, [], ◌∷◌, length, get_or, refl, sym, ◌∙◌, subst, inl, inr, arith}
use Rattle.std.specs.Prelude.{Option, None, Some}
use Rattle.packing_laws.specs.Instances.{InstanceValue}
use Rattle.flow_graph.specs.Arcs.{TypeValue}
use Rattle.cert_text.specs.declared.lines.Claim.{Claim}
use Rattle.cert_text.specs.declared.lines.TreeLine.{TreeLine}
use Rattle.cert_text.specs.declared.lines.CertLine.{CertLine}
use Rattle.cert_text.specs.declared.lines.CertLine.TheVariants as cert
use Rattle.cert_text.specs.Lines.{IsInPlace}
use Rattle.cert_laws.specs.declared.causes.Cause.{Cause}
use Rattle.cert_laws.specs.declared.causes.Cause.TheVariants as cause
use Rattle.cert_laws.specs.Rules.{Progress, after_line, KeepsRule, IsAccepted, IsRefused, SplitsBox, causes_of, first_box}
use Rattle.cert_checker.specs.inner.Judging.{IsFirstCause, IsVerdict, KeepsPlace}
use Rattle.cert_checker.specs.inner.Standing.{StandingValue, IsTold}
use Rattle.cert_checker.proofs.FirstCauses.{at_text, at_extra, at_unfinished, none}

apart : (b : Bool) → b ≡ true → b ≡ false → ⊥
apart b x y = let bad : true ≡ false = sym x ∙ y in cc

-- the end has been accepted before
pub after_end : (I : InstanceValue) (g : List TypeValue) (p : Progress) (line : CertLine) → p.ended ≡ true → IsRefused I g p line cause.Extra
after_end I g p line ended = at_extra (KeepsRule I g p line) g (inl ended) (λ h. apart p.ended ended h.0)

-- the line stands where it may not stand
pub out_of_place : (I : InstanceValue) (g : List TypeValue) (p : Progress) (line : CertLine) → p.ended ≡ false → (IsInPlace p.count p.version line → ⊥) → IsRefused I g p line cause.Text
out_of_place I g p line runs misplaced = at_text (KeepsRule I g p line) g (λ h. elim h [ inl ended ↦ apart p.ended ended runs | inr there ↦ misplaced there ])

module _ (I : InstanceValue) (g : List TypeValue) (p : Progress) (runs : p.ended ≡ false) where
  pub head_accepted : (version : ℕ) → IsInPlace p.count p.version (cert.Head version) → IsAccepted I g p (cert.Head version)
  head_accepted version there = none (KeepsRule I g p (cert.Head version)) g (inr there) (runs, tt) tt tt tt tt tt tt (λ t among. tt) tt

  pub claim_accepted : (claim : Claim) (goal : Option ℕ) → IsInPlace p.count p.version (cert.Claim claim goal) → IsAccepted I g p (cert.Claim claim goal)
  claim_accepted claim goal there = none (KeepsRule I g p (cert.Claim claim goal)) g (inr there) (runs, tt) tt tt tt tt tt tt (λ t among. tt) tt

  pub end_accepted : IsInPlace p.count p.version cert.End → p.boxes ≡ [] → IsAccepted I g p cert.End
  end_accepted there closed = none (KeepsRule I g p cert.End) g (inr there) (runs, tt) closed tt tt tt tt tt (λ t among. tt) tt

  pub end_unfinished : IsInPlace p.count p.version cert.End → (p.boxes ≡ [] → ⊥) → IsRefused I g p cert.End cause.Unfinished
  end_unfinished there opened = at_unfinished (KeepsRule I g p cert.End) g (inr there) (runs, tt) opened

  module _ (line : TreeLine) (there : IsInPlace p.count p.version (cert.Tree line)) where
    pub place_extra : (0 < length p.boxes → ⊥) → IsRefused I g p (cert.Tree line) cause.Extra
    place_extra closed = at_extra (KeepsRule I g p (cert.Tree line)) g (inr there) (λ h. closed h.1)

    module _ (opened : 0 < length p.boxes) where
      same_rule : (fault : Cause) → KeepsPlace I g (first_box p.boxes) p.goal p.claim line fault ↔ KeepsRule I g p (cert.Tree line) fault
      same_rule cause.Text = (λ h. inr there, λ h. tt)
      same_rule cause.Extra = (λ h. (runs, opened), λ h. tt)
      same_rule cause.Unfinished = (λ h. tt, λ h. tt)
      same_rule cause.NoItem = (λ h. h, λ h. h)
      same_rule cause.NoArc = (λ h. h, λ h. h)
      same_rule cause.NotSplit = (λ h. h, λ h. h)
      same_rule cause.NotNeeded = (λ h. h, λ h. h)
      same_rule cause.NotStep = (λ h. h, λ h. h)
      same_rule (cause.Gain t) = (λ h. h, λ h. h)
      same_rule cause.Weak = (λ h. h, λ h. h)

      pub place_verdict : (verdict : Option Cause) → IsFirstCause (KeepsPlace I g (first_box p.boxes) p.goal p.claim line) g verdict → IsVerdict I g p (cert.Tree line) verdict
      place_verdict None h = λ k d within. (same_rule (get_or (causes_of g) k d)).0 (h k d within)
      place_verdict (Some fault) h = (h.0, h.1, h.2, λ k d within. (same_rule (get_or h.0 k d)).0 (h.3 k d within), λ keeps. h.4 ((same_rule fault).1 keeps))

-- what an accepted place of the tree keeps
module _ (I : InstanceValue) (g : List TypeValue) (p : Progress) (line : TreeLine) (accepted : IsAccepted I g p (cert.Tree line)) where
  pub box_open : 0 < length p.boxes
  box_open = (accepted 1 cause.Extra (omega arith)).1

  pub keeps_split : SplitsBox (first_box p.boxes) line
  keeps_split = accepted 5 cause.NotSplit (omega arith)

-- the same of a value that a standing is seen as
module _ (v w : StandingValue) (same : v ≡ w) (I : InstanceValue) (g : List TypeValue) where
  pub told_after_end : (line : CertLine) → v.progress.ended ≡ true → IsTold I g w line (Some cause.Extra) w
  told_after_end line ended = subst (λ (x : StandingValue). IsTold I g x line (Some cause.Extra) x) same (after_end I g v.progress line ended, refl)

  pub verdict_after_end : (line : CertLine) → v.progress.ended ≡ true → IsVerdict I g w.progress line (Some cause.Extra)
  verdict_after_end line ended = (told_after_end line ended).0

  module _ (runs : v.progress.ended ≡ false) where
    pub told_out_of_place : (line : CertLine) → (IsInPlace v.progress.count v.progress.version line → ⊥) → IsTold I g w line (Some cause.Text) w
    told_out_of_place line misplaced = subst (λ (x : StandingValue). IsTold I g x line (Some cause.Text) x) same (out_of_place I g v.progress line runs misplaced, refl)

    pub verdict_out_of_place : (line : CertLine) → (IsInPlace v.progress.count v.progress.version line → ⊥) → IsVerdict I g w.progress line (Some cause.Text)
    verdict_out_of_place line misplaced = (told_out_of_place line misplaced).0

    pub told_unfinished : IsInPlace v.progress.count v.progress.version cert.End → (v.progress.boxes ≡ [] → ⊥) → IsTold I g w cert.End (Some cause.Unfinished) w
    told_unfinished there opened = subst (λ (x : StandingValue). IsTold I g x cert.End (Some cause.Unfinished) x) same (end_unfinished I g v.progress runs there opened, refl)

    pub told_head : (version : ℕ) (new : StandingValue) → IsInPlace v.progress.count v.progress.version (cert.Head version) → new ≡ record { root = v.root; progress = after_line v.progress (cert.Head version) } → IsTold I g w (cert.Head version) None new
    told_head version new there is = subst (λ (x : StandingValue). IsTold I g x (cert.Head version) None new) same (head_accepted I g v.progress runs version there, is)

    pub told_claim : (claim : Claim) (goal : Option ℕ) (new : StandingValue) → IsInPlace v.progress.count v.progress.version (cert.Claim claim goal) → new ≡ record { root = v.root; progress = after_line v.progress (cert.Claim claim goal) } → IsTold I g w (cert.Claim claim goal) None new
    told_claim claim goal new there is = subst (λ (x : StandingValue). IsTold I g x (cert.Claim claim goal) None new) same (claim_accepted I g v.progress runs claim goal there, is)

    pub told_end : (new : StandingValue) → IsInPlace v.progress.count v.progress.version cert.End → v.progress.boxes ≡ [] → new ≡ record { root = v.root; progress = after_line v.progress cert.End } → IsTold I g w cert.End None new
    told_end new there closed is = subst (λ (x : StandingValue). IsTold I g x cert.End None new) same (end_accepted I g v.progress runs there closed, is)

    module _ (line : TreeLine) (there : IsInPlace v.progress.count v.progress.version (cert.Tree line)) where
      pub verdict_extra : (0 < length v.progress.boxes → ⊥) → IsVerdict I g w.progress (cert.Tree line) (Some cause.Extra)
      verdict_extra closed = subst (λ (x : StandingValue). IsVerdict I g x.progress (cert.Tree line) (Some cause.Extra)) same (place_extra I g v.progress runs line there closed)

      pub verdict_place : 0 < length v.progress.boxes → (verdict : Option Cause) → IsFirstCause (KeepsPlace I g (first_box v.progress.boxes) v.progress.goal v.progress.claim line) g verdict → IsVerdict I g w.progress (cert.Tree line) verdict
      verdict_place opened verdict h = subst (λ (x : StandingValue). IsVerdict I g x.progress (cert.Tree line) verdict) same (place_verdict I g v.progress runs line there opened verdict h)

-- no open box
pub none_open : {X : Type 0} (xs : List X) → (0 < length xs → ⊥) → xs ≡ []
none_open [] h = refl
none_open (x ∷ xs) h = absurd (h (omega arith))

pub some_open : {X : Type 0} (xs : List X) → 0 < length xs → xs ≡ [] → ⊥
some_open [] h e = omega (arith, h)
some_open (x ∷ xs) h e = cc
