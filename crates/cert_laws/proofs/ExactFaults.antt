-- A line is accepted or refused for one cause, and a certificate has one first fault or none.
use Rattle.std.proofs.Common.{◌≡◌, ℕ, suc, Bool, true, false, List, [], ◌∷◌, ◌++◌, length, refl, sym, ap, ◌∙◌, subst, ⊎_elim, arith, All}
use Rattle.std.proofs.lemmas.List.Elements.{All-contains, All-head, All-tail, Contains-append_right}
use Rattle.packing_laws.specs.Instances.{InstanceValue}
use Rattle.flow_graph.specs.Arcs.{TypeValue}
use Rattle.cert_text.specs.declared.lines.CertLine.{CertLine}
use Rattle.cert_laws.specs.declared.causes.Cause.{Cause}
use Rattle.cert_laws.specs.Exact.{FaultsAreExact}
use Rattle.cert_laws.specs.Rules.{Progress, after_line, after_lines, at_start, causes_of, AreAccepted, IsAccepted, IsFirstBroken, IsFirstRefused, IsRefused, KeepsRule}

heads_same : {X : Type 0} (x y : X) (xs ys : List X) → x ∷ xs ≡ y ∷ ys → x ≡ y
heads_same x y xs ys h = cc

tails_same : {X : Type 0} (x y : X) (xs ys : List X) → x ∷ xs ≡ y ∷ ys → xs ≡ ys
tails_same x y xs ys h = cc

-- where all hold, none is broken
none_broken : {X : Type 0} (Holds : X → Type 0) (xs : List X) (x : X) → All Holds xs → IsFirstBroken Holds xs x → ⊥
none_broken Holds xs x all broken =
    let whole : All Holds (broken.0 ++ x ∷ broken.1) = subst (All Holds) broken.2 all in
    broken.4 (All-contains Holds (broken.0 ++ x ∷ broken.1) x whole (Contains-append_right broken.0 (x ∷ broken.1) x (0, omega arith, refl)))

-- two that come first are the same
same_first : {X : Type 0} (Holds : X → Type 0) (before other : List X) (x y : X) (after rest : List X) → before ++ x ∷ after ≡ other ++ y ∷ rest → All Holds before → All Holds other → (Holds x → ⊥) → (Holds y → ⊥) → x ≡ y
same_first Holds [] [] x y after rest same holds held no_x no_y = heads_same x y after rest same
same_first Holds [] (b ∷ other) x y after rest same holds held no_x no_y = absurd (no_x (subst Holds (sym (heads_same x b after (other ++ y ∷ rest) same)) (All-head Holds b other held)))
same_first Holds (a ∷ before) [] x y after rest same holds held no_x no_y = absurd (no_y (subst Holds (heads_same a y (before ++ x ∷ after) rest same) (All-head Holds a before holds)))
same_first Holds (a ∷ before) (b ∷ other) x y after rest same holds held no_x no_y =
    same_first Holds before other x y after rest (tails_same a b (before ++ x ∷ after) (other ++ y ∷ rest) same) (All-tail Holds a before holds) (All-tail Holds b other held) no_x no_y

module _ (I : InstanceValue) (g : List TypeValue) where
  not_accepted : (p : Progress) (line : CertLine) (fault : Cause) → IsAccepted I g p line → IsRefused I g p line fault → ⊥
  not_accepted p line fault accepted refused = none_broken (KeepsRule I g p line) (causes_of g) fault accepted refused

  one_cause : (p : Progress) (line : CertLine) (fault other : Cause) → IsRefused I g p line fault → IsRefused I g p line other → fault ≡ other
  one_cause p line fault other one two = same_first (KeepsRule I g p line) one.0 two.0 fault other one.1 two.1 (sym one.2 ∙ two.2) one.3 two.3 one.4 two.4

  -- a line that is refused behind others is not accepted there
  not_all : (p : Progress) (before : List CertLine) (line : CertLine) (after : List CertLine) (fault : Cause) → AreAccepted I g p (before ++ line ∷ after) → IsRefused I g (after_lines p before) line fault → ⊥
  not_all p [] line after fault all refused = not_accepted p line fault all.0 refused
  not_all p (b ∷ before) line after fault all refused = not_all (after_line p b) before line after fault all.1 refused

  none_refused : (p : Progress) (lines : List CertLine) (number : ℕ) (fault : Cause) → AreAccepted I g p lines → IsFirstRefused I g p lines number fault → ⊥
  none_refused p lines number fault all is = not_all p is.before is.line is.after fault (subst (AreAccepted I g p) is.all all) is.refused

  -- two lines that are refused first are the same
  same_refused : (p : Progress) (before other : List CertLine) (x y : CertLine) (after rest : List CertLine) (fault cause : Cause) → before ++ x ∷ after ≡ other ++ y ∷ rest → AreAccepted I g p before → AreAccepted I g p other → IsRefused I g (after_lines p before) x fault → IsRefused I g (after_lines p other) y cause → (length before ≡ length other) × (fault ≡ cause)
  same_refused p [] [] x y after rest fault cause same all both one two = (refl, one_cause p x fault cause one (subst (λ (l : CertLine). IsRefused I g p l cause) (sym (heads_same x y after rest same)) two))
  same_refused p [] (b ∷ other) x y after rest fault cause same all both one two = absurd (not_accepted p x fault (subst (IsAccepted I g p) (sym (heads_same x b after (other ++ y ∷ rest) same)) both.0) one)
  same_refused p (a ∷ before) [] x y after rest fault cause same all both one two = absurd (not_accepted p y cause (subst (IsAccepted I g p) (heads_same a y (before ++ x ∷ after) rest same) all.0) two)
  same_refused p (a ∷ before) (b ∷ other) x y after rest fault cause same all both one two =
      let first : a ≡ b = heads_same a b (before ++ x ∷ after) (other ++ y ∷ rest) same in
      let moved : AreAccepted I g (after_line p a) other = subst (λ (l : CertLine). AreAccepted I g (after_line p l) other) (sym first) both.1 in
      let there : IsRefused I g (after_lines (after_line p a) other) y cause = subst (λ (l : CertLine). IsRefused I g (after_lines (after_line p l) other) y cause) (sym first) two in
      let found = same_refused (after_line p a) before other x y after rest fault cause (tails_same a b (before ++ x ∷ after) (other ++ y ∷ rest) same) all.1 moved one there in
      (ap suc found.0, found.1)

  one_refused : (p : Progress) (lines : List CertLine) (n m : ℕ) (fault other : Cause) → IsFirstRefused I g p lines n fault → IsFirstRefused I g p lines m other → (n ≡ m) × (fault ≡ other)
  one_refused p lines n m fault other one two =
      let found = same_refused p one.before two.before one.line two.line one.after two.after fault other (sym one.all ∙ two.all) one.accepted two.accepted one.refused two.refused in
      let long = found.0 in
      let here = one.place in
      let there = two.place in
      (omega (arith, long, here, there), found.1)

not_both : (b : Bool) → b ≡ true → b ≡ false → ⊥
not_both b yes_here not_here = cc

pub faults_are_exact : FaultsAreExact
faults_are_exact = record {
  accepted = not_accepted;
  one_cause = one_cause;
  certified = λ I g lines claim number fault is broken. ⊎_elim
      (λ refused. none_refused I g (at_start I g) lines number fault is.each refused)
      (λ cut. not_both (after_lines (at_start I g) lines).ended is.whole cut.1)
      broken;
  one_fault = λ I g lines n m fault other one two. ⊎_elim
      (λ refused. ⊎_elim
      (λ again. one_refused I g (at_start I g) lines n m fault other refused again)
      (λ cut. absurd (none_refused I g (at_start I g) lines n fault cut.0 refused))
      two)
      (λ cut. ⊎_elim
      (λ refused. absurd (none_refused I g (at_start I g) lines m other cut.0 refused))
      (λ again. (cut.2 ∙ sym again.2, cut.3 ∙ sym again.3))
      two)
      one;
}
