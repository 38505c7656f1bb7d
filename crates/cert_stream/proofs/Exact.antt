-- No text has two verdicts, and what one shows is so.
use Rattle.std.proofs.Common.{◌≡◌, ℕ, ◌+◌, true, List, [], length, refl, sym, ap, ◌∙◌, subst, inl, inr}
use Rattle.packing_laws.specs.Instances.{InstanceValue}
use Rattle.flow_graph.specs.Arcs.{TypeValue}
use Rattle.cert_text.specs.declared.lines.CertLine.{CertLine}
use Rattle.cert_laws.specs.declared.causes.Cause.{Cause}
use Rattle.cert_laws.specs.Rules.{Progress, after_lines, at_start, IsRefused}
use Rattle.cert_laws.proofs.Certified.{certified_is_so}
use Rattle.cert_laws.proofs.ExactFaults.{faults_are_exact}
use Rattle.cert_stream.specs.declared.verdict.Verdict.TheVariants.{Shown, Faulty, TooLong}
use Rattle.cert_stream.specs.Laws.{VerdictsAreExact, VerdictsAreSo}
use Rattle.cert_stream.specs.Verdicts.{IsFaultyAt, IsNextFault, IsShown}
use Rattle.cert_stream.proofs.Stops.{apart, end_stops, fault_stops, not_nothing, one_line, same_stop}

module _ (I : InstanceValue) (g : List TypeValue) where
  -- one thing is wrong
  one_fault : (p : Progress) (rest : List ℕ) (fault other : Cause) → IsNextFault I g p rest fault → IsNextFault I g p rest other → fault ≡ other
  one_fault p rest fault other (inl a) (inl b) = a.1 ∙ sym b.1
  one_fault p rest fault other (inl a) (inr (inl b)) = apart p.ended a.0.0 b.0.0
  one_fault p rest fault other (inl a) (inr (inr (inl b))) = apart p.ended a.0.0 b.0.is_open
  one_fault p rest fault other (inl a) (inr (inr (inr b))) = apart p.ended a.0.0 b.next.is_open
  one_fault p rest fault other (inr (inl a)) (inl b) = apart p.ended b.0.0 a.0.0
  one_fault p rest fault other (inr (inl a)) (inr (inl b)) = a.1 ∙ sym b.1
  one_fault p rest fault other (inr (inl a)) (inr (inr (inl b))) = absurd (b.0.more a.0.1)
  one_fault p rest fault other (inr (inl a)) (inr (inr (inr b))) = absurd (not_nothing b.line rest b.after b.next.bytes a.0.1)
  one_fault p rest fault other (inr (inr (inl a))) (inl b) = apart p.ended b.0.0 a.0.is_open
  one_fault p rest fault other (inr (inr (inl a))) (inr (inl b)) = absurd (a.0.more b.0.1)
  one_fault p rest fault other (inr (inr (inl a))) (inr (inr (inl b))) = a.1 ∙ sym b.1
  one_fault p rest fault other (inr (inr (inl a))) (inr (inr (inr b))) = absurd (a.0.none b.line b.after b.next)
  one_fault p rest fault other (inr (inr (inr a))) (inl b) = apart p.ended b.0.0 a.next.is_open
  one_fault p rest fault other (inr (inr (inr a))) (inr (inl b)) = absurd (not_nothing a.line rest a.after a.next.bytes b.0.1)
  one_fault p rest fault other (inr (inr (inr a))) (inr (inr (inl b))) = absurd (b.0.none a.line a.after a.next)
  one_fault p rest fault other (inr (inr (inr a))) (inr (inr (inr b))) =
      let same = one_line p rest a.line b.line a.after b.after a.next b.next in
      faults_are_exact.one_cause I g p a.line fault other a.refused (subst (λ (l : CertLine). IsRefused I g p l other) (sym same.0) b.refused)

  -- nothing is wrong at the end
  none_wrong : (p : Progress) (fault : Cause) → p.ended ≡ true → IsNextFault I g p [] fault → ⊥
  none_wrong p fault ended (inl a) = a.0.1 refl
  none_wrong p fault ended (inr (inl a)) = apart p.ended ended a.0.0
  none_wrong p fault ended (inr (inr (inl a))) = apart p.ended ended a.0.is_open
  none_wrong p fault ended (inr (inr (inr a))) = apart p.ended ended a.next.is_open

  shown_same : (bytes : List ℕ) (lines others : List CertLine) → IsShown I g bytes lines → IsShown I g bytes others → lines ≡ others
  shown_same bytes lines others one other =
      (same_stop I g (at_start I g) bytes lines [] others [] one.begins other.begins
      (end_stops I g (after_lines (at_start I g) lines) [] one.ended)
      (end_stops I g (after_lines (at_start I g) others) [] other.ended)).0

  not_both : (bytes : List ℕ) (lines : List CertLine) (number : ℕ) (fault : Cause) → IsShown I g bytes lines → IsFaultyAt I g bytes number fault → ⊥
  not_both bytes lines number fault one other =
      let same = same_stop I g (at_start I g) bytes lines [] other.lines other.rest one.begins other.begins
      (end_stops I g (after_lines (at_start I g) lines) [] one.ended)
      (fault_stops I g (after_lines (at_start I g) other.lines) other.rest fault other.next) in
      none_wrong (after_lines (at_start I g) lines) fault one.ended
      (subst (λ (ls : List CertLine). IsNextFault I g (after_lines (at_start I g) ls) [] fault) (sym same.0)
      (subst (λ (r : List ℕ). IsNextFault I g (after_lines (at_start I g) other.lines) r fault) (sym same.1) other.next))

  faulty_same : (bytes : List ℕ) (number count : ℕ) (fault cause : Cause) → IsFaultyAt I g bytes number fault → IsFaultyAt I g bytes count cause → (number ≡ count) × (fault ≡ cause)
  faulty_same bytes number count fault cause one other =
      let same = same_stop I g (at_start I g) bytes one.lines one.rest other.lines other.rest one.begins other.begins
      (fault_stops I g (after_lines (at_start I g) one.lines) one.rest fault one.next)
      (fault_stops I g (after_lines (at_start I g) other.lines) other.rest cause other.next) in
      let moved : IsNextFault I g (after_lines (at_start I g) one.lines) one.rest cause =
      subst (λ (ls : List CertLine). IsNextFault I g (after_lines (at_start I g) ls) one.rest cause) (sym same.0)
      (subst (λ (r : List ℕ). IsNextFault I g (after_lines (at_start I g) other.lines) r cause) (sym same.1) other.next) in
      (one.place ∙ ap (λ ls. length ls + 1) same.0 ∙ sym other.place, one_fault (after_lines (at_start I g) one.lines) one.rest fault cause one.next moved)

pub verdicts_are_exact : VerdictsAreExact
verdicts_are_exact I g bytes (Shown claim) (Shown other) one two =
    let same = shown_same I g bytes one.1.0 two.1.0 one.1.1 two.1.1 in
    ap (λ c. Shown c) (one.1.2 ∙ ap (λ ls. (after_lines (at_start I g) ls).claim) same ∙ sym two.1.2)
verdicts_are_exact I g bytes (Shown claim) (Faulty number fault) one two = absurd (not_both I g bytes one.1.0 number fault one.1.1 two.1)
verdicts_are_exact I g bytes (Shown claim) TooLong one two = absurd (one.0 two)
verdicts_are_exact I g bytes (Faulty number fault) (Shown claim) one two = absurd (not_both I g bytes two.1.0 number fault two.1.1 one.1)
verdicts_are_exact I g bytes (Faulty number fault) (Faulty count cause) one two =
    let same = faulty_same I g bytes number count fault cause one.1 two.1 in
    let number_is = same.0 in
    let fault_is = same.1 in
    λ i. Faulty (number_is i) (fault_is i)
verdicts_are_exact I g bytes (Faulty number fault) TooLong one two = absurd (one.0 two)
verdicts_are_exact I g bytes TooLong (Shown claim) one two = absurd (two.0 one)
verdicts_are_exact I g bytes TooLong (Faulty number fault) one two = absurd (two.0 one)
verdicts_are_exact I g bytes TooLong TooLong one two = refl

pub verdicts_are_so : VerdictsAreSo
verdicts_are_so I g bytes claim is graph faithful verdict =
    certified_is_so I g verdict.1.0 claim is graph faithful (record { each = verdict.1.1.begins.accepted; whole = verdict.1.1.ended; told = sym verdict.1.2 })
