-- Where no accepted line comes next: two ways to take accepted lines from one text up to there are the same.
use Rattle.std.proofs.Common.{◌≡◌, ◌≢◌, ℕ, Bool, true, false, List, [], ◌∷◌, ◌++◌, refl, sym, ◌∙◌, subst, inl, inr, append_assoc, arith}
use Rattle.std.proofs.lemmas.List.Elements.{All-contains, All-nil, Contains-append_right}
use Rattle.packing_laws.specs.Instances.{InstanceValue}
use Rattle.flow_graph.specs.Arcs.{TypeValue}
use Rattle.cert_text.specs.declared.lines.CertLine.{CertLine}
use Rattle.cert_text.specs.Spelling.{line_text_of, text_of}
use Rattle.cert_text.specs.Streams.{HasNext, HasNoFeed}
use Rattle.cert_text.proofs.Runs.{one_next}
use Rattle.cert_text.proofs.Texts.{body_of}
use Rattle.cert_laws.specs.declared.causes.Cause.{Cause}
use Rattle.cert_laws.specs.Rules.{Progress, after_line, after_lines, IsAccepted, IsRefused}
use Rattle.cert_laws.proofs.ExactFaults.{faults_are_exact}
use Rattle.cert_stream.specs.Verdicts.{Begins, HasRefused, IsNextFault, reading}
use Rattle.cert_stream.proofs.Behind.{text_first}

pub apart : {X : Type 0} (b : Bool) → b ≡ true → b ≡ false → X
apart b x y = absurd (let bad : true ≡ false = sym x ∙ y in cc)

-- a line feed inside
pub feed_inside : (text after : List ℕ) → HasNoFeed (text ++ 10 ∷ after) → ⊥
feed_inside text after none = All-contains (λ b. b ≢ 10) (text ++ 10 ∷ after) 10 none (Contains-append_right text (10 ∷ after) 10 (0, omega arith, refl)) refl

-- a line ends in its text
pub has_feed : (line : CertLine) (bytes after : List ℕ) → bytes ≡ line_text_of line ++ after → HasNoFeed bytes → ⊥
has_feed line bytes after is none = feed_inside (body_of line) after (subst HasNoFeed (is ∙ append_assoc (body_of line) (10 ∷ []) after) none)

pub not_nothing : (line : CertLine) (bytes after : List ℕ) → bytes ≡ line_text_of line ++ after → bytes ≡ [] → ⊥
not_nothing line bytes after is none = has_feed line [] after (sym none ∙ is) (All-nil (λ b. b ≢ 10))

-- the bytes begin with one line at most
pub one_line : (p : Progress) (rest : List ℕ) (l m : CertLine) (x y : List ℕ) → HasNext (reading p rest) l x → HasNext (reading p rest) m y → (l ≡ m) × (x ≡ y)
one_line p rest l m x y h k = one_next p.count p.version l m x y h.spelled k.spelled (sym h.bytes ∙ k.bytes)

module _ (I : InstanceValue) (g : List TypeValue) where
  -- no accepted line comes next
  abbrev pub IsStop : Progress → List ℕ → Type 0
  IsStop p rest = (line : CertLine) (after : List ℕ) → HasNext (reading p rest) line after → IsAccepted I g p line → ⊥

  pub partial_stops : (p : Progress) (rest : List ℕ) → HasNoFeed rest → IsStop p rest
  partial_stops p rest none line after next accepted = has_feed line rest after next.bytes none

  pub end_stops : (p : Progress) (rest : List ℕ) → p.ended ≡ true → IsStop p rest
  end_stops p rest ended line after next accepted = apart p.ended ended next.is_open

  pub refused_stops : (p : Progress) (rest : List ℕ) (fault : Cause) → HasRefused I g p rest fault → IsStop p rest
  refused_stops p rest fault has line after next accepted =
      let same = one_line p rest line has.line after has.after next has.next in
      faults_are_exact.accepted I g p line fault accepted (subst (λ (l : CertLine). IsRefused I g p l fault) (sym same.0) has.refused)

  pub fault_stops : (p : Progress) (rest : List ℕ) (fault : Cause) → IsNextFault I g p rest fault → IsStop p rest
  fault_stops p rest fault (inl past) = end_stops p rest past.0.0
  fault_stops p rest fault (inr (inl cut)) = λ line after next accepted. not_nothing line rest after next.bytes cut.0.1
  fault_stops p rest fault (inr (inr (inl no_line))) = λ line after next accepted. no_line.0.none line after next
  fault_stops p rest fault (inr (inr (inr refused))) = refused_stops p rest fault refused

  -- the first line of a text that begins with lines, and the others
  pub first_next : (p : Progress) (bytes : List ℕ) (line : CertLine) (lines : List CertLine) (rest : List ℕ) → Begins I g p bytes (line ∷ lines) rest → HasNext (reading p bytes) line (text_of lines ++ rest)
  first_next p bytes line lines rest begins = record {
    is_open = begins.spelled.0;
    spelled = begins.spelled.1;
    bytes = begins.parts ∙ text_first line lines rest;
  }

  pub behind_first : (p : Progress) (bytes : List ℕ) (line : CertLine) (lines : List CertLine) (rest : List ℕ) → Begins I g p bytes (line ∷ lines) rest → Begins I g (after_line p line) (text_of lines ++ rest) lines rest
  behind_first p bytes line lines rest begins = record { parts = refl; spelled = begins.spelled.2; accepted = begins.accepted.1 }

  nothing_first : (p : Progress) (bytes rest : List ℕ) (line : CertLine) (lines : List CertLine) (left : List ℕ) → Begins I g p bytes [] rest → Begins I g p bytes (line ∷ lines) left → IsStop p rest → ⊥
  nothing_first p bytes rest line lines left one other stop =
      stop line (text_of lines ++ left) (subst (λ (b : List ℕ). HasNext (reading p b) line (text_of lines ++ left)) one.parts (first_next p bytes line lines left other)) other.accepted.0

  pub same_stop : (p : Progress) (bytes : List ℕ) (lines : List CertLine) (rest : List ℕ) (others : List CertLine) (left : List ℕ) → Begins I g p bytes lines rest → Begins I g p bytes others left → IsStop (after_lines p lines) rest → IsStop (after_lines p others) left → (lines ≡ others) × (rest ≡ left)
  same_stop p bytes [] rest [] left one other stop end = (refl, sym one.parts ∙ other.parts)
  same_stop p bytes [] rest (m ∷ others) left one other stop end = absurd (nothing_first p bytes rest m others left one other stop)
  same_stop p bytes (l ∷ lines) rest [] left one other stop end = absurd (nothing_first p bytes left l lines rest other one end)
  same_stop p bytes (l ∷ lines) rest (m ∷ others) left one other stop end =
      let first = one_line p bytes l m (text_of lines ++ rest) (text_of others ++ left) (first_next p bytes l lines rest one) (first_next p bytes m others left other) in
      let moved : Begins I g (after_line p l) (text_of lines ++ rest) others left =
      subst (λ (b : List ℕ). Begins I g (after_line p l) b others left) (sym first.1)
      (subst (λ (x : CertLine). Begins I g (after_line p x) (text_of others ++ left) others left) (sym first.0) (behind_first p bytes m others left other)) in
      let stops : IsStop (after_lines (after_line p l) others) left = subst (λ (x : CertLine). IsStop (after_lines (after_line p x) others) left) (sym first.0) end in
      let found = same_stop (after_line p l) (text_of lines ++ rest) lines rest others left (behind_first p bytes l lines rest one) moved stop stops in
      let head = first.0 in
      let tail = found.0 in
      (λ i. head i ∷ tail i, found.1)
