-- The first broken rule, from what is known of each rule.
use Rattle.std.proofs.Common.{◌≡◌, ℕ, zero, suc, ◌-◌, ◌≤◌, ◌<◌, List, [], ◌∷◌, ◌++◌, length, map, refl, sym, ap, ◌∙◌, arith, ⊎_elim}
use Rattle.std.specs.Prelude.{All}
use Rattle.std.proofs.lemmas.Bool.{cases_eq}
use Rattle.std.proofs.lemmas.List.{append_assoc, map-append}
use Rattle.std.proofs.lemmas.List.Elements.{All-cons, All-nil, All-append, All-map}
use Rattle.packing_laws.specs.Instances.{IsAmong}
use Rattle.flow_graph.specs.Arcs.{TypeValue}
use Rattle.flow_model.specs.Flows.{up_to}
use Rattle.cert_laws.specs.declared.causes.Cause.{Cause}
use Rattle.cert_laws.specs.declared.causes.Cause.TheVariants.{Text, Extra, Unfinished, NoItem, NoArc, NotSplit, NotNeeded, NotStep, Gain, Weak}
use Rattle.cert_laws.specs.Rules.{causes_of, IsFirstBroken}

-- the numbers up to n hold one by one
up_to_each : (P : ℕ → Type 0) (n : ℕ) → ((t : ℕ) → IsAmong t n → P t) → All P (up_to n)
up_to_each P zero each = All-nil P
up_to_each P (suc n) each = All-append P (up_to n) (suc n ∷ []) (up_to_each P n (λ t among. each t (among.0, omega (arith, among.1)))) (All-cons P (suc n) [] (each (suc n) (omega arith, omega arith)) (All-nil P))

-- a number up to n, and those before it
up_to_parts : (n t : ℕ) → IsAmong t n → (rest : List ℕ) × (up_to n ≡ up_to (t - 1) ++ t ∷ rest)
up_to_parts zero t among = absurd (omega (arith, among.0, among.1))
up_to_parts (suc n) t among = ⊎_elim
    (λ last.
    let before : n ≡ t - 1 = omega (arith, last) in
    ([], (λ i. up_to (before i) ++ sym last i ∷ [])))
    (λ apart.
    let rest = up_to_parts n t (among.0, omega (arith, among.1, apart)) in
    (rest.0 ++ suc n ∷ [], ap (λ (xs : List ℕ). xs ++ suc n ∷ []) rest.1 ∙ append_assoc (up_to (t - 1)) (t ∷ rest.0) (suc n ∷ [])))
    (cases_eq t (suc n))

-- the gains of these types, and what comes after them
abbrev gains : List TypeValue → List Cause
gains g = map (λ t. Gain t) (up_to (length g)) ++ Weak ∷ []

module _ (P : Cause → Type 0) (g : List TypeValue) where
  pub at_text : (P Text → ⊥) → IsFirstBroken P (causes_of g) Text
  at_text broken = ([], Extra ∷ Unfinished ∷ NoItem ∷ NoArc ∷ NotSplit ∷ NotNeeded ∷ NotStep ∷ gains g, refl, All-nil P, broken)

  pub at_extra : P Text → (P Extra → ⊥) → IsFirstBroken P (causes_of g) Extra
  at_extra a broken = (Text ∷ [], Unfinished ∷ NoItem ∷ NoArc ∷ NotSplit ∷ NotNeeded ∷ NotStep ∷ gains g, refl, All-cons P Text [] a (All-nil P), broken)

  pub at_unfinished : P Text → P Extra → (P Unfinished → ⊥) → IsFirstBroken P (causes_of g) Unfinished
  at_unfinished a b broken = (Text ∷ Extra ∷ [], NoItem ∷ NoArc ∷ NotSplit ∷ NotNeeded ∷ NotStep ∷ gains g, refl, All-cons P Text (Extra ∷ []) a (All-cons P Extra [] b (All-nil P)), broken)

  -- the rules on where a line stands, before others
  front : (rest : List Cause) → P Text → P Extra → P Unfinished → All P rest → All P (Text ∷ Extra ∷ Unfinished ∷ rest)
  front rest a b c all = All-cons P Text (Extra ∷ Unfinished ∷ rest) a (All-cons P Extra (Unfinished ∷ rest) b (All-cons P Unfinished rest c all))

  pub at_no_item : P Text → P Extra → P Unfinished → (P NoItem → ⊥) → IsFirstBroken P (causes_of g) NoItem
  at_no_item a b c broken = (Text ∷ Extra ∷ Unfinished ∷ [], NoArc ∷ NotSplit ∷ NotNeeded ∷ NotStep ∷ gains g, refl, front [] a b c (All-nil P), broken)

  pub at_no_arc : P Text → P Extra → P Unfinished → P NoItem → (P NoArc → ⊥) → IsFirstBroken P (causes_of g) NoArc
  at_no_arc a b c d broken = (Text ∷ Extra ∷ Unfinished ∷ NoItem ∷ [], NotSplit ∷ NotNeeded ∷ NotStep ∷ gains g, refl, front (NoItem ∷ []) a b c (All-cons P NoItem [] d (All-nil P)), broken)

  -- the rules on what a line names, before others
  names : (rest : List Cause) → P NoItem → P NoArc → All P rest → All P (NoItem ∷ NoArc ∷ rest)
  names rest d e all = All-cons P NoItem (NoArc ∷ rest) d (All-cons P NoArc rest e all)

  pub at_not_split : P Text → P Extra → P Unfinished → P NoItem → P NoArc → (P NotSplit → ⊥) → IsFirstBroken P (causes_of g) NotSplit
  at_not_split a b c d e broken = (Text ∷ Extra ∷ Unfinished ∷ NoItem ∷ NoArc ∷ [], NotNeeded ∷ NotStep ∷ gains g, refl, front (NoItem ∷ NoArc ∷ []) a b c (names [] d e (All-nil P)), broken)

  pub at_not_needed : P Text → P Extra → P Unfinished → P NoItem → P NoArc → P NotSplit → (P NotNeeded → ⊥) → IsFirstBroken P (causes_of g) NotNeeded
  at_not_needed a b c d e f broken = (Text ∷ Extra ∷ Unfinished ∷ NoItem ∷ NoArc ∷ NotSplit ∷ [], NotStep ∷ gains g, refl, front (NoItem ∷ NoArc ∷ NotSplit ∷ []) a b c (names (NotSplit ∷ []) d e (All-cons P NotSplit [] f (All-nil P))), broken)

  pub at_not_step : P Text → P Extra → P Unfinished → P NoItem → P NoArc → P NotSplit → P NotNeeded → (P NotStep → ⊥) → IsFirstBroken P (causes_of g) NotStep
  at_not_step a b c d e f h broken = (Text ∷ Extra ∷ Unfinished ∷ NoItem ∷ NoArc ∷ NotSplit ∷ NotNeeded ∷ [], gains g, refl, front (NoItem ∷ NoArc ∷ NotSplit ∷ NotNeeded ∷ []) a b c (names (NotSplit ∷ NotNeeded ∷ []) d e (All-cons P NotSplit (NotNeeded ∷ []) f (All-cons P NotNeeded [] h (All-nil P)))), broken)

  -- all rules before those on gains
  eight : (rest : List Cause) → P Text → P Extra → P Unfinished → P NoItem → P NoArc → P NotSplit → P NotNeeded → P NotStep → All P rest → All P (Text ∷ Extra ∷ Unfinished ∷ NoItem ∷ NoArc ∷ NotSplit ∷ NotNeeded ∷ NotStep ∷ rest)
  eight rest a b c d e f h k all =
      front (NoItem ∷ NoArc ∷ NotSplit ∷ NotNeeded ∷ NotStep ∷ rest) a b c
      (names (NotSplit ∷ NotNeeded ∷ NotStep ∷ rest) d e (All-cons P NotSplit (NotNeeded ∷ NotStep ∷ rest) f (All-cons P NotNeeded (NotStep ∷ rest) h (All-cons P NotStep rest k all))))

  gains_hold : (n : ℕ) → ((t : ℕ) → IsAmong t n → P (Gain t)) → All P (map (λ t. Gain t) (up_to n))
  gains_hold n each = All-map P (λ t. Gain t) (up_to n) (up_to_each (λ t. P (Gain t)) n each)

  pub at_gain : (t : ℕ) → IsAmong t (length g) → P Text → P Extra → P Unfinished → P NoItem → P NoArc → P NotSplit → P NotNeeded → P NotStep → ((s : ℕ) → 1 ≤ s → s < t → P (Gain s)) → (P (Gain t) → ⊥) → IsFirstBroken P (causes_of g) (Gain t)
  at_gain t among a b c d e f h k each broken =
      let parts = up_to_parts (length g) t among in
      let before : List Cause = map (λ s. Gain s) (up_to (t - 1)) in
      let after : List Cause = map (λ s. Gain s) parts.0 in
      let split : gains g ≡ before ++ (Gain t ∷ (after ++ Weak ∷ [])) =
      ap (λ (xs : List ℕ). map (λ s. Gain s) xs ++ Weak ∷ []) parts.1
      ∙ ap (λ (xs : List Cause). xs ++ Weak ∷ []) (map-append (λ s. Gain s) (up_to (t - 1)) (t ∷ parts.0))
      ∙ append_assoc before (Gain t ∷ after) (Weak ∷ []) in (
        Text ∷ Extra ∷ Unfinished ∷ NoItem ∷ NoArc ∷ NotSplit ∷ NotNeeded ∷ NotStep ∷ before,
        after ++ Weak ∷ [],
        ap (λ (xs : List Cause). Text ∷ Extra ∷ Unfinished ∷ NoItem ∷ NoArc ∷ NotSplit ∷ NotNeeded ∷ NotStep ∷ xs) split,
        eight before a b c d e f h k (gains_hold (t - 1) (λ s among. each s among.0 (omega (arith, among.1, among.0)))),
        broken,
      )

  pub at_weak : P Text → P Extra → P Unfinished → P NoItem → P NoArc → P NotSplit → P NotNeeded → P NotStep → ((t : ℕ) → IsAmong t (length g) → P (Gain t)) → (P Weak → ⊥) → IsFirstBroken P (causes_of g) Weak
  at_weak a b c d e f h k each broken = (Text ∷ Extra ∷ Unfinished ∷ NoItem ∷ NoArc ∷ NotSplit ∷ NotNeeded ∷ NotStep ∷ map (λ t. Gain t) (up_to (length g)), [], refl, eight (map (λ t. Gain t) (up_to (length g))) a b c d e f h k (gains_hold (length g) each), broken)

  pub none : P Text → P Extra → P Unfinished → P NoItem → P NoArc → P NotSplit → P NotNeeded → P NotStep → ((t : ℕ) → IsAmong t (length g) → P (Gain t)) → P Weak → All P (causes_of g)
  none a b c d e f h k each w = eight (gains g) a b c d e f h k (All-append P (map (λ t. Gain t) (up_to (length g))) (Weak ∷ []) (gains_hold (length g) each) (All-cons P Weak [] w (All-nil P)))
