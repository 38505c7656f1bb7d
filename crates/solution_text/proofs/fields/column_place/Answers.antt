use Rattle.std.proofs.Common.{◌≡◌, ℕ, ◌<◌, ◌^◌, ◌∷◌, [], List, length, sym, ap, ◌∙◌, refl, arith, rules}
use Rattle.std.specs.Prelude.{position, bytes_eq}
use Rattle.flow_graph.specs.Arcs.{numbered}
use Rattle.solution_text.specs.Fields.{column_names}
use Rattle.solution_text.proofs.ArcNumbers.{unnamed_nothing, unnamed_digits, unnamed_arc, unnamed_letter, named}
use Rattle.solution_text.proofs.fields.column_place.Goals as goal

pub returns-in_err-letter : goal.returns-in_err-letter
returns-in_err-letter c =
    let empty : c.args.name.now ≡ [] = none_in c.args.name.now c.in_err-letter.ensures.cases in
    c.from_residual.ensures ∙ sym (ap (λ (name : List ℕ). position (bytes_eq name) (column_names c.args.graph.now)) empty ∙ unnamed_nothing c.args.graph.now)
  where
    none_in : (xs : List ℕ) → length xs ≡ 0 → xs ≡ []
    none_in [] h = refl
    none_in (x ∷ xs) h = absurd (omega arith)

pub returns-in_err-arc : goal.returns-in_err-arc
returns-in_err-arc c =
    let few : length (numbered c.args.graph.now) < 2 ^ 31 = omega (arith, c.arc_count-count.ensures.value, c.arc_count-count.ensures.known) in
    let none = unnamed_digits c.args.graph.now c.in_ok-letter.letter.now c.in_ok-letter.digits.now few (c.in_err-arc.ensures.none (search rules)) in
    c.from_residual-in_err-arc.ensures ∙ sym (ap (λ (name : List ℕ). position (bytes_eq name) (column_names c.args.graph.now)) c.in_ok-letter.ensures.cases.0 ∙ none)

pub returns-in_err-kind : goal.returns-in_err-kind
returns-in_err-kind c =
    let few : length (numbered c.args.graph.now) < 2 ^ 31 = omega (arith, c.arc_count-count.ensures.value, c.arc_count-count.ensures.known) in
    let small : c.in_ok-arc.arc < 2 ^ 32 = search rules in
    let none = unnamed_arc c.args.graph.now c.in_ok-letter.letter.now c.in_ok-arc.arc c.in_ok-letter.digits.now few small c.in_ok-arc.ensures.some (sym c.in_err-kind.ensures.value) in
    c.from_residual-in_err-kind.ensures ∙ sym (ap (λ (name : List ℕ). position (bytes_eq name) (column_names c.args.graph.now)) c.in_ok-letter.ensures.cases.0 ∙ none)

pub returns-then-letter-letter_of : goal.returns-then-letter-letter_of
returns-then-letter-letter_of c =
    let few : length (numbered c.args.graph.now) < 2 ^ 31 = omega (arith, c.arc_count-count.ensures.value, c.arc_count-count.ensures.known) in
    let place = named c.args.graph.now c.in_ok-letter.letter.now c.in_ok-arc.arc c.in_ok-letter.digits.now c.in_ok-kind.kind few c.in_ok-arc.ensures.some (sym c.in_ok-kind.ensures.value) (c.if-letter-letter_of.true ∙ c.letter_of.ensures) in
    sym (ap (λ (name : List ℕ). position (bytes_eq name) (column_names c.args.graph.now)) c.in_ok-letter.ensures.cases.0 ∙ place)

pub returns-else-letter-letter_of : goal.returns-else-letter-letter_of
returns-else-letter-letter_of c =
    let few : length (numbered c.args.graph.now) < 2 ^ 31 = omega (arith, c.arc_count-count.ensures.value, c.arc_count-count.ensures.known) in
    let small : c.in_ok-arc.arc < 2 ^ 32 = search rules in
    let none = unnamed_letter c.args.graph.now c.in_ok-letter.letter.now c.in_ok-arc.arc c.in_ok-letter.digits.now c.in_ok-kind.kind few small c.in_ok-arc.ensures.some (sym c.in_ok-kind.ensures.value)
    (λ same. c.if-letter-letter_of.false (same ∙ sym c.letter_of.ensures)) in
    sym (ap (λ (name : List ℕ). position (bytes_eq name) (column_names c.args.graph.now)) c.in_ok-letter.ensures.cases.0 ∙ none)
