-- The names of rows and columns: short, printable, and each another one.
use Rattle.std.proofs.Common.{◌≡◌, ℕ, ◌+◌, ◌%◌, ◌^◌, ◌<◌, ◌≤◌, List, [], ◌∷◌, ◌++◌, length, get_or, drop, refl, sym, ap, ◌∙◌, subst, arith, All, length-append, append_assoc}
use Rattle.std.specs.Prelude.{decimal, codes}
use Rattle.std.proofs.lemmas.Fmt.{decimal_by_steps, length-decimal-le, decimal_injective}
use Rattle.std.proofs.lemmas.List.Elements.{All-cons, All-nil, All-push, All-append, All-head, All-tail, All-weaker}
use Rattle.flow_graph.specs.declared.parts.ArcKind.{ArcKind}
use Rattle.flow_graph.specs.declared.parts.ArcKind.TheVariants.{Bin, Loss, Piece}
use Rattle.flow_model.specs.Programs.{IsName}
use Rattle.flow_model.specs.Models.{node_name, item_name, arc_name}

abbrev pub IsDigit : ℕ → Type 0
IsDigit b = (48 ≤ b) × (b ≤ 57)

abbrev pub IsPrinted : ℕ → Type 0
IsPrinted b = (33 ≤ b) × (b ≤ 126)

pub last_digit : (n : ℕ) → n % 10 < 10
last_digit n = omega arith

pub all_digits : (n : ℕ) → n < 2 ^ 64 → All IsDigit (decimal n)
all_digits n small = decimal_by_steps (λ n ds. All IsDigit ds)
    (λ n one. All-cons IsDigit (48 + n) [] (omega arith, omega (arith, one)) (All-nil IsDigit))
    (λ n ds more front. All-push IsDigit ds (48 + n % 10) front (omega arith, let low = last_digit n in omega (arith, low)))
    n small

pub all_printed : (n : ℕ) → n < 2 ^ 64 → All IsPrinted (decimal n)
all_printed n small = All-weaker IsDigit IsPrinted (λ b digit. (omega (arith, digit.0), omega (arith, digit.1))) (decimal n) (all_digits n small)

pub short : (n : ℕ) → n < 2 ^ 32 → length (decimal n) ≤ 10
short n small = length-decimal-le 10 n (omega arith) (omega (arith, small)) (omega (arith, small))

-- a name that begins with another byte than the word for marks
pub named : (b : ℕ) (rest : List ℕ) → IsPrinted b → (b ≡ 39 → ⊥) → All IsPrinted rest → length rest ≤ 254 → IsName (b ∷ rest)
named b rest printed apart all few = record {
  size = (omega arith, omega (arith, few));
  bytes = All-cons IsPrinted b rest printed all;
  other = λ same. apart (ap (λ (l : List ℕ). get_or l 0 0) same);
}

pub objective_named : IsName (codes "COST")
objective_named = named 67 (79 ∷ 83 ∷ 84 ∷ []) (omega arith, omega arith) (λ e. omega (arith, e)) (All-cons IsPrinted 79 (83 ∷ 84 ∷ []) (omega arith, omega arith) (All-cons IsPrinted 83 (84 ∷ []) (omega arith, omega arith) (All-cons IsPrinted 84 [] (omega arith, omega arith) (All-nil IsPrinted)))) (omega arith)

pub letter_named : (b n : ℕ) → IsPrinted b → (b ≡ 39 → ⊥) → n < 2 ^ 32 → IsName (b ∷ decimal n)
letter_named b n printed apart small = named b (decimal n) printed apart (all_printed n (omega (arith, small))) (let long = short n small in omega (arith, long))

pub item_named : (i : ℕ) → i < 2 ^ 32 → IsName (item_name i)
item_named i small = letter_named 68 i (omega arith, omega arith) (λ e. omega (arith, e)) small

pub arc_named : (a : ℕ) (kind : ArcKind) → a < 2 ^ 32 → IsName (arc_name a kind)
arc_named a (Bin t) small = letter_named 90 a (omega arith, omega arith) (λ e. omega (arith, e)) small
arc_named a (Loss t tail head) small = letter_named 70 a (omega arith, omega arith) (λ e. omega (arith, e)) small
arc_named a (Piece t tail head item form) small = letter_named 70 a (omega arith, omega arith) (λ e. omega (arith, e)) small

-- a name of a node: `N`, digits, `_` and digits
abbrev pub node_rest : ℕ → ℕ → List ℕ
node_rest t v = decimal t ++ 95 ∷ decimal v

pub node_is : (t v : ℕ) → node_name t v ≡ 78 ∷ node_rest t v
node_is t v = ap (λ l. 78 ∷ l) (append_assoc (decimal t) (95 ∷ []) (decimal v))

pub node_named : (t v : ℕ) → t < 2 ^ 32 → v < 2 ^ 32 → IsName (node_name t v)
node_named t v small few = subst IsName (sym (node_is t v)) (named 78 (node_rest t v) (omega arith, omega arith) (λ e. omega (arith, e)) (All-append IsPrinted (decimal t) (95 ∷ decimal v) (all_printed t (omega (arith, small))) (All-cons IsPrinted 95 (decimal v) (omega arith, omega arith) (all_printed v (omega (arith, few))))) (let one = short t small in let two = short v few in let long = length-append (decimal t) (95 ∷ decimal v) in omega (arith, one, two, long)))

-- digits up to a `_` are told apart from those after it
pub digits_split : (xs ys vs ws : List ℕ) → All IsDigit xs → All IsDigit ys → xs ++ 95 ∷ vs ≡ ys ++ 95 ∷ ws → (xs ≡ ys) × (vs ≡ ws)
digits_split [] [] vs ws one two same = (refl, ap (drop 1) same)
digits_split [] (y ∷ ys) vs ws one two same =
    let first : 95 ≡ y = ap (λ (l : List ℕ). get_or l 0 0) same in
    let digit = All-head IsDigit y ys two in
    absurd (omega (arith, first, digit.1))
digits_split (x ∷ xs) [] vs ws one two same =
    let first : x ≡ 95 = ap (λ (l : List ℕ). get_or l 0 0) same in
    let digit = All-head IsDigit x xs one in
    absurd (omega (arith, first, digit.1))
digits_split (x ∷ xs) (y ∷ ys) vs ws one two same =
    let first : x ≡ y = ap (λ (l : List ℕ). get_or l 0 0) same in
    let rest = digits_split xs ys vs ws (All-tail IsDigit x xs one) (All-tail IsDigit y ys two) (ap (drop 1) same) in
    ((λ k. first k ∷ rest.0 k), rest.1)

pub node_names : (t v s u : ℕ) → t < 2 ^ 32 → v < 2 ^ 32 → s < 2 ^ 32 → u < 2 ^ 32 → node_name t v ≡ node_name s u → (t ≡ s) × (v ≡ u)
node_names t v s u one two three four same =
    let rest : node_rest t v ≡ node_rest s u = ap (drop 1) (sym (node_is t v) ∙ same ∙ node_is s u) in
    let parts = digits_split (decimal t) (decimal s) (decimal v) (decimal u) (all_digits t (omega (arith, one))) (all_digits s (omega (arith, three))) rest in
    (decimal_injective t s (omega (arith, one)) (omega (arith, three)) parts.0, decimal_injective v u (omega (arith, two)) (omega (arith, four)) parts.1)

pub item_names : (i j : ℕ) → i < 2 ^ 32 → j < 2 ^ 32 → item_name i ≡ item_name j → i ≡ j
item_names i j one two same = decimal_injective i j (omega (arith, one)) (omega (arith, two)) (ap (drop 1) same)

pub arc_rest : (a : ℕ) (kind : ArcKind) → drop 1 (arc_name a kind) ≡ decimal a
arc_rest a (Bin t) = refl
arc_rest a (Loss t tail head) = refl
arc_rest a (Piece t tail head item form) = refl

pub arc_names : (a b : ℕ) (kind other : ArcKind) → a < 2 ^ 32 → b < 2 ^ 32 → arc_name a kind ≡ arc_name b other → a ≡ b
arc_names a b kind other one two same = decimal_injective a b (omega (arith, one)) (omega (arith, two)) (sym (arc_rest a kind) ∙ ap (drop 1) same ∙ arc_rest b other)

-- the first bytes tell nodes, items and the objective apart
pub node_not_item : (t v i : ℕ) → node_name t v ≡ item_name i → ⊥
node_not_item t v i same = let first : 78 ≡ 68 = ap (λ (l : List ℕ). get_or l 0 0) same in omega (arith, first)

pub node_not_objective : (t v : ℕ) → codes "COST" ≡ node_name t v → ⊥
node_not_objective t v same = let first : 67 ≡ 78 = ap (λ (l : List ℕ). get_or l 0 0) same in omega (arith, first)

pub item_not_objective : (i : ℕ) → codes "COST" ≡ item_name i → ⊥
item_not_objective i same = let first : 67 ≡ 68 = ap (λ (l : List ℕ). get_or l 0 0) same in omega (arith, first)
