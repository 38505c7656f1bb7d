-- The places that a layout asks for, looked at in order over the list of all tokens. Each gives its value and the place
-- behind it, or the first fault.
use Rattle.std.specs.Prelude.{zero, suc, ◌≡◌, ℕ, ◌+◌, Bool, true, false, ◌&&◌, not, ◌==◌, nat_le, if◌then◌else◌, List, [], ◌∷◌, ◌++◌, Option, Some, None, Result, Ok, Err, MatchResult, ◌⊎◌, codes}
use Rattle.std.specs.List.{list_all}
use Rattle.std.specs.Str.{bytes_eq}
use Rattle.arc_num.specs.Words.{tokens_of}
use Rattle.arc_num.specs.Decimals.{are_digits, value_of}
use Rattle.arc_num.specs.declared.TheConstants.{MAX_VALUE}
use Rattle.packing_laws.specs.declared.fault.ReadFault.{ReadFault}
use Rattle.packing_laws.specs.declared.fault.ReadFault.TheVariants.{Short, NotNumber, Range, ZeroWeight, Extra, Memory}

-- where a walk over the tokens of a text stands: how many tokens it has passed, and the tokens that are left
pub record Place : Type 0 where
  pub count : ℕ
  pub left : List (List ℕ)

-- in front of the first token
abbrev pub front : List ℕ → Place
front text = record { count = 0; left = tokens_of text }

-- what is read first goes to what is read next; the first fault decides
infixl 10 ◌>>=◌
abbrev pub ◌>>=◌ : {A B : Type 0} → Result A ReadFault → (A → Result B ReadFault) → Result B ReadFault
(Ok x) >>= f = f x
(Err e) >>= f = Err e

-- what the first of the tokens stands for, and the place behind it; Short where there is none
abbrev pub token_in : {A : Type 0} → (ℕ → List ℕ → Result A ReadFault) → ℕ → List (List ℕ) → Result (A × Place) ReadFault
token_in meaning count [] = Err (Short (count + 1))
token_in meaning count (t ∷ ts) = do
  x ← meaning (count + 1) t
  Ok (x, record { count = count + 1; left = ts })

-- a token as a number from low to high: NotNumber where it is not of digits alone, and else Range where its value is outside
abbrev pub value_in : ℕ → ℕ → ℕ → List ℕ → Result ℕ ReadFault
value_in low high index t =
    if not (are_digits t) then Err (NotNumber index)
    else (if nat_le low (value_of t) && nat_le (value_of t) high then Ok (value_of t) else Err (Range index))

-- a token as a limit: -1 for none, and else a number
abbrev pub limit_in : ℕ → List ℕ → Result (Option ℕ) ReadFault
limit_in index t = if bytes_eq t (codes "-1") then Ok None else (value_in 0 MAX_VALUE index t >>= (λ v. Ok (Some v)))

-- a number from low to high
unfoldable pub next_number : ℕ → ℕ → Place → Result (ℕ × Place) ReadFault
next_number low high p = token_in (value_in low high) p.count p.left

-- a limit
unfoldable pub next_limit : Place → Result (Option ℕ × Place) ReadFault
next_limit p = token_in limit_in p.count p.left

-- n more values behind those that are there, each read in view of all before it
abbrev pub several : {A : Type 0} → ℕ → (List A → Place → Result (A × Place) ReadFault) → List A → Place → Result (List A × Place) ReadFault
several zero each xs p = Ok (xs, p)
several (suc n) each xs p = do
  x ← each xs p
  several n each (xs ++ x.0 ∷ []) x.1

-- a weight or a capacity in one dimension
abbrev pub component_behind : List ℕ → Place → Result (ℕ × Place) ReadFault
component_behind xs p = next_number 0 MAX_VALUE p

-- a vector: a number for each dimension
unfoldable pub next_vector : ℕ → Place → Result (List ℕ × Place) ReadFault
next_vector dims p = several dims component_behind [] p

-- a weight vector: ZeroWeight at its last number where all its numbers are 0
unfoldable pub next_form : ℕ → ℕ → ℕ → Place → Result (List ℕ × Place) ReadFault
next_form dims item form p = do
  v ← next_vector dims p
  if list_all (λ x. x == 0) v.0 then Err (ZeroWeight v.1.count item form) else Ok v

-- no token is left: Extra at the next token where there is one
abbrev pub end_in : ℕ → List (List ℕ) → Result (Unit {0}) ReadFault
end_in count [] = Ok tt
end_in count (t ∷ ts) = Err (Extra (count + 1))

unfoldable pub end_at : Place → Result (Unit {0}) ReadFault
end_at p = end_in p.count p.left

-- whether the word `caps` follows, or else the end of the text: Extra at any other token
abbrev pub caps_word_in : ℕ → List (List ℕ) → Result (Bool × Place) ReadFault
caps_word_in count [] = Ok (false, record { count = count; left = [] })
caps_word_in count (t ∷ ts) =
    if bytes_eq t (codes "caps") then Ok (true, record { count = count + 1; left = ts }) else Err (Extra (count + 1))

unfoldable pub caps_word : Place → Result (Bool × Place) ReadFault
caps_word p = caps_word_in p.count p.left

-- a call returned what is read, and stands at the place behind it, or it returned the fault
abbrev pub Gives : {A : Type 0} → Result A ReadFault → Place → Result (A × Place) ReadFault → Type 0
Gives result after read = MatchResult result (λ x. read ≡ Ok (x, after)) (λ e. read ≡ Err e)

-- the same of a call that takes memory, which may also return want of memory
abbrev pub GivesOrMemory : {A : Type 0} → Result A ReadFault → Place → Result (A × Place) ReadFault → Type 0
GivesOrMemory result after read = MatchResult result (λ x. read ≡ Ok (x, after)) (λ e. (e ≡ Memory) ⊎ (read ≡ Err e))

-- the last call of a walk returned the answer, or want of memory
abbrev pub AnswersOrMemory : {A : Type 0} → Result A ReadFault → Result A ReadFault → Type 0
AnswersOrMemory result answer = MatchResult result (λ x. answer ≡ Ok x) (λ e. (e ≡ Memory) ⊎ (answer ≡ Err e))
