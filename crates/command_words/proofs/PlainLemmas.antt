-- Where no word is faulty, the plain words are as many as the command has, and its numbers are in their ranges.
use Rattle.std.proofs.Common.{◌≡◌, ◌∙◌, ℕ, zero, suc, ◌+◌, Bool, true, false, cond, List, [], ◌∷◌, ◌++◌, Option, Some, None, Ok, refl, sym, ap, subst, slice_get, length, arith}
use Rattle.std.specs.Prelude.{option_and_then}
use Rattle.std.proofs.lemmas.Bool.{ltb-false}
use Rattle.std.proofs.lemmas.List.{length-append}
use Rattle.std.proofs.lemmas.List.Elements.{filter_map-append}
use Rattle.std.proofs.lemmas.Option.{slice_get-get_or}
use Rattle.arc_num.specs.Decimals.{number_of}
use Rattle.arc_num.specs.declared.TheConstants.{MAX_ITEMS}
use Rattle.command_words.specs.declared.table.PlainWord.{PlainWord}
use Rattle.command_words.specs.declared.table.PlainWord.TheVariants as plain
use Rattle.command_words.specs.declared.table.Shape.{Shape}
use Rattle.command_words.specs.declared.faults.WordFault.{WordFault}
use Rattle.command_words.specs.Words.{Word}
use Rattle.command_words.specs.Table.{plain_at, plain_count, generated_instance_shape}
use Rattle.command_words.specs.Parts.{PartValue, Plain, Unknown, Bare, Joined, Next, parts_of}
use Rattle.command_words.specs.Faults.{plain_text, plains_in, plain_fault, is_number, part_fault, first_fault, fault_in, plain_of, unless, said_by, HasPlains}
use Rattle.command_words.specs.Requests.{IsSize}
use Rattle.command_words.proofs.ValueLemmas.{or_none, no_value_fault, counted, has_number}

-- the plain words before the next part
more_plains : (before : List PartValue) (p : PartValue) → length (plains_in (before ++ p ∷ [])) ≡ length (plains_in before) + length (plains_in (p ∷ []))
more_plains before p = ap (λ (ws : List Word). length ws) (filter_map-append plain_text before (p ∷ [])) ∙ length-append (plains_in before) (plains_in (p ∷ []))

-- a plain word without a fault where a number stands
in_range : (o : Option PlainWord) (least most : ℕ) (before : List Word) (w : Word) (k : ℕ) → o ≡ Some (plain.Number least most) → plain_fault o before w k ≡ None → is_number least most w ≡ true
in_range o least most before w k e none = no_value_fault (is_number least most w) _ (subst (λ (q : Option PlainWord). plain_fault q before w k ≡ None) e none)

-- the plain words of these parts are numbers in their ranges where such stand, behind as many plain words
abbrev AreNumbers : Shape → ℕ → List Word → Type 0
AreNumbers shape count ws = (n least most : ℕ) (w : Word) → plain_at shape (count + n) ≡ Some (plain.Number least most) → slice_get ws n ≡ Some w → is_number least most w ≡ true

counted_from : (shape : Shape) (a b : ℕ) (ws : List Word) → a ≡ b → AreNumbers shape a ws → AreNumbers shape b ws
counted_from shape a b ws same numbers = subst (λ (k : ℕ). AreNumbers shape k ws) same numbers

one_more : (shape : Shape) (before : List Word) (text : Word) (k : ℕ) (ws : List Word) → plain_fault (plain_at shape (length before)) before text k ≡ None → AreNumbers shape (length before + 1) ws → AreNumbers shape (length before) (text ∷ ws)
one_more shape before text k ws none rest zero least most w at e =
    let same : text ≡ w = cc in
    subst (λ (v : Word). is_number least most v ≡ true) same (in_range (plain_at shape (length before)) least most before text k (ap (λ (m : ℕ). plain_at shape m) here ∙ at) none)
  where
    here : length before ≡ length before + 0
    here = omega arith
one_more shape before text k ws none rest (suc n) least most w at e = rest n least most w (ap (λ (m : ℕ). plain_at shape m) next ∙ at) e
  where
    next : length before + 1 + n ≡ length before + suc n
    next = omega arith

as_before : (count : ℕ) → count + 0 ≡ count
as_before count = omega arith

-- a part without a fault in front
one_part : (shape : Shape) (before : List PartValue) (p : PartValue) (ws : List Word) → part_fault shape before p ≡ None → AreNumbers shape (length (plains_in before) + length (plains_in (p ∷ []))) ws → AreNumbers shape (length (plains_in before)) (plains_in (p ∷ []) ++ ws)
one_part shape before (Plain text k) ws none rest = one_more shape (plains_in before) text k ws none rest
one_part shape before (Unknown k) ws none rest = counted_from shape _ _ ws (as_before _) rest
one_part shape before (Bare s k) ws none rest = counted_from shape _ _ ws (as_before _) rest
one_part shape before (Joined s value k) ws none rest = counted_from shape _ _ ws (as_before _) rest
one_part shape before (Next s value k holder) ws none rest = counted_from shape _ _ ws (as_before _) rest

none_faulty : (shape : Shape) (before parts : List PartValue) → first_fault shape before parts ≡ None → AreNumbers shape (length (plains_in before)) (plains_in parts)
none_faulty shape before [] none = λ n least most w at e. absurd (cc)
none_faulty shape before (p ∷ ps) none =
    let both = or_none _ _ none in
    subst (λ (ws : List Word). AreNumbers shape (length (plains_in before)) ws) (sym (filter_map-append plain_text (p ∷ []) ps))
    (one_part shape before p (plains_in ps) both.0 (counted_from shape _ _ (plains_in ps) (more_plains before p) (none_faulty shape (before ++ p ∷ []) ps both.1)))

from_none : (n : ℕ) → 0 + n ≡ n
from_none n = omega arith

enough : (b : Bool) (fault : WordFault) → cond b (Some fault) None ≡ None → b ≡ false
enough true fault e = absurd (cc)
enough false fault e = refl

-- what is said by words has as many plain words as the command, with numbers in their ranges
pub has_plains : (shape : Shape) (ws : List Word) (parts : List PartValue) → said_by shape ws ≡ Ok parts → HasPlains shape parts
has_plains shape ws parts e = decide (fault_in shape (parts_of ws)) refl e
  where
    decide : (fault : Option WordFault) → fault_in shape (parts_of ws) ≡ fault → unless fault (parts_of ws) ≡ Ok parts → HasPlains shape parts
    decide (Some fault) is h = absurd (cc)
    decide None is h =
        let same_parts : parts_of ws ≡ parts = cc in
        let both = or_none _ _ is in
        subst (λ (ps : List PartValue). HasPlains shape ps) same_parts (record {
          count = ltb-false (length (plains_in (parts_of ws))) (plain_count shape) (enough _ _ both.1);
          numbers = λ n least most w at got. none_faulty shape [] (parts_of ws) both.0 n least most w (ap (λ (k : ℕ). plain_at shape k) (from_none n) ∙ at) got;
        })

-- the size of an instance that is generated
pub size_by : (parts : List PartValue) (w : Option Word) (o : Option ℕ) → HasPlains generated_instance_shape parts → plain_of 1 parts ≡ w → option_and_then number_of w ≡ o → (o ≡ None → ⊥) × ((n : ℕ) → o ≡ Some n → IsSize n)
size_by parts None o plains at e = absurd (let there = slice_get-get_or (plains_in parts) 1 [] (omega (arith, plains.count)) in cc)
size_by parts (Some w) o plains at e =
    let number : is_number 1 MAX_ITEMS w ≡ true = plains.numbers 1 1 MAX_ITEMS w refl at in
    (λ none. has_number 1 MAX_ITEMS w (e ∙ none) number, λ n some. counted 1 MAX_ITEMS w n (e ∙ some) number)
