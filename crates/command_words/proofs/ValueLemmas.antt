-- Where no word is faulty, each value that stands with an option may stand there.
use Rattle.std.proofs.Common.{◌≡◌, ◌∙◌, ℕ, ◌≤◌, Bool, true, false, cond, ◌&&◌, List, [], ◌∷◌, ◌++◌, Option, Some, None, Result, Ok, refl, sym, ap, subst, slice_get, length}
use Rattle.std.specs.Prelude.{nat_le, option_and_then}
use Rattle.std.specs.List.{filter_map, cons_option}
use Rattle.std.specs.Option.{option_or, option_map_or}
use Rattle.std.proofs.lemmas.Bool.{leb-true, false≢true}
use Rattle.arc_num.specs.Decimals.{number_of}
use Rattle.arc_num.specs.declared.TheConstants.{MAX_SPLITS, MAX_WORKERS}
use Rattle.command_words.specs.declared.table.Setting.{Setting}
use Rattle.command_words.specs.declared.table.Setting.TheVariants.{Mvp, Joint, Nodes, Cert, Workers}
use Rattle.command_words.specs.declared.table.Takes.{Takes}
use Rattle.command_words.specs.declared.table.Takes.TheVariants.{Number}
use Rattle.command_words.specs.declared.table.Shape.{Shape}
use Rattle.command_words.specs.declared.faults.WordFault.{WordFault}
use Rattle.command_words.specs.Words.{Word}
use Rattle.command_words.specs.Table.{taken_by}
use Rattle.command_words.specs.Parts.{PartValue, Plain, Unknown, Bare, Joined, Next, parts_of}
use Rattle.command_words.specs.Faults.{same, is_value, is_number, value_fault, value_for, value_of_setting, number_of_setting, part_fault, first_fault, fault_in, unless, said_by, HasValues}
use Rattle.command_words.specs.Requests.{IsCount}

same_is : (s t : Setting) → same s t ≡ true → t ≡ s
same_is Mvp Mvp h = refl
same_is Joint Joint h = refl
same_is Nodes Nodes h = refl
same_is Cert Cert h = refl
same_is Workers Workers h = refl
same_is Mvp Joint h = absurd (cc)
same_is Mvp Nodes h = absurd (cc)
same_is Mvp Cert h = absurd (cc)
same_is Mvp Workers h = absurd (cc)
same_is Joint Mvp h = absurd (cc)
same_is Joint Nodes h = absurd (cc)
same_is Joint Cert h = absurd (cc)
same_is Joint Workers h = absurd (cc)
same_is Nodes Mvp h = absurd (cc)
same_is Nodes Joint h = absurd (cc)
same_is Nodes Cert h = absurd (cc)
same_is Nodes Workers h = absurd (cc)
same_is Cert Mvp h = absurd (cc)
same_is Cert Joint h = absurd (cc)
same_is Cert Nodes h = absurd (cc)
same_is Cert Workers h = absurd (cc)
same_is Workers Mvp h = absurd (cc)
same_is Workers Joint h = absurd (cc)
same_is Workers Nodes h = absurd (cc)
same_is Workers Cert h = absurd (cc)

pub or_none : (a b : Option WordFault) → option_or a b ≡ None → (a ≡ None) × (b ≡ None)
or_none (Some fault) b e = absurd (cc)
or_none None b e = (refl, e)

pub no_value_fault : (b : Bool) (fault : WordFault) → cond b None (Some fault) ≡ None → b ≡ true
no_value_fault true fault e = refl
no_value_fault false fault e = absurd (cc)

-- a value that was looked at and had no fault
looked_at : (s t : Setting) (value found : Word) (k : ℕ) → cond (same s t) (Some value) None ≡ Some found → value_fault t value k ≡ None → is_value (taken_by s) found ≡ true
looked_at s t value found k e none = decide (same s t) refl e
  where
    decide : (b : Bool) → same s t ≡ b → cond b (Some value) None ≡ Some found → is_value (taken_by s) found ≡ true
    decide false i h = absurd (cc)
    decide true i h =
        let is : value ≡ found = cc in
        subst (λ (w : Word). is_value (taken_by s) w ≡ true) is
        (subst (λ (u : Setting). is_value (taken_by u) value ≡ true) (same_is s t i) (no_value_fault (is_value (taken_by t) value) _ none))

-- the value of an option in a part without a fault
in_part : (shape : Shape) (before : List PartValue) (s : Setting) (p : PartValue) (found : Word) → part_fault shape before p ≡ None → value_for s p ≡ Some found → is_value (taken_by s) found ≡ true
in_part shape before s (Plain text k) found none e = absurd (cc)
in_part shape before s (Unknown k) found none e = absurd (cc)
in_part shape before s (Bare t k) found none e = absurd (cc)
in_part shape before s (Joined t value k) found none e = looked_at s t value found k e (or_none _ _ none).1
in_part shape before s (Next t value k holder) found none e = looked_at s t value found holder e (or_none _ _ none).1

-- one part more in front
one_more : (shape : Shape) (before : List PartValue) (p : PartValue) (ps : List PartValue) → part_fault shape before p ≡ None → HasValues ps → HasValues (p ∷ ps)
one_more shape before p ps none rest s found e = decide (value_for s p) refl e
  where
    decide : (here : Option Word) → value_for s p ≡ here → slice_get (cons_option here (filter_map (value_for s) ps)) 0 ≡ Some found → is_value (taken_by s) found ≡ true
    decide None is h = rest s found h
    decide (Some value) is h = in_part shape before s p found none (is ∙ h)

none_faulty : (shape : Shape) (before parts : List PartValue) → first_fault shape before parts ≡ None → HasValues parts
none_faulty shape before [] none = λ s found e. absurd (cc)
none_faulty shape before (p ∷ ps) none =
    let both = or_none _ _ none in
    one_more shape before p ps both.0 (none_faulty shape (before ++ p ∷ []) ps both.1)

-- what is said by words has no faulty value
pub has_values : (shape : Shape) (ws : List Word) (parts : List PartValue) → said_by shape ws ≡ Ok parts → HasValues parts
has_values shape ws parts e = decide (fault_in shape (parts_of ws)) refl e
  where
    decide : (fault : Option WordFault) → fault_in shape (parts_of ws) ≡ fault → unless fault (parts_of ws) ≡ Ok parts → HasValues parts
    decide (Some fault) is h = absurd (cc)
    decide None is h =
        let same_parts : parts_of ws ≡ parts = cc in
        subst HasValues same_parts (none_faulty shape [] (parts_of ws) (or_none _ _ is).0)

both_true : (a b : Bool) → a && b ≡ true → (a ≡ true) × (b ≡ true)
both_true true b h = (refl, h)
both_true false b h = absurd (cc)

-- a number that is one in the range
pub counted : (least most : ℕ) (w : Word) (n : ℕ) → number_of w ≡ Some n → is_number least most w ≡ true → (least ≤ n) × (n ≤ most)
counted least most w n e h =
    let in_range : option_map_or (λ (m : ℕ). nat_le least m && nat_le m most) (number_of w) false ≡ true = (both_true (nat_le (length w) 20) _ h).1 in
    let here : nat_le least n && nat_le n most ≡ true = subst (λ (o : Option ℕ). option_map_or (λ (m : ℕ). nat_le least m && nat_le m most) o false ≡ true) e in_range in
    let parts = both_true (nat_le least n) (nat_le n most) here in
    (leb-true least n parts.0, leb-true n most parts.1)

-- a word that is a number in the range has a value
pub has_number : (least most : ℕ) (w : Word) → number_of w ≡ None → is_number least most w ≡ true → ⊥
has_number least most w e h =
    let in_range : option_map_or (λ (m : ℕ). nat_le least m && nat_le m most) (number_of w) false ≡ true = (both_true (nat_le (length w) 20) _ h).1 in
    false≢true (subst (λ (o : Option ℕ). option_map_or (λ (m : ℕ). nat_le least m && nat_le m most) o false ≡ true) e in_range)

-- the number that an option gives is one in its range
number_in : (s : Setting) (least most : ℕ) (parts : List PartValue) (n : ℕ) → taken_by s ≡ Number least most → HasValues parts → number_of_setting s parts ≡ Some n → (least ≤ n) × (n ≤ most)
number_in s least most parts n takes values is = decide (value_of_setting s parts) refl is
  where
    decide : (found : Option Word) → value_of_setting s parts ≡ found → option_and_then number_of found ≡ Some n → (least ≤ n) × (n ≤ most)
    decide None e h = absurd (cc)
    decide (Some w) e h = counted least most w n h (subst (λ (t : Takes). is_value t w ≡ true) takes (values s w e))

pub workers_found : (parts : List PartValue) (o : Option ℕ) (n : ℕ) → HasValues parts → o ≡ number_of_setting Workers parts → o ≡ Some n → IsCount n
workers_found parts o n values is some = number_in Workers 1 MAX_WORKERS parts n refl values (sym is ∙ some)

pub nodes_found : (parts : List PartValue) (o : Option ℕ) (n : ℕ) → HasValues parts → o ≡ number_of_setting Nodes parts → o ≡ Some n → n ≤ MAX_SPLITS
nodes_found parts o n values is some = (number_in Nodes 0 MAX_SPLITS parts n refl values (sym is ∙ some)).1

-- parts that have no fault are what is said
pub said_parts : (shape : Shape) (ws : List Word) (parts : List PartValue) (fault : Option WordFault) → parts ≡ parts_of ws → fault ≡ fault_in shape parts → fault ≡ None → said_by shape ws ≡ Ok parts
said_parts shape ws parts fault are is none =
    let no_fault : fault_in shape (parts_of ws) ≡ None = ap (λ (ps : List PartValue). fault_in shape ps) (sym are) ∙ (sym is ∙ none) in
    ap (λ (f : Option WordFault). unless f (parts_of ws)) no_fault ∙ ap (λ (ps : List PartValue). said_ok ps) (sym are)
  where
    said_ok : List PartValue → Result (List PartValue) WordFault
    said_ok ps = Ok ps
