-- Entries in order by row.
use Rattle.std.proofs.Common.{ℕ, ◌<◌, cond, ◌==◌, ltb, List, [], ◌∷◌, ◌++◌, sym, subst, ⊎_elim, arith, All, pos, negsuc}
use Rattle.std.specs.Prelude.{AllPairs}
use Rattle.std.proofs.lemmas.Bool.{cases_lt, cases_eq, eq-eqb, ne_eqb, cond-true, cond-false, lt-ltb, le-ltb}
use Rattle.std.proofs.lemmas.List.Elements.{All-cons, All-nil}
use Rattle.std.proofs.lemmas.List.Kept.{AllPairs-cons}
use Rattle.packing_laws.specs.Instances.{IsAmong}
use Rattle.flow_model.specs.declared.programs.Entry.{Entry}
use Rattle.flow_model.specs.Models.{moves}
use Rattle.flow_model.specs.Programs.{IsEntry}
use Rattle.flow_model.proofs.Lawful.{less_entry, unit_entry}

-- entries that stand in order by row, in n rows
pub record StandInOrder (n : ℕ) (entries : List Entry) : Type 0 where
  pub each : All (IsEntry n) entries
  pub order : AllPairs (λ d e. d.row < e.row) entries

pub none_stand : (n : ℕ) → StandInOrder n []
none_stand n = record { each = All-nil (IsEntry n); order = λ i j d before within. absurd (omega (arith, before, within)) }

-- one more entry in front
pub first_stands : (n : ℕ) (e : Entry) (entries : List Entry) → IsEntry n e → All (λ f. e.row < f.row) entries → StandInOrder n entries → StandInOrder n (e ∷ entries)
first_stands n e entries is before rest = record {
  each = All-cons (IsEntry n) e entries is rest.each;
  order = AllPairs-cons (λ (d e : Entry). d.row < e.row) e entries before rest.order;
}

-- two entries in front, by row
two_stand : (n : ℕ) (e f : Entry) (rest : List Entry) → IsEntry n e → IsEntry n f → e.row < f.row → All (λ x. e.row < x.row) rest → All (λ x. f.row < x.row) rest → StandInOrder n rest → StandInOrder n (e ∷ f ∷ rest)
two_stand n e f rest one two rises after_e after_f are = first_stands n e (f ∷ rest) one (All-cons (λ x. e.row < x.row) f rest rises after_e) (first_stands n f rest two after_f are)

-- the entries of a unit that leaves one row and enters another, with others in later rows
pub moves_stand : (n p q : ℕ) (rest : List Entry) → IsAmong p n → IsAmong q n → All (λ f. p < f.row) rest → All (λ f. q < f.row) rest → StandInOrder n rest → StandInOrder n (moves p q ++ rest)
moves_stand n p q rest low high after_p after_q are = ⊎_elim
    (λ same. subst Stand (sym (cond-true (p == q) [] apart (eq-eqb p q same))) are)
    (λ other. subst Stand (sym (cond-false (p == q) [] apart (ne_eqb p q other))) (⊎_elim
    (λ before. subst Stand (sym (cond-true (ltb p q) (leaves ∷ enters ∷ []) (enters ∷ leaves ∷ []) (lt-ltb p q before))) (two_stand n leaves enters rest (less_entry n p low) (unit_entry n q high) before after_p after_q are))
    (λ after. subst Stand (sym (cond-false (ltb p q) (leaves ∷ enters ∷ []) (enters ∷ leaves ∷ []) (le-ltb p q after))) (two_stand n enters leaves rest (unit_entry n q high) (less_entry n p low) (omega (arith, after, other)) after_q after_p are))
    (cases_lt p q)))
    (cases_eq p q) where
      leaves : Entry
      leaves = record { row = p; value = negsuc 0 }

      enters : Entry
      enters = record { row = q; value = pos 1 }

      apart : List Entry
      apart = cond (ltb p q) (leaves ∷ enters ∷ []) (enters ∷ leaves ∷ [])

      Stand : List Entry → Type 0
      Stand entries = StandInOrder n (entries ++ rest)
