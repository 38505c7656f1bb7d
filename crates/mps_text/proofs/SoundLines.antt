-- What is read keeps the rules behind a line of rows, columns, right sides or bounds.
use Rattle.std.proofs.Common.{◌≡◌, ℕ, ◌+◌, ◌-◌, ◌≤◌, ◌^◌, Bool, true, false, List, [], ◌∷◌, ◌++◌, length, Option, Some, None, Ok, ℤ, inl, inr, refl, sym, ap, ◌∙◌, subst, arith, length-append, append_assoc}
use Rattle.std.specs.Prelude.{◌==◌, is_none, is_some, nat_abs, bytes_eq, map, option_and_then, option_to_list, if◌then◌else◌, ◌⊎◌}
use Rattle.std.specs.List.{AllByRecursion}
use Rattle.std.proofs.lemmas.List.{map-append, length-map}
use Rattle.flow_model.specs.declared.programs.Entry.{Entry}
use Rattle.flow_model.specs.declared.programs.RowKind.{RowKind}
use Rattle.flow_model.specs.Programs.{IsName, IsNumber, AreDistinct}
use Rattle.mps_text.specs.declared.stages.Stage.{Stage}
use Rattle.mps_text.specs.declared.stages.Stage.TheVariants.{Columns, Limits}
use Rattle.mps_text.specs.declared.parts.ReadRow.{ReadRow}
use Rattle.mps_text.specs.declared.parts.ReadColumn.{ReadColumn}
use Rattle.mps_text.specs.Meaning.{Reading, place_of, row_names, column_names, is_name, is_new_name, is_ended, with_objective, with_row, rows_line, columns_line, rights_line, bounds_line, target_in, with_values, new_column, columns_ending, columns_with, each_in, change_at, change_each, with_right, with_bound}
use Rattle.mps_text.proofs.WrittenNumbers.{both}
use Rattle.arc_num.proofs.Places.{place_some}
use Rattle.mps_text.proofs.Rules.{name_sound, apart_cons, no_place}
use Rattle.mps_text.proofs.Steps.{row_taken, columns_taken, IsObjective, IsNamedRow, IsMarkLine, AreValues}
use Rattle.mps_text.proofs.SideSteps.{rights_taken, bound_taken}
use Rattle.mps_text.proofs.SoundParts.{IsGiven, IsSmall, IsSound, IsSoundColumn, all_append, all_changed, all_on, apart_more, bound_small, bound_sound, each_some, is_behind_rows, list_is, name_by_bound, name_by_values, names_in, same_changed, values_small, values_sound}

-- the parts of a reading

objective_gone : (o : Option (List ℕ)) (names : List (List ℕ)) → is_none o ≡ true → option_to_list o ++ names ≡ names
objective_gone None names h = refl
objective_gone (Some x) names h = absurd (cc)

new_place : (r : Reading) (name : List ℕ) → is_new_name r name ≡ true → (is_name name ≡ true) × (place_of name (names_in r) ≡ None)
new_place r name h =
    let parts = both (is_name name) (is_none (place_of name (names_in r))) h in
    (parts.0, no_place (place_of name (names_in r)) parts.1)

objective_sound : (r : Reading) (name : List ℕ) → IsSound r → is_none r.objective ≡ true → is_new_name r name ≡ true → IsSound (with_objective r name)
objective_sound r name h none new =
    let parts = new_place r name new in
    let gone = objective_gone r.objective (row_names r.rows) none in
    record {
      names = (name_sound name parts.0, subst (λ (z : List (List ℕ)). AllByRecursion IsName z) gone h.names);
      apart = apart_cons name (row_names r.rows) (subst (λ (z : List (List ℕ)). place_of name z ≡ None) gone parts.1) (subst AreDistinct gone h.apart);
      rights = h.rights;
      columns = h.columns;
      columns_apart = h.columns_apart;
      objective = (λ b. refl);
      ended = h.ended;
      none = h.none;
    }

given_more : (n m : ℕ) → n ≤ m → (e : Entry) → IsGiven n e → IsGiven m e
given_more n m le e h = let a = h.1 in (h.0, omega arith, h.2)

column_more : (n m : ℕ) → n ≤ m → (c : ReadColumn) → IsSoundColumn n c → IsSoundColumn m c
column_more n m le c h = record { name = h.name; cost = h.cost; entries = all_on (IsGiven n) (IsGiven m) c.entries (given_more n m le) h.entries; apart = h.apart; fixed = h.fixed; lower = h.lower; upper = h.upper }

row_sound : (r : Reading) (kind : RowKind) (name : List ℕ) → IsSound r → is_new_name r name ≡ true → IsSound (with_row r kind name)
row_sound r kind name h new =
    let parts = new_place r name new in
    let row : ReadRow = record { name = name; kind = kind; right = None } in
    let more : names_in (with_row r kind name) ≡ names_in r ++ name ∷ [] =
    ap (λ (z : List (List ℕ)). option_to_list r.objective ++ z) (map-append (λ (x : ReadRow). x.name) r.rows (row ∷ [])) ∙ sym (append_assoc (option_to_list r.objective) (row_names r.rows) (name ∷ [])) in
    let size = length-append r.rows (row ∷ []) in
    record {
      names = subst (λ (z : List (List ℕ)). AllByRecursion IsName z) (sym more) (all_append IsName (names_in r) (name ∷ []) h.names (name_sound name parts.0, tt));
      apart = subst AreDistinct (sym more) (apart_more (names_in r) name h.apart parts.1);
      rights = all_append (λ x. IsSmall x.right) r.rows (row ∷ []) h.rights (tt, tt);
      columns = all_on (IsSoundColumn (length r.rows)) (IsSoundColumn (length (r.rows ++ row ∷ []))) r.columns (column_more (length r.rows) (length (r.rows ++ row ∷ [])) (omega arith)) h.columns;
      columns_apart = h.columns_apart;
      objective = h.objective;
      ended = h.ended;
      none = h.none;
    }

pub rows_sound : (r : Reading) (fields : List (List ℕ)) (s : Reading) → IsSound r → rows_line r fields ≡ Ok s → IsSound s
rows_sound r fields s h taken = by (row_taken r fields s taken)
  where
    by : IsObjective r fields s ⊎ IsNamedRow r fields s → IsSound s
    by (inl o) = subst IsSound o.after (objective_sound r o.name h o.first o.new)
    by (inr o) = subst IsSound o.after (row_sound r o.kind o.name h o.new)

target_low : (o : Option (List ℕ)) (names : List (List ℕ)) (name : List ℕ) (t : ℕ) → place_of name (option_to_list o ++ names) ≡ Some t → t ≤ length names
target_low None names name t e = let p = place_some (bytes_eq name) names t e in let lt = p.1 in omega arith
target_low (Some x) names name t e = let p = place_some (bytes_eq name) (x ∷ names) t e in let lt = p.1 in omega arith

targets_low : (r : Reading) (names : List (List ℕ)) (targets : List ℕ) → each_in (target_in r) names ≡ Some targets → AllByRecursion (λ t. t ≤ length r.rows) targets
targets_low r [] targets h = subst (λ (z : List ℕ). AllByRecursion (λ t. t ≤ length r.rows) z) (sym (list_is targets h)) tt
targets_low r (name ∷ names) targets h =
    let s = each_some (target_in r) name names targets h in
    let low = target_low r.objective (row_names r.rows) name s.first s.is in
    let size = length-map r.rows (λ (x : ReadRow). x.name) in
    subst (λ (z : List ℕ). AllByRecursion (λ t. t ≤ length r.rows) z) (sym s.all) (omega arith, targets_low r names s.rest s.others)

-- the columns with the named one
pub record IsOpened (n : ℕ) (columns : List ReadColumn) : Type 0 where
  pub sound : AllByRecursion (IsSoundColumn n) columns
  pub apart : AreDistinct (column_names columns)

opened_sound : (n : ℕ) (name : List ℕ) (columns opened : List ReadColumn) → AllByRecursion (IsSoundColumn n) columns → AreDistinct (column_names columns) → columns_with name columns ≡ Some opened → IsOpened n opened
opened_sound n name columns opened sound apart h = by (place_of name (column_names columns)) refl h
  where
    fresh : (b : Bool) → is_name name ≡ b → place_of name (column_names columns) ≡ None → (if b then Some (columns ++ new_column name ∷ []) else None) ≡ Some opened → IsOpened n opened
    fresh false e none h = absurd (cc)
    fresh true e none h =
        let is : columns ++ new_column name ∷ [] ≡ opened = cc in
        let names : column_names (columns ++ new_column name ∷ []) ≡ column_names columns ++ name ∷ [] = map-append (λ (x : ReadColumn). x.name) columns (new_column name ∷ []) in
        subst (λ (z : List ReadColumn). IsOpened n z) is (record {
          sound = all_append (IsSoundColumn n) columns (new_column name ∷ []) sound (record { name = name_sound name e; cost = tt; entries = tt; apart = tt; fixed = tt; lower = tt; upper = tt }, tt);
          apart = subst AreDistinct (sym names) (apart_more (column_names columns) name apart none);
        })

    last : (b : Bool) → (if b then Some columns else None) ≡ Some opened → IsOpened n opened
    last false h = absurd (cc)
    last true h = let is : columns ≡ opened = cc in subst (λ (z : List ReadColumn). IsOpened n z) is (record { sound = sound; apart = apart })

    by : (o : Option ℕ) → place_of name (column_names columns) ≡ o → columns_ending name columns o ≡ Some opened → IsOpened n opened
    by None e h = fresh (is_name name) refl e h
    by (Some place) e h = last (place + 1 == length columns) h

pub opened_apart : (n : ℕ) (name : List ℕ) (columns opened : List ReadColumn) → AllByRecursion (IsSoundColumn n) columns → AreDistinct (column_names columns) → columns_with name columns ≡ Some opened → AreDistinct (column_names opened)
opened_apart n name columns opened sound apart h = let o = opened_sound n name columns opened sound apart h in o.apart

pub columns_sound : (r : Reading) (fields : List (List ℕ)) (s : Reading) → IsSound r → r.stage ≡ Columns → columns_line r fields ≡ Ok s → IsSound s
columns_sound r fields s h at taken = by (columns_taken r fields s taken)
  where
    not_ended : (stage : Stage) → stage ≡ Columns → is_ended stage ≡ true → ⊥
    not_ended stage e t = let f : false ≡ true = sym (ap is_ended e) ∙ t in absurd (cc)

    not_before : (stage : Stage) → stage ≡ Columns → is_behind_rows stage ≡ false → ⊥
    not_before stage e t = let f : true ≡ false = sym (ap is_behind_rows e) ∙ t in absurd (cc)

    by : IsMarkLine r fields s ⊎ AreValues r fields s → IsSound s
    by (inl m) = subst IsSound m.after (record { names = h.names; apart = h.apart; rights = h.rights; columns = h.columns; columns_apart = h.columns_apart; objective = h.objective; ended = h.ended; none = h.none })
    by (inr v) =
        let n = length r.rows in
        let o = opened_sound n v.name r.columns v.columns h.columns h.columns_apart v.with in
        let low = targets_low r v.rows v.targets v.targets_are in
        let small = values_small v.values v.numbers v.numbers_are in
        let columns = all_changed (IsSoundColumn n) (with_values v.targets v.numbers) (length v.columns - 1) v.columns v.changed (λ c d sound gives. values_sound n v.targets v.numbers c d sound low small gives) o.sound v.change in
        let names = same_changed (λ (c : ReadColumn). c.name) (with_values v.targets v.numbers) (length v.columns - 1) v.columns v.changed (λ c d gives. name_by_values v.targets v.numbers c d gives) v.change in
        subst IsSound v.after (record {
          names = h.names;
          apart = h.apart;
          rights = h.rights;
          columns = columns;
          columns_apart = subst AreDistinct (sym names) o.apart;
          objective = h.objective;
          ended = (λ e. absurd (not_ended r.stage at e));
          none = (λ b. absurd (not_before r.stage at b));
        })

-- right sides

pub right_by : (b : Bool) (c d : ReadRow) → (if b then None else Some c) ≡ Some d → c ≡ d
right_by true c d h = absurd (cc)
right_by false c d h = cc

right_sound : (value : ℤ) (x y : ReadRow) → nat_abs value ≤ 2 ^ 62 → IsSmall x.right → with_right value x ≡ Some y → IsSmall y.right
right_sound value x y small h gives = subst (λ (z : ReadRow). IsSmall z.right) (right_by (is_some x.right) (record x { right = Some value }) y gives) small

pub name_by_right : (value : ℤ) (x y : ReadRow) → with_right value x ≡ Some y → y.name ≡ x.name
name_by_right value x y gives = ap (λ (z : ReadRow). z.name) (sym (right_by (is_some x.right) (record x { right = Some value }) y gives))

pub kind_by_right : (value : ℤ) (x y : ReadRow) → with_right value x ≡ Some y → y.kind ≡ x.kind
kind_by_right value x y gives = ap (λ (z : ReadRow). z.kind) (sym (right_by (is_some x.right) (record x { right = Some value }) y gives))

-- rows after some right sides
pub record KeepsRows (rows changed : List ReadRow) : Type 0 where
  pub names : row_names changed ≡ row_names rows
  pub kinds : map (λ (x : ReadRow). x.kind) changed ≡ map (λ (x : ReadRow). x.kind) rows

pub record AreSided (rows changed : List ReadRow) : Type 0 where
  pub sound : AllByRecursion (λ row. IsSmall row.right) rows → AllByRecursion (λ row. IsSmall row.right) changed
  pub same : KeepsRows rows changed

pub sides_sound : (places : List ℕ) (numbers : List ℤ) (rows changed : List ReadRow) → AllByRecursion IsNumber numbers → change_each with_right places numbers rows ≡ Some changed → AreSided rows changed
sides_sound [] numbers rows changed small h = let same : rows ≡ changed = cc in subst (λ (z : List ReadRow). AreSided rows z) same (record { sound = (λ x. x); same = record { names = refl; kinds = refl } })
sides_sound (p ∷ places) [] rows changed small h = let same : rows ≡ changed = cc in subst (λ (z : List ReadRow). AreSided rows z) same (record { sound = (λ x. x); same = record { names = refl; kinds = refl } })
sides_sound (p ∷ places) (v ∷ numbers) rows changed small h = by (change_at p (with_right v) rows) refl h (λ one. sides_sound places numbers one changed small.1)
  where
    by : (o : Option (List ReadRow)) → change_at p (with_right v) rows ≡ o → option_and_then (change_each with_right places numbers) o ≡ Some changed → ((one : List ReadRow) → change_each with_right places numbers one ≡ Some changed → AreSided one changed) → AreSided rows changed
    by None e h next = absurd (cc)
    by (Some one) e h next =
        let rest = next one h in
        record {
          sound = (λ all. rest.sound (all_changed (λ (row : ReadRow). IsSmall row.right) (with_right v) p rows one (λ x y sound gives. right_sound v x y small.0 sound gives) all e));
          same = record {
            names = rest.same.names ∙ same_changed (λ (x : ReadRow). x.name) (with_right v) p rows one (λ x y gives. name_by_right v x y gives) e;
            kinds = rest.same.kinds ∙ same_changed (λ (x : ReadRow). x.kind) (with_right v) p rows one (λ x y gives. kind_by_right v x y gives) e;
          };
        }

same_names_size : (rows changed : List ReadRow) → row_names changed ≡ row_names rows → length rows ≡ length changed
same_names_size rows changed e = sym (length-map rows (λ (x : ReadRow). x.name)) ∙ (ap length (sym e) ∙ length-map changed (λ (x : ReadRow). x.name))

pub rights_sound : (r : Reading) (fields : List (List ℕ)) (s : Reading) → IsSound r → rights_line r fields ≡ Ok s → IsSound s
rights_sound r fields s h taken =
    let v = rights_taken r fields s taken in
    let sided = sides_sound v.places v.numbers r.rows v.changed (values_small v.values v.numbers v.numbers_are) v.change in
    let names : option_to_list r.objective ++ row_names v.changed ≡ names_in r = ap (λ (z : List (List ℕ)). option_to_list r.objective ++ z) sided.same.names in
    subst IsSound v.after (record {
      names = subst (λ (z : List (List ℕ)). AllByRecursion IsName z) (sym names) h.names;
      apart = subst AreDistinct (sym names) h.apart;
      rights = sided.sound h.rights;
      columns = subst (λ (n : ℕ). AllByRecursion (IsSoundColumn n) r.columns) (same_names_size r.rows v.changed sided.same.names) h.columns;
      columns_apart = h.columns_apart;
      objective = h.objective;
      ended = h.ended;
      none = h.none;
    })

pub bounds_sound : (r : Reading) (fields : List (List ℕ)) (s : Reading) → IsSound r → r.stage ≡ Limits → bounds_line r fields ≡ Ok s → IsSound s
bounds_sound r fields s h at taken =
    let v = bound_taken r fields s taken in
    let small = bound_small v.value v.number v.number_is in
    let columns = all_changed (IsSoundColumn (length r.rows)) (with_bound v.kind v.number) v.place r.columns v.changed (λ c d sound gives. bound_sound (length r.rows) v.kind v.number c d small sound gives) h.columns v.change in
    let names = same_changed (λ (c : ReadColumn). c.name) (with_bound v.kind v.number) v.place r.columns v.changed (λ c d gives. name_by_bound v.kind v.number c d gives) v.change in
    subst IsSound v.after (record {
      names = h.names;
      apart = h.apart;
      rights = h.rights;
      columns = columns;
      columns_apart = subst AreDistinct (sym names) h.columns_apart;
      objective = h.objective;
      ended = (λ e. absurd (not_ended r.stage at e));
      none = (λ b. absurd (not_before r.stage at b));
    })
  where
    not_ended : (stage : Stage) → stage ≡ Limits → is_ended stage ≡ true → ⊥
    not_ended stage e t = let f : false ≡ true = sym (ap is_ended e) ∙ t in absurd (cc)

    not_before : (stage : Stage) → stage ≡ Limits → is_behind_rows stage ≡ false → ⊥
    not_before stage e t = let f : true ≡ false = sym (ap is_behind_rows e) ∙ t in absurd (cc)
