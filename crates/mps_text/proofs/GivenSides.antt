-- The right sides and the bounds that a text gives.
use Rattle.std.proofs.Common.{suc, ◌≡◌, ℕ, ◌-◌, Bool, true, false, List, [], ◌∷◌, ◌++◌, length, Option, Some, None, Ok, ℤ, inl, inr, refl, sym, ap, ◌∙◌, subst, arith}
use Rattle.std.specs.Prelude.{◌&&◌, ◌||◌, is_some, codes, bytes_eq, map, flat_map, option_and_then, option_to_list, if◌then◌else◌, ◌⊎◌}
use Rattle.std.specs.Option.{option_or}
use Rattle.flow_model.specs.declared.programs.RowKind.{RowKind}
use Rattle.flow_model.specs.Programs.{AreDistinct}
use Rattle.mps_text.specs.declared.stages.BoundKind.{BoundKind}
use Rattle.mps_text.specs.declared.stages.BoundKind.TheVariants.{Upper, Lower, Fixed}
use Rattle.mps_text.specs.declared.parts.ReadRow.{ReadRow}
use Rattle.mps_text.specs.declared.parts.ReadColumn.{ReadColumn}
use Rattle.mps_text.specs.Meaning.{Reading, row_names, column_names, place_of, new_column, with_values, with_row, columns_line, value_in, bound_in, each_in, change_at, change_each, with_right, with_bound}
use Rattle.mps_text.specs.Given.{Cell, cells_of, first_given, right_at, bound_at}
use Rattle.mps_text.proofs.NamePlaces.{same}
use Rattle.mps_text.proofs.Steps.{columns_taken, cells_for, IsMarkLine, AreValues}
use Rattle.mps_text.proofs.SideSteps.{rights_taken, bound_taken, bound_word, changed_there}
use Rattle.mps_text.proofs.SoundParts.{IsApartFrom, same_by_values, name_by_bound, same_changed, each_some, list_is, bound_by}
use Rattle.mps_text.proofs.SoundLines.{name_by_right}
use Rattle.mps_text.proofs.Follow.{added, IsFollowed}
use Rattle.mps_text.proofs.GivenRows.{rows_by_values}
use Rattle.mps_text.proofs.GivenColumns.{given_append, or_none, last_opened, columns_by_rows}
use Rattle.mps_text.proofs.NamedParts.{or_assoc, named, given_same, name_there, named_more, or_all, flat_given}
use Rattle.mps_text.proofs.GivenValues.{no_some}

-- Right sides.

abbrev pub right_in : List ℕ → ReadRow → Option ℤ
right_in row x = named (λ (x : ReadRow). x.name) (λ (x : ReadRow). x.right) row x

abbrev pub right_told : List ℕ → Reading → Option ℤ
right_told row r = first_given (right_in row) r.rows

abbrev pub right_gives : List ℕ → List (List ℕ) → Option ℤ
right_gives row fields = first_given (right_at row) (cells_of fields)

abbrev pub right_adds : List ℕ → Option ℤ → List (List ℕ) → Option ℤ
right_adds row o fields = option_or o (right_gives row fields)

one_side : (row name b w : List ℕ) (place : ℕ) (v : ℤ) (rows one : List ReadRow) → AreDistinct (row_names rows) → place_of b (row_names rows) ≡ Some place → value_in w ≡ Some v → change_at place (with_right v) rows ≡ Some one
    → first_given (right_in row) one ≡ option_or (first_given (right_in row) rows) (right_at row (record { column = name; row = b; value = w }))
one_side row name b w place v rows one apart found value change =
    let c = changed_there (with_right v) place rows one change in
    let split : row_names rows ≡ map (λ (x : ReadRow). x.name) (c.before ++ c.old ∷ c.behind) = ap row_names c.was in
    let is : b ≡ c.old.name = name_there (λ (x : ReadRow). x.name) c.before c.old c.behind b place c.place (ap (place_of b) (sym split) ∙ found) in
    let step = named_more (λ (x : ReadRow). x.name) (λ (x : ReadRow). x.right) row c.before c.old c.new c.behind (right_at row (record { column = name; row = b; value = w }))
    (subst AreDistinct split apart) (name_by_right v c.old c.new c.by)
    (λ e. gives c.old c.new (is_some c.old.right) refl c.by ∙ ap (option_or c.old.right) (sym (ap (λ (x : Bool). if x then value_in w else None) (ap (λ (z : List ℕ). bytes_eq z row) (is ∙ e) ∙ same row) ∙ value)))
    (λ e. ap (λ (x : Bool). if x then value_in w else None) (ap (λ (z : List ℕ). bytes_eq z row) is ∙ e)) in
    ap (first_given (right_in row)) c.is ∙ (step ∙ ap (λ (z : List ReadRow). option_or (first_given (right_in row) z) (right_at row (record { column = name; row = b; value = w }))) (sym c.was))
  where
    gives : (old new : ReadRow) (x : Bool) → is_some old.right ≡ x → (if x then None else Some (record old { right = Some v })) ≡ Some new → new.right ≡ option_or old.right (Some v)
    gives old new true e h = absurd (cc)
    gives old new false e h =
        let at : record old { right = Some v } ≡ new = cc in
        ap (λ (z : ReadRow). z.right) (sym at) ∙ ap (λ (o : Option ℤ). option_or o (Some v)) (sym (no_some old.right e))

sides_added : (row name : List ℕ) (names : List (List ℕ)) → AreDistinct names → (cells values : List (List ℕ)) (places : List ℕ) (numbers : List ℤ) (rows changed : List ReadRow) → row_names rows ≡ names
    → each_in (λ x. place_of x names) cells ≡ Some places → each_in value_in values ≡ Some numbers → change_each with_right places numbers rows ≡ Some changed
    → first_given (right_in row) changed ≡ option_or (first_given (right_in row) rows) (first_given (right_at row) (cells_for name cells values))
sides_added row name names apart [] values places numbers rows changed are ps vs h =
    let none = list_is places ps in
    let g : change_each with_right [] numbers rows ≡ Some changed = subst (λ (z : List ℕ). change_each with_right z numbers rows ≡ Some changed) none h in
    let is : rows ≡ changed = cc in
    ap (first_given (right_in row)) (sym is) ∙ sym (or_none (first_given (right_in row) rows))
sides_added row name names apart (b ∷ cells) [] places numbers rows changed are ps vs h =
    let s = each_some (λ x. place_of x names) b cells places ps in
    let none = list_is numbers vs in
    let g : change_each with_right (s.first ∷ s.rest) [] rows ≡ Some changed = subst (λ (z : List ℤ). change_each with_right (s.first ∷ s.rest) z rows ≡ Some changed) none (subst (λ (z : List ℕ). change_each with_right z numbers rows ≡ Some changed) s.all h) in
    let is : rows ≡ changed = cc in
    ap (first_given (right_in row)) (sym is) ∙ sym (or_none (first_given (right_in row) rows))
sides_added row name names apart (b ∷ cells) (w ∷ values) places numbers rows changed are ps vs h =
    let s = each_some (λ x. place_of x names) b cells places ps in
    let n = each_some value_in w values numbers vs in
    let g = subst (λ (z : List ℤ). change_each with_right (s.first ∷ s.rest) z rows ≡ Some changed) n.all (subst (λ (z : List ℕ). change_each with_right z numbers rows ≡ Some changed) s.all h) in
    by s.first n.first s.rest n.rest s.is n.is (change_at s.first (with_right n.first) rows) refl g (λ one same g. sides_added row name names apart cells values s.rest n.rest one changed same s.others n.others g)
  where
    rest : Option ℤ
    rest = first_given (right_at row) (cells_for name cells values)

    by : (p : ℕ) (v : ℤ) (qs : List ℕ) (ws : List ℤ) → place_of b names ≡ Some p → value_in w ≡ Some v → (o : Option (List ReadRow)) → change_at p (with_right v) rows ≡ o → option_and_then (change_each with_right qs ws) o ≡ Some changed
        → ((one : List ReadRow) → row_names one ≡ names → change_each with_right qs ws one ≡ Some changed → first_given (right_in row) changed ≡ option_or (first_given (right_in row) one) (first_given (right_at row) (cells_for name cells values)))
        → first_given (right_in row) changed ≡ option_or (first_given (right_in row) rows) (option_or (right_at row (record { column = name; row = b; value = w })) (first_given (right_at row) (cells_for name cells values)))
    by p v qs ws found value None e g next = absurd (cc)
    by p v qs ws found value (Some one) e g next =
        let kept = same_changed (λ (x : ReadRow). x.name) (with_right v) p rows one (λ x y gives. name_by_right v x y gives) e in
        let step = one_side row name b w p v rows one (subst AreDistinct (sym are) apart) (ap (place_of b) are ∙ found) value e in
        next one (kept ∙ are) g
        ∙ (ap (λ (o : Option ℤ). option_or o (first_given (right_at row) (cells_for name cells values))) step
        ∙ or_assoc (first_given (right_in row) rows) (right_at row (record { column = name; row = b; value = w })) (first_given (right_at row) (cells_for name cells values)))

row_leaves : (row : List ℕ) (r : Reading) (kind : RowKind) (name : List ℕ) → right_told row (with_row r kind name) ≡ right_told row r
row_leaves row r kind name =
    given_append (right_in row) r.rows (record { name = name; kind = kind; right = None } ∷ []) ∙ (ap (option_or (right_told row r)) (by (bytes_eq name row)) ∙ or_none (right_told row r))
  where
    by : (b : Bool) → ◌≡◌ {A = Option ℤ} (option_or (if b then None else None) None) None
    by true = refl
    by false = refl

pub behind_objective : (objective : Option (List ℕ)) (names : List (List ℕ)) → AreDistinct (option_to_list objective ++ names) → AreDistinct names
behind_objective None names h = h
behind_objective (Some x) names h = (λ i j d lt small. h (suc i) (suc j) d (omega arith) (omega arith))

pub rights_followed : (row : List ℕ) → IsFollowed (right_told row) (right_adds row) (codes "RHS")
rights_followed row = record {
  heading = (λ r stage. refl);
  rows = (λ r fields s sound at h. columns_by_rows (right_told row) (λ r name. refl) (λ r kind name. row_leaves row r kind name) r fields s h);
  columns = (λ r fields s sound h. rows_by_values (right_told row) (λ r integers. refl) (λ r columns. refl) r fields s h);
  rights = (λ r fields s sound h.
      let v = rights_taken r fields s h in
      ap (right_told row) (sym v.after)
      ∙ (sides_added row v.name (row_names r.rows) (behind_objective r.objective (row_names r.rows) sound.apart) v.rows v.values v.places v.numbers r.rows v.changed refl v.places_are v.numbers_are v.change
      ∙ ap (λ (z : List Cell). option_or (right_told row r) (first_given (right_at row) z)) (sym v.cells)));
  bounds = (λ r fields s sound h. let v = bound_taken r fields s h in ap (right_told row) (sym v.after));
}

pub rights_all : (row : List ℕ) (lines : List (List (List ℕ))) → added (right_adds row) None lines ≡ first_given (right_at row) (flat_map cells_of lines)
rights_all row lines = or_all (right_gives row) None lines ∙ flat_given (right_at row) lines

-- Bounds.

abbrev pub bound_of : BoundKind → ReadColumn → Option ℕ
bound_of Upper c = c.upper
bound_of Lower c = c.lower
bound_of Fixed c = c.fixed

abbrev pub bound_in_column : BoundKind → List ℕ → ReadColumn → Option ℕ
bound_in_column k column c = named (λ (c : ReadColumn). c.name) (bound_of k) column c

abbrev pub bound_told : BoundKind → List ℕ → Reading → Option ℕ
bound_told k column r = first_given (bound_in_column k column) r.columns

abbrev pub bound_adds : BoundKind → List ℕ → Option ℕ → List (List ℕ) → Option ℕ
bound_adds k column o fields = option_or o (bound_at (bound_word k) column fields)

or_left : (a b : Bool) → (a || b) ≡ false → a ≡ false
or_left true b h = absurd (cc)
or_left false b h = refl

or_right : (a b : Bool) → (a || b) ≡ false → b ≡ false
or_right true b h = absurd (cc)
or_right false b h = h

-- a bound that is taken was not there
taken_bound : (b : Bool) (c d : ReadColumn) → (if b then None else Some c) ≡ Some d → b ≡ false
taken_bound true c d h = absurd (cc)
taken_bound false c d h = refl

one_bound : (k j : BoundKind) (value : ℕ) (c d : ReadColumn) → with_bound j value c ≡ Some d → bound_of k d ≡ option_or (bound_of k c) (if bytes_eq (bound_word j) (bound_word k) then Some value else None)
one_bound k Upper value c d h = by k
  where
    is : record c { upper = Some value } ≡ d
    is = bound_by (is_some c.upper || is_some c.fixed) (record c { upper = Some value }) d h

    gone : c.upper ≡ None
    gone = no_some c.upper (or_left (is_some c.upper) (is_some c.fixed) (taken_bound (is_some c.upper || is_some c.fixed) (record c { upper = Some value }) d h))

    by : (k : BoundKind) → bound_of k d ≡ option_or (bound_of k c) (if bytes_eq (bound_word Upper) (bound_word k) then Some value else None)
    by Upper = ap (λ (z : ReadColumn). z.upper) (sym is) ∙ ap (λ (o : Option ℕ). option_or o (Some value)) (sym gone)
    by Lower = ap (λ (z : ReadColumn). z.lower) (sym is) ∙ sym (or_none c.lower)
    by Fixed = ap (λ (z : ReadColumn). z.fixed) (sym is) ∙ sym (or_none c.fixed)
one_bound k Lower value c d h = by k
  where
    is : record c { lower = Some value } ≡ d
    is = bound_by (is_some c.lower || is_some c.fixed) (record c { lower = Some value }) d h

    gone : c.lower ≡ None
    gone = no_some c.lower (or_left (is_some c.lower) (is_some c.fixed) (taken_bound (is_some c.lower || is_some c.fixed) (record c { lower = Some value }) d h))

    by : (k : BoundKind) → bound_of k d ≡ option_or (bound_of k c) (if bytes_eq (bound_word Lower) (bound_word k) then Some value else None)
    by Upper = ap (λ (z : ReadColumn). z.upper) (sym is) ∙ sym (or_none c.upper)
    by Lower = ap (λ (z : ReadColumn). z.lower) (sym is) ∙ ap (λ (o : Option ℕ). option_or o (Some value)) (sym gone)
    by Fixed = ap (λ (z : ReadColumn). z.fixed) (sym is) ∙ sym (or_none c.fixed)
one_bound k Fixed value c d h = by k
  where
    is : record c { fixed = Some value } ≡ d
    is = bound_by ((is_some c.lower || is_some c.upper) || is_some c.fixed) (record c { fixed = Some value }) d h

    gone : c.fixed ≡ None
    gone = no_some c.fixed (or_right (is_some c.lower || is_some c.upper) (is_some c.fixed) (taken_bound ((is_some c.lower || is_some c.upper) || is_some c.fixed) (record c { fixed = Some value }) d h))

    by : (k : BoundKind) → bound_of k d ≡ option_or (bound_of k c) (if bytes_eq (bound_word Fixed) (bound_word k) then Some value else None)
    by Upper = ap (λ (z : ReadColumn). z.upper) (sym is) ∙ sym (or_none c.upper)
    by Lower = ap (λ (z : ReadColumn). z.lower) (sym is) ∙ sym (or_none c.lower)
    by Fixed = ap (λ (z : ReadColumn). z.fixed) (sym is) ∙ ap (λ (o : Option ℕ). option_or o (Some value)) (sym gone)

and_true : (a : Bool) → (a && true) ≡ a
and_true true = refl
and_true false = refl

and_false : (a : Bool) → (a && false) ≡ false
and_false true = refl
and_false false = refl

bound_line_adds : (k j : BoundKind) (column set b w : List ℕ) (place value : ℕ) (columns changed : List ReadColumn) → AreDistinct (column_names columns) → place_of b (column_names columns) ≡ Some place → bound_in w ≡ Some value → change_at place (with_bound j value) columns ≡ Some changed
    → first_given (bound_in_column k column) changed ≡ option_or (first_given (bound_in_column k column) columns) (bound_at (bound_word k) column (bound_word j ∷ set ∷ b ∷ w ∷ []))
bound_line_adds k j column set b w place value columns changed apart found number change =
    let c = changed_there (with_bound j value) place columns changed change in
    let word = bytes_eq (bound_word j) (bound_word k) in
    let more = bound_at (bound_word k) column (bound_word j ∷ set ∷ b ∷ w ∷ []) in
    let split : column_names columns ≡ map (λ (x : ReadColumn). x.name) (c.before ++ c.old ∷ c.behind) = ap column_names c.was in
    let is : b ≡ c.old.name = name_there (λ (x : ReadColumn). x.name) c.before c.old c.behind b place c.place (ap (place_of b) (sym split) ∙ found) in
    let step = named_more (λ (x : ReadColumn). x.name) (bound_of k) column c.before c.old c.new c.behind more (subst AreDistinct split apart) (name_by_bound j value c.old c.new c.by)
    (λ e. one_bound k j value c.old c.new c.by
    ∙ ap (option_or (bound_of k c.old)) (sym (ap (λ (x : Bool). if word && x then bound_in w else None) (ap (λ (z : List ℕ). bytes_eq z column) (is ∙ e) ∙ same column)
    ∙ (ap (λ (x : Bool). if x then bound_in w else None) (and_true word) ∙ ap (λ (o : Option ℕ). if word then o else None) number))))
    (λ e. ap (λ (x : Bool). if word && x then bound_in w else None) (ap (λ (z : List ℕ). bytes_eq z column) is ∙ e) ∙ ap (λ (x : Bool). if x then bound_in w else None) (and_false word)) in
    ap (first_given (bound_in_column k column)) c.is ∙ (step ∙ ap (λ (z : List ReadColumn). option_or (first_given (bound_in_column k column) z) more) (sym c.was))

free : (k : BoundKind) (column : List ℕ) → IsApartFrom (bound_in_column k column)
free Upper column = record { cost = (λ c value. refl); entries = (λ c entries. refl) }
free Lower column = record { cost = (λ c value. refl); entries = (λ c entries. refl) }
free Fixed column = record { cost = (λ c value. refl); entries = (λ c entries. refl) }

unbounded : (k : BoundKind) (name column : List ℕ) → bound_in_column k column (new_column name) ≡ None
unbounded k name column = by k (bytes_eq name column)
  where
    by : (k : BoundKind) (b : Bool) → (if b then bound_of k (new_column name) else None) ≡ None
    by k false = refl
    by Upper true = refl
    by Lower true = refl
    by Fixed true = refl

values_leave : (k : BoundKind) (column : List ℕ) (r : Reading) (fields : List (List ℕ)) (s : Reading) → columns_line r fields ≡ Ok s → bound_told k column s ≡ bound_told k column r
values_leave k column r fields s h = by (columns_taken r fields s h)
  where
    by : IsMarkLine r fields s ⊎ AreValues r fields s → bound_told k column s ≡ bound_told k column r
    by (inl o) = ap (bound_told k column) (sym o.after)
    by (inr v) =
        let f = bound_in_column k column in
        let last = last_opened (bound_in_column k column) v.name r.columns v.columns v.with in
        let kept = same_changed (bound_in_column k column) (with_values v.targets v.numbers) (length v.columns - 1) v.columns v.changed (λ c d gives. same_by_values (bound_in_column k column) (free k column) v.targets v.numbers c d gives) v.change in
        ap (bound_told k column) (sym v.after) ∙ (given_same (bound_in_column k column) v.columns v.changed kept ∙ last.given (unbounded k v.name column))

pub bounds_followed : (k : BoundKind) (column : List ℕ) → IsFollowed (bound_told k column) (bound_adds k column) (codes "BOUNDS")
bounds_followed k column = record {
  heading = (λ r stage. refl);
  rows = (λ r fields s sound at h. columns_by_rows (bound_told k column) (λ r name. refl) (λ r kind name. refl) r fields s h);
  columns = (λ r fields s sound h. values_leave k column r fields s h);
  rights = (λ r fields s sound h. let v = rights_taken r fields s h in ap (bound_told k column) (sym v.after));
  bounds = (λ r fields s sound h.
      let v = bound_taken r fields s h in
      ap (bound_told k column) (sym v.after)
      ∙ (bound_line_adds k v.kind column v.set v.column v.value v.place v.number r.columns v.changed sound.columns_apart v.place_is v.number_is v.change
      ∙ ap (λ (z : List (List ℕ)). option_or (bound_told k column r) (bound_at (bound_word k) column z)) (sym v.is)));
}

pub bounds_all : (k : BoundKind) (column : List ℕ) (lines : List (List (List ℕ))) → added (bound_adds k column) None lines ≡ first_given (bound_at (bound_word k) column) lines
bounds_all k column lines = or_all (bound_at (bound_word k) column) None lines
