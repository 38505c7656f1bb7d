-- What a line of the headings, the rows or the columns that is taken tells of what is read before it and behind it.
use Rattle.std.proofs.Common.{◌≡◌, ℕ, ◌-◌, Bool, true, false, List, [], ◌∷◌, length, Option, Some, None, Ok, Err, ℤ, inl, inr, refl, ap, ◌∙◌}
use Rattle.std.specs.Prelude.{◌&&◌, ◌||◌, not, is_none, bytes_eq, codes, if◌then◌else◌, ◌⊎◌}
use Rattle.std.specs.List.{list_all}
use Rattle.std.proofs.lemmas.Slice.Eq.{bytes_eq-Decides}
use Rattle.flow_model.specs.declared.programs.RowKind.{RowKind}
use Rattle.flow_model.specs.declared.programs.RowKind.TheVariants.{Equal, Least, Most}
use Rattle.flow_model.specs.Programs.{marker_word}
use Rattle.mps_text.specs.declared.faults.MpsCause.{MpsCause}
use Rattle.mps_text.specs.declared.faults.MpsCause.TheVariants as cause
use Rattle.mps_text.specs.declared.stages.Stage.{Stage}
use Rattle.mps_text.specs.declared.parts.ReadColumn.{ReadColumn}
use Rattle.mps_text.specs.Written.{kind_letter}
use Rattle.mps_text.specs.Meaning.{Reading, Judged, owes, gives, is_name, is_new_name, follows, stage_in, is_columns, is_ended, is_bounded, begins, heading, kind_in, with_objective, with_row, objective_line, row_named, row_line, rows_line, turn, mark_line, target_in, with_values, columns_with, column_line, columns_line, value_in, each_in, change_at}
use Rattle.mps_text.specs.Given.{Cell, cells_of, is_mark}

pub owed : (b : Bool) (e : MpsCause) (next : Judged) (s : Reading) → owes b e next ≡ Ok s → (b ≡ true) × (next ≡ Ok s)
owed true e next s h = (refl, h)
owed false e next s h = absurd (cc)

-- what a line names or gives is there
pub record IsThere {A : Type 0} (o : Option A) (f : A → Judged) (s : Reading) : Type 0 where
  pub value : A
  pub is : o ≡ Some value
  pub next : f value ≡ Ok s

pub there : {A : Type 0} (o : Option A) (e : MpsCause) (f : A → Judged) (s : Reading) → gives o e f ≡ Ok s → IsThere o f s
there None e f s h = absurd (cc)
there (Some x) e f s h = record { value = x; is = refl; next = h }

pub same_bytes : (x y : List ℕ) → bytes_eq x y ≡ true → x ≡ y
same_bytes x y h = (bytes_eq-Decides x y).0 h

-- a heading
pub record IsHeading (r : Reading) (fields : List (List ℕ)) (s : Reading) : Type 0 where
  pub stage : Stage
  pub named : stage_in fields ≡ Some stage
  pub follows : (follows r.stage stage && not (is_columns stage && is_none r.objective)) ≡ true
  pub bounded : (not (is_ended stage) || list_all is_bounded r.columns) ≡ true
  pub after : record r { stage = stage } ≡ s

pub ok_same : (x y : Reading) → ◌≡◌ {A = Judged} (Ok x) (Ok y) → x ≡ y
ok_same x y h = cc

pub heading_taken : (r : Reading) (fields : List (List ℕ)) (s : Reading) → heading r fields ≡ Ok s → IsHeading r fields s
heading_taken r fields s h =
    let stage = there (stage_in fields) cause.Section (begins r) s h in
    let last = owed (not (is_ended stage.value) || list_all is_bounded r.columns) cause.Bound (Ok (record r { stage = stage.value })) s in
    let kind = owed (not r.integers_open) cause.Kind (owes (not (is_ended stage.value) || list_all is_bounded r.columns) cause.Bound (Ok (record r { stage = stage.value }))) s in
    let first = owed (follows r.stage stage.value && not (is_columns stage.value && is_none r.objective)) cause.Section (owes (not r.integers_open) cause.Kind (owes (not (is_ended stage.value) || list_all is_bounded r.columns) cause.Bound (Ok (record r { stage = stage.value })))) s stage.next in
    let second = kind first.1 in
    let third = last second.1 in
    record { stage = stage.value; named = stage.is; follows = first.0; bounded = third.0; after = ok_same _ s third.1 }

-- a line of the rows
pub record IsObjective (r : Reading) (fields : List (List ℕ)) (s : Reading) : Type 0 where
  pub name : List ℕ
  pub is : fields ≡ codes "N" ∷ name ∷ []
  pub first : is_none r.objective ≡ true
  pub new : is_new_name r name ≡ true
  pub after : with_objective r name ≡ s

pub record IsNamedRow (r : Reading) (fields : List (List ℕ)) (s : Reading) : Type 0 where
  pub kind : RowKind
  pub name : List ℕ
  pub is : fields ≡ kind_letter kind ∷ name ∷ []
  pub new : is_new_name r name ≡ true
  pub after : with_row r kind name ≡ s

letter_is : (field : List ℕ) (k : RowKind) → kind_in field ≡ Some k → field ≡ kind_letter k
letter_is field k h = first (bytes_eq field (codes "E")) (bytes_eq field (codes "G")) (bytes_eq field (codes "L")) refl refl refl h
  where
    first : (a b c : Bool) → bytes_eq field (codes "E") ≡ a → bytes_eq field (codes "G") ≡ b → bytes_eq field (codes "L") ≡ c → (if a then Some Equal else (if b then Some Least else (if c then Some Most else None))) ≡ Some k → field ≡ kind_letter k
    first true b c x y z h = same_bytes field (codes "E") x ∙ ap kind_letter (some_kind Equal k h)
      where
        some_kind : (a b : RowKind) → Some a ≡ Some b → a ≡ b
        some_kind a b h = cc
    first false true c x y z h = same_bytes field (codes "G") y ∙ ap kind_letter (some_kind Least k h)
      where
        some_kind : (a b : RowKind) → Some a ≡ Some b → a ≡ b
        some_kind a b h = cc
    first false false true x y z h = same_bytes field (codes "L") z ∙ ap kind_letter (some_kind Most k h)
      where
        some_kind : (a b : RowKind) → Some a ≡ Some b → a ≡ b
        some_kind a b h = cc
    first false false false x y z h = absurd (cc)

pub row_taken : (r : Reading) (fields : List (List ℕ)) (s : Reading) → rows_line r fields ≡ Ok s → IsObjective r fields s ⊎ IsNamedRow r fields s
row_taken r [] s h = absurd (cc)
row_taken r (kind ∷ []) s h = absurd (cc)
row_taken r (kind ∷ name ∷ third ∷ fields) s h = absurd (cc)
row_taken r (kind ∷ name ∷ []) s h = by (bytes_eq kind (codes "N")) refl h
  where
    by : (b : Bool) → bytes_eq kind (codes "N") ≡ b → (if b then objective_line r name else row_line r kind name) ≡ Ok s → IsObjective r (kind ∷ name ∷ []) s ⊎ IsNamedRow r (kind ∷ name ∷ []) s
    by true e h =
        let first = owed (is_none r.objective) cause.Kind (owes (is_new_name r name) cause.Name (Ok (with_objective r name))) s h in
        let second = owed (is_new_name r name) cause.Name (Ok (with_objective r name)) s first.1 in
        inl (record { name = name; is = ap (λ (z : List ℕ). z ∷ name ∷ []) (same_bytes kind (codes "N") e); first = first.0; new = second.0; after = ok_same _ s second.1 })
    by false e h =
        let k = there (kind_in kind) cause.Kind (row_named r name) s h in
        let new = owed (is_new_name r name) cause.Name (Ok (with_row r k.value name)) s k.next in
        inr (record { kind = k.value; name = name; is = ap (λ (z : List ℕ). z ∷ name ∷ []) (letter_is kind k.value k.is); new = new.0; after = ok_same _ s new.1 })

-- a line of the columns: a mark, or values
pub record IsMarkLine (r : Reading) (fields : List (List ℕ)) (s : Reading) : Type 0 where
  pub marked : is_mark fields ≡ true
  pub integers_open : Bool
  pub after : record r { integers_open = integers_open } ≡ s

-- the cells of a name and pairs
abbrev pub cells_for : List ℕ → List (List ℕ) → List (List ℕ) → List Cell
cells_for name [] values = []
cells_for name (row ∷ rows) [] = []
cells_for name (row ∷ rows) (value ∷ values) = record { column = name; row = row; value = value } ∷ cells_for name rows values

pub record AreValues (r : Reading) (fields : List (List ℕ)) (s : Reading) : Type 0 where
  pub name : List ℕ
  pub rows : List (List ℕ)
  pub values : List (List ℕ)
  pub unmarked : is_mark fields ≡ false
  pub cells : cells_of fields ≡ cells_for name rows values
  pub row : List ℕ
  pub rest : List (List ℕ)
  pub rows_are : rows ≡ row ∷ rest
  pub value : List ℕ
  pub others : List (List ℕ)
  pub values_are : values ≡ value ∷ others
  pub columns : List ReadColumn
  pub with : columns_with name r.columns ≡ Some columns
  pub targets : List ℕ
  pub targets_are : each_in (target_in r) rows ≡ Some targets
  pub numbers : List ℤ
  pub numbers_are : each_in value_in values ≡ Some numbers
  pub changed : List ReadColumn
  pub change : change_at (length columns - 1) (with_values targets numbers) columns ≡ Some changed
  pub after : record r { columns = changed } ≡ s

values_taken : (r : Reading) (fields : List (List ℕ)) (s : Reading) (name row : List ℕ) (rest : List (List ℕ)) (value : List ℕ) (others : List (List ℕ)) → is_mark fields ≡ false → cells_of fields ≡ cells_for name (row ∷ rest) (value ∷ others) → column_line r name (row ∷ rest) (value ∷ others) ≡ Ok s → AreValues r fields s
values_taken r fields s name row rest value others unmarked cells h =
    let rows = row ∷ rest in
    let values = value ∷ others in
    let put = λ (columns : List ReadColumn) (targets : List ℕ) (numbers : List ℤ). gives (change_at (length columns - 1) (with_values targets numbers) columns) cause.Twice (λ changed. Ok (record r { columns = changed })) in
    let valued = λ (columns : List ReadColumn) (targets : List ℕ). gives (each_in value_in values) cause.Value (put columns targets) in
    let placed = λ (columns : List ReadColumn). gives (each_in (target_in r) rows) cause.Row (valued columns) in
    let columns = there (columns_with name r.columns) cause.Name (λ columns. owes r.integers_open cause.Real (placed columns)) s h in
    let real = owed r.integers_open cause.Real (placed columns.value) s columns.next in
    let targets = there (each_in (target_in r) rows) cause.Row (valued columns.value) s real.1 in
    let numbers = there (each_in value_in values) cause.Value (put columns.value targets.value) s targets.next in
    let changed = there (change_at (length columns.value - 1) (with_values targets.value numbers.value) columns.value) cause.Twice (λ changed. Ok (record r { columns = changed })) s numbers.next in
    record {
      name = name;
      rows = rows;
      values = values;
      unmarked = unmarked;
      cells = cells;
      row = row;
      rest = rest;
      rows_are = refl;
      value = value;
      others = others;
      values_are = refl;
      columns = columns.value;
      with = columns.is;
      targets = targets.value;
      targets_are = targets.is;
      numbers = numbers.value;
      numbers_are = numbers.is;
      changed = changed.value;
      change = changed.is;
      after = ok_same _ s changed.next;
    }

pub columns_taken : (r : Reading) (fields : List (List ℕ)) (s : Reading) → columns_line r fields ≡ Ok s → IsMarkLine r fields s ⊎ AreValues r fields s
columns_taken r [] s h = absurd (cc)
columns_taken r (a ∷ []) s h = absurd (cc)
columns_taken r (a ∷ b ∷ []) s h = absurd (cc)
columns_taken r (a ∷ b ∷ c ∷ d ∷ []) s h = absurd (cc)
columns_taken r (a ∷ b ∷ c ∷ d ∷ e ∷ f ∷ fields) s h = absurd (cc)
columns_taken r (a ∷ b ∷ c ∷ d ∷ e ∷ []) s h = inr (values_taken r (a ∷ b ∷ c ∷ d ∷ e ∷ []) s a b (d ∷ []) c (e ∷ []) refl refl h)
columns_taken r (a ∷ b ∷ c ∷ []) s h = by (bytes_eq b marker_word) refl h
  where
    turned : (opens : Bool) → turn r a opens ≡ Ok s → bytes_eq b marker_word ≡ true → IsMarkLine r (a ∷ b ∷ c ∷ []) s
    turned opens h e =
        let first = owed (if opens then not r.integers_open else r.integers_open) cause.Kind (owes (is_name a) cause.Name (Ok (record r { integers_open = opens }))) s h in
        let second = owed (is_name a) cause.Name (Ok (record r { integers_open = opens })) s first.1 in
        record { marked = e; integers_open = opens; after = ok_same _ s second.1 }

    mark_words : (x y : Bool) → (if x then turn r a true else (if y then turn r a false else Err cause.Fields)) ≡ Ok s → bytes_eq b marker_word ≡ true → IsMarkLine r (a ∷ b ∷ c ∷ []) s
    mark_words true y h e = turned true h e
    mark_words false true h e = turned false h e
    mark_words false false h e = absurd (cc)

    by : (x : Bool) → bytes_eq b marker_word ≡ x → (if x then mark_line r a c else column_line r a (b ∷ []) (c ∷ [])) ≡ Ok s → IsMarkLine r (a ∷ b ∷ c ∷ []) s ⊎ AreValues r (a ∷ b ∷ c ∷ []) s
    by true e h = inl (mark_words (bytes_eq c (codes "'INTORG'")) (bytes_eq c (codes "'INTEND'")) h e)
    by false e h = inr (values_taken r (a ∷ b ∷ c ∷ []) s a b [] c [] e refl h)
