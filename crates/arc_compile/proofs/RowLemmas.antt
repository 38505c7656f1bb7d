-- Types compiled in a row: put behind those before, and rows joined.
use Rattle.std.proofs.Common.{◌≡◌, ◌∙◌, ℕ, zero, suc, ◌+◌, ◌-◌, ◌<◌, ◌≤◌, List, [], ◌∷◌, ◌++◌, length, get_or, take, length-append, sym, ap, subst, ⊎_elim, Option, Some, None, arith}
use Rattle.std.specs.Prelude.{slice_get}
use Rattle.std.proofs.lemmas.Bool.{cases_lt}
use Rattle.std.proofs.lemmas.List.Sums.{sum_by-append, sum_by_more}
use Rattle.std.proofs.lemmas.List.{take_all}
use Rattle.std.proofs.lemmas.Option.{slice_get_within, slice_get-get_or, none-some, same_Some}
use Rattle.arc_num.specs.declared.TheConstants.{MAX_ARCS}
use Rattle.packing_laws.specs.Instances.{InstanceValue}
use Rattle.flow_graph.specs.Arcs.{TypeValue}
use Rattle.flow_graph.proofs.Places.{slice_get-append-add, slice_get-append-left}
use Rattle.arc_compile.specs.declared.results.TypeSize.{TypeSize}
use Rattle.arc_compile.specs.declared.results.CompileFault.{CompileFault}
use Rattle.arc_compile.specs.declared.results.CompileFault.TheVariants.{TooManyArcs, Memory}
use Rattle.arc_compile.specs.declared.type_graphs.CompiledType.{CompiledType}
use Rattle.arc_compile.specs.declared.rows.TypeRow.{TypeRow}
use Rattle.arc_compile.specs.Extended.{places_of}
use Rattle.arc_compile.specs.Graphs.{HasMainArcs, IsTooLarge}
use Rattle.arc_compile.specs.inner.Rows.{type_value, main_arcs_of, IsDone, IsTooMuch, IsFaultAt, EndsAt, IsRow}
use Rattle.arc_compile.proofs.TypesSoFar.{AreCompiledSoFar, one_more, too_large}

module _ (I : InstanceValue) (row : TypeRow) (count k : ℕ) (g : List TypeValue) (sizes : List TypeSize) (room : ℕ) (is_row : IsRow I 1 count row) (so_far : AreCompiledSoFar I k g sizes room) where
  one_is : 1 + k ≡ k + 1
  one_is = omega arith

  -- a type of the row, at its place
  done_at : (x : CompiledType) → slice_get row.types.items k ≡ Some x → IsDone I (k + 1) x
  done_at x at = subst (λ (t : ℕ). IsDone I t x) one_is (is_row.each k x at)

  -- one more type, where there is room
  pub put_one : (x : CompiledType) → slice_get row.types.items k ≡ Some x → x.size.main_arcs ≤ room → AreCompiledSoFar I (k + 1) (g ++ type_value x ∷ []) (sizes ++ x.size ∷ []) (room - x.size.main_arcs)
  put_one x at roomy =
      let done = done_at x at in
      one_more I k g sizes room so_far (type_value x) x.size done.compiled roomy done.fewer

  -- a type for which there is none
  pub past_room : (x : CompiledType) → slice_get row.types.items k ≡ Some x → count ≡ length I.types → room < x.size.main_arcs → IsTooLarge I (k + 1)
  past_room x at all past =
      let done = done_at x at in
      let inside : k < length row.types.items = slice_get_within row.types.items k x at in
      too_large I k g sizes room so_far (omega arith, omega (arith, inside, is_row.within, all)) x.size.main_arcs
      (record { level = done.compiled.level; main = done.compiled.main; mains = done.compiled.graphs.mains; arcs_are = done.compiled.sizes.main_arcs }) past

  -- the fault behind the last type of the row
  pub faulty : (fault : CompileFault) → length row.types.items ≡ k → count ≡ length I.types → main_arcs_of row.types.items + room ≡ MAX_ARCS → row.fault ≡ Some fault → (t : ℕ) → fault ≡ TooManyArcs t → IsTooLarge I t
  faulty Memory len all whole is t e = absurd (cc)
  faulty (TooManyArcs s) len all whole is t e =
      let at : EndsAt I 1 count row.types.items (Some (TooManyArcs s)) = subst (λ (f : Option CompileFault). EndsAt I 1 count row.types.items f) is is_row.end in
      let same : s ≡ t = cc in
      let there : k + 1 ≡ t = omega (arith, at.0, len, same) in
      let here : 1 + length row.types.items ≡ k + 1 = omega (arith, len) in
      let much : IsTooMuch I (k + 1) (main_arcs_of row.types.items) = subst (λ (n : ℕ). IsTooMuch I n (main_arcs_of row.types.items)) here at.2 in
      subst (λ (n : ℕ). IsTooLarge I n) there
      (too_large I k g sizes room so_far (omega arith, omega (arith, at.1, len, all)) much.arcs much.has (omega (arith, whole, much.past)))

  -- all types are done
  pub all_done : length row.types.items ≡ k → row.fault ≡ None → k ≡ count
  all_done len none = let at : EndsAt I 1 count row.types.items None = subst (λ (f : Option CompileFault). EndsAt I 1 count row.types.items f) none is_row.end in omega (arith, at, len)

-- how many arcs the first types have, with one type more
pub arcs_more : (xs : List CompiledType) (k : ℕ) (x : CompiledType) (room : ℕ) → slice_get xs k ≡ Some x → main_arcs_of (take k xs) + room ≡ MAX_ARCS → x.size.main_arcs ≤ room → main_arcs_of (take (k + 1) xs) + (room - x.size.main_arcs) ≡ MAX_ARCS
arcs_more xs k x room at sum roomy =
    let within = slice_get_within xs k x at in
    let here : get_or xs k x ≡ x = same_Some (get_or xs k x) x (sym (slice_get-get_or xs k x within) ∙ at) in
    omega (arith, sum, roomy, sum_by_more (λ (y : CompiledType). y.size.main_arcs) xs k x within, ap (λ (y : CompiledType). y.size.main_arcs) here)

-- with all types
pub arcs_all : (xs : List CompiledType) (k room : ℕ) → length xs ≡ k → main_arcs_of (take k xs) + room ≡ MAX_ARCS → main_arcs_of xs + room ≡ MAX_ARCS
arcs_all xs k room whole sum = omega (arith, sum, ap main_arcs_of (take_all k xs (omega (arith, whole))))

-- what holds of each element of two lists, by its place, holds in the lists joined
each_joined : {A : Type 0} (P : ℕ → A → Type 0) (xs ys : List A) → ((k : ℕ) (x : A) → slice_get xs k ≡ Some x → P k x) → ((k : ℕ) (x : A) → slice_get ys k ≡ Some x → P (length xs + k) x) → (k : ℕ) (x : A) → slice_get (xs ++ ys) k ≡ Some x → P k x
each_joined {A} P xs ys first second k x e = ⊎_elim before behind (cases_lt k (length xs))
  where
    before : k < length xs → P k x
    before lt = let here = slice_get-get_or xs k x lt in first k x (here ∙ (sym (slice_get-append-left xs ys k (get_or xs k x) here) ∙ e))

    behind : length xs ≤ k → P k x
    behind le =
        let at : length xs + (k - length xs) ≡ k = omega (arith, le) in
        subst (λ (n : ℕ). P n x) at (second (k - length xs) x (sym (slice_get-append-add xs ys (k - length xs)) ∙ (ap (slice_get (xs ++ ys)) at ∙ e)))

only_one : {A : Type 0} (P : ℕ → A → Type 0) (y : A) → P 0 y → (k : ℕ) (x : A) → slice_get (y ∷ []) k ≡ Some x → P k x
only_one {A} P y here zero x e = subst (λ (z : A). P 0 z) (same_Some y x e) here
only_one {A} P y here (suc k) x e = absurd (none-some x e)

-- one more type in a row
pub row_push : (I : InstanceValue) (first n : ℕ) (xs : List CompiledType) (y : CompiledType) → ((k : ℕ) (x : CompiledType) → slice_get xs k ≡ Some x → IsDone I (first + k) x) → n ≡ first + length xs → IsDone I n y → (k : ℕ) (x : CompiledType) → slice_get (xs ++ y ∷ []) k ≡ Some x → IsDone I (first + k) x
row_push I first n xs y each at here =
    let last : first + (length xs + 0) ≡ n = omega (arith, at) in
    each_joined (λ (k : ℕ) (x : CompiledType). IsDone I (first + k) x) xs (y ∷ []) each (only_one (λ (k : ℕ) (x : CompiledType). IsDone I (first + (length xs + k)) x) y (subst (λ (m : ℕ). IsDone I m y) (sym last) here))

-- a row with all its types, and one behind it
module _ (I : InstanceValue) (first half rest : ℕ) (left right : TypeRow) (is_left : IsRow I first half left) (is_right : IsRow I (first + half) rest right) where
  -- a row that ends with a fault, as the first of a longer one
  pub left_alone : (fault : CompileFault) → left.fault ≡ Some fault → IsRow I first (half + rest) left
  left_alone fault is = record {
    each = is_left.each;
    within = omega (arith, is_left.within);
    end = subst (λ (f : Option CompileFault). EndsAt I first (half + rest) left.types.items f) (sym is) (by_fault fault (subst (λ (f : Option CompileFault). EndsAt I first half left.types.items f) is is_left.end));
  }
    where
      by_fault : (f : CompileFault) → EndsAt I first half left.types.items (Some f) → EndsAt I first (half + rest) left.types.items (Some f)
      by_fault (TooManyArcs s) h = (h.0, omega (arith, h.1), h.2)
      by_fault Memory h = tt

  -- the types of both rows
  pub both_each : left.fault ≡ None → (k : ℕ) (x : CompiledType) → slice_get (left.types.items ++ right.types.items) k ≡ Some x → IsDone I (first + k) x
  both_each none =
      let full : length left.types.items ≡ half = subst (λ (f : Option CompileFault). EndsAt I first half left.types.items f) none is_left.end in
      each_joined (λ (k : ℕ) (x : CompiledType). IsDone I (first + k) x) left.types.items right.types.items is_left.each
      (λ k x e. let at : first + half + k ≡ first + (length left.types.items + k) = omega (arith, full) in subst (λ (n : ℕ). IsDone I n x) at (is_right.each k x e))

  pub both_rows : (types : List CompiledType) (row : TypeRow) → left.fault ≡ None → types ≡ left.types.items ++ right.types.items → row.types.items ≡ types → row.fault ≡ right.fault → IsRow I first (half + rest) row
  both_rows types row none all are same =
      let full : length left.types.items ≡ half = subst (λ (f : Option CompileFault). EndsAt I first half left.types.items f) none is_left.end in
      let items : row.types.items ≡ left.types.items ++ right.types.items = are ∙ all in
      let len : length row.types.items ≡ half + length right.types.items = ap (λ (xs : List CompiledType). length xs) items ∙ (length-append left.types.items right.types.items ∙ ap (λ (n : ℕ). n + length right.types.items) full) in
      record {
        each = subst (λ (xs : List CompiledType). (k : ℕ) (x : CompiledType) → slice_get xs k ≡ Some x → IsDone I (first + k) x) (sym items) (both_each none);
        within = omega (arith, len, is_right.within);
        end = subst (λ (f : Option CompileFault). EndsAt I first (half + rest) row.types.items f) (sym same)
            (by_fault right.fault len (sum_is items) is_right.end);
      }
    where
      sum_is : row.types.items ≡ left.types.items ++ right.types.items → main_arcs_of row.types.items ≡ main_arcs_of left.types.items + main_arcs_of right.types.items
      sum_is items = ap main_arcs_of items ∙ sum_by-append (λ (x : CompiledType). x.size.main_arcs) left.types.items right.types.items

      by_fault : (f : Option CompileFault) → length row.types.items ≡ half + length right.types.items → main_arcs_of row.types.items ≡ main_arcs_of left.types.items + main_arcs_of right.types.items → EndsAt I (first + half) rest right.types.items f → EndsAt I first (half + rest) row.types.items f
      by_fault None len sum h = omega (arith, len, h)
      by_fault (Some (TooManyArcs s)) len sum h =
          let at : first + half + length right.types.items ≡ first + length row.types.items = omega (arith, len) in
          let much = h.2 in
          (omega (arith, h.0, at), omega (arith, h.1, len), record { arcs = much.arcs; has = subst (λ (n : ℕ). HasMainArcs (places_of I) I n much.arcs) at much.has; past = omega (arith, sum, much.past) })
      by_fault (Some Memory) len sum h = tt

  -- no memory was left to join them
  pub left_starved : (row : TypeRow) → row.types.items ≡ left.types.items → row.fault ≡ Some Memory → IsRow I first (half + rest) row
  left_starved row are is = record {
    each = subst (λ (xs : List CompiledType). (k : ℕ) (x : CompiledType) → slice_get xs k ≡ Some x → IsDone I (first + k) x) (sym are) is_left.each;
    within = omega (arith, is_left.within, ap (λ (xs : List CompiledType). length xs) are);
    end = subst (λ (f : Option CompileFault). EndsAt I first (half + rest) row.types.items f) (sym is) tt;
  }

-- a row as far as memory went
pub row_starved : (I : InstanceValue) (first count : ℕ) (row : TypeRow) → ((k : ℕ) (x : CompiledType) → slice_get row.types.items k ≡ Some x → IsDone I (first + k) x) → length row.types.items ≤ count → row.fault ≡ Some Memory → IsRow I first count row
row_starved I first count row each within is = record { each = each; within = within; end = subst (λ (f : Option CompileFault). EndsAt I first count row.types.items f) (sym is) tt }

-- a row up to a type with a fault
pub row_faulty : (I : InstanceValue) (first count n room : ℕ) (fault : CompileFault) (row : TypeRow) → ((k : ℕ) (x : CompiledType) → slice_get row.types.items k ≡ Some x → IsDone I (first + k) x) → first + length row.types.items ≡ n → n < first + count → main_arcs_of row.types.items + room ≡ MAX_ARCS → IsFaultAt I n (MAX_ARCS - room) fault → row.fault ≡ Some fault → IsRow I first count row
row_faulty I first count n room fault row each at within sum faulty is = record {
  each = each;
  within = omega (arith, at, within);
  end = subst (λ (f : Option CompileFault). EndsAt I first count row.types.items f) (sym is) (by_fault fault faulty);
}
  where
    by_fault : (f : CompileFault) → IsFaultAt I n (MAX_ARCS - room) f → EndsAt I first count row.types.items (Some f)
    by_fault (TooManyArcs s) h =
        let much = h.1 in
        (omega (arith, h.0, at), omega (arith, at, within), record { arcs = much.arcs; has = subst (λ (t : ℕ). HasMainArcs (places_of I) I t much.arcs) (sym at) much.has; past = omega (arith, sum, much.past) })
    by_fault Memory h = tt
