-- What keeps the rules of programs: numbers, entries, columns and rows, and what is read so far.
use Rattle.std.proofs.Common.{suc, zero, ◌≡◌, ◌≢◌, ℕ, ◌+◌, ◌<◌, ◌≤◌, ◌^◌, Bool, true, false, List, [], ◌∷◌, ◌++◌, length, get_or, Option, Some, None, ℤ, pos, negsuc, inl, inr, refl, sym, ap, ◌∙◌, subst, arith, length-append}
use Rattle.std.specs.Prelude.{◌&&◌, ◌||◌, ◌==◌, nat_le, is_none, is_some, nat_abs, neg_ℤ, bytes_eq, codes, take, drop, map, option_map, option_and_then, option_to_list, if◌then◌else◌, ◌⊎◌}
use Rattle.std.specs.List.{list_all, list_any, AllByRecursion}
use Rattle.std.proofs.lemmas.Bool.Decides.{nat_tests}
use Rattle.std.proofs.lemmas.List.{map-append, get_or_append_left}
use Rattle.std.proofs.lemmas.List.Sums.{fails_before_first}
use Rattle.arc_num.specs.Decimals.{are_digits, value_of}
use Rattle.flow_model.specs.declared.programs.Entry.{Entry}
use Rattle.flow_model.specs.Programs.{IsName, IsNumber, AreDistinct}
use Rattle.mps_text.specs.declared.stages.Stage.{Stage}
use Rattle.mps_text.specs.declared.stages.Stage.TheVariants.{Start, Named, Rows}
use Rattle.mps_text.specs.declared.stages.BoundKind.{BoundKind}
use Rattle.mps_text.specs.declared.stages.BoundKind.TheVariants.{Upper, Lower, Fixed}
use Rattle.mps_text.specs.declared.parts.ReadColumn.{ReadColumn}
use Rattle.mps_text.specs.Meaning.{Reading, place_of, row_names, column_names, is_ended, is_bounded, has_entry, with_cost, with_entry, with_value, with_values, value_in, bound_in, size_in, size_of, onto_some, each_in, change_at, with_bound}
use Rattle.mps_text.proofs.WrittenNumbers.{both}
use Rattle.mps_text.proofs.NamePlaces.{seam, same}
use Rattle.arc_num.proofs.Places.{place_none}
use Rattle.mps_text.proofs.SideSteps.{changed_there}

-- a number that is given is within the limit
abbrev pub IsSmall : Option ℤ → Type 0
IsSmall None = Unit {0}
IsSmall (Some z) = IsNumber z

abbrev pub IsSmallBound : Option ℕ → Type 0
IsSmallBound None = Unit {0}
IsSmallBound (Some n) = n ≤ 2 ^ 62

-- an entry in one of n rows, of value 0 too
abbrev pub IsGiven : ℕ → Entry → Type 0
IsGiven n e = (1 ≤ e.row) × (e.row ≤ n) × (nat_abs e.value ≤ 2 ^ 62)

-- no two entries stand in the same row
abbrev pub Apart : List Entry → Type 0
Apart [] = Unit {0}
Apart (e ∷ entries) = AllByRecursion (λ d. d.row ≢ e.row) entries × Apart entries

pub record IsSoundColumn (n : ℕ) (c : ReadColumn) : Type 0 where
  pub name : IsName c.name
  pub cost : IsSmall c.cost
  pub entries : AllByRecursion (IsGiven n) c.entries
  pub apart : Apart c.entries
  pub fixed : IsSmallBound c.fixed
  pub lower : IsSmallBound c.lower
  pub upper : IsSmallBound c.upper

abbrev pub names_in : Reading → List (List ℕ)
names_in r = option_to_list r.objective ++ row_names r.rows

-- whether the rows are behind
abbrev pub is_behind_rows : Stage → Bool
is_behind_rows Start = false
is_behind_rows Named = false
is_behind_rows Rows = false
is_behind_rows stage = true

pub record IsSound (r : Reading) : Type 0 where
  pub names : AllByRecursion IsName (names_in r)
  pub apart : AreDistinct (names_in r)
  pub rights : AllByRecursion (λ row. IsSmall row.right) r.rows
  pub columns : AllByRecursion (IsSoundColumn (length r.rows)) r.columns
  pub columns_apart : AreDistinct (column_names r.columns)
  pub objective : is_behind_rows r.stage ≡ true → is_none r.objective ≡ false
  pub ended : is_ended r.stage ≡ true → list_all is_bounded r.columns ≡ true
  pub none : is_behind_rows r.stage ≡ false → r.columns ≡ []

-- lists

pub all_append : {A : Type 0} (P : A → Type 0) (xs ys : List A) → AllByRecursion P xs → AllByRecursion P ys → AllByRecursion P (xs ++ ys)
all_append P [] ys a b = b
all_append P (x ∷ xs) ys a b = (a.0, all_append P xs ys a.1 b)

pub all_front : {A : Type 0} (P : A → Type 0) (xs ys : List A) → AllByRecursion P (xs ++ ys) → AllByRecursion P xs
all_front P [] ys h = tt
all_front P (x ∷ xs) ys h = (h.0, all_front P xs ys h.1)

pub all_behind : {A : Type 0} (P : A → Type 0) (xs ys : List A) → AllByRecursion P (xs ++ ys) → AllByRecursion P ys
all_behind P [] ys h = h
all_behind P (x ∷ xs) ys h = all_behind P xs ys h.1

pub all_on : {A : Type 0} (P Q : A → Type 0) (xs : List A) → ((x : A) → P x → Q x) → AllByRecursion P xs → AllByRecursion Q xs
all_on P Q [] f h = tt
all_on P Q (x ∷ xs) f h = (f x h.0, all_on P Q xs f h.1)

-- a change that keeps what holds of each element
pub all_changed : {A : Type 0} (P : A → Type 0) (f : A → Option A) (i : ℕ) (xs ys : List A) → ((x y : A) → P x → f x ≡ Some y → P y) → AllByRecursion P xs → change_at i f xs ≡ Some ys → AllByRecursion P ys
all_changed {A} P f i xs ys keeps h change =
    let c = changed_there f i xs ys change in
    let all = subst (λ (z : List A). AllByRecursion P z) c.was h in
    let rest = all_behind P c.before (c.old ∷ c.behind) all in
    subst (λ (z : List A). AllByRecursion P z) (sym c.is)
    (all_append P c.before (c.new ∷ c.behind) (all_front P c.before (c.old ∷ c.behind) all) (keeps c.old c.new rest.0 c.by, rest.1))

-- a change that keeps what is told of each element
pub same_changed : {A B : Type 0} (g : A → B) (f : A → Option A) (i : ℕ) (xs ys : List A) → ((x y : A) → f x ≡ Some y → g y ≡ g x) → change_at i f xs ≡ Some ys → map g ys ≡ map g xs
same_changed {A} {B} g f i xs ys keeps change =
    let c = changed_there f i xs ys change in
    ap (map g) c.is ∙ (map-append g c.before (c.new ∷ c.behind) ∙ (ap (λ (z : B). map g c.before ++ z ∷ map g c.behind) (keeps c.old c.new c.by) ∙ (sym (map-append g c.before (c.old ∷ c.behind)) ∙ ap (map g) (sym c.was))))

-- names that are apart, and one more behind them
size_more : (xs : List (List ℕ)) (x : List ℕ) → length (xs ++ x ∷ []) ≡ length xs + 1
size_more xs x = length-append xs (x ∷ [])

left_of : {A : Type 0} (xs : List A) (x : A) (i : ℕ) (d : A) → i < length xs → get_or (xs ++ x ∷ []) i d ≡ get_or xs i d
left_of xs x i d below = get_or_append_left xs (x ∷ []) d i below

pub apart_more : (xs : List (List ℕ)) (x : List ℕ) → AreDistinct xs → place_of x xs ≡ None → AreDistinct (xs ++ x ∷ [])
apart_more xs x h none i j d lt small = by (below_or_last j (length xs) (let n = size_more xs x in omega arith))
  where
    below_or_last : (a b : ℕ) → a ≤ b → (a < b) ⊎ (a ≡ b)
    below_or_last a b le = grind arith

    by : (j < length xs) ⊎ (j ≡ length xs) → get_or (xs ++ x ∷ []) i d ≢ get_or (xs ++ x ∷ []) j d
    by (inl below) = (λ e. h i j d lt below (sym (left_of xs x i d (omega arith)) ∙ (e ∙ left_of xs x j d below)))
    by (inr last) = (λ e.
        let at : get_or (xs ++ x ∷ []) j d ≡ x = ap (λ (n : ℕ). get_or (xs ++ x ∷ []) n d) last ∙ seam xs x [] d in
        let is : get_or xs i d ≡ x = sym (left_of xs x i d (omega arith)) ∙ (e ∙ at) in
        let fails = fails_before_first (bytes_eq x) xs i d (let n = place_none (bytes_eq x) xs none in omega arith) in
        let holds : bytes_eq x (get_or xs i d) ≡ true = ap (bytes_eq x) is ∙ same x in
        absurd (cc))

-- numbers in fields

size_small : (field : List ℕ) (n : ℕ) → size_in field ≡ Some n → n ≤ 2 ^ 62
size_small field n h = by (are_digits field && nat_le (value_of field) (2 ^ 62)) refl h
  where
    by : (b : Bool) → (are_digits field && nat_le (value_of field) (2 ^ 62)) ≡ b → (if b then Some (value_of field) else None) ≡ Some n → n ≤ 2 ^ 62
    by true e h =
        let parts = both (are_digits field) (nat_le (value_of field) (2 ^ 62)) e in
        let same : value_of field ≡ n = cc in
        let le : value_of field ≤ 2 ^ 62 = grind (arith, nat_tests, parts.1) in
        omega arith
    by false e h = absurd (cc)

neg_small : (n : ℕ) → nat_abs (neg_ℤ (pos n)) ≡ n
neg_small zero = refl
neg_small (suc n) = refl

pub value_small : (field : List ℕ) (z : ℤ) → value_in field ≡ Some z → nat_abs z ≤ 2 ^ 62
value_small field z h = by (bytes_eq (take 1 field) (codes "-")) h
  where
    signed : (o : Option ℕ) → size_in (drop 1 field) ≡ o → option_map (λ (n : ℕ). neg_ℤ (pos n)) o ≡ Some z → nat_abs z ≤ 2 ^ 62
    signed None e h = absurd (cc)
    signed (Some n) e h =
        let small = size_small (drop 1 field) n e in
        let same : neg_ℤ (pos n) ≡ z = cc in
        subst (λ (m : ℕ). m ≤ 2 ^ 62) (sym (neg_small n) ∙ ap nat_abs same) small

    plain : (o : Option ℕ) → size_in field ≡ o → option_map pos o ≡ Some z → nat_abs z ≤ 2 ^ 62
    plain None e h = absurd (cc)
    plain (Some n) e h =
        let small = size_small field n e in
        let same : pos n ≡ z = cc in
        subst (λ (m : ℕ). m ≤ 2 ^ 62) (ap nat_abs same) small

    by : (b : Bool) → (if b then option_map (λ (n : ℕ). neg_ℤ (pos n)) (size_in (drop 1 field)) else option_map pos (size_in field)) ≡ Some z → nat_abs z ≤ 2 ^ 62
    by true h = signed (size_in (drop 1 field)) refl h
    by false h = plain (size_in field) refl h

pub bound_small : (field : List ℕ) (n : ℕ) → bound_in field ≡ Some n → n ≤ 2 ^ 62
bound_small field n h = by (value_in field) refl h
  where
    by : (o : Option ℤ) → value_in field ≡ o → option_and_then size_of o ≡ Some n → n ≤ 2 ^ 62
    by None e h = absurd (cc)
    by (Some (pos m)) e h =
        let small = value_small field (pos m) e in
        let same : m ≡ n = cc in
        subst (λ (z : ℕ). z ≤ 2 ^ 62) same small
    by (Some (negsuc m)) e h = absurd (cc)

pub record AreSome {A : Type 0} (f : List ℕ → Option A) (field : List ℕ) (fields : List (List ℕ)) (xs : List A) : Type 0 where
  pub first : A
  pub rest : List A
  pub is : f field ≡ Some first
  pub others : each_in f fields ≡ Some rest
  pub all : xs ≡ first ∷ rest

pub each_some : {A : Type 0} (f : List ℕ → Option A) (field : List ℕ) (fields : List (List ℕ)) (xs : List A) → each_in f (field ∷ fields) ≡ Some xs → AreSome f field fields xs
each_some {A} f field fields xs h = by (f field) (each_in f fields) refl refl h
  where
    by : (o : Option A) (p : Option (List A)) → f field ≡ o → each_in f fields ≡ p → onto_some o p ≡ Some xs → AreSome f field fields xs
    by None p d e h = absurd (cc)
    by (Some x) None d e h = absurd (cc)
    by (Some x) (Some rest) d e h = record { first = x; rest = rest; is = d; others = e; all = cc }

pub list_is : {A : Type 0} (xs : List A) → Some [] ≡ Some xs → xs ≡ []
list_is xs h = cc

pub values_small : (fields : List (List ℕ)) (numbers : List ℤ) → each_in value_in fields ≡ Some numbers → AllByRecursion IsNumber numbers
values_small [] numbers h = subst (λ (z : List ℤ). AllByRecursion IsNumber z) (sym (list_is numbers h)) tt
values_small (field ∷ fields) numbers h =
    let s = each_some value_in field fields numbers h in
    subst (λ (z : List ℤ). AllByRecursion IsNumber z) (sym s.all) (value_small field s.first s.is, values_small fields s.rest s.others)

-- values of a column

entry_new : (row : ℕ) (entries : List Entry) → list_any (λ e. e.row == row) entries ≡ false → AllByRecursion (λ d. row ≢ d.row) entries
entry_new row [] h = tt
entry_new row (e ∷ entries) h = by (e.row == row) refl h (entry_new row entries)
  where
    by : (b : Bool) → (e.row == row) ≡ b → (b || list_any (λ e. e.row == row) entries) ≡ false → (list_any (λ e. e.row == row) entries ≡ false → AllByRecursion (λ d. row ≢ d.row) entries) → (row ≢ e.row) × AllByRecursion (λ d. row ≢ d.row) entries
    by true e h next = absurd (cc)
    by false s h next = ((λ same. let t : (e.row == row) ≡ true = grind (arith, nat_tests) in absurd (cc)), next h)

apart_entry : (entries : List Entry) (e : Entry) → Apart entries → AllByRecursion (λ d. e.row ≢ d.row) entries → Apart (entries ++ e ∷ [])
apart_entry [] e h new = (tt, tt)
apart_entry (d ∷ entries) e h new = (all_append (λ x. x.row ≢ d.row) entries (e ∷ []) h.0 (new.0, tt), apart_entry entries e h.1 new.1)

cost_sound : (n : ℕ) (c d : ReadColumn) (value : ℤ) → IsSoundColumn n c → nat_abs value ≤ 2 ^ 62 → with_cost value c ≡ Some d → IsSoundColumn n d
cost_sound n c d value h small gives = by (is_some c.cost) gives
  where
    by : (b : Bool) → (if b then None else Some (record c { cost = Some value })) ≡ Some d → IsSoundColumn n d
    by true gives = absurd (cc)
    by false gives =
        let same : record c { cost = Some value } ≡ d = cc in
        subst (λ (z : ReadColumn). IsSoundColumn n z) same (record { name = h.name; cost = small; entries = h.entries; apart = h.apart; fixed = h.fixed; lower = h.lower; upper = h.upper })

entry_sound : (n row : ℕ) (c d : ReadColumn) (value : ℤ) → IsSoundColumn n c → 1 ≤ row → row ≤ n → nat_abs value ≤ 2 ^ 62 → with_entry row value c ≡ Some d → IsSoundColumn n d
entry_sound n row c d value h low high small gives = by (has_entry row c) refl gives
  where
    by : (b : Bool) → has_entry row c ≡ b → (if b then None else Some (record c { entries = c.entries ++ record { row = row; value = value } ∷ [] })) ≡ Some d → IsSoundColumn n d
    by true e gives = absurd (cc)
    by false e gives =
        let same : record c { entries = c.entries ++ record { row = row; value = value } ∷ [] } ≡ d = cc in
        subst (λ (z : ReadColumn). IsSoundColumn n z) same
        (record {
          name = h.name;
          cost = h.cost;
          entries = all_append (IsGiven n) c.entries (record { row = row; value = value } ∷ []) h.entries ((low, high, small), tt);
          apart = apart_entry c.entries (record { row = row; value = value }) h.apart (entry_new row c.entries e);
          fixed = h.fixed;
          lower = h.lower;
          upper = h.upper;
        })

value_sound : (n target : ℕ) (c d : ReadColumn) (value : ℤ) → IsSoundColumn n c → target ≤ n → nat_abs value ≤ 2 ^ 62 → with_value target value c ≡ Some d → IsSoundColumn n d
value_sound n zero c d value h high small gives = cost_sound n c d value h small gives
value_sound n (suc row) c d value h high small gives = entry_sound n (suc row) c d value h (omega arith) high small gives

pub values_sound : (n : ℕ) (targets : List ℕ) (numbers : List ℤ) (c d : ReadColumn) → IsSoundColumn n c → AllByRecursion (λ t. t ≤ n) targets → AllByRecursion IsNumber numbers → with_values targets numbers c ≡ Some d → IsSoundColumn n d
values_sound n [] numbers c d h high small gives = let same : c ≡ d = cc in subst (λ (z : ReadColumn). IsSoundColumn n z) same h
values_sound n (t ∷ targets) [] c d h high small gives = let same : c ≡ d = cc in subst (λ (z : ReadColumn). IsSoundColumn n z) same h
values_sound n (t ∷ targets) (v ∷ numbers) c d h high small gives = by (with_value t v c) refl gives (λ x s. values_sound n targets numbers x d s high.1 small.1)
  where
    by : (o : Option ReadColumn) → with_value t v c ≡ o → option_and_then (with_values targets numbers) o ≡ Some d → ((x : ReadColumn) → IsSoundColumn n x → with_values targets numbers x ≡ Some d → IsSoundColumn n d) → IsSoundColumn n d
    by None e gives next = absurd (cc)
    by (Some x) e gives next = next x (value_sound n t c x v h high.0 small.0 e) gives

-- what values of a column leave as it is
pub record IsApartFrom {X : Type 0} (g : ReadColumn → X) : Type 0 where
  pub cost : (c : ReadColumn) (value : Option ℤ) → g (record c { cost = value }) ≡ g c
  pub entries : (c : ReadColumn) (entries : List Entry) → g (record c { entries = entries }) ≡ g c

pub same_by_values : {X : Type 0} (g : ReadColumn → X) → IsApartFrom g → (targets : List ℕ) (numbers : List ℤ) (c d : ReadColumn) → with_values targets numbers c ≡ Some d → g d ≡ g c
same_by_values g free [] numbers c d gives = let same : c ≡ d = cc in ap g (sym same)
same_by_values g free (t ∷ targets) [] c d gives = let same : c ≡ d = cc in ap g (sym same)
same_by_values {X} g free (t ∷ targets) (v ∷ numbers) c d gives = by (with_value t v c) refl gives (λ x. same_by_values g free targets numbers x d)
  where
    cost : (b : Bool) (x : ReadColumn) → (if b then None else Some (record c { cost = Some v })) ≡ Some x → g x ≡ g c
    cost true x h = absurd (cc)
    cost false x h = let same : record c { cost = Some v } ≡ x = cc in ap g (sym same) ∙ free.cost c (Some v)

    entry : (row : ℕ) (b : Bool) (x : ReadColumn) → (if b then None else Some (record c { entries = c.entries ++ record { row = row; value = v } ∷ [] })) ≡ Some x → g x ≡ g c
    entry row true x h = absurd (cc)
    entry row false x h = let same : record c { entries = c.entries ++ record { row = row; value = v } ∷ [] } ≡ x = cc in ap g (sym same) ∙ free.entries c (c.entries ++ record { row = row; value = v } ∷ [])

    one : (t : ℕ) (x : ReadColumn) → with_value t v c ≡ Some x → g x ≡ g c
    one zero x h = cost (is_some c.cost) x h
    one (suc row) x h = entry (suc row) (has_entry (suc row) c) x h

    by : (o : Option ReadColumn) → with_value t v c ≡ o → option_and_then (with_values targets numbers) o ≡ Some d → ((x : ReadColumn) → with_values targets numbers x ≡ Some d → g d ≡ g x) → g d ≡ g c
    by None e gives next = absurd (cc)
    by (Some x) e gives next = next x gives ∙ one t x e

pub name_by_values : (targets : List ℕ) (numbers : List ℤ) (c d : ReadColumn) → with_values targets numbers c ≡ Some d → d.name ≡ c.name
name_by_values targets numbers c d gives = same_by_values (λ c. c.name) (record { cost = (λ c value. refl); entries = (λ c entries. refl) }) targets numbers c d gives

-- bounds of a column

pub bound_by : (b : Bool) (c d : ReadColumn) → (if b then None else Some c) ≡ Some d → c ≡ d
bound_by true c d h = absurd (cc)
bound_by false c d h = cc

pub bound_sound : (n : ℕ) (k : BoundKind) (value : ℕ) (c d : ReadColumn) → value ≤ 2 ^ 62 → IsSoundColumn n c → with_bound k value c ≡ Some d → IsSoundColumn n d
bound_sound n Upper value c d small h gives =
    subst (λ (z : ReadColumn). IsSoundColumn n z) (bound_by (is_some c.upper || is_some c.fixed) (record c { upper = Some value }) d gives)
    (record { name = h.name; cost = h.cost; entries = h.entries; apart = h.apart; fixed = h.fixed; lower = h.lower; upper = small })
bound_sound n Lower value c d small h gives =
    subst (λ (z : ReadColumn). IsSoundColumn n z) (bound_by (is_some c.lower || is_some c.fixed) (record c { lower = Some value }) d gives)
    (record { name = h.name; cost = h.cost; entries = h.entries; apart = h.apart; fixed = h.fixed; lower = small; upper = h.upper })
bound_sound n Fixed value c d small h gives =
    subst (λ (z : ReadColumn). IsSoundColumn n z) (bound_by ((is_some c.lower || is_some c.upper) || is_some c.fixed) (record c { fixed = Some value }) d gives)
    (record { name = h.name; cost = h.cost; entries = h.entries; apart = h.apart; fixed = small; lower = h.lower; upper = h.upper })

pub name_by_bound : (k : BoundKind) (value : ℕ) (c d : ReadColumn) → with_bound k value c ≡ Some d → d.name ≡ c.name
name_by_bound Upper value c d gives = ap (λ (z : ReadColumn). z.name) (sym (bound_by (is_some c.upper || is_some c.fixed) (record c { upper = Some value }) d gives))
name_by_bound Lower value c d gives = ap (λ (z : ReadColumn). z.name) (sym (bound_by (is_some c.lower || is_some c.fixed) (record c { lower = Some value }) d gives))
name_by_bound Fixed value c d gives = ap (λ (z : ReadColumn). z.name) (sym (bound_by ((is_some c.lower || is_some c.upper) || is_some c.fixed) (record c { fixed = Some value }) d gives))
