-- What lines leave, one after the other, is what the text means.
use Rattle.std.proofs.Common.{suc, zero, ◌≡◌, ℕ, ◌+◌, ◌^◌, ◌<◌, Bool, true, false, cond, List, [], ◌∷◌, ◌++◌, length, get_or, All, Option, Some, None, Ok, Err, inr, refl, sym, ap, ◌∙◌, subst, arith, append_assoc}
use Rattle.std.specs.Prelude.{◌&&◌, ◌||◌, ◌==◌, nat_lt, map, set, find, position, slice_get, is_some, unwrap_or, option_map, option_and_then, replicate, Result, IsErrAnd, MatchResult, ◌⊎◌, bytes_eq, if◌then◌else◌}
use Rattle.std.specs.List.{list_any, enumerate_from, filter_map, cons_option}
use Rattle.std.specs.Option.{option_or}
use Rattle.std.proofs.lemmas.Bool.Decides.{nat_tests}
use Rattle.std.proofs.lemmas.List.{append-nil}
use Rattle.std.proofs.lemmas.List.Elements.{All-cons, All-nil, All-push, All-head, All-tail, All-weaker, filter_map-append}
use Rattle.std.proofs.lemmas.List.Folds.{find-append, list_any-append}
use Rattle.std.proofs.lemmas.List.Quantifiers.{position-Some}
use Rattle.std.proofs.lemmas.Option.{slice_get-map, slice_get-get_or, get_or_from_slice_get}
use Rattle.std.proofs.lemmas.Slice.Eq.{bytes_eq-Decides}
use Rattle.flow_graph.specs.Arcs.{TypeValue, numbered}
use Rattle.flow_model.proofs.RowLists.{map-map}
use Rattle.text_lines.specs.Lines.{lines_of, fields_of}
use Rattle.solution_text.specs.declared.faults.SolutionFault.{SolutionFault}
use Rattle.solution_text.specs.declared.faults.SolutionFault.TheVariants.{Twice, Memory}
use Rattle.solution_text.specs.Fields.{column_names, value_in}
use Rattle.solution_text.specs.Solutions.{KeptLine, is_skipped, kept_line, kept_lines, column_of, value_given, repeats, fault_in, value_at, unless_fault, solution_meaning}
use Rattle.solution_text.specs.inner.Lines.{Found, put_at, fields_taken, and_on, lines_taken}
use Rattle.solution_text.proofs.ColumnNames.{others_apart, column_count}

-- the lines that count among these, the first of which has this number
abbrev kept_from : ℕ → List (List ℕ) → List KeptLine
kept_from n lines = filter_map kept_line (enumerate_from n lines)

abbrev names : List ℕ → KeptLine → Bool
names name line = bytes_eq (column_of line) name

-- the value that these lines give a column, if one of them does
abbrev told : List KeptLine → List ℕ → Option ℕ
told lines name = option_and_then value_given (find (names name) lines)

-- how the lines before a place stand to what they left: none is at fault among all lines, and what is left is what they tell
record IsTold (g : List TypeValue) (whole done : List KeptLine) (n : ℕ) (found : Found) : Type 0 where
  faultless : filter_map (fault_in g whole) done ≡ []
  earlier : All (λ line. line.number < n) done
  values : found ≡ map (told done) (column_names g)
  some : (name : List ℕ) → is_some (told done name) ≡ list_any (names name) done

-- among all lines those before line n are the ones that are done
later_numbers : (n m : ℕ) (lines : List (List ℕ)) → n < m → All (λ line. n < line.number) (kept_from m lines)
later_numbers n m [] lt = All-nil (λ (line : KeptLine). n < line.number)
later_numbers n m (x ∷ lines) lt = by (is_skipped x) (later_numbers n (m + 1) lines (omega arith))
  where
    by : (b : Bool) → All (λ line. n < line.number) (kept_from (m + 1) lines) → All (λ line. n < line.number) (cons_option (if b then None else Some (record { number = m; fields = fields_of x })) (kept_from (m + 1) lines))
    by true rest = rest
    by false rest = All-cons (λ (line : KeptLine). n < line.number) (record { number = m; fields = fields_of x }) (kept_from (m + 1) lines) lt rest

none_later : (p : KeptLine → Bool) (n : ℕ) (later : List KeptLine) → All (λ line. n < line.number) later → list_any (λ line. nat_lt line.number n && p line) later ≡ false
none_later p n [] h = refl
none_later p n (x ∷ later) h =
    let first : n < x.number = All-head (λ (line : KeptLine). n < line.number) x later h in
    let no : nat_lt x.number n ≡ false = grind (arith, nat_tests) in
    rw no (none_later p n later (All-tail (λ (line : KeptLine). n < line.number) x later h))

any_before : (p : KeptLine → Bool) (n : ℕ) (fields : List (List ℕ)) (done later : List KeptLine) → All (λ line. line.number < n) done → All (λ line. n < line.number) later
    → list_any (λ line. nat_lt line.number n && p line) (done ++ record { number = n; fields = fields } ∷ later) ≡ list_any p done
any_before p n fields [] later before after =
    let no : nat_lt n n ≡ false = grind (arith, nat_tests) in
    rw no (none_later p n later after)
any_before p n fields (x ∷ done) later before after =
    let first : x.number < n = All-head (λ (line : KeptLine). line.number < n) x done before in
    let yes : nat_lt x.number n ≡ true = grind (arith, nat_tests) in
    rw yes (ap (λ (b : Bool). p x || b) (any_before p n fields done later (All-tail (λ (line : KeptLine). line.number < n) x done before) after))

-- one more line
told_push : (done : List KeptLine) (line : KeptLine) (name : List ℕ) → (is_some (told done name) ≡ list_any (names name) done) → told (done ++ line ∷ []) name ≡ (if is_some (told done name) then told done name else (if names name line then value_given line else None))
told_push done line name h = ap (option_and_then value_given) (find-append (names name) done (line ∷ [])) ∙ by (find (names name) done) refl
  where
    one : (b : Bool) → option_and_then value_given (if b then Some line else None) ≡ (if b then value_given line else None)
    one true = refl
    one false = refl

    lost : (other : KeptLine) → find (names name) done ≡ Some other → list_any (names name) done ≡ true
    lost other e = found_any done e
      where
        found_any : (xs : List KeptLine) → find (names name) xs ≡ Some other → list_any (names name) xs ≡ true
        found_any [] e = absurd (cc)
        found_any (x ∷ xs) e = pick (names name x) e (found_any xs)
          where
            pick : (b : Bool) → cond b (Some x) (find (names name) xs) ≡ Some other → (find (names name) xs ≡ Some other → list_any (names name) xs ≡ true) → (b || list_any (names name) xs) ≡ true
            pick true e next = refl
            pick false e next = next e

    by : (o : Option KeptLine) → find (names name) done ≡ o → option_and_then value_given (option_or o (find (names name) (line ∷ []))) ≡ (if is_some (option_and_then value_given o) then option_and_then value_given o else (if names name line then value_given line else None))
    by None e = one (names name line)
    by (Some other) e =
        let yes : is_some (option_and_then value_given (Some other)) ≡ true = sym (ap (λ (o : Option KeptLine). is_some (option_and_then value_given o)) e) ∙ (h ∙ lost other e) in
        rw yes refl

-- a value at the place of a name, where all other names differ
agree : (f h : List ℕ → Option ℕ) (ns : List (List ℕ)) → ((j : ℕ) (other : List ℕ) → slice_get ns j ≡ Some other → h other ≡ f other) → map f ns ≡ map h ns
agree f h [] same = refl
agree f h (x ∷ ns) same = ap (λ (z : Option ℕ). z ∷ map f ns) (sym (same 0 x refl)) ∙ ap (λ (z : Found). h x ∷ z) (agree f h ns (λ j other at. same (suc j) other at))

set_told : (f h : List ℕ → Option ℕ) (ns : List (List ℕ)) (k : ℕ) (name : List ℕ) (v : ℕ) → slice_get ns k ≡ Some name → h name ≡ Some v
    → ((j : ℕ) (other : List ℕ) → slice_get ns j ≡ Some other → (j ≡ k → ⊥) → h other ≡ f other) → set (map f ns) k (Some v) ≡ map h ns
set_told f h [] k name v at told_v same = absurd (cc)
set_told f h (x ∷ ns) zero name v at told_v same =
    let e : x ≡ name = cc in
    ap (λ (z : Option ℕ). z ∷ map f ns) (sym told_v ∙ ap h (sym e)) ∙ ap (λ (z : Found). h x ∷ z) (agree f h ns (λ j other here. same (suc j) other here (λ no. omega (arith, no))))
set_told f h (x ∷ ns) (suc k) name v at told_v same =
    ap (λ (z : Option ℕ). z ∷ set (map f ns) k (Some v)) (sym (same 0 x refl (λ no. omega (arith, no)))) ∙ ap (λ (z : Found). h x ∷ z) (set_told f h ns k name v at told_v (λ j other here apart. same (suc j) other here (λ no. apart (omega (arith, no)))))

-- what becomes of a line, by its answer
abbrev Follows : List TypeValue → List KeptLine → List KeptLine → KeptLine → Result Found SolutionFault → Type 0
Follows g whole done line (Ok next) = (fault_in g whole line ≡ None) × IsTold g whole (done ++ line ∷ []) (line.number + 1) next
Follows g whole done line (Err e) = fault_in g whole line ≡ Some e

keep_some : (o : Option ℕ) → (if is_some o then o else None) ≡ o
keep_some None = refl
keep_some (Some x) = refl

some_more : (o : Option ℕ) (b c : Bool) (v : Option ℕ) → is_some o ≡ b → is_some v ≡ true → is_some (if is_some o then o else (if c then v else None)) ≡ (b || (c || false))
some_more (Some y) b c v e some = subst (λ (z : Bool). true ≡ (z || (c || false))) e refl
some_more None b c v e some = subst (λ (z : Bool). is_some (if c then v else None) ≡ (z || (c || false))) e (pick c)
  where
    pick : (c : Bool) → is_some (if c then v else None) ≡ (c || false)
    pick true = some
    pick false = refl

-- a line of two fields
two_step : (g : List TypeValue) (whole done later : List KeptLine) (n : ℕ) (found : Found) (column value : List ℕ) → length (numbered g) < 2 ^ 31 → IsTold g whole done n found → All (λ line. n < line.number) later
    → whole ≡ done ++ record { number = n; fields = column ∷ value ∷ [] } ∷ later
    → Follows g whole done (record { number = n; fields = column ∷ value ∷ [] }) (put_at n found (position (bytes_eq column) (column_names g)) (value_in value))
two_step g whole done later n found column value few t after whole_is = at_place (position (bytes_eq column) (column_names g)) (value_in value) refl refl
  where
    line : KeptLine
    line = record { number = n; fields = column ∷ value ∷ [] }

    told_at : (k : ℕ) → slice_get (column_names g) k ≡ Some column → get_or found k None ≡ told done column
    told_at k at =
        get_or_from_slice_get found k (told done column) None
        (ap (λ (z : Found). slice_get z k) t.values ∙ (slice_get-map (told done) (column_names g) k ∙ ap (option_map (told done)) at))

    repeated : (k : ℕ) (b : Bool) → slice_get (column_names g) k ≡ Some column → is_some (get_or found k None) ≡ b → repeats whole line ≡ b
    repeated k b at e =
        ap (list_any (λ other. nat_lt other.number n && names column other)) whole_is
        ∙ (any_before (names column) n (column ∷ value ∷ []) done later t.earlier after
        ∙ (sym (t.some column) ∙ (sym (ap (λ (o : Option ℕ). is_some o) (told_at k at)) ∙ e)))

    told_so : (k x : ℕ) → slice_get (column_names g) k ≡ Some column → value_in value ≡ Some x → is_some (get_or found k None) ≡ false → fault_in g whole line ≡ None
        → IsTold g whole (done ++ line ∷ []) (n + 1) (set found k (Some x))
    told_so k x at given none clean =
        let F = fault_in g whole in
        let nothing : is_some (told done column) ≡ false = sym (ap (λ (o : Option ℕ). is_some o) (told_at k at)) ∙ none in
        let same : bytes_eq column column ≡ true = (bytes_eq-Decides column column).1 refl in
        record {
          faultless = filter_map-append F done (line ∷ []) ∙ (ap (λ (z : List SolutionFault). z ++ cons_option (F line) []) t.faultless ∙ ap (λ (o : Option SolutionFault). cons_option o []) clean);
          earlier = All-push (λ (l : KeptLine). l.number < n + 1) done line (All-weaker (λ (l : KeptLine). l.number < n) (λ (l : KeptLine). l.number < n + 1) (λ l lt. omega (arith, lt)) done t.earlier) (omega arith);
          values = ap (λ (z : Found). set z k (Some x)) t.values
              ∙ set_told (told done) (told (done ++ line ∷ [])) (column_names g) k column x at (told_push done line column (t.some column) ∙ rw (nothing, same) given)
              (λ j other here apart. let miss : bytes_eq column other ≡ false = others_apart (numbered g) k j column other few at here apart in told_push done line other (t.some other) ∙ rw miss (keep_some (told done other)));
          some = λ name. ap (λ (o : Option ℕ). is_some o) (told_push done line name (t.some name))
              ∙ (some_more (told done name) (list_any (names name) done) (names name line) (value_given line) (t.some name) (ap (λ (o : Option ℕ). is_some o) given) ∙ sym (list_any-append (names name) done (line ∷ [])));
        }

    at_value : (k x : ℕ) (b : Bool) → position (bytes_eq column) (column_names g) ≡ Some k → value_in value ≡ Some x → is_some (get_or found k None) ≡ b
        → Follows g whole done line (if b then Err (Twice n) else Ok (set found k (Some x)))
    at_value k x b e given h = by b h (repeated k b at h)
      where
        at : slice_get (column_names g) k ≡ Some column
        at =
            let first = position-Some (bytes_eq column) (column_names g) k [] e in
            slice_get-get_or (column_names g) k [] first.0 ∙ ap (λ (z : List ℕ). Some z) (sym ((bytes_eq-Decides column (get_or (column_names g) k [])).0 first.1))

        by : (b : Bool) → is_some (get_or found k None) ≡ b → repeats whole line ≡ b → Follows g whole done line (if b then Err (Twice n) else Ok (set found k (Some x)))
        by true h again = rw (e, given, again) refl
        by false h again = let clean : fault_in g whole line ≡ None = rw (e, given, again) refl in (clean, told_so k x at given h clean)

    at_place : (o v : Option ℕ) → position (bytes_eq column) (column_names g) ≡ o → value_in value ≡ v → Follows g whole done line (put_at n found o v)
    at_place None v e given = rw e refl
    at_place (Some k) None e given = rw (e, given) refl
    at_place (Some k) (Some x) e given = at_value k x (is_some (get_or found k None)) e given refl

-- any line that counts
step : (g : List TypeValue) (whole done later : List KeptLine) (n : ℕ) (found : Found) (fields : List (List ℕ)) → length (numbered g) < 2 ^ 31 → IsTold g whole done n found → All (λ line. n < line.number) later
    → whole ≡ done ++ record { number = n; fields = fields } ∷ later → Follows g whole done (record { number = n; fields = fields }) (fields_taken g n found fields)
step g whole done later n found [] few t after whole_is = refl
step g whole done later n found (a ∷ []) few t after whole_is = refl
step g whole done later n found (a ∷ b ∷ []) few t after whole_is = two_step g whole done later n found a b few t after whole_is
step g whole done later n found (a ∷ b ∷ c ∷ fields) few t after whole_is =
    let more : (length (a ∷ b ∷ c ∷ fields) == 2) ≡ false = more_than_two (length fields) in
    rw more refl
  where
    more_than_two : (m : ℕ) → (suc (suc (suc m)) == 2) ≡ false
    more_than_two m = grind (arith, nat_tests)

-- what is left, with 0 where nothing is
abbrev pub ended : Result Found SolutionFault → Result (List ℕ) SolutionFault
ended (Ok found) = Ok (map (λ v. unwrap_or v 0) found)
ended (Err e) = Err e

abbrev pub meant : List TypeValue → List KeptLine → Result (List ℕ) SolutionFault
meant g whole = unless_fault (slice_get (filter_map (fault_in g whole) whole) 0) (map (value_at whole) (column_names g))

told_lines : (g : List TypeValue) (whole done : List KeptLine) (n : ℕ) (lines : List (List ℕ)) (found : Found) → length (numbered g) < 2 ^ 31 → IsTold g whole done n found → whole ≡ done ++ kept_from n lines
    → meant g whole ≡ ended (lines_taken g n found lines)
told_lines g whole done n [] found few t whole_is =
    let all : whole ≡ done = whole_is ∙ append-nil done in
    let none : filter_map (fault_in g whole) whole ≡ [] = ap (filter_map (fault_in g whole)) all ∙ t.faultless in
    ap (λ (z : List SolutionFault). unless_fault (slice_get z 0) (map (value_at whole) (column_names g))) none
    ∙ ap (λ (z : List ℕ). Ok z) (ap (λ (z : List KeptLine). map (value_at z) (column_names g)) all ∙ (sym (map-map (λ (v : Option ℕ). unwrap_or v 0) (told done) (column_names g)) ∙ ap (map (λ (v : Option ℕ). unwrap_or v 0)) (sym t.values)))
told_lines g whole done n (x ∷ lines) found few t whole_is = by (is_skipped x) whole_is
    (told_lines g whole done (n + 1) lines found few (record { faultless = t.faultless; earlier = All-weaker (λ (l : KeptLine). l.number < n) (λ (l : KeptLine). l.number < n + 1) (λ l lt. omega (arith, lt)) done t.earlier; values = t.values; some = t.some }))
    (λ next. told_lines g whole (done ++ record { number = n; fields = fields_of x } ∷ []) (n + 1) lines next few)
  where
    line : KeptLine
    line = record { number = n; fields = fields_of x }

    later : List KeptLine
    later = kept_from (n + 1) lines

    goes : (r : Result Found SolutionFault) → whole ≡ done ++ line ∷ later → Follows g whole done line r
        → ((next : Found) → IsTold g whole (done ++ line ∷ []) (n + 1) next → whole ≡ (done ++ line ∷ []) ++ later → meant g whole ≡ ended (lines_taken g (n + 1) next lines))
        → meant g whole ≡ ended (and_on r (λ next. lines_taken g (n + 1) next lines))
    goes (Ok next) e follow more = more next follow.1 (e ∙ sym (append_assoc done (line ∷ []) later))
    goes (Err fault) e follow more =
        let faults : filter_map (fault_in g whole) whole ≡ fault ∷ filter_map (fault_in g whole) later =
        ap (filter_map (fault_in g whole)) e ∙ (filter_map-append (fault_in g whole) done (line ∷ later) ∙ (ap (λ (z : List SolutionFault). z ++ cons_option (fault_in g whole line) (filter_map (fault_in g whole) later)) t.faultless
        ∙ ap (λ (o : Option SolutionFault). cons_option o (filter_map (fault_in g whole) later)) follow)) in
        ap (λ (z : List SolutionFault). unless_fault (slice_get z 0) (map (value_at whole) (column_names g))) faults

    by : (b : Bool) → whole ≡ done ++ cons_option (if b then None else Some line) later
        → (whole ≡ done ++ later → meant g whole ≡ ended (lines_taken g (n + 1) found lines))
        → ((next : Found) → IsTold g whole (done ++ line ∷ []) (n + 1) next → whole ≡ (done ++ line ∷ []) ++ later → meant g whole ≡ ended (lines_taken g (n + 1) next lines))
        → meant g whole ≡ ended (and_on (if b then Ok found else fields_taken g n found (fields_of x)) (λ next. lines_taken g (n + 1) next lines))
    by true e skip more = skip e
    by false e skip more = goes (fields_taken g n found (fields_of x)) e (step g whole done later n found (fields_of x) few t (later_numbers n (n + 1) lines (omega arith)) e) more

nothing_told : (ns : List (List ℕ)) → replicate (length ns) None ≡ map (told []) ns
nothing_told [] = refl
nothing_told (x ∷ ns) = ap (λ (z : Found). None ∷ z) (nothing_told ns)

-- what all lines of a text leave is what the text means
pub lines_mean : (g : List TypeValue) (text : List ℕ) (found : Found) → length (numbered g) < 2 ^ 31 → found ≡ replicate (length (numbered g)) None
    → solution_meaning g text ≡ ended (lines_taken g 1 found (lines_of text))
lines_mean g text found few none =
    told_lines g (kept_lines text) [] 1 (lines_of text) found few (record {
      faultless = refl;
      earlier = All-nil (λ (l : KeptLine). l.number < 1);
      values = none ∙ (ap (λ (n : ℕ). replicate n None) (sym (column_count g)) ∙ nothing_told (column_names g));
      some = λ name. refl;
    }) refl

-- a fault that is passed on
pub fault_meant : {A : Type 0} (r : Result A SolutionFault) (fault : SolutionFault) (P : A → Type 0) (meaning : Result (List ℕ) SolutionFault) → IsErrAnd r (λ e. e ≡ fault) → meaning ≡ Err fault
    → MatchResult r P (λ e. (e ≡ Memory) ⊎ (meaning ≡ Err e))
fault_meant (Ok x) fault P meaning h is = absurd h
fault_meant {A} (Err e) fault P meaning h is = inr (is ∙ ap (λ (z : SolutionFault). Err z) (sym h))
