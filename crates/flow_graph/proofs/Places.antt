-- Which arc has which number.
use Rattle.std.proofs.Common.{◌≡◌, ℕ, zero, suc, ◌+◌, ◌-◌, ◌<◌, ◌≤◌, List, [], ◌∷◌, ◌++◌, length, map, take, drop, get_or, refl, sym, ap, ◌∙◌, subst, ⊎_elim, arith, drop-cons}
use Rattle.std.specs.Prelude.{Some, sum_by, slice_get, option_map}
use Rattle.std.proofs.lemmas.Bool.{cases_lt, ne_eqb}
use Rattle.std.proofs.lemmas.Option.{slice_get-map, slice_get-get_or}
use Rattle.std.proofs.lemmas.List.Sums.{sum_by-cons}
use Rattle.std.proofs.lemmas.List.{take-append-drop, length-take-le}
use Rattle.packing_laws.specs.Instances.{IsAmong}
use Rattle.flow_graph.specs.declared.parts.TypeArc.{TypeArc}
use Rattle.flow_graph.specs.declared.parts.ArcKind.{ArcKind}
use Rattle.flow_graph.specs.declared.parts.ArcKind.TheVariants.{Bin}
use Rattle.flow_graph.specs.Arcs.{TypeValue, flow_type, kind_of, row_of, numbered_from, numbered, arc_at, first_arc, last_arc}
use Rattle.flow_graph.specs.Faithful.{IsPath, AreNumbersOf}
use Rattle.flow_graph.specs.Laws.{HasNumbers}
use Rattle.flow_graph.proofs.Numbers.{numbered_from-append, length-numbered_from}

pub slice_get-append-add : {X : Type 0} (xs ys : List X) (n : ℕ) → slice_get (xs ++ ys) (length xs + n) ≡ slice_get ys n
slice_get-append-add [] ys n = let e : 0 + n ≡ n = omega arith in rw e refl
slice_get-append-add (x ∷ xs) ys n = let e : suc (length xs) + n ≡ suc (length xs + n) = omega arith in rw e (slice_get-append-add xs ys n)

pub slice_get-append-left : {X : Type 0} (xs ys : List X) (n : ℕ) (x : X) → slice_get xs n ≡ Some x → slice_get (xs ++ ys) n ≡ Some x
slice_get-append-left [] ys n x h = cc
slice_get-append-left (y ∷ xs) ys zero x h = h
slice_get-append-left (y ∷ xs) ys (suc n) x h = slice_get-append-left xs ys n x h

-- numbers begin at 1
pub arc_at-suc : (g : List TypeValue) (i : ℕ) → arc_at g (suc i) ≡ slice_get (numbered g) i
arc_at-suc g i = let e : suc i - 1 ≡ i = omega arith in rw (ne_eqb (suc i) 0 (λ h. omega (arith, h)), e) refl

-- the row before, of, and after a type
pub split_at : (g : List TypeValue) (n : ℕ) (d : TypeValue) → n < length g → numbered g ≡ numbered_from 1 (take n g) ++ (row_of (suc n) (get_or g n d).arcs ++ numbered_from (suc n + 1) (drop (suc n) g))
split_at g n d within =
    let parts : take n g ++ get_or g n d ∷ drop (suc n) g ≡ g = ap (λ (rest : List TypeValue). take n g ++ rest) (sym (drop-cons g n d within)) ∙ take-append-drop n g in
    let long : 1 + length (take n g) ≡ suc n = let front = length-take-le n g (omega arith) in omega (arith, front) in
    ap numbered (sym parts) ∙ numbered_from-append 1 (take n g) (get_or g n d ∷ drop (suc n) g) ∙ ap (λ (t : ℕ). numbered_from 1 (take n g) ++ numbered_from t (get_or g n d ∷ drop (suc n) g)) long

-- the arcs of the type at a place have the numbers from that of its bin arc on
pub numbers_at : (g : List TypeValue) (n : ℕ) (d : TypeValue) → n < length g → (k : ℕ) → arc_at g (suc (sum_by (λ x. length x.arcs + 1) (take n g)) + k) ≡ slice_get (row_of (suc n) (get_or g n d).arcs ++ numbered_from (suc n + 1) (drop (suc n) g)) k
numbers_at g n d within k =
    let front = numbered_from 1 (take n g) in
    let long : length front ≡ sum_by (λ x. length x.arcs + 1) (take n g) = length-numbered_from 1 (take n g) in
    let at : suc (sum_by (λ x. length x.arcs + 1) (take n g)) + k ≡ suc (length front + k) = omega (arith, long) in
    ap (arc_at g) at ∙ arc_at-suc g (length front + k) ∙ ap (λ (row : List ArcKind). slice_get row (length front + k)) (split_at g n d within) ∙ slice_get-append-add front (row_of (suc n) (get_or g n d).arcs ++ numbered_from (suc n + 1) (drop (suc n) g)) k

arc_of_type : (g : List TypeValue) (n : ℕ) → n < length g → (k : ℕ) (arc : TypeArc) → slice_get (get_or g n (record { nodes = 1; arcs = [] })).arcs k ≡ Some arc → arc_at g (sum_by (λ x. length x.arcs + 1) (take n g) + 1 + 1 + k) ≡ Some (kind_of (suc n) arc)
arc_of_type g n within k arc h =
    let none : TypeValue = record { nodes = 1; arcs = [] } in
    let arcs : List TypeArc = (get_or g n none).arcs in
    let before : ℕ = sum_by (λ x. length x.arcs + 1) (take n g) in
    let at : before + 1 + 1 + k ≡ suc before + suc k = omega arith in
    let own : slice_get (map (kind_of (suc n)) arcs) k ≡ Some (kind_of (suc n) arc) = slice_get-map (kind_of (suc n)) arcs k ∙ ap (option_map (kind_of (suc n))) h in
    ap (arc_at g) at ∙ numbers_at g n none within (suc k) ∙ slice_get-append-left (map (kind_of (suc n)) arcs) (numbered_from (suc n + 1) (drop (suc n) g)) k (kind_of (suc n) arc) own

has_numbers_at : (g : List TypeValue) (n : ℕ) → n < length g → HasNumbers g (suc n)
has_numbers_at g n within =
    let none : TypeValue = record { nodes = 1; arcs = [] } in
    let x : TypeValue = get_or g n none in
    let before : ℕ = sum_by (λ x. length x.arcs + 1) (take n g) in
    let e : suc n - 1 ≡ n = omega arith in
    let bin : arc_at g (before + 1) ≡ Some (Bin (suc n)) = let at : before + 1 ≡ suc before + 0 = omega arith in ap (arc_at g) at ∙ numbers_at g n none within 0 in
    let arcs : (k : ℕ) (arc : TypeArc) → slice_get x.arcs k ≡ Some arc → arc_at g (before + 1 + 1 + k) ≡ Some (kind_of (suc n) arc) = λ k arc h. arc_of_type g n within k arc h in
    record {
      bin = subst (λ (m : ℕ). arc_at g (sum_by (λ x. length x.arcs + 1) (take m g) + 1) ≡ Some (Bin (suc n))) (sym e) bin;
      arcs = subst (λ (m : ℕ). (k : ℕ) (arc : TypeArc) → slice_get (get_or g m none).arcs k ≡ Some arc → arc_at g (sum_by (λ x. length x.arcs + 1) (take m g) + 1 + 1 + k) ≡ Some (kind_of (suc n) arc)) (sym e) arcs;
    }

pub has_numbers : (g : List TypeValue) (t : ℕ) → IsAmong t (length g) → HasNumbers g t
has_numbers g t among = let e : suc (t - 1) ≡ t = omega (arith, among.0) in subst (HasNumbers g) e (has_numbers_at g (t - 1) (omega (arith, among.0, among.1)))

-- a number below the length of the row lies at some type
pub found : (xs : List TypeValue) (d : TypeValue) (i : ℕ) → i < sum_by (λ x. length x.arcs + 1) xs → (k : ℕ) × (k < length xs) × (sum_by (λ x. length x.arcs + 1) (take k xs) ≤ i) × (i ≤ sum_by (λ x. length x.arcs + 1) (take k xs) + length (get_or xs k d).arcs)
found [] d i below = absurd (omega (arith, below))
found (x ∷ xs) d i below =
    ⊎_elim
    (λ lt. (zero, omega arith, omega arith, omega (arith, lt)))
    (λ ge. let split = sum_by-cons (λ (y : TypeValue). length y.arcs + 1) x xs in
    let rest = found xs d (i - (length x.arcs + 1)) (omega (arith, split, below, ge)) in
    let front = sum_by-cons (λ (y : TypeValue). length y.arcs + 1) x (take rest.0 xs) in
    (suc rest.0, omega (arith, rest.1), omega (arith, front, ge, rest.2), omega (arith, front, ge, rest.3)))
    (cases_lt i (length x.arcs + 1))

pub some_type : (g : List TypeValue) (a : ℕ) → IsAmong a (length (numbered g)) → (t : ℕ) × IsAmong t (length g) × (first_arc g t ≤ a) × (a ≤ last_arc g t)
some_type g a among =
    let long = length-numbered_from 1 g in
    let at = found g (record { nodes = 1; arcs = [] }) (a - 1) (omega (arith, among.0, among.1, long)) in
    let e : suc at.0 - 1 ≡ at.0 = omega arith in
    (suc at.0, (omega arith, omega (arith, at.1)), rw e (omega (arith, at.2, among.0)), rw e (omega (arith, at.3, among.0)))

-- the numbers of the arcs of a path
pub path_numbers : (g : List TypeValue) (t : ℕ) → IsAmong t (length g) → (path : List TypeArc) (a b : ℕ) → IsPath (flow_type g t).arcs a b path → (numbers : List ℕ) × AreNumbersOf g t numbers path
path_numbers g t among [] a b leads = ([], tt)
path_numbers g t among (e ∷ path) a b leads =
    let arcs : List TypeArc = (flow_type g t).arcs in
    let rest = path_numbers g t among path e.head b leads.2 in
    let place : ℕ = leads.0.0 in
    let own : slice_get arcs place ≡ Some e = slice_get-get_or arcs place e leads.0.1 ∙ ap Some leads.0.2 in
    ((first_arc g t + 1 + place) ∷ rest.0, ((has_numbers g t among).arcs place e own, rest.1))
