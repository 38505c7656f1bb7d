-- What the paths of runs carry.
use Rattle.std.proofs.Common.{◌≡◌, ℕ, ◌+◌, ◌-◌, ◌<◌, Bool, true, false, cond, ◌==◌, List, [], ◌∷◌, ◌++◌, length, get_or, take, refl, sym, ap, ◌∙◌, subst, arith}
use Rattle.std.specs.Prelude.{Option, Some, None, sum_by}
use Rattle.std.specs.List.{filter_map, cons_option}
use Rattle.std.specs.Option.{option_to_list}
use Rattle.std.proofs.lemmas.List.{take_more}
use Rattle.std.proofs.lemmas.List.Sums.{sum_by-cons}
use Rattle.std.proofs.lemmas.List.Elements.{filter_map-append}
use Rattle.std.proofs.lemmas.Option.{get_or_from_slice_get}
use Rattle.packing_laws.specs.declared.packings.Count.{Count}
use Rattle.packing_laws.specs.Instances.{InstanceValue}
use Rattle.packing_laws.specs.Packings.{Content, Fits, count_of_item, cost_at}
use Rattle.flow_graph.specs.declared.parts.TypeArc.{TypeArc}
use Rattle.flow_graph.specs.declared.parts.ArcKind.{ArcKind}
use Rattle.flow_graph.specs.declared.parts.ArcKind.TheVariants.{Bin, Loss, Piece}
use Rattle.flow_graph.specs.Arcs.{TypeValue, kind_of, numbered, first_arc}
use Rattle.flow_graph.specs.Faithful.{AreNumbersOf, IsFaithful, content_of}
use Rattle.flow_graph.proofs.ArcKinds.{place_of}
use Rattle.flow_graph.proofs.Places.{has_numbers}
use Rattle.flow_model.specs.Flows.{arc_cost, carries}
use Rattle.pattern_extract.specs.declared.runs.PathRun.{PathRun}
use Rattle.pattern_extract.specs.Runs.{IsRun}
use Rattle.pattern_extract.specs.inner.Walks.{weight_along, circuit_of}
use Rattle.pattern_extract.specs.Extracts.{unit_on, units_along, bin_of}
use Rattle.pattern_extract.specs.Trims.{IsUsedBin}
use Rattle.pattern_extract.proofs.Places.{place_weight, one_if, number_weight-at}

pub one-unit : (o : Option Count) → cons_option o [] ≡ option_to_list o
one-unit None = refl
one-unit (Some n) = refl

pub units-more : (kinds : List ArcKind) (arcs : List ℕ) (n : ℕ) → n < length arcs → units_along kinds (take (n + 1) arcs) ≡ units_along kinds (take n arcs) ++ option_to_list (unit_on (get_or kinds (get_or arcs n 0 - 1) (Bin 0)))
units-more kinds arcs n within =
    let h : ℕ → Option Count = λ a. unit_on (get_or kinds (a - 1) (Bin 0)) in
    ap (filter_map h) (take_more arcs n 0 within) ∙ filter_map-append h (take n arcs) (get_or arcs n 0 ∷ []) ∙ ap (λ (c : Content). filter_map h (take n arcs) ++ c) (one-unit (h (get_or arcs n 0)))

pub either_unit : (b : Bool) (t tail head item form : ℕ) (c : Content) → cons_option (unit_on (cond b (Loss t tail head) (Piece t tail head item form))) c ≡ cond b c (record { item = item; form = form; count = 1 } ∷ c)
either_unit true t tail head item form c = refl
either_unit false t tail head item form c = refl

-- the units along a path are its content
pub units-content : (g : List TypeValue) (t : ℕ) (ns : List ℕ) (path : List TypeArc) → AreNumbersOf g t ns path → units_along (numbered g) ns ≡ content_of path
units-content g t [] [] are = refl
units-content g t [] (e ∷ path) are = absurd are
units-content g t (n ∷ ns) [] are = absurd are
units-content g t (n ∷ ns) (e ∷ path) are =
    let rest : units_along (numbered g) ns ≡ content_of path = units-content g t ns path are.1 in
    let there : get_or (numbered g) (n - 1) (Bin 0) ≡ kind_of t e = get_or_from_slice_get (numbered g) (n - 1) (kind_of t e) (Bin 0) (place_of g n (kind_of t e) are.0) in
    ap (λ (kind : ArcKind). cons_option (unit_on kind) (units_along (numbered g) ns)) there ∙ ap (cons_option (unit_on (kind_of t e))) rest ∙ either_unit (e.item == 0) t e.tail e.head e.item e.form (content_of path)

-- weights along a path
pub path-weight : (w : ArcKind → ℕ) (g : List TypeValue) (t : ℕ) (ns : List ℕ) (path : List TypeArc) → AreNumbersOf g t ns path → weight_along (place_weight w g) ns ≡ sum_by (λ e. w (kind_of t e)) path
path-weight w g t [] [] are = refl
path-weight w g t [] (e ∷ path) are = absurd are
path-weight w g t (n ∷ ns) [] are = absurd are
path-weight w g t (n ∷ ns) (e ∷ path) are =
    let rest = path-weight w g t ns path are.1 in
    let first = number_weight-at w g n (kind_of t e) are.0 in
    let one = sum_by-cons (λ (a : ℕ). place_weight w g (a - 1)) n ns in
    let two = sum_by-cons (λ (f : TypeArc). w (kind_of t f)) e path in
    omega (arith, rest, first, one, two)

pub circuit-weight : (w : ArcKind → ℕ) (g : List TypeValue) (run : PathRun) (is : IsRun g run) → weight_along (place_weight w g) (circuit_of g run) ≡ w (Bin run.t) + sum_by (λ e. w (kind_of run.t e)) is.path.0
circuit-weight w g run is =
    let rest = path-weight w g run.t run.arcs is.path.0 is.path.2 in
    let first = number_weight-at w g (first_arc g run.t) (Bin run.t) (has_numbers g run.t is.of_type).bin in
    let one = sum_by-cons (λ (a : ℕ). place_weight w g (a - 1)) (first_arc g run.t) run.arcs in
    omega (arith, rest, first, one)

pub either_cost : (I : InstanceValue) (b : Bool) (t tail head item form : ℕ) → arc_cost I (cond b (Loss t tail head) (Piece t tail head item form)) ≡ 0
either_cost I true t tail head item form = refl
either_cost I false t tail head item form = refl

pub path-free : (I : InstanceValue) (t : ℕ) (path : List TypeArc) → sum_by (λ e. arc_cost I (kind_of t e)) path ≡ 0
path-free I t [] = refl
path-free I t (e ∷ path) =
    let rest = path-free I t path in
    let first = either_cost I (e.item == 0) t e.tail e.head e.item e.form in
    let split = sum_by-cons (λ (f : TypeArc). arc_cost I (kind_of t f)) e path in
    omega (arith, rest, first, split)

-- the arcs of a run cost what a bin of its type costs
pub circuit-cost : (I : InstanceValue) (g : List TypeValue) (run : PathRun) → IsRun g run → weight_along (place_weight (arc_cost I) g) (circuit_of g run) ≡ cost_at I run.t
circuit-cost I g run is =
    let all = circuit-weight (arc_cost I) g run is in
    let free = path-free I run.t is.path.0 in
    omega (arith, all, free)

pub either_carries : (i : ℕ) (b : Bool) (t tail head item form : ℕ) (c : Content) → count_of_item i (cond b c (record { item = item; form = form; count = 1 } ∷ c)) ≡ one_if (carries i) (cond b (Loss t tail head) (Piece t tail head item form)) + count_of_item i c
either_carries i true t tail head item form c = omega arith
either_carries i false t tail head item form c = sum_by-cons (λ (n : Count). cond (n.item == i) n.count 0) (record { item = item; form = form; count = 1 }) c

pub path-carries : (i t : ℕ) (path : List TypeArc) → sum_by (λ e. one_if (carries i) (kind_of t e)) path ≡ count_of_item i (content_of path)
path-carries i t [] = refl
path-carries i t (e ∷ path) =
    let rest = path-carries i t path in
    let first = either_carries i (e.item == 0) t e.tail e.head e.item e.form (content_of path) in
    let split = sum_by-cons (λ (f : TypeArc). one_if (carries i) (kind_of t f)) e path in
    omega (arith, rest, first, split)

-- the arcs of a run carry what is in its bins
pub circuit-carries : (g : List TypeValue) (i : ℕ) (run : PathRun) → IsRun g run → weight_along (place_weight (one_if (carries i)) g) (circuit_of g run) ≡ count_of_item i (units_along (numbered g) run.arcs)
circuit-carries g i run is =
    let all = circuit-weight (one_if (carries i)) g run is in
    let path = path-carries i run.t is.path.0 in
    let content = ap (count_of_item i) (units-content g run.t run.arcs is.path.0 is.path.2) in
    omega (arith, all, path, content)

-- the bins of a run fit
pub run-fits : (I : InstanceValue) (g : List TypeValue) (run : PathRun) → IsFaithful I g → IsRun g run → IsUsedBin I (bin_of g run)
run-fits I g run faithful is = record {
  times = is.times;
  fits = subst (Fits I run.t) (sym (units-content g run.t run.arcs is.path.0 is.path.2)) (faithful.fits run.t is.of_type is.path.0 is.path.1);
}
