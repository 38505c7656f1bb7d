-- No arc stands twice on a run.
use Rattle.std.proofs.Common.{◌≡◌, ◌≢◌, ℕ, zero, suc, ◌<◌, ◌≤◌, Bool, true, false, cond, ◌==◌, List, [], ◌∷◌, length, refl, sym, ap, ◌∙◌, ⊎_elim, arith, All}
use Rattle.std.specs.Prelude.{◌||◌, Some, AllPairs}
use Rattle.std.specs.List.{list_any}
use Rattle.std.proofs.lemmas.Bool.{cases_eq, eq-eqb, ne_eqb}
use Rattle.std.proofs.lemmas.List.Folds.{list_any_none}
use Rattle.std.proofs.lemmas.Option.{slice_get_within}
use Rattle.std.proofs.lemmas.List.Elements.{All-nil, All-cons, All-weaker}
use Rattle.std.proofs.lemmas.List.Kept.{AllPairs-cons}
use Rattle.packing_laws.specs.Instances.{IsAmong}
use Rattle.flow_graph.specs.declared.parts.TypeArc.{TypeArc}
use Rattle.flow_graph.specs.declared.parts.ArcKind.{ArcKind}
use Rattle.flow_graph.specs.declared.parts.ArcKind.TheVariants.{Bin, Loss, Piece}
use Rattle.flow_graph.specs.Arcs.{TypeValue, IsFlowType, IsFlowGraph, flow_type, kind_of, numbered, arc_at, first_arc}
use Rattle.flow_graph.specs.Faithful.{IsPath, AreNumbersOf}
use Rattle.flow_graph.proofs.Places.{arc_at-suc, has_numbers}
use Rattle.pattern_extract.specs.declared.runs.PathRun.{PathRun}
use Rattle.pattern_extract.specs.Runs.{IsRun, goes_over}
use Rattle.pattern_extract.specs.inner.Walks.{circuit_of}
use Rattle.flow_graph.proofs.ArcKinds.{arc_climbs, some_same, type_is}

-- where an arc begins; a bin arc counts as beginning in no node
abbrev pub start_of : ArcKind → ℕ
start_of (Bin s) = 0
start_of (Loss s tail head) = tail
start_of (Piece s tail head item form) = tail

pub either_start : (b : Bool) (s tail head item form : ℕ) → start_of (cond b (Loss s tail head) (Piece s tail head item form)) ≡ tail
either_start true s tail head item form = refl
either_start false s tail head item form = refl

-- the number is that of an arc that begins in node a or after it
pub record BeginsFrom (g : List TypeValue) (a n : ℕ) : Type 0 where
  pub kind : ArcKind
  pub there : arc_at g n ≡ Some kind
  pub later : a ≤ start_of kind

module _ (g : List TypeValue) (t : ℕ) (is : IsFlowType (flow_type g t)) where
  begins : (ns : List ℕ) (path : List TypeArc) (a b : ℕ) → IsPath (flow_type g t).arcs a b path → AreNumbersOf g t ns path → All (BeginsFrom g a) ns
  begins [] path a b leads are = All-nil (BeginsFrom g a)
  begins (n ∷ ns) [] a b leads are = absurd are
  begins (n ∷ ns) (e ∷ path) a b leads are =
      let up = arc_climbs (flow_type g t) is e leads.0 in
      let start : start_of (kind_of t e) ≡ e.tail = either_start (e.item == 0) t e.tail e.head e.item e.form in
      let tail = leads.1 in
      All-cons (BeginsFrom g a) n ns
      (record { kind = kind_of t e; there = are.0; later = omega (arith, start, tail) })
      (All-weaker (BeginsFrom g e.head) (BeginsFrom g a) (λ m own. let low = own.later in record { kind = own.kind; there = own.there; later = omega (arith, low, up.1, tail) }) ns (begins ns path e.head b leads.2 are.1))

  other-arc : (n m a : ℕ) (kind : ArcKind) → arc_at g n ≡ Some kind → start_of kind < a → BeginsFrom g a m → n ≢ m
  other-arc n m a kind there early later same =
      let one : kind ≡ later.kind = some_same kind later.kind (sym there ∙ ap (arc_at g) same ∙ later.there) in
      let low = later.later in
      omega (arith, early, low, ap start_of one)

  apart : (ns : List ℕ) (path : List TypeArc) (a b : ℕ) → IsPath (flow_type g t).arcs a b path → AreNumbersOf g t ns path → AllPairs (λ n m. n ≢ m) ns
  apart [] path a b leads are = λ i j d lt within. absurd (omega (arith, within))
  apart (n ∷ ns) [] a b leads are = absurd are
  apart (n ∷ ns) (e ∷ path) a b leads are =
      let up = arc_climbs (flow_type g t) is e leads.0 in
      let start : start_of (kind_of t e) ≡ e.tail = either_start (e.item == 0) t e.tail e.head e.item e.form in
      AllPairs-cons (λ n m. n ≢ m) n ns
      (All-weaker (BeginsFrom g e.head) (λ m. n ≢ m) (λ m own. other-arc n m e.head (kind_of t e) are.0 (omega (arith, start, up.1)) own) ns (begins ns path e.head b leads.2 are.1))
      (apart ns path e.head b leads.2 are.1)

pub circuit-apart : (g : List TypeValue) (run : PathRun) → IsFlowGraph g → IsRun g run → AllPairs (λ n m. n ≢ m) (circuit_of g run)
circuit-apart g run is one =
    let t : ℕ = run.t in
    let own = type_is g is t one.of_type in
    let path = one.path in
    let bin = (has_numbers g t one.of_type).bin in
    AllPairs-cons (λ n m. n ≢ m) (first_arc g t) run.arcs
    (All-weaker (BeginsFrom g 1) (λ m. first_arc g t ≢ m) (λ m later. other-arc g t own (first_arc g t) m 1 (Bin t) bin (omega arith) later) run.arcs (begins g t own run.arcs path.0 1 (flow_type g t).nodes path.1 path.2))
    (apart g t own run.arcs path.0 1 (flow_type g t).nodes path.1 path.2)

-- a run goes over the bin arc of its own type, and over no other
pub over-bin : (g : List TypeValue) (t : ℕ) (run : PathRun) → IsFlowGraph g → IsAmong t (length g) → IsRun g run → goes_over g (first_arc g t) run ≡ (run.t == t)
over-bin g t run is among one =
    let own = type_is g is run.t one.of_type in
    let path = one.path in
    let bin = (has_numbers g t among).bin in
    let run_bin = (has_numbers g run.t one.of_type).bin in
    let off = list_any_none (λ n. n == first_arc g t) run.arcs (All-weaker (BeginsFrom g 1) (λ m. (m == first_arc g t) ≡ false)
    (λ m later. ne_eqb m (first_arc g t) (λ e. other-arc g run.t own (first_arc g t) m 1 (Bin t) bin (omega arith) later (sym e))) run.arcs (begins g run.t own run.arcs path.0 1 (flow_type g run.t).nodes path.1 path.2)) in
    ⊎_elim
    (λ same. ap (λ (b : Bool). b || list_any (λ n. n == first_arc g t) run.arcs) (eq-eqb (first_arc g run.t) (first_arc g t) (ap (first_arc g) same)) ∙ sym (eq-eqb run.t t same))
    (λ other.
    let apart : (first_arc g run.t == first_arc g t) ≡ false = ne_eqb (first_arc g run.t) (first_arc g t) (λ e. other (same_type run.t t (some_same (Bin run.t) (Bin t) (sym run_bin ∙ ap (arc_at g) e ∙ bin)))) in
    ap (λ (b : Bool). b || list_any (λ n. n == first_arc g t) run.arcs) apart ∙ off ∙ sym (ne_eqb run.t t other))
    (cases_eq run.t t)
  where
    same_type : (s t : ℕ) → Bin s ≡ Bin t → s ≡ t
    same_type s t h = cc

pub number-within : (g : List TypeValue) (n : ℕ) (kind : ArcKind) → arc_at g n ≡ Some kind → IsAmong n (length (numbered g))
number-within g zero kind at = cc
number-within g (suc i) kind at = (omega arith, slice_get_within (numbered g) i kind (sym (arc_at-suc g i) ∙ at))

pub circuit-within : (g : List TypeValue) (run : PathRun) → IsFlowGraph g → IsRun g run → All (λ n. IsAmong n (length (numbered g))) (circuit_of g run)
circuit-within g run is one =
    let t : ℕ = run.t in
    let own = type_is g is t one.of_type in
    let path = one.path in
    All-cons (λ n. IsAmong n (length (numbered g))) (first_arc g t) run.arcs
    (number-within g (first_arc g t) (Bin t) (has_numbers g t one.of_type).bin)
    (All-weaker (BeginsFrom g 1) (λ n. IsAmong n (length (numbered g))) (λ n later. number-within g n later.kind later.there) run.arcs (begins g t own run.arcs path.0 1 (flow_type g t).nodes path.1 path.2))
