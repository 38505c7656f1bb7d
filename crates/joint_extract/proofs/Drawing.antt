-- Units that are moved off the arcs into bins.
use Rattle.std.proofs.Common.{◌≡◌, ℕ, ◌+◌, ◌-◌, ◌*◌, ◌<◌, ◌≤◌, List, [], ◌∷◌, ◌++◌, length, get_or, refl, sym, ap, ◌∙◌, subst, ⊎_elim, arith}
use Rattle.std.specs.Prelude.{sum_by}
use Rattle.std.proofs.lemmas.Bool.{cases_lt}
use Rattle.std.proofs.lemmas.List.Sums.{sum_by-cons, sum_by_push}
use Rattle.std.proofs.lemmas.List.Elements.{All-nil, All-push}
use Rattle.std.proofs.Math.Nat.{mul-le-mul_left}
use Rattle.packing_laws.specs.declared.packings.Bin.{Bin as Alike}
use Rattle.packing_laws.specs.Instances.{InstanceValue, IsAmong}
use Rattle.packing_laws.specs.Packings.{Fits, count_of_item}
use Rattle.flow_graph.specs.declared.parts.TypeArc.{TypeArc}
use Rattle.flow_graph.specs.declared.parts.ArcKind.{ArcKind}
use Rattle.flow_graph.specs.Arcs.{kind_of}
use Rattle.flow_graph.proofs.ArcKinds.{kind_cases}
use Rattle.flow_model.specs.Flows.{carries, weigh_arcs}
use Rattle.pattern_extract.specs.Trims.{IsUsedBin, held, over_types}
use Rattle.pattern_extract.proofs.Moves.{taken-falls}
use Rattle.pattern_extract.proofs.PathContents.{path-carries}
use Rattle.pattern_extract.proofs.Places.{one_if}
use Rattle.pattern_extract.proofs.Weights.{weigh-none}
use Rattle.joint_arcs.specs.Joined.{JointValue, IsJoint, numbered}
use Rattle.joint_arcs.specs.Faithful.{IsFaithful}
use Rattle.joint_arcs.specs.Flows.{total_of}
use Rattle.joint_extract.specs.inner.Circuits.{AreBinsOf, AreConserved, AreDrawn, IsCircuit, IsTaken, on_type, over_bins, row_weight}
use Rattle.joint_extract.proofs.RowPlaces.{row_sum, taken-row}
use Rattle.joint_extract.proofs.Balance.{conserved-after}
use Rattle.joint_extract.proofs.Drained.{drained}

pub circuit-fits : (I : InstanceValue) (g : JointValue) (bin : Alike) (arcs : List ℕ) → IsFaithful I g → IsCircuit g bin arcs → IsUsedBin I bin
circuit-fits I g bin arcs faithful is = record {
  times = is.times;
  fits = subst (Fits I bin.bin_type) (sym is.content) (faithful.fits bin.bin_type is.of_type is.path is.leads);
}

pub path-typeless : (w : ℕ → ℕ) (path : List TypeArc) → sum_by (λ e. on_type w (kind_of 1 e)) path ≡ 0
path-typeless w [] = refl
path-typeless w (e ∷ path) =
    let rest = path-typeless w path in
    let first = kind_cases (λ kind. on_type w kind ≡ 0) 1 e refl refl in
    let split = sum_by-cons (λ (f : TypeArc). on_type w (kind_of 1 f)) e path in
    omega (arith, rest, first, split)

-- one more bin
module _ (g : JointValue) (left rest : List ℕ) (bin : Alike) (arcs : List ℕ) (is : IsCircuit g bin arcs) (taken : IsTaken left rest bin.times arcs) where
  types-step : (w : ℕ → ℕ) → over_bins w g left ≡ over_bins w g rest + bin.times * w bin.bin_type
  types-step w =
      let step = taken-row (on_type w) g left rest bin arcs taken is in
      let none = path-typeless w is.path in
      let same : bin.times * (w bin.bin_type + sum_by (λ e. on_type w (kind_of 1 e)) is.path) ≡ bin.times * w bin.bin_type = ap (λ (n : ℕ). bin.times * n) (omega (arith, none)) in
      omega (arith, step, same)

  units-step : (i : ℕ) → total_of (carries i) g left ≡ total_of (carries i) g rest + bin.times * count_of_item i bin.counts
  units-step i =
      let step = taken-row (one_if (carries i)) g left rest bin arcs taken is in
      let content : sum_by (λ e. one_if (carries i) (kind_of 1 e)) is.path ≡ count_of_item i bin.counts = path-carries i 1 is.path ∙ ap (count_of_item i) (sym is.content) in
      let same : bin.times * (0 + sum_by (λ e. one_if (carries i) (kind_of 1 e)) is.path) ≡ bin.times * count_of_item i bin.counts = ap (λ (n : ℕ). bin.times * n) (omega (arith, content)) in
      omega (arith, step, same)

  -- less is left
  pub less-left : weigh_arcs (λ kind. 1) (numbered g) rest < weigh_arcs (λ kind. 1) (numbered g) left
  less-left =
      let step = taken-row (λ kind. 1) g left rest bin arcs taken is in
      let once = is.times in
      let more : bin.times * 1 ≤ bin.times * (1 + sum_by (λ e. 1) is.path) = mul-le-mul_left bin.times (omega arith) in
      omega (arith, step, once, more)

  pub drawn-one : (all : List ℕ) (bins some : List Alike) → AreDrawn g all bins left some → AreDrawn g all bins rest (some ++ bin ∷ [])
  drawn-one all bins some drawn = record {
    conserved = conserved-after g left rest bin arcs drawn.conserved is taken;
    falls = λ k. let one = drawn.falls k in let two = taken-falls left rest bin.times arcs taken k in omega (arith, one, two);
    used = λ I faithful used. All-push (IsUsedBin I) some bin (drawn.used I faithful used) (circuit-fits I g bin arcs faithful is);
    types = λ w.
        let before = drawn.types w in
        let step = types-step w in
        let pushed = sum_by_push (λ (b : Alike). b.times * w b.bin_type) some bin in
        omega (arith, before, step, pushed);
    units = λ i.
        let before = drawn.units i in
        let step = units-step i in
        let pushed = sum_by_push (λ (b : Alike). b.times * count_of_item i b.counts) some bin in
        omega (arith, before, step, pushed);
  }

pub drawn-none : (g : JointValue) (left : List ℕ) (bins : List Alike) → AreConserved g left → AreDrawn g left bins left bins
drawn-none g left bins conserved = record { conserved = conserved; falls = λ k. omega arith; used = λ I faithful used. used; types = λ w. refl; units = λ i. refl }

pub drawn-further : (g : JointValue) (left mid rest : List ℕ) (bins some more : List Alike) → AreDrawn g left bins mid some → AreDrawn g mid some rest more → AreDrawn g left bins rest more
drawn-further g left mid rest bins some more one two = record {
  conserved = two.conserved;
  falls = λ k. let a = one.falls k in let b = two.falls k in omega (arith, a, b);
  used = λ I faithful used. two.used I faithful (one.used I faithful used);
  types = λ w. one.types w ∙ two.types w;
  units = λ i. one.units i ∙ two.units i;
}

-- where nothing is left on the bin arcs, the bins hold all
pub drawn-all : (g : JointValue) (values rest : List ℕ) (bins : List Alike) → IsJoint g → length rest ≡ length (numbered g) → AreDrawn g values [] rest bins → ((t : ℕ) → IsAmong t g.types → get_or rest (t - 1) 0 ≡ 0) → AreBinsOf g values bins
drawn-all g values rest bins is size drawn none =
    let empty : (w : ArcKind → ℕ) → weigh_arcs w (numbered g) rest ≡ 0 = λ w. row_sum w g rest ∙ weigh-none (row_weight w g) rest (λ k some. drained g rest is size drawn.conserved none k) in
    record {
      used = λ I faithful. drawn.used I faithful (All-nil (IsUsedBin I));
      types = λ w.
          let all = drawn.types w in
          let gone = empty (on_type w) in
          let start : over_types w [] ≡ 0 = refl in
          omega (arith, all, gone, start);
      units = λ i.
          let all = drawn.units i in
          let gone = empty (one_if (carries i)) in
          let start : held i [] ≡ 0 = refl in
          omega (arith, all, gone, start);
    }

-- the types so far have nothing left on their bin arcs
pub bins-more : (g : JointValue) (left rest : List ℕ) (t : ℕ) → ((s : ℕ) → IsAmong s g.types → s < t → get_or left (s - 1) 0 ≡ 0) → ((k : ℕ) → get_or rest k 0 ≤ get_or left k 0) → get_or rest (t - 1) 0 ≡ 0 → (s : ℕ) → IsAmong s g.types → s < t + 1 → get_or rest (s - 1) 0 ≡ 0
bins-more g left rest t before falls here s among low =
    ⊎_elim
    (λ lt. let none = before s among lt in let fall = falls (s - 1) in omega (arith, none, fall))
    (λ ge. let same : t ≡ s = omega (arith, ge, low) in subst (λ (u : ℕ). get_or rest (u - 1) 0 ≡ 0) same here)
    (cases_lt s t)
