-- A circuit takes as much into each node as out of it.
use Rattle.std.proofs.Common.{◌≡◌, ℕ, ◌+◌, ◌*◌, cond, ◌==◌, List, [], ◌∷◌, ap, ◌∙◌, arith}
use Rattle.std.specs.Prelude.{sum_by}
use Rattle.std.proofs.lemmas.List.Sums.{sum_by-cons}
use Rattle.packing_laws.specs.declared.packings.Bin.{Bin as Alike}
use Rattle.flow_graph.specs.declared.parts.TypeArc.{TypeArc}
use Rattle.flow_graph.specs.Arcs.{kind_of}
use Rattle.flow_graph.specs.Faithful.{IsPath}
use Rattle.pattern_extract.proofs.Places.{one_if}
use Rattle.joint_arcs.specs.Joined.{JointValue, target_at}
use Rattle.joint_arcs.specs.Flows.{comes_in, goes_out, total_of}
use Rattle.joint_extract.specs.inner.Circuits.{AreConserved, IsCircuit, IsTaken}
use Rattle.joint_extract.proofs.RowPlaces.{head-kind, tail-kind, taken-row}

-- 1 where the nodes are the same
abbrev pub at : ℕ → ℕ → ℕ
at u v = cond (u == v) 1 0

pub path-balance : (g : JointValue) (arcs : List TypeArc) (v a b : ℕ) (path : List TypeArc) → IsPath arcs a b path → sum_by (λ e. one_if (comes_in v) (kind_of 1 e)) path + at a v ≡ sum_by (λ e. one_if (goes_out g v) (kind_of 1 e)) path + at b v
path-balance g arcs v a b [] leads = ap (λ (u : ℕ). 0 + at u v) leads
path-balance g arcs v a b (e ∷ path) leads =
    let rest : sum_by (λ e. one_if (comes_in v) (kind_of 1 e)) path + at e.head v ≡ sum_by (λ e. one_if (goes_out g v) (kind_of 1 e)) path + at b v = path-balance g arcs v e.head b path leads.2 in
    let head : one_if (comes_in v) (kind_of 1 e) ≡ at e.head v = ap (λ (u : ℕ). at u v) (head-kind e) in
    let tail : one_if (goes_out g v) (kind_of 1 e) ≡ at a v = ap (λ (u : ℕ). at u v) (tail-kind g e ∙ leads.1) in
    let one = sum_by-cons (λ (f : TypeArc). one_if (comes_in v) (kind_of 1 f)) e path in
    let two = sum_by-cons (λ (f : TypeArc). one_if (goes_out g v) (kind_of 1 f)) e path in
    omega (arith, rest, head, tail, one, two)

pub conserved-after : (g : JointValue) (old new : List ℕ) (bin : Alike) (arcs : List ℕ) → AreConserved g old → IsCircuit g bin arcs → IsTaken old new bin.times arcs → AreConserved g new
conserved-after g old new bin arcs conserved is taken v among =
    let t : ℕ = bin.bin_type in
    let before : total_of (comes_in v) g old ≡ total_of (goes_out g v) g old = conserved v among in
    let into : ℕ = at 1 v + sum_by (λ e. one_if (comes_in v) (kind_of 1 e)) is.path in
    let from : ℕ = at (target_at g t) v + sum_by (λ e. one_if (goes_out g v) (kind_of 1 e)) is.path in
    let comes : total_of (comes_in v) g old ≡ total_of (comes_in v) g new + bin.times * into = taken-row (one_if (comes_in v)) g old new bin arcs taken is in
    let goes : total_of (goes_out g v) g old ≡ total_of (goes_out g v) g new + bin.times * from = taken-row (one_if (goes_out g v)) g old new bin arcs taken is in
    let balance = path-balance g g.arcs v 1 (target_at g t) is.path is.leads in
    let same : bin.times * into ≡ bin.times * from = ap (λ (n : ℕ). bin.times * n) (omega (arith, balance)) in
    let after : total_of (comes_in v) g new ≡ total_of (goes_out g v) g new = omega (arith, before, comes, goes, same) in
    after
