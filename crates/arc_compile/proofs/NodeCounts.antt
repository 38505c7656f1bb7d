-- A graph has at most one node more than arcs.
use Rattle.std.proofs.Common.{◌≡◌, ℕ, suc, ◌+◌, ◌<◌, ◌≤◌, List, [], ◌∷◌, length, sym, subst, ⊎_elim, arith}
use Rattle.std.specs.Prelude.{Contains, AllPairs}
use Rattle.std.proofs.lemmas.Bool.{cases_lt}
use Rattle.label_graph.specs.declared.parts.GraphArc.{GraphArc}
use Rattle.label_graph.specs.Graph.{GraphValue, IsGraph, ArcBefore}
use Rattle.level_graph.proofs.Members.{contains_cons, contains_nothing}

pub tail_le : (e f : GraphArc) → ArcBefore e f → e.tail ≤ f.tail
tail_le e f h = ⊎_elim (λ lt. omega arith) (λ k. omega (arith, k.0)) h

pub later : (e : GraphArc) (rest : List GraphArc) → AllPairs ArcBefore (e ∷ rest) → AllPairs ArcBefore rest
later e rest up i j d lt in_range = up (suc i) (suc j) d (omega arith) (omega arith)

pub first_le : (e : GraphArc) (rest : List GraphArc) (f : GraphArc) → AllPairs ArcBefore (e ∷ rest) → Contains rest f → e.tail ≤ f.tail
first_le e rest f up m =
    let lt : m.0 < length rest = m.1 in
    tail_le e f (subst (λ (x : GraphArc). ArcBefore e x) m.2 (up 0 (suc m.0) f (omega arith) (omega arith)))

-- arcs in order, one out of each node from a up to n
pub out_of_each : (arcs : List GraphArc) (a n : ℕ) → AllPairs ArcBefore arcs → ((v : ℕ) → a ≤ v → v < n → (e : GraphArc) × Contains arcs e × (e.tail ≡ v)) → n ≤ a + length arcs
out_of_each [] a n up out = ⊎_elim (λ lt. absurd (let h = out a (omega arith) lt in contains_nothing h.0 h.1)) (λ le. omega arith) (cases_lt a n)
out_of_each (e ∷ rest) a n up out =
    ⊎_elim
    (λ low. omega (arith, out_of_each rest a n (later e rest up) (λ v le lt. others v le lt (omega (arith, le, low)))))
    (λ high. omega (arith, out_of_each rest (a + 1) n (later e rest up) (λ v le lt. others v (omega (arith, le)) lt (first_tail high v le lt))))
    (cases_lt e.tail a)
  where
    others : (v : ℕ) → a ≤ v → v < n → (e.tail ≡ v → ⊥) → (f : GraphArc) × Contains rest f × (f.tail ≡ v)
    others v le lt apart =
        let h = out v le lt in
        ⊎_elim
        (λ same. absurd (apart (subst (λ (x : GraphArc). x.tail ≡ v) (sym same) h.2)))
        (λ m. (h.0, m, h.2))
        (contains_cons e rest h.0 h.1)

    first_tail : a ≤ e.tail → (v : ℕ) → a + 1 ≤ v → v < n → e.tail ≡ v → ⊥
    first_tail high v le lt same =
        let h = others a (omega arith) (omega (arith, le, lt)) (λ at. omega (arith, le, same, at)) in
        omega (arith, first_le e rest h.0 up h.1, h.2, le, same)

-- a graph has at most one node more than arcs
pub nodes_few : (N : ℕ) (g : GraphValue N) → IsGraph N g → length g.labels ≤ length g.arcs + 1
nodes_few N g is = omega (arith, out_of_each g.arcs 1 (length g.labels) is.ordered (λ v le lt. is.leaves v le lt))
