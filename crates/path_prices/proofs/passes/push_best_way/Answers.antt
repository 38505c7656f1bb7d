use Rattle.std.proofs.Common.{◌≡◌, ℕ, ℤ, List, true, false, ◌+◌, ◌++◌, ◌∷◌, [], pos, ◌+ℤ◌, to_z, of_z, w64, get_or, sym, ap, subst, ◌∙◌, arith}
use Rattle.std.specs.Int.{w128}
use Rattle.std.specs.Vec.{vec_capacity, vec_len}
use Rattle.flow_graph.specs.declared.parts.TypeArc.{TypeArc}
use Rattle.path_prices.specs.inner.Passes.{carried_in, no_arc, price_on}
use Rattle.path_prices.proofs.BestWays.{own-handed, value-handed}
use Rattle.path_prices.proofs.BestSteps.{IsOnBest, best-found, go-on, pass-by}
use Rattle.path_prices.proofs.passes.push_best_way.Goals as goal
use Rattle.path_prices.proofs.passes.push_best_way.Goals.{then-goes_on, else-goes_on}

pub loop-index-preserved : goal.loop-index-preserved
loop-index-preserved c =
    let items : List ℕ = c.args.items.now in
    let own : List ℤ = c.args.own.now in
    let arcs : List TypeArc = c.args.arcs.now in
    let values : List ℤ = c.args.values.now in
    let k : ℕ = c.loop-index.index in
    let e : TypeArc = get_or arcs k no_arc in
    let old = c.loop-index.invariant in
    let left : ℤ = to_z w128 c.loop-index.left-bits in
    let price : (to_z w64 (of_z w64 (get_or own k (pos 0))) +ℤ pos (carried_in items e)) ≡ price_on items own arcs k = ap (λ z. z +ℤ pos (carried_in items e)) (own-handed own c.requires.own k) in
    let rise = c.requires.arcs.rise k no_arc c.loop-index-test.true in
    elim c.if-goes_on.branch [
      | then-goes_on w ↦
          let test : (e.tail ≡ c.loop-index.node) × (left ≡ (to_z w64 (of_z w64 (get_or own k (pos 0))) +ℤ pos (carried_in items e)) +ℤ get_or values e.head (pos 0)) = c.goes_on.ensures.0 w.if-goes_on.true in
          let over : left ≡ price_on items own arcs k +ℤ get_or values e.head (pos 0) = test.1 ∙ ap (λ z. z +ℤ get_or values e.head (pos 0)) price in
          let next = go-on items own arcs values c.args.first k c.requires.arcs c.loop-index-test.true c.loop-index.node left c.loop-index.into.items old.best test.0 over in
          let into : w.push_within.new.into.items ≡ c.if-goes_on.into.items = ap (λ v. v.items) (sym w.into-is) in
          let worth : to_z w128 c.if-goes_on.left-bits ≡ get_or values e.head (pos 0) = w.left-is ∙ value-handed values c.requires.values e.head in
          let at : c.if-goes_on.node ≡ e.head = w.node-is in
          let numbers : c.loop-index.into.items ++ (c.args.first + k) ∷ [] ≡ c.if-goes_on.into.items = sym w.push_within.ensures.items ∙ into in
          let room = w.push_within.ensures.room in
          let long = w.push_within.ensures.length in
          let cap : vec_capacity c.if-goes_on.into ≡ vec_capacity w.push_within.new.into = ap vec_capacity w.into-is in
          let len : vec_len c.if-goes_on.into ≡ vec_len w.push_within.new.into = ap vec_len w.into-is in
          record {
            room = omega (arith, old.room, room, cap);
            short = omega (arith, old.short, long, len, at, test.0, rise.1);
            node = omega (arith, at, rise.2);
            best = subst (λ (ns : List ℕ). IsOnBest items own arcs values c.args.first (k + 1) c.if-goes_on.node (to_z w128 c.if-goes_on.left-bits) ns) numbers
                (subst (λ (z : ℤ). IsOnBest items own arcs values c.args.first (k + 1) c.if-goes_on.node z (c.loop-index.into.items ++ (c.args.first + k) ∷ [])) (sym worth)
                (subst (λ (v : ℕ). IsOnBest items own arcs values c.args.first (k + 1) v (get_or values e.head (pos 0)) (c.loop-index.into.items ++ (c.args.first + k) ∷ [])) (sym at) next));
          }
      | else-goes_on w ↦
          let next = pass-by items own arcs values c.args.first k c.requires.arcs c.loop-index-test.true c.loop-index.node left c.loop-index.into.items old.best
          (λ both. absurd (let yes : c.goes_on.result ≡ true = c.goes_on.ensures.1 (both.0, both.1 ∙ ap (λ z. z +ℤ get_or values e.head (pos 0)) (sym price)) in let no : c.goes_on.result ≡ false = w.if-goes_on.false in cc)) in
          let cap : vec_capacity c.if-goes_on.into ≡ vec_capacity c.loop-index.into = ap vec_capacity w.into-is in
          let len : vec_len c.if-goes_on.into ≡ vec_len c.loop-index.into = ap vec_len w.into-is in
          let at : c.if-goes_on.node ≡ c.loop-index.node = w.node-is in
          record {
            room = omega (arith, old.room, cap);
            short = omega (arith, old.short, len, at);
            node = omega (arith, at, old.node);
            best = subst (λ (ns : List ℕ). IsOnBest items own arcs values c.args.first (k + 1) c.if-goes_on.node (to_z w128 c.if-goes_on.left-bits) ns) (ap (λ v. v.items) (sym w.into-is))
                (subst (λ (z : ℤ). IsOnBest items own arcs values c.args.first (k + 1) c.if-goes_on.node z c.loop-index.into.items) (sym w.left-is)
                (subst (λ (v : ℕ). IsOnBest items own arcs values c.args.first (k + 1) v left c.loop-index.into.items) (sym at) next));
          }
    ]

pub returns : goal.returns
returns c = best-found c.args.items.now c.args.own.now c.args.arcs.now c.args.values.now c.args.first c.loop-index.index c.loop-index.node _ c.loop-index.into.items c.loop-index-test.false c.loop-index.invariant.best
