use Rattle.std.proofs.Common.{◌≡◌, ℕ, List, map, sym, subst, nat_eq}
use Rattle.std.specs.Prelude.{Contains}
use Rattle.std.specs.Cmp.Lexicographic.{pointwise}
use Rattle.std.proofs.lemmas.List.Filters.{dedup_is}
use Rattle.level_graph.specs.declared.states.State.{State}
use Rattle.level_graph.proofs.Members.{contains_map, from_map}
use Rattle.level_graph.proofs.Weighings.{different_weights}
use Rattle.level_graph.proofs.layers.weights_of.Goals as goal

pub returns : goal.returns
returns g c =
    let used : State g.row.N → List ℕ = λ s. s.used in
    let made : c.in_ok-weights.weights.items ≡ map used c.args.layer.now = c.in_ok-weights.ensures in
    let kept = different_weights c.in_ok-weights.weights.items c.sort_unstable.new.self.items c.dedup.new.self.items c.sort_unstable.ensures.permutation c.sort_unstable.ensures.sorted (dedup_is (pointwise nat_eq) c.sort_unstable.new.self.items c.dedup.new.self.items c.dedup.ensures.filtered) in
    record {
      ordered = kept.0;
      exact = λ x. (
        λ m. from_map used c.args.layer.now x (subst (λ (zs : List (List ℕ)). Contains zs x) made ((kept.1 x).0 m)),
        λ w. (kept.1 x).1 (subst (λ (zs : List (List ℕ)). Contains zs x) (sym made) (subst (λ (y : List ℕ). Contains (map used c.args.layer.now) y) w.2 (contains_map used c.args.layer.now w.0 w.1))),
      );
    }
