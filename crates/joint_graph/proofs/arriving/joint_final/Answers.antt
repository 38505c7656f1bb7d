use Rattle.std.proofs.Common.{◌≡◌, ℕ, length, take, sym, subst, rules}
use Rattle.std.proofs.lemmas.Result.{IfOk-weaker}
use Rattle.joint_graph.specs.inner.Classes.{AreNumbered, FitsMerged}
use Rattle.joint_graph.specs.inner.Ranks.{IsInto}
use Rattle.joint_graph.proofs.Arrivals.{ranks-numbered, ranks-rise}
use Rattle.joint_graph.proofs.JointGlue.{final-fits, final-made}
use Rattle.joint_graph.proofs.arriving.joint_final.Goals as goal

pub image-requires : goal.image-requires
image-requires g c =
    let graph = c.args.graph.now in
    let weights = c.in_ok-weights.weights.items in
    let numbers = c.in_ok-ranked.ranked.numbers.items in
    let inner : take c.inner-inner.result c.as_slice.result.now ≡ take graph.inner weights = (λ i. take (c.inner-inner.ensures i) (c.as_slice.ensures.value i)) in
    let r = c.in_ok-ranked.ensures in
    let count = r.2 in
    let numbered = ranks-numbered g.row.N graph c.known.ensures weights c.in_ok-weights.ensures (take c.inner-inner.result c.as_slice.result.now) inner r.0 numbers r.1 in
    let fits = final-fits g.row.N graph c.known.ensures weights c.in_ok-weights.ensures (take c.inner-inner.result c.as_slice.result.now) inner r.0 numbers r.1 in (
      search rules,
      (
        c.requires.small,
        (
          subst (λ (n : ℕ). AreNumbered graph numbers n) (sym count) numbered,
          (
            ranks-rise g.row.N graph c.known.ensures weights c.in_ok-weights.ensures (take c.inner-inner.result c.as_slice.result.now) inner r.0 numbers r.1,
            subst (λ (n : ℕ). FitsMerged graph numbers n) (sym count) fits,
          ),
        ),
      ),
    )

pub returns : goal.returns
returns g c =
    let graph = c.args.graph.now in
    let weights = c.in_ok-weights.weights.items in
    let numbers = c.in_ok-ranked.ranked.numbers.items in
    let inner : take c.inner-inner.result c.as_slice.result.now ≡ take graph.inner weights = (λ i. take (c.inner-inner.ensures i) (c.as_slice.ensures.value i)) in
    let r = c.in_ok-ranked.ensures in
    IfOk-weaker c.image.result _ _ (λ image h. final-made g.row.N graph c.known.ensures weights c.in_ok-weights.ensures (take c.inner-inner.result c.as_slice.result.now) inner r.0 numbers r.1 h.0 (subst (λ (n : ℕ). IsInto numbers n (length graph.caps) h.0) r.2 h.1) image h.2) c.image.ensures.image
