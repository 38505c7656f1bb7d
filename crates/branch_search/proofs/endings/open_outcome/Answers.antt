use Rattle.std.proofs.Common.{◌<◌, ◌≤◌, ℕ, ◌∙◌, sym, subst, refl, arith, List, Option}
use Rattle.std.specs.Prelude.{IfSome}
use Rattle.std.specs.Option.{IsSomeAnd}
use Rattle.packing_laws.specs.declared.packings.Bin.{Bin}
use Rattle.packing_laws.specs.Packings.{cost_of}
use Rattle.packing_laws.specs.Printed.{bins_of}
use Rattle.packing_laws.specs.Floors.{single_of}
use Rattle.search_tree.specs.declared.places.Place.{Place}
use Rattle.search_states.specs.States.{IsPrinted}
use Rattle.branch_search.specs.inner.Bounds.{IsLeastBound}
use Rattle.branch_search.proofs.LastStates.{lower_is_below, material_reached, points, printed, single_kept}
use Rattle.branch_search.proofs.endings.open_outcome.Goals as goal

pub returns : goal.returns
returns c =
    let I = c.args.instance.now in
    let g = c.args.graph.now in
    let s = c.args.state in
    let st = c.requires.state in
    let leaf = c.requires.leaf in
    let lower : ℕ = c.least_bound-lower.result in
    let least : IsLeastBound s.tree.places lower = subst (λ (ps : List Place). IsLeastBound ps lower) c.places.ensures c.least_bound-lower.ensures in
    let made = c.in_ok-certificate.ensures in
    let few = points I g s st c.args.index leaf lower least c.open_trees_have_points.ensures c.flows_lie_in_root.ensures c.known-2.ensures in
    let splits = c.requires.splits in
    record {
      certificate = made.told;
      all = made.all refl ∙ splits;
      points = omega (arith, few, splits);
      material = material_reached I g s st c.args.index leaf lower least;
      places = c.requires.places;
      printed = subst (λ (o : Option (List Bin)). IfSome o (λ bins. IsPrinted I bins × (lower < cost_of I (bins_of bins)))) (sym c.packing_of.ensures) (printed I g s st c.args.index leaf lower least s.best st.best.known (lower_is_below I g s st c.args.index leaf lower least));
      single = λ has. subst (λ (o : Option (List Bin)). IsSomeAnd o (λ bins. cost_of I (bins_of bins) ≤ single_of I)) (sym c.packing_of.ensures) (single_kept I g s st c.args.index leaf lower least s.best st.best.known (st.best.single has));
    }
