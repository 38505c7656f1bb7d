use Rattle.std.proofs.Common.{◌≡◌, ℕ, ◌<◌, List, [], length, get_or, subst, ◌∙◌, arith}
use Rattle.std.proofs.lemmas.List.{get_or_read, length-set}
use Rattle.lift_build.specs.inner.Tables.{IsLiftAt}
use Rattle.lift_build.proofs.Lifting.{parts-more}
use Rattle.lift_build.proofs.tables.lifted.Goals as goal

pub loop-d-preserved : goal.loop-d-preserved
loop-d-preserved g c =
    let d = c.loop-d.d in
    let cap = c.args.cap.now in
    let used = c.args.used.now in
    let table : c.as_slice.result.now ≡ get_or c.args.row.now d [] = c.as_slice.ensures ∙ get_or_read c.args.row.now d c.index-row-d.result (omega (arith, c.requires.count)) c.index-row-d.is [] in
    let there : d < length c.loop-d.parts = omega (arith, c.loop-d.invariant.sized) in
    let here : IsLiftAt (get_or c.args.row.now d []) (get_or cap d 0) (get_or used d 0) c.lift_at.result =
    subst (λ (t : List ℕ). IsLiftAt t (get_or cap d 0) (get_or used d 0) c.lift_at.result) table
    (subst (λ (m : ℕ). IsLiftAt c.as_slice.result.now m (get_or used d 0) c.lift_at.result) c.get.ensures
    (subst (λ (u : ℕ). IsLiftAt c.as_slice.result.now c.get.result u c.lift_at.result) c.get-in-loop-d.ensures c.lift_at.ensures)) in
    record {
      sized = omega (arith, length-set {A = ℕ}, c.loop-d.invariant.sized);
      each = parts-more (λ k y. IsLiftAt (get_or c.args.row.now k []) (get_or cap k 0) (get_or used k 0) y) c.loop-d.parts d c.lift_at.result there c.loop-d.invariant.each here;
    }
