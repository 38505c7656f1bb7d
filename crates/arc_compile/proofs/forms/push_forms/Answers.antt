use Rattle.std.proofs.Common.{◌≡◌, ◌+◌, ◌<◌, ◌++◌, ◌∷◌, [], true, false, List, ℕ, length, arith, sym, subst, ap, ◌∙◌, refl, get_or, vec_len}
use Rattle.packing_laws.specs.Floors.{vector_fits}
use Rattle.arc_compile.specs.declared.ranks.Ranked.{Ranked}
use Rattle.arc_compile.specs.inner.Ranks.{AddsForms, form_of}
use Rattle.arc_compile.specs.Pieces.{padded}
use Rattle.arc_compile.proofs.RankLemmas.{form_by_place, forms_push, forms_skip}
use Rattle.arc_compile.proofs.forms.push_forms.Goals as goal
use Rattle.arc_compile.proofs.forms.push_forms.Goals.{then-vector_fits+in_ok-weight+in_ok-push, else-vector_fits}

pub loop-f-preserved : goal.loop-f-preserved
loop-f-preserved g c =
    let x = c.args.item.now in
    let further = c.args.further.now in
    let f = c.loop-f.f in
    let v = c.form-item.result in
    let same : c.as_slice-form-items.result.now ≡ x.forms = c.as_slice-form-items.ensures in
    let lt : f < length x.forms = subst (λ (vs : List (List ℕ)). f < length vs) same c.loop-f-test.true in
    let at : v ≡ get_or x.forms f v = subst (λ (vs : List (List ℕ)). v ≡ get_or vs f v) same c.form-item.is in
    let form : form_of x (f + 1) ≡ v = form_by_place x f v lt at in
    let here : form_of x (f + 1) ≡ c.as_slice.result.now = form ∙ sym c.as_slice.ensures in
    elim c.if-vector_fits.branch [
      | then-vector_fits+in_ok-weight+in_ok-push w ↦
          let rank : Ranked g.row.N = record { weight = record { 0 = w.in_ok-weight.weight }; item = c.args.i; form = f + 1 } in
          let fits : vector_fits (form_of x (f + 1)) c.args.cap.now ≡ true = ap (λ (u : List ℕ). vector_fits u c.args.cap.now) here ∙ (sym c.vector_fits.ensures ∙ w.if-vector_fits.true) in
          let weighs : w.in_ok-weight.weight ≡ padded g.row.N (form_of x (f + 1) ++ further) = w.in_ok-weight.ensures ∙ ap (λ (u : List ℕ). padded g.row.N (u ++ further)) (w.as_slice-then-vector_fits.ensures ∙ sym form) in
          let pushed : c.if-vector_fits.ranked.items ≡ c.loop-f.ranked.items ++ rank ∷ [] = cc (w.ranked-is, w.in_ok-push.ensures.items) in
          (rw pushed (forms_push c.args.i x c.args.cap.now further f c.args.ranked.now.items c.loop-f.ranked.items rank fits refl refl weighs c.loop-f.invariant.0), omega (arith, c.loop-f.invariant.1, ap vec_len w.ranked-is, w.in_ok-push.ensures.len))
      | else-vector_fits w ↦
          let unfit : vector_fits (form_of x (f + 1)) c.args.cap.now ≡ false = ap (λ (u : List ℕ). vector_fits u c.args.cap.now) here ∙ (sym c.vector_fits.ensures ∙ w.if-vector_fits.false) in
          let stays : c.if-vector_fits.ranked.items ≡ c.loop-f.ranked.items = cc w.ranked-is in
          (rw stays (forms_skip c.args.i x c.args.cap.now further f c.args.ranked.now.items c.loop-f.ranked.items unfit c.loop-f.invariant.0), omega (arith, c.loop-f.invariant.1, ap vec_len w.ranked-is))
    ]

pub returns-clause-added : goal.returns-clause-added
returns-clause-added g c =
    let same : c.as_slice-form-items.result.now ≡ c.args.item.now.forms = c.as_slice-form-items.ensures in
    let whole : c.loop-f.f ≡ length c.args.item.now.forms = subst (λ (vs : List (List ℕ)). c.loop-f.f ≡ length vs) same (omega arith) in
    subst (λ (n : ℕ). AddsForms c.args.i c.args.item.now c.args.cap.now c.args.further.now n c.args.ranked.now.items c.loop-f.ranked.items) whole c.loop-f.invariant.0

pub returns-clause-count : goal.returns-clause-count
returns-clause-count g c =
    let same : length c.as_slice-form-items.result.now ≡ length c.args.item.now.forms = ap length c.as_slice-form-items.ensures in
    omega (arith, c.loop-f.invariant.1)
