-- One more bin gives a line, or nothing.
use Rattle.std.proofs.Common.{◌≡◌, ℕ, ◌+◌, ◌≤◌, ◌==◌, ◌∙◌, ◌++◌, [], ◌∷◌, List, Vec, Global, false, take, length, inl, inr, refl, sym, ap, subst, arith}
use Rattle.std.proofs.lemmas.Bool.{eqb-true, eqb-false}
use Rattle.std.proofs.lemmas.List.{take_more, nil_from_length}
use Rattle.packing_laws.specs.declared.packings.Count.{Count}
use Rattle.packing_laws.specs.Packings.{count_of_form}
use Rattle.packing_laws.specs.declared.packings.Bin.{Bin}
use Rattle.packing_laws.specs.declared.tidying.Line.{Line}
use Rattle.packing_laws.specs.Printed.{units_in}
use Rattle.packing_laws.proofs.TidyParts.{AreLines, AreLines-push, AreLines-skipped, IsLine}
use Rattle.packing_laws.proofs.tidying.lines_of.Goals as goal
use Rattle.packing_laws.proofs.tidying.lines_of.Goals.{then-bin-gt0+in_ok-counts+then-not-is_empty+in_ok-push, then-bin-gt0+in_ok-counts+else-not-is_empty, else-bin-gt0}

pub loop-bin-preserved : goal.loop-bin-preserved
loop-bin-preserved c =
    let bins : List Bin = c.args.bins.now in
    let k : ℕ = c.loop-bin.bin-index in
    let b : Bin = c.bin-item.result in
    let lines : List Line = c.loop-bin.lines.items in
    let more : take (k + 1) bins ≡ take k bins ++ b ∷ [] = take_more bins k b c.loop-bin-test.true ∙ ap (λ (x : Bin). take k bins ++ x ∷ []) (sym c.bin-item.is) in
    subst (λ (l : List Bin). AreLines l c.if-bin-gt0.lines.items) (sym more) (elim c.if-bin-gt0.branch [
      | then-bin-gt0+in_ok-counts+then-not-is_empty+in_ok-push w ↦
          let counts : Vec Count Global = w.in_ok-counts.counts in
          let x : Line = record { bin_type = b.bin_type; counts = counts; times = b.times } in
          let given : w.as_slice.result.now ≡ b.counts = w.as_slice.ensures in
          let pushed : c.if-bin-gt0.lines.items ≡ lines ++ x ∷ [] = ap (λ (v : Vec Line Global). v.items) w.lines-is ∙ w.in_ok-push.ensures.items in
          let full : (counts.len == 0) ≡ false = sym w.is_empty.ensures ∙ w.if-not-is_empty.true in
          let line : IsLine b x = record {
            bin_type = refl;
            times = refl;
            used = w.if-bin-gt0.true;
            tidy = w.in_ok-counts.ensures.tidy;
            same = λ i f. ap (λ (l : List Count). count_of_form i f l) (sym given) ∙ w.in_ok-counts.ensures.same i f;
            units = w.in_ok-counts.ensures.units ∙ ap (λ (l : List Count). units_in l) given;
            some = let other : counts.len ≡ 0 → ⊥ = eqb-false counts.len 0 full in omega arith;
          } in
          subst (λ (l : List Line). AreLines (take k bins ++ b ∷ []) l) (sym pushed) (AreLines-push (take k bins) b lines x line c.loop-bin.invariant)
      | then-bin-gt0+in_ok-counts+else-not-is_empty w ↦
          let counts : Vec Count Global = w.in_ok-counts.counts in
          let kept : c.if-bin-gt0.lines.items ≡ lines = ap (λ (v : Vec Line Global). v.items) w.lines-is in
          let none : counts.len ≡ 0 = eqb-true counts.len 0 (sym w.is_empty.ensures ∙ w.if-not-is_empty.false) in
          let empty : length counts.items ≡ 0 = omega arith in
          let idle : units_in b.counts ≡ 0 = ap (λ (l : List Count). units_in l) (sym w.as_slice.ensures) ∙ sym w.in_ok-counts.ensures.units ∙ ap (λ (l : List Count). units_in l) (nil_from_length counts.items empty) in
          subst (λ (l : List Line). AreLines (take k bins ++ b ∷ []) l) (sym kept) (AreLines-skipped (take k bins) b lines (inr idle) c.loop-bin.invariant)
      | else-bin-gt0 w ↦
          let kept : c.if-bin-gt0.lines.items ≡ lines = ap (λ (v : Vec Line Global). v.items) w.lines-is in
          let unused : b.times ≡ 0 = let e : b.times ≤ 0 = w.if-bin-gt0.false in omega arith in
          subst (λ (l : List Line). AreLines (take k bins ++ b ∷ []) l) (sym kept) (AreLines-skipped (take k bins) b lines (inl unused) c.loop-bin.invariant)
    ])
