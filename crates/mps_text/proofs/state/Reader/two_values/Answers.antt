use Rattle.std.proofs.Common.{◌≡◌, ◌-◌, sym, ap, ◌∙◌, subst, ◌∷◌, [], ℤ, length, w64, rules, to_z, of_z, SFits}
use Rattle.std.proofs.lemmas.Int.{to_z-of_z}
use Rattle.mps_text.specs.declared.faults.MpsCause.TheVariants as cause
use Rattle.mps_text.specs.Meaning.{Reading, each_in, target_in, change_at, with_value}
use Rattle.mps_text.specs.inner.Readers.{reading_of, Finds, opened}
use Rattle.mps_text.proofs.Twice.{two_judged, keeps_reading}
use Rattle.mps_text.proofs.state.Reader.two_values.Goals as goal

pub returns-in-Ok-put-clause-judged : goal.returns-in-Ok-put-clause-judged
returns-in-Ok-put-clause-judged c =
    let r = reading_of c.args.self.now in
    let open_ = c.open_column.new.self in
    let first = c.put.new.self in
    let second = c.put-in-Ok-put.new.self in
    let one = keeps_reading c.args.self.now open_ c.in_ok-open_column.ensures.same in
    let two = keeps_reading open_ first c.in-Ok-put.ensures.same in
    let three = keeps_reading first second c.put-in-Ok-put.ensures.same in
    let rows = c.args.first.row.now ∷ c.args.second.row.now ∷ [] in
    let target = ap (λ (z : Reading). each_in (target_in z) rows) (sym one) ∙ c.in-Ok.ensures.found in
    let t = c.in-Ok.targets in
    let v = c.in-Ok-two_numbers.numbers in
    let fits : SFits w64 v.0 = search rules in
    let other_fits : SFits w64 v.1 = search rules in
    let number : to_z w64 (of_z w64 v.0) ≡ v.0 = to_z-of_z w64 v.0 fits in
    let other_number : to_z w64 (of_z w64 v.1) ≡ v.1 = to_z-of_z w64 v.1 other_fits in
    let put = ap (λ (z : ℤ). change_at (length open_.columns.items - 1) (with_value t.0 z) open_.columns.items) (sym number) ∙ c.in-Ok-put.ensures.found in
    let put_again = subst (λ (z : ℤ). Finds (opened c.put-in-Ok-put.result second.columns.items) (change_at (length first.columns.items - 1) (with_value t.1 z) first.columns.items) cause.Twice) other_number c.put-in-Ok-put.ensures.found in
    two_judged r (reading_of second) c.args.name.now rows (c.args.first.value.now ∷ c.args.second.value.now ∷ []) open_.columns.items first.columns.items second.columns.items
    t.0 t.1 v.0 v.1 c.put-in-Ok-put.result
    c.in_ok-open_column.ensures.found (sym c.in_ok-open_column.ensures.same.integers_open ∙ c.if-not-self.false) target c.in-Ok-two_numbers.ensures put c.in-Ok-put.ensures.size put_again
    (three ∙ (ap (λ (z : Reading). record z { columns = second.columns.items }) two ∙ ap (λ (z : Reading). record z { columns = second.columns.items }) one))
