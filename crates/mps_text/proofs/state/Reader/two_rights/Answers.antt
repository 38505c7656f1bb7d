use Rattle.std.proofs.Common.{◌≡◌, sym, ap, ◌∙◌, subst, ◌∷◌, [], ℤ, w64, rules, to_z, of_z, SFits}
use Rattle.std.proofs.lemmas.Int.{to_z-of_z}
use Rattle.mps_text.specs.declared.faults.MpsCause.TheVariants as cause
use Rattle.mps_text.specs.Meaning.{Reading, change_at, with_right}
use Rattle.mps_text.specs.inner.Readers.{reading_of, Finds, opened}
use Rattle.mps_text.proofs.Twice.{two_rights_judged, keeps_columns_reading}
use Rattle.mps_text.proofs.state.Reader.two_rights.Goals as goal

pub returns-in-Ok-put_right-clause-judged : goal.returns-in-Ok-put_right-clause-judged
returns-in-Ok-put_right-clause-judged c =
    let r = reading_of c.args.self.now in
    let first = c.put_right.new.self in
    let second = c.put_right-in-Ok-put_right.new.self in
    let one = keeps_columns_reading c.args.self.now first c.in-Ok-put_right.ensures.same in
    let two = keeps_columns_reading first second c.put_right-in-Ok-put_right.ensures.same in
    let p = c.in-Ok.places in
    let v = c.in-Ok-two_numbers.numbers in
    let fits : SFits w64 v.0 = search rules in
    let other_fits : SFits w64 v.1 = search rules in
    let number : to_z w64 (of_z w64 v.0) ≡ v.0 = to_z-of_z w64 v.0 fits in
    let other_number : to_z w64 (of_z w64 v.1) ≡ v.1 = to_z-of_z w64 v.1 other_fits in
    let put = ap (λ (z : ℤ). change_at p.0 (with_right z) c.args.self.now.rows.items) (sym number) ∙ c.in-Ok-put_right.ensures.found in
    let put_again = subst (λ (z : ℤ). Finds (opened c.put_right-in-Ok-put_right.result second.rows.items) (change_at p.1 (with_right z) first.rows.items) cause.Twice) other_number c.put_right-in-Ok-put_right.ensures.found in
    two_rights_judged r (reading_of second) c.args.set.now (c.args.first.row.now ∷ c.args.second.row.now ∷ []) (c.args.first.value.now ∷ c.args.second.value.now ∷ []) first.rows.items second.rows.items
    p.0 p.1 v.0 v.1 c.put_right-in-Ok-put_right.result (sym c.if-not-keeps_rules.ensures) c.in-Ok.ensures.found c.in-Ok-two_numbers.ensures put put_again
    (two ∙ ap (λ (z : Reading). record z { rows = second.rows.items }) one)
