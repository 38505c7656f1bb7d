use Rattle.std.proofs.Common.{◌≡◌, ℕ, List, Some, length, slice_get, refl, subst}
use Rattle.std.proofs.lemmas.Option.{slice_get_read}
use Rattle.column_pool.proofs.AwakeNumbers.{at-place, number-among}
use Rattle.column_pool.proofs.awake.Awake.number_at.Goals as goal

there : (c : goal.In_ok-column) → slice_get c.args.self.now c.args.place ≡ Some c.in_ok-column.column.now.number
there c =
    let column = c.in_ok-column.column.now in
    let read = slice_get_read c.deref.result.now (length c.deref.result.now) c.args.place column refl c.in_ok-column.ensures.lookup.3.0 (c.in_ok-column.ensures.lookup.3.1 column) in
    let here = subst (λ xs. slice_get xs c.args.place ≡ Some column) c.deref.ensures.value read in
    subst (λ (ns : List ℕ). slice_get ns c.args.place ≡ Some column.number) c.self.view_is (at-place (λ x. x.number) c.self.inside.columns.items c.args.place column here)

pub returns-clause-value : goal.returns-clause-value
returns-clause-value c = there c

pub returns-clause-among : goal.returns-clause-among
returns-clause-among c = number-among c.args.self.now c.args.place c.in_ok-column.column.now.number (there c)
