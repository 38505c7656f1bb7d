use Rattle.std.proofs.Common.{◌≡◌, false, refl, ap, rules, w64}
use Rattle.std.specs.Prelude.{is_some}
use Rattle.std.proofs.lemmas.Int.{to_z-of_z}
use Rattle.mps_text.specs.Meaning.{with_right}
use Rattle.mps_text.specs.inner.Kept.{takes_columns, precedes_columns}
use Rattle.mps_text.proofs.LastColumns.{kept_late, row_names_kept, changed, right_side_taken}
use Rattle.mps_text.proofs.state.Reader.put_right.Goals as goal

pub invariant_of-self-2 : goal.invariant_of-self-2
invariant_of-self-2 c =
    let r = c.args.self.now in
    let d = c.index_mut-row.result.now in
    record {
      kept = kept_late r.stage r.row_names r.rows.items _ r.last_columns.items r.column_names r.columns.items r.columns.items r.kept (ap takes_columns c.requires.stage) (ap precedes_columns c.requires.stage)
          (row_names_kept r.rows.items c.args.place d _ c.requires.within (ap (λ z. z.name) c.index_mut-row.ensures.value)) refl;
    }

pub returns-clause-found : goal.returns-clause-found
returns-clause-found c =
    let r = c.args.self.now in
    let d = c.index_mut-row.result.now in
    let none : is_some d.right ≡ false = search rules in
    changed (with_right c.args.number) r.rows.items c.args.place d _ c.requires.within (right_side_taken _ c.args.number d _ (to_z-of_z w64 c.args.number c.ranges.number) c.index_mut-row.ensures.value none)
