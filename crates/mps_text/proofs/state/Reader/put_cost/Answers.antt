use Rattle.std.proofs.Common.{◌≡◌, ◌-◌, false, ap, arith, rules, length, w64, ◌∙◌, sym}
use Rattle.std.specs.Prelude.{is_some}
use Rattle.std.proofs.lemmas.Int.{to_z-of_z}
use Rattle.mps_text.specs.Meaning.{change_at, with_cost}
use Rattle.mps_text.proofs.LastColumns.{kept_last, last_columns_stay, changed, cost_taken}
use Rattle.mps_text.proofs.state.Reader.put_cost.Goals as goal

pub invariant_of-self-2 : goal.invariant_of-self-2
invariant_of-self-2 c =
    let r = c.args.self.now in
    let d = c.index_mut-column.result.now in
    record {
      kept = kept_last r.stage r.row_names r.rows.items r.last_columns.items r.last_columns.items r.column_names r.columns.items (c.len-last.result - 1) d _ r.kept c.requires.stage (omega arith)
          (ap (λ z. z.name) c.index_mut-column.ensures.value) (λ h. last_columns_stay _ _ _ (c.len-last.result - 1) d _ h (omega arith) (omega arith) (ap (λ z. z.entries) c.index_mut-column.ensures.value));
    }

pub returns-clause-found : goal.returns-clause-found
returns-clause-found c =
    let r = c.args.self.now in
    let d = c.index_mut-column.result.now in
    let none : is_some d.cost ≡ false = search rules in
    let count : c.len-last.result ≡ length r.columns.items = omega arith in
    let last : c.len-last.result - 1 ≡ length r.columns.items - 1 = ap (λ n. n - 1) count in
    ap (λ n. change_at n (with_cost c.args.number) r.columns.items) (sym last)
    ∙ changed (with_cost c.args.number) r.columns.items (c.len-last.result - 1) d _ (omega arith) (cost_taken _ c.args.number d _ (to_z-of_z w64 c.args.number c.ranges.number) c.index_mut-column.ensures.value none)
