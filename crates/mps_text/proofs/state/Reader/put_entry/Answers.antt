use Rattle.std.proofs.Common.{◌≡◌, refl, ◌+◌, ◌-◌, [], ap, sym, ◌∙◌, get_or, length, arith, w64}
use Rattle.std.proofs.lemmas.Grind.{get_or_default_zero}
use Rattle.std.proofs.lemmas.Int.{to_z-of_z}
use Rattle.mps_text.specs.Meaning.{new_column, change_at, with_entry}
use Rattle.mps_text.specs.inner.Kept.{AreLastColumns, takes_columns}
use Rattle.mps_text.proofs.LastColumns.{kept_last, last_columns_move, entry_refused, entry_taken, one_more}
use Rattle.mps_text.proofs.state.Reader.put_entry.Goals as goal

pub returns-then-index-count-clause-found : goal.returns-then-index-count-clause-found
returns-then-index-count-clause-found c =
    let r = c.args.self.now in
    let last_columns : AreLastColumns r.last_columns.items r.rows.items r.columns.items = c.args.self.now.kept.last_columns_are (ap takes_columns c.requires.stage) in
    let size = last_columns.size in
    let zero_default = get_or_default_zero r.last_columns.items c.args.place c.index.result.now (omega arith) in
    let count : c.len-count.result ≡ length r.columns.items = omega arith in
    let is_last : get_or r.last_columns.items c.args.place 0 ≡ length r.columns.items = sym zero_default ∙ (sym c.index.ensures ∙ (c.if-index-count.true ∙ count)) in
    (entry_refused r.last_columns.items r.rows.items r.columns.items c.args.place (length r.columns.items - 1) c.args.number (new_column []) last_columns c.requires.within c.requires.some refl is_last, refl)

pub returns-clause-found : goal.returns-clause-found
returns-clause-found c =
    let r = c.args.self.now in
    let d = c.index_mut.result.now in
    let last_columns : AreLastColumns r.last_columns.items r.rows.items r.columns.items = c.args.self.now.kept.last_columns_are (ap takes_columns c.requires.stage) in
    let size = last_columns.size in
    let zero_default = get_or_default_zero r.last_columns.items c.args.place c.index.result.now (omega arith) in
    let count : c.len-count.result ≡ length r.columns.items = omega arith in
    let last : c.len-count.result - 1 ≡ length r.columns.items - 1 = ap (λ n. n - 1) count in
    let taken = entry_taken r.last_columns.items r.rows.items r.columns.items c.args.place (c.len-count.result - 1) c.args.number d c.add.new.self last_columns c.requires.within c.requires.some last
    (λ e. c.if-index-count.false (c.index.ensures ∙ (zero_default ∙ (e ∙ sym count))))
    (c.in_ok-add.ensures.ok ∙ one_more d (get_or r.columns.items (c.len-count.result - 1) d) (c.args.place + 1) _ c.args.number (to_z-of_z w64 c.args.number c.ranges.number) c.index_mut.ensures.value) in
    ap (λ n. change_at n (with_entry (c.args.place + 1) c.args.number) r.columns.items) (sym last) ∙ taken

pub invariant_of-self-2 : goal.invariant_of-self-2
invariant_of-self-2 c =
    let r = c.args.self.now in
    let d = c.index_mut.result.now in
    let count : c.len-count.result ≡ length r.columns.items = omega arith in
    let last : c.len-count.result - 1 ≡ length r.columns.items - 1 = ap (λ n. n - 1) count in
    let column = c.in_ok-add.ensures.ok ∙ one_more d (get_or r.columns.items (c.len-count.result - 1) d) (c.args.place + 1) _ c.args.number (to_z-of_z w64 c.args.number c.ranges.number) c.index_mut.ensures.value in
    record {
      kept = kept_last r.stage r.row_names r.rows.items r.last_columns.items _ r.column_names r.columns.items (c.len-count.result - 1) d c.add.new.self r.kept c.requires.stage (omega arith) (ap (λ z. z.name) column)
          (λ h. last_columns_move r.last_columns.items r.rows.items r.columns.items (c.len-count.result - 1) c.args.place c.len-count.result d c.add.new.self c.args.number h (omega arith) last c.requires.within count (ap (λ z. z.entries) column));
    }
