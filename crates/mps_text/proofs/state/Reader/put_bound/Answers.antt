use Rattle.std.proofs.Common.{refl, ap, sym, ◌∙◌}
use Rattle.mps_text.specs.Meaning.{with_bound}
use Rattle.mps_text.specs.inner.Kept.{takes_columns, precedes_columns}
use Rattle.mps_text.proofs.LastColumns.{kept_late, names_kept, changed, refused}
use Rattle.mps_text.proofs.state.Reader.put_bound.Goals as goal

pub invariant_of-self : goal.invariant_of-self
invariant_of-self c =
    let r = c.args.self.now in
    let d = c.index_mut.result.now in
    let name = c.set_bound.ensures.name ∙ ap (λ z. z.name) c.index_mut.ensures.value in
    record {
      kept = kept_late r.stage r.row_names r.rows.items r.rows.items r.last_columns.items r.column_names r.columns.items _ r.kept (ap takes_columns c.requires.stage) (ap precedes_columns c.requires.stage) refl
          (names_kept r.columns.items c.args.place d c.set_bound.new.self c.requires.within name);
    }

pub returns-then-set_bound-clause-found : goal.returns-then-set_bound-clause-found
returns-then-set_bound-clause-found c =
    let r = c.args.self.now in
    let d = c.index_mut.result.now in
    changed (with_bound c.args.kind c.args.number) r.columns.items c.args.place d c.set_bound.new.self c.requires.within (ap (with_bound c.args.kind c.args.number) (sym c.index_mut.ensures.value) ∙ c.if-set_bound.ensures.bound)

pub returns-else-set_bound-clause-found : goal.returns-else-set_bound-clause-found
returns-else-set_bound-clause-found c =
    let r = c.args.self.now in
    let d = c.index_mut.result.now in
    (refused (with_bound c.args.kind c.args.number) r.columns.items c.args.place d c.requires.within (ap (with_bound c.args.kind c.args.number) (sym c.index_mut.ensures.value) ∙ c.if-set_bound.ensures.bound), refl)
