use Rattle.std.proofs.Common.{◌≡◌, ℕ, ◌+◌, ◌-◌, ◌≤◌, ◌++◌, ◌∷◌, [], List, length, get_or, sym, ap, subst, ◌∙◌, rules, arith}
use Rattle.lift_build.specs.inner.Tables.{AreRows}
use Rattle.lift_build.proofs.Lifting.{rows-start, behind-row, rows-next, behind-few, behind-tables}
use Rattle.lift_build.proofs.tables.rows_of.Goals as goal

pub loop-index-init : goal.loop-index-init
loop-index-init g c = rows-start c.args.pieces.now c.args.cap.now (length c.args.pieces.now - length c.args.pieces.now + 1) c.in_ok-first_row.field-0 c.push.new.self.items (omega arith) (c.in_ok-push.ensures.items ∙ ap (λ (rows : List (List (List ℕ))). rows ++ c.in_ok-first_row.field-0 ∷ []) c.new-rows.ensures.items) c.in_ok-first_row.ensures

pub row_of-requires : goal.row_of-requires
row_of-requires g c =
    let pieces = c.args.pieces.now in
    let j = c.loop-index.index in
    let n = length pieces - j + 1 in
    let low : 1 ≤ j = omega arith in
    let high : j ≤ length pieces = omega arith in
    let here : n ≡ length pieces - j + 1 = omega arith in
    let at : c.as_slice.result.now ≡ get_or c.loop-index.rows.items (n - 1) c.as_slice.result.now =
    let e : length pieces - (j - 1) - 1 ≡ n - 1 = omega arith in
    subst (λ (row : List (List ℕ)). row ≡ get_or c.loop-index.rows.items (n - 1) row) (sym c.as_slice.ensures) (c.index.ensures ∙ ap (λ (k : ℕ). get_or c.loop-index.rows.items k c.index.result.now) e) in
    (search rules, (c.requires.small, ((behind-row pieces c.args.cap.now c.known.ensures.places j n c.loop-index.rows.items low high here c.loop-index.invariant c.as_slice.result.now at).count, (behind-few pieces c.args.cap.now c.known.ensures.places j n c.loop-index.rows.items low high here c.loop-index.invariant c.as_slice.result.now at c.known.ensures.range, behind-tables pieces c.args.cap.now c.known.ensures.places j n c.loop-index.rows.items low high here c.loop-index.invariant c.as_slice.result.now at))))

pub loop-index-preserved : goal.loop-index-preserved
loop-index-preserved g c =
    let pieces = c.args.pieces.now in
    let j = c.loop-index.index in
    let n = length pieces - j + 1 in
    let low : 1 ≤ j = omega arith in
    let high : j ≤ length pieces = omega arith in
    let here : n ≡ length pieces - j + 1 = omega arith in
    let at : c.as_slice.result.now ≡ get_or c.loop-index.rows.items (n - 1) c.as_slice.result.now =
    let e : length pieces - (j - 1) - 1 ≡ n - 1 = omega arith in
    subst (λ (row : List (List ℕ)). row ≡ get_or c.loop-index.rows.items (n - 1) row) (sym c.as_slice.ensures) (c.index.ensures ∙ ap (λ (k : ℕ). get_or c.loop-index.rows.items k c.index.result.now) e) in
    let more : length pieces - (j - 1) + 1 ≡ n + 1 = omega arith in
    let new = rows-next pieces c.args.cap.now c.known.ensures.places j n c.loop-index.rows.items low high here c.loop-index.invariant c.as_slice.result.now at (length pieces - (j - 1) + 1) c.in_ok-row.row c.index-pieces-index.result more c.index-pieces-index.is c.in_ok-row.ensures in
    subst (λ (rows : List (List (List ℕ))). AreRows pieces c.args.cap.now (length pieces - (j - 1) + 1) rows) (sym c.in_ok-push-2.ensures.items) new
