use Rattle.std.proofs.Common.{◌≡◌, ℕ, ◌<◌, ◌++◌, ◌∷◌, [], All, List, get_or, length, cond, sym, subst, ◌∙◌, ap, rules, arith, refl}
use Rattle.std.proofs.lemmas.List.Elements.{All-append, All-cons, All-nil}
use Rattle.std.proofs.lemmas.Option.{slice_get_read}
use Rattle.needs_check.specs.Rooms.{IsNeedRoomOf}
use Rattle.cert_text.specs.declared.lines.TreeLine.{TreeLine}
use Rattle.search_tree.specs.declared.places.Place.{Place}
use Rattle.search_tree.specs.Trees.{HasFewParts, splits_box}
use Rattle.search_tree.specs.inner.Emitted.{IsEmitted}
use Rattle.search_tree.proofs.Emission.{parts_few, passed_few, passing, telling, written}
use Rattle.search_tree.proofs.lines.tree_lines.Goals as goal
use Rattle.search_tree.proofs.lines.tree_lines.Goals.{then-passed-gt0, else-passed-gt0+in_ok-line+in_ok-push}

pub loop-index-preserved : goal.loop-index-preserved
loop-index-preserved c =
    let I = c.args.instance.now in
    let g = c.args.graph.now in
    let T = c.args.tree.now in
    let here : Place = c.index-places-index.result in
    let index : ℕ = c.loop-index.index in
    let there : here ≡ get_or T.places index here = c.index-places-index.is ∙ ap (λ (ps : List Place). get_or ps index here) c.places.ensures in
    let within : index < length T.places = search rules in
    let few = parts_few here.split in
    let parts = c.parts_of-parts.ensures in
    let bounded = c.loop-index.invariant.bounded in
    elim c.if-passed-gt0.branch [
      | then-passed-gt0 w ↦
          let passed = w.passed-is in
          record {
            bounded = omega (arith, passed, few, parts, bounded);
            room = subst (IsNeedRoomOf g) (sym w.room-is) c.loop-index.invariant.room;
            emitted = passing I g c.args.target T c.requires.root c.requires.shown index c.loop-index.passed c.parts_of-parts.result c.if-passed-gt0.passed c.loop-index.lines c.if-passed-gt0.lines here within there parts w.if-passed-gt0.true passed w.lines-is c.loop-index.invariant.emitted;
            parts = subst (λ (ls : List TreeLine). All HasFewParts ls) (sym w.lines-is) c.loop-index.invariant.parts;
          }
      | else-passed-gt0+in_ok-line+in_ok-push w ↦
          let passed : c.if-passed-gt0.passed ≡ cond (splits_box w.in_ok-line.line) 0 c.parts_of-parts.result = w.passed-is ∙ w.passed_behind-passed.ensures in
          let none = w.if-passed-gt0.false in
          let some = passed_few w.in_ok-line.line c.parts_of-parts.result in
          let read = slice_get_read T.places (length T.places) index here refl within there in
          let lines : c.if-passed-gt0.lines ≡ c.loop-index.lines ++ w.in_ok-line.line ∷ [] = w.lines-is ∙ w.in_ok-push.ensures.ok in
          record {
            bounded = omega (arith, passed, some, few, parts, bounded);
            room = subst (IsNeedRoomOf g) (sym w.room-is) w.line_at.ensures.room;
            emitted = telling I g c.args.target T c.requires.root c.requires.shown c.known.ensures index c.loop-index.passed c.parts_of-parts.result c.if-passed-gt0.passed c.loop-index.lines c.if-passed-gt0.lines here w.in_ok-line.line within there parts (λ some. omega (arith, some, none)) passed lines (w.in_ok-line.ensures.line here read) c.loop-index.invariant.emitted;
            parts = subst (λ (ls : List TreeLine). All HasFewParts ls) (sym lines) (All-append HasFewParts c.loop-index.lines (w.in_ok-line.line ∷ []) c.loop-index.invariant.parts (All-cons HasFewParts w.in_ok-line.line [] w.in_ok-line.ensures.parts (All-nil HasFewParts)));
          }
    ]

pub returns-clause-written : goal.returns-clause-written
returns-clause-written c =
    let T = c.args.tree.now in
    let size : length c.places-index-end.result.now ≡ length T.places = ap (λ (ps : List Place). length ps) c.places-index-end.ensures in
    let past = c.loop-index-test.false in
    let end = c.loop-index.auto.index-end in
    let all : c.loop-index.index ≡ length T.places = omega (arith, size, past, end) in
    written c.args.instance.now c.args.graph.now c.args.target T c.requires.root c.requires.shown c.loop-index.passed c.loop-index.lines
    (subst (λ (n : ℕ). IsEmitted c.args.instance.now c.args.graph.now c.args.target T n c.loop-index.passed c.loop-index.lines) all c.loop-index.invariant.emitted)
