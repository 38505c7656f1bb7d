use Rattle.std.proofs.Common.{◌≡◌, [], ◌∷◌, ◌++◌, ◌<◌, length, sym, ◌∙◌, arith, append-nil}
use Rattle.std.specs.Prelude.{AllPairs}
use Rattle.std.proofs.lemmas.List.{length-append}
use Rattle.level_graph.specs.Levels.{StateBefore}
use Rattle.level_graph.specs.inner.Layers.{entered}
use Rattle.level_graph.proofs.LayerSteps.{growing_stay, growing_push, growing_done, entered-ordered}
use Rattle.level_graph.proofs.layers.layer_of.Goals as goal
use Rattle.level_graph.proofs.layers.layer_of.Goals.{in-Some+in_ok-push, in_default}

pub loop-index-init : goal.loop-index-init
loop-index-init g c =
    let items = c.in_ok-layer.ensures.items in
    let up : AllPairs StateBefore (entered {N = g.row.N} c.args.number c.args.entering.now) = entered-ordered {N = g.row.N} c.args.number c.args.entering.now c.requires.entering in
    (omega arith, record { ordered = rw items up; sized = c.in_ok-layer.ensures.sized; here = c.in_ok-layer.ensures.here; whole = items ∙ sym (append-nil (entered {N = g.row.N} c.args.number c.args.entering.now)) })

pub loop-index-preserved : goal.loop-index-preserved
loop-index-preserved g c =
    let old = c.loop-index.invariant.1 in
    let lt : c.loop-index.index < length c.loop-index.layer.items = omega (arith, c.loop-index.invariant.0) in
    elim c.match-take.branch [
      | in-Some+in_ok-push w ↦
          let e : c.match-take.layer.items ≡ c.loop-index.layer.items ++ w.in-Some.next ∷ [] = cc (w.layer-is, w.in_ok-push.ensures.items) in
          rw e (
            omega (arith, length-append c.loop-index.layer.items (w.in-Some.next ∷ [])),
            growing_push c.args.number c.args.piece.now c.args.cap.now c.args.entering.now c.known.ensures.places c.loop-index.layer.items c.loop-index.index c.index.result.now w.in-Some.next old lt c.index.ensures (sym w.in-Some.ensures),
          )
      | in_default w ↦
          let e : c.match-take.layer.items ≡ c.loop-index.layer.items = cc (w.layer-is) in
          rw e (
            omega arith,
            growing_stay c.args.number c.args.piece.now c.args.cap.now c.args.entering.now c.known.ensures.places c.loop-index.layer.items c.loop-index.index c.index.result.now old lt c.index.ensures (sym w.in_default.ensures),
          )
    ]

pub returns-then-index-len : goal.returns-then-index-len
returns-then-index-len g c =
    growing_done c.args.number c.args.piece.now c.args.cap.now c.args.entering.now c.known.ensures.places c.loop-index.layer.items c.loop-index.index (omega arith) c.loop-index.invariant.1
