use Rattle.std.proofs.Common.{◌≡◌, ◌++◌, ◌∷◌, [], ◌+◌, refl, sym, ◌∙◌, arith}
use Rattle.std.proofs.lemmas.Bool.{false≢true}
use Rattle.label_graph.specs.declared.parts.Mark.TheVariants.{Loss}
use Rattle.joint_graph.proofs.LevelArcs.{ends-first, ends-more, ends-same, ends-all}
use Rattle.joint_graph.proofs.levels.push_ends.Goals as goal
use Rattle.joint_graph.proofs.levels.push_ends.Goals.{then-fits+in_ok-push, else-fits}

pub loop-t-init : goal.loop-t-init
loop-t-init g c = ends-first c.args.caps.now c.args.count c.args.index c.args.used.now c.args.arcs.now.items

pub loop-t-preserved : goal.loop-t-preserved
loop-t-preserved g c =
    let caps = c.args.caps.now in
    let used = c.args.used.now in
    let t = c.loop-t.t in
    elim c.if-fits.branch [
      | then-fits+in_ok-push w ↦
          let pushed : c.if-fits.arcs.items ≡ c.loop-t.arcs.items ++ record { tail = c.args.index + 1; head = c.args.count + t + 1; mark = Loss } ∷ [] = cc (w.arcs-is, w.in_ok-push.ensures.items) in
          ends-more caps c.args.count c.args.index used c.args.arcs.now.items c.loop-t.arcs.items c.if-fits.arcs.items t (c.args.count + t + 1) refl pushed c.loop-t-test.true c.index-caps-t.result c.index-caps-t.is (c.fits.ensures.0 w.if-fits.true) c.loop-t.invariant
      | else-fits w ↦
          let stays : c.if-fits.arcs.items ≡ c.loop-t.arcs.items = cc w.arcs-is in
          rw stays (ends-same caps c.args.count c.args.index used c.args.arcs.now.items c.loop-t.arcs.items t c.loop-t-test.true c.index-caps-t.result c.index-caps-t.is (λ fits. false≢true (sym w.if-fits.false ∙ c.fits.ensures.1 fits)) c.loop-t.invariant)
    ]

pub returns : goal.returns
returns g c = ends-all c.args.caps.now c.args.count c.args.index c.args.used.now c.args.arcs.now.items c.loop-t.arcs.items c.loop-t.t (omega arith) c.loop-t.invariant
