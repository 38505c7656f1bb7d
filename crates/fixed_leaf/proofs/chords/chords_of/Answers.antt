use Rattle.std.proofs.Common.{◌≡◌, List, Bool, map, not, ap, ◌∙◌}
use Rattle.std.proofs.lemmas.Result.{IfOk-weaker}
use Rattle.fixed_leaf.specs.declared.joints.Joint.{Joint}
use Rattle.fixed_leaf.proofs.ChordFlags.{told}
use Rattle.fixed_leaf.proofs.chords.chords_of.Goals as goal

pub returns : goal.returns
returns c =
    IfOk-weaker c.chord_flags.result _ _
    (λ flags is. told c.args.graph.now c.in_ok-net.net.joints flags c.in_ok-net.ensures.joints (is ∙ ap (λ (joints : List Joint). map (λ (j : Joint). not j.tree) joints) c.as_slice.ensures))
    c.chord_flags.ensures
