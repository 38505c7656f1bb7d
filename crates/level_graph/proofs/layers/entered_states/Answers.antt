use Rattle.std.proofs.Common.{◌≡◌, [], ◌∷◌, ◌++◌, length, arith, refl}
use Rattle.std.proofs.lemmas.Grind.{common_steps}
use Rattle.std.proofs.lemmas.List.Elements.{All-push}
use Rattle.level_graph.specs.declared.states.State.{State}
use Rattle.level_graph.proofs.layers.entered_states.Goals as goal

pub loop-weight-preserved : goal.loop-weight-preserved
loop-weight-preserved g c =
    let new : State g.row.N = record { piece = c.args.number; copies = 0; used = c.weight-item.result } in
    let pushed : c.push.new.self.items ≡ c.loop-weight.layer.items ++ new ∷ [] = c.in_ok-push.ensures.items in
    record {
      items = grind (arith, common_steps);
      sized = rw pushed (All-push (λ (s : State g.row.N). length s.used ≡ g.row.N) c.loop-weight.layer.items new c.loop-weight.invariant.sized c.known.ensures.places);
      here = rw pushed (All-push (λ (s : State g.row.N). s.piece ≡ c.args.number) c.loop-weight.layer.items new c.loop-weight.invariant.here refl);
    }
