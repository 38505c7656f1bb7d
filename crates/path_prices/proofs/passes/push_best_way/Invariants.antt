use Rattle.std.proofs.Common.{◌+◌, ◌<◌, ◌≤◌, length, vec_len}
use Rattle.std.specs.Vec.{vec_capacity}
use Rattle.path_prices.proofs.BestSteps.{IsOnBest}
use Rattle.path_prices.proofs.passes.push_best_way.Given as goal

abbrev pub invariant-loop-index : goal.invariant-loop-index
invariant-loop-index l = record {
  room : length l.values ≤ vec_capacity l.into + 1;
  short : vec_len l.into < l.node;
  node : l.node < length l.values;
  best : IsOnBest l.items l.own l.arcs l.values l.first l.index l.node l.left l.into.items;
}
