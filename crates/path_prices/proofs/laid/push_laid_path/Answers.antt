use Rattle.std.proofs.Common.{◌≡◌, ℕ, ◌+◌, ◌-◌, [], length, ap, arith}
use Rattle.flow_graph.specs.Arcs.{first_arc, flow_type}
use Rattle.path_prices.proofs.TypeGains.{best-path, laid-way}
use Rattle.path_prices.proofs.laid.push_laid_path.Goals as goal

pub returns-clause-path : goal.returns-clause-path
returns-clause-path c = λ p are laid.
    let g = c.args.graph.now in
    let holds = c.find_values.ensures.best p are laid in
    let bin : c.numbers-bin.result.0 ≡ first_arc g c.args.t = ap (λ (r : ℕ × ℕ). r.0) c.numbers-bin.ensures.value in
    let count : length c.find_values.new.values ≡ (flow_type g c.args.t).nodes + 1 = c.find_values.ensures.size in
    let way = laid-way g c.args.t c.known.ensures c.requires.of_type p are c.args.items.now c.args.arcs.now c.own_prices-own.result.now c.type_arcs.result.now c.find_values.new.values c.numbers-bin.result.0 c.push_best_way.new.into.items (c.requires.room.items (c.args.t - 1) (record { nodes = 1; arcs = [] }) (omega arith)) c.requires.room.arcs laid c.own_prices-own.ensures.value c.type_arcs.ensures count bin holds c.push_best_way.ensures in
    (best-path g c.args.t c.known.ensures c.requires.of_type p are c.find_values.new.values c.push_best_way.new.into.items c.find_values.ensures.source holds way).0

pub returns-clause-greatest : goal.returns-clause-greatest
returns-clause-greatest c = λ p are laid.
    let g = c.args.graph.now in
    let holds = c.find_values.ensures.best p are laid in
    let bin : c.numbers-bin.result.0 ≡ first_arc g c.args.t = ap (λ (r : ℕ × ℕ). r.0) c.numbers-bin.ensures.value in
    let count : length c.find_values.new.values ≡ (flow_type g c.args.t).nodes + 1 = c.find_values.ensures.size in
    let way = laid-way g c.args.t c.known.ensures c.requires.of_type p are c.args.items.now c.args.arcs.now c.own_prices-own.result.now c.type_arcs.result.now c.find_values.new.values c.numbers-bin.result.0 c.push_best_way.new.into.items (c.requires.room.items (c.args.t - 1) (record { nodes = 1; arcs = [] }) (omega arith)) c.requires.room.arcs laid c.own_prices-own.ensures.value c.type_arcs.ensures count bin holds c.push_best_way.ensures in
    (best-path g c.args.t c.known.ensures c.requires.of_type p are c.find_values.new.values c.push_best_way.new.into.items c.find_values.ensures.source holds way).1
