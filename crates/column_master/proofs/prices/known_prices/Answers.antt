use Rattle.std.proofs.Common.{arith}
use Rattle.packing_laws.specs.Floors.{material_of}
use Rattle.column_master.proofs.prices.known_prices.Goals as goal

pub returns : goal.returns
returns c =
    let closes = c.material_prices_close.ensures c.args.instance.now c.in_ok-prices.prices (material_of c.args.instance.now) c.known.ensures c.in_ok-prices.ensures (omega arith) in
    record {
      prices = closes.prices;
      items = closes.items;
      arcs = closes.arcs c.args.graph.now;
      closes = closes.closes c.args.graph.now c.known-2.ensures c.requires c.args.ranges.now;
    }
