use Rattle.std.proofs.Common.{◌≡◌, ℕ, ◌<◌, List, length, get_or, sum_by, replicate, slice_index, ap, ◌∙◌, rules, arith}
use Rattle.std.proofs.lemmas.List.{take_all, length-replicate, get_or_read}
use Rattle.arc_num.specs.declared.TheConstants.{MAX_ITEMS}
use Rattle.flow_graph.specs.Arcs.{TypeValue}
use Rattle.flow_model.specs.Tallies.{AreStarts, IsTallyOf}
use Rattle.flow_model.proofs.tallies.Tally.new.Goals as goal

made : (g : List TypeValue) (starts inflow outflow items : List ℕ) (count n : ℕ) → AreStarts g starts → count ≡ length g → n ≡ get_or starts count n → inflow ≡ replicate n 0 → outflow ≡ replicate n 0 → items ≡ replicate MAX_ITEMS 0 → IsTallyOf g (record { starts = starts; inflow = inflow; outflow = outflow; items = items })
made g starts inflow outflow items count n are every read p q r =
    let within : count < length starts = let size = are.size in omega (arith, size, every) in
    let whole : n ≡ slice_index starts (length g) = get_or_read starts count n within read 0 ∙ ap (λ (k : ℕ). get_or starts k 0) every in
    let all : n ≡ sum_by (λ x. x.nodes) g = whole ∙ are.each (length g) (omega arith) ∙ ap (sum_by (λ (x : TypeValue). x.nodes)) (take_all (length g) g (omega arith)) in
    record {
      starts = are;
      inflow = ap length p ∙ length-replicate {A = ℕ} n 0 ∙ all;
      outflow = ap length q ∙ length-replicate {A = ℕ} n 0 ∙ all;
      items = ap length r ∙ length-replicate {A = ℕ} MAX_ITEMS 0;
    }

pub returns : goal.returns
returns c = made c.args.graph.now c.in_ok-starts.starts.items c.in_ok-vec.field-0.items c.in_ok-vec-2.field-0.items c.in_ok-vec-3.field-0.items c.type_count.result c.index.result.now c.in_ok-starts.ensures c.type_count.ensures.value (search rules) (search rules) (search rules) (search rules)

pub node_starts-requires : goal.node_starts-requires
node_starts-requires c = c.nodes_are_few.ensures c.args.graph.now c.known.ensures
