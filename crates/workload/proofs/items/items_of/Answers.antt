use Rattle.std.proofs.Common.{◌≡◌, ◌∙◌, ℕ, suc, ◌+◌, ◌++◌, ◌∷◌, [], List, map, ap, sym, arith}
use Rattle.std.specs.List.{range_with_len}
use Rattle.std.proofs.lemmas.List.FromFn.{map-range_with_len_more}
use Rattle.packing_laws.specs.declared.instances.Item.{Item}
use Rattle.workload.specs.Generated.{state_behind, state_at, drawn, item_of, generated_item}
use Rattle.workload.proofs.items.items_of.Goals as goal

pub loop-preserved : goal.loop-preserved
loop-preserved c =
    let seed = c.args.seed in
    let n = c.loop.counter in
    let one : suc n ≡ n + 1 = omega arith in
    let state : c.state_behind-state.result ≡ state_at seed (n + 1) =
    c.state_behind-state.ensures ∙ (ap (λ (x : ℕ). state_behind x) c.loop.invariant.0 ∙ ap (λ (k : ℕ). state_at seed k) one) in
    let item : c.in_ok-item.item ≡ generated_item seed (n + 1) =
    c.in_ok-item.ensures ∙ ap (λ (x : ℕ). item_of x) (c.drawn.ensures.value ∙ ap (λ (x : ℕ). drawn x) state) in (
      state,
      c.in_ok-push.ensures.items
          ∙ (ap (λ (xs : List Item). xs ++ c.in_ok-item.item ∷ []) c.loop.invariant.1
          ∙ (ap (λ (x : Item). map (generated_item seed) (range_with_len 1 n) ++ x ∷ []) item
          ∙ sym (map-range_with_len_more (generated_item seed) 1 n (n + 1) (omega arith)))),
    )
