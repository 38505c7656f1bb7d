use Rattle.std.proofs.Common.{◌≡◌, ◌+◌, suc, List, arith, subst, insert, set, get_or, sym, ap, ◌∙◌, add-one, Some}
use Rattle.search_tree.specs.declared.places.Place.{Place}
use Rattle.search_tree.specs.inner.Spread.{IsSpread}
use Rattle.search_tree.proofs.Growing.{spread}
use Rattle.search_tree.proofs.tree.grow.Goals as goal

pub put-requires-2-clause-room : goal.put-requires-2-clause-room
put-requires-2-clause-room c =
    let size = c.put.ensures.size in
    let capacity = c.put.ensures.capacity in
    let len = c.in_ok-reserve.ensures.len in
    let room = c.in_ok-reserve.ensures.ok in
    omega (arith, size, capacity, len, room)

pub index_mut-requires : goal.index_mut-requires
index_mut-requires c =
    let second = c.put-2.ensures.size in
    let first = c.put.ensures.size in
    let len = c.in_ok-reserve.ensures.len in
    let within = c.requires in
    omega (arith, second, first, len, within)

pub returns-clause-ok : goal.returns-clause-ok
returns-clause-ok c =
    let xs : List Place = c.args.places.now.items in
    let i = c.args.index in
    let kept : c.reserve.new.self.items ≡ xs = c.in_ok-reserve.ensures.items in
    let next : i + 1 ≡ suc i = add-one i in
    let first : c.put.new.places.items ≡ insert xs (suc i) c.args.high = c.put.ensures.items ∙ (λ k. insert (kept k) (next k) c.args.high) in
    let all : c.put-2.new.places.items ≡ insert (insert xs (suc i) c.args.high) (suc i) c.args.low = c.put-2.ensures.items ∙ (λ k. insert (first k) (next k) c.args.low) in
    let r : Place = c.index_mut.result.now in
    let read : r ≡ get_or (insert (insert xs (suc i) c.args.high) (suc i) c.args.low) i r = c.index_mut.ensures.value ∙ ap (λ (ps : List Place). get_or ps i r) all in
    subst (λ (ps : List Place). IsSpread xs i c.args.split c.args.low c.args.high (set ps i (record { cuts = r.cuts; shown = r.shown; split = Some c.args.split; need = r.need }))) (sym all)
    (spread xs i c.args.split c.args.low c.args.high r c.requires read)
