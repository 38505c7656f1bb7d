use Rattle.std.proofs.Common.{◌≡◌, ℕ, List, sym, subst, ap, arith, ⊎_elim}
use Rattle.std.proofs.lemmas.Option.{slice_get_cases}
use Rattle.flow_graph.specs.Chords.{IsGenuine}
use Rattle.std.proofs.lemmas.Result.{on_ok_weaker}
use Rattle.cert_laws.specs.Rules.{Box}
use Rattle.search_tree.specs.declared.places.Place.{Place}
use Rattle.search_tree.specs.declared.places.Shown.{Shown}
use Rattle.search_tree.specs.declared.places.SplitAt.{SplitAt}
use Rattle.search_tree.specs.Trees.{IsTree, TreeValue}
use Rattle.search_tree.specs.inner.Spread.{IsSplitInto}
use Rattle.search_tree.proofs.Growing.{either, grown_chords, grown_needs, split_grown, split_more, split_tree}
use Rattle.search_tree.proofs.tree.Tree.split.Goals as goal

pub split_place-requires-clause-genuine : goal.split_place-requires-clause-genuine
split_place-requires-clause-genuine c =
    let within = c.requires.inside in
    ⊎_elim
    (λ found. subst (λ (b : Box). IsGenuine b c.args.split.arc c.args.split.k) (sym (c.in_ok-ranges.ensures.value found.0 found.2)) (c.requires.genuine found.0 found.2))
    (λ past. absurd (let none = past.0 in omega (arith, none, within)))
    (slice_get_cases c.args.self.now.places c.args.index).1

pub invariant_of-self : goal.invariant_of-self
invariant_of-self c =
    let seen : TreeValue = c.args.self.now in
    let new : TreeValue = record { root = c.self.inside.root; places = c.split_place.new.places.items } in
    let i : ℕ = c.args.index in
    let s : SplitAt = c.args.split in
    let left : Shown = c.args.low in
    let right : Shown = c.args.high in
    let box : Box = c.in_ok-ranges.ranges in
    let root : new.root ≡ seen.root = ap (λ (t : TreeValue). t.root) c.self.view_is in
    let seen_into : IsSplitInto box c.self.inside.places.items i s left right new.places → IsSplitInto box seen.places i s left right new.places = λ into. subst (λ (t : TreeValue). IsSplitInto box t.places i s left right new.places) c.self.view_is into in
    let value = c.in_ok-ranges.ensures.value in
    let tree : IsTree seen.root seen.places = subst (λ (t : TreeValue). IsTree t.root t.places) c.self.view_is c.self.invariant in
    ⊎_elim
    (λ (into : IsSplitInto box c.self.inside.places.items i s left right new.places). split_tree seen new i s left right box root value (seen_into into) c.requires.leaf c.requires.genuine c.known.ensures tree)
    (λ (kept : new.places ≡ c.self.inside.places.items). subst (λ (ps : List Place). IsTree c.self.inside.root ps) (sym kept) c.self.invariant)
    (either c.split_place.result c.split_place.ensures.ok c.split_place.ensures.err)

pub returns-clause-ok : goal.returns-clause-ok
returns-clause-ok c =
    let seen : TreeValue = c.args.self.now in
    let new : TreeValue = record { root = c.self.inside.root; places = c.split_place.new.places.items } in
    let i : ℕ = c.args.index in
    let s : SplitAt = c.args.split in
    let left : Shown = c.args.low in
    let right : Shown = c.args.high in
    let box : Box = c.in_ok-ranges.ranges in
    let root : new.root ≡ seen.root = ap (λ (t : TreeValue). t.root) c.self.view_is in
    let seen_into : IsSplitInto box c.self.inside.places.items i s left right new.places → IsSplitInto box seen.places i s left right new.places = λ into. subst (λ (t : TreeValue). IsSplitInto box t.places i s left right new.places) c.self.view_is into in
    let value = c.in_ok-ranges.ensures.value in
    on_ok_weaker c.split_place.result
    (λ (into : IsSplitInto box c.self.inside.places.items i s left right new.places). split_grown seen new i s left right box root value (seen_into into))
    c.split_place.ensures.ok

pub returns-clause-chords : goal.returns-clause-chords
returns-clause-chords c =
    let seen : TreeValue = c.args.self.now in
    let new : TreeValue = record { root = c.self.inside.root; places = c.split_place.new.places.items } in
    let i : ℕ = c.args.index in
    let s : SplitAt = c.args.split in
    let left : Shown = c.args.low in
    let right : Shown = c.args.high in
    let box : Box = c.in_ok-ranges.ranges in
    let root : new.root ≡ seen.root = ap (λ (t : TreeValue). t.root) c.self.view_is in
    let seen_into : IsSplitInto box c.self.inside.places.items i s left right new.places → IsSplitInto box seen.places i s left right new.places = λ into. subst (λ (t : TreeValue). IsSplitInto box t.places i s left right new.places) c.self.view_is into in
    let value = c.in_ok-ranges.ensures.value in
    on_ok_weaker c.split_place.result
    (λ (into : IsSplitInto box c.self.inside.places.items i s left right new.places). grown_chords seen i s left right new (split_grown seen new i s left right box root value (seen_into into)))
    c.split_place.ensures.ok

pub returns-clause-needs : goal.returns-clause-needs
returns-clause-needs c =
    let seen : TreeValue = c.args.self.now in
    let new : TreeValue = record { root = c.self.inside.root; places = c.split_place.new.places.items } in
    let i : ℕ = c.args.index in
    let s : SplitAt = c.args.split in
    let left : Shown = c.args.low in
    let right : Shown = c.args.high in
    let box : Box = c.in_ok-ranges.ranges in
    let root : new.root ≡ seen.root = ap (λ (t : TreeValue). t.root) c.self.view_is in
    let seen_into : IsSplitInto box c.self.inside.places.items i s left right new.places → IsSplitInto box seen.places i s left right new.places = λ into. subst (λ (t : TreeValue). IsSplitInto box t.places i s left right new.places) c.self.view_is into in
    let value = c.in_ok-ranges.ensures.value in
    on_ok_weaker c.split_place.result
    (λ (into : IsSplitInto box c.self.inside.places.items i s left right new.places). grown_needs seen i s left right new (split_grown seen new i s left right box root value (seen_into into)))
    c.split_place.ensures.ok

pub returns-clause-more : goal.returns-clause-more
returns-clause-more c =
    let seen : TreeValue = c.args.self.now in
    let new : TreeValue = record { root = c.self.inside.root; places = c.split_place.new.places.items } in
    let i : ℕ = c.args.index in
    let s : SplitAt = c.args.split in
    let left : Shown = c.args.low in
    let right : Shown = c.args.high in
    let box : Box = c.in_ok-ranges.ranges in
    let root : new.root ≡ seen.root = ap (λ (t : TreeValue). t.root) c.self.view_is in
    let seen_into : IsSplitInto box c.self.inside.places.items i s left right new.places → IsSplitInto box seen.places i s left right new.places = λ into. subst (λ (t : TreeValue). IsSplitInto box t.places i s left right new.places) c.self.view_is into in
    let value = c.in_ok-ranges.ensures.value in
    on_ok_weaker c.split_place.result
    (λ (into : IsSplitInto box c.self.inside.places.items i s left right new.places). split_more seen new i s left right box root value (seen_into into) c.requires.leaf c.requires.genuine c.known.ensures)
    c.split_place.ensures.ok
