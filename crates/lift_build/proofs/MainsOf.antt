-- The main graph, from the labels and arcs that a search has found.
use Rattle.std.proofs.Common.{◌≡◌, ℕ, ◌+◌, ◌-◌, ◌<◌, ◌≤◌, ◌↔◌, List, [], ◌∷◌, ◌++◌, length, get_or, map, refl, sym, ap, ◌∙◌, subst, ⊎_elim, arith}
use Rattle.std.specs.Prelude.{Contains, All, AllPairs}
use Rattle.std.proofs.lemmas.Bool.{cases_lt}
use Rattle.std.proofs.lemmas.List.{get_or_append_left, get_or_push}
use Rattle.std.proofs.lemmas.List.Elements.{Contains-get_or}
use Rattle.weight_vec.specs.Weight.{Before}
use Rattle.label_graph.specs.declared.parts.GraphArc.{GraphArc}
use Rattle.label_graph.specs.declared.parts.Piece.{Piece}
use Rattle.label_graph.specs.Graph.{GraphValue, IsGraph, ArcBefore}
use Rattle.label_graph.specs.Images.{IsImage}
use Rattle.label_graph.specs.ImageLaws.{ImagesExist}
use Rattle.label_graph.proofs.Fewer.{no_longer}
use Rattle.label_graph.proofs.OneImage.{arc-one_way}
use Rattle.level_graph.specs.Levels.{IsPieceList, IsLevelGraph}
use Rattle.level_graph.specs.LevelLaws.{AreWeighed, LevelGraphsExist, LevelGraphsAreGraphs, IsGraphWithin}
use Rattle.level_graph.proofs.Members.{contains_map, from_map}
use Rattle.main_compress.specs.MainGraphs.{IsMainGraph}
use Rattle.main_compress.specs.MainLaws.{IsRoomFor, MainGraphsAreGraphs}
use Rattle.main_compress.proofs.Targets.{target-labelling}
use Rattle.lift_build.specs.LiftedMains.{IsMainOf}
use Rattle.lift_build.specs.inner.Numbers.{IsNumber}
use Rattle.lift_build.specs.inner.Moves.{MovesTo, IsMoved, ArePlaces, HasEnds, moved_arc}
use Rattle.lift_build.specs.inner.Rooms.{room_left}
use Rattle.lift_build.specs.inner.Searches.{IsSound, IsWhole, IsTooMuch}
use Rattle.lift_build.proofs.FoundImages.{number-one, ordered-apart, found-image, found-fewer}
use Rattle.lift_build.proofs.LevelRooms.{rooms, level_of, are-targets}

-- one more place
pub places-more : (labels sorted : List (List ℕ)) (i : ℕ) (l : List ℕ) (places : List ℕ) (w : ℕ) → i < length labels → l ≡ get_or labels i l → length places ≡ i → ((v : ℕ) → 1 ≤ v → v ≤ i → MovesTo labels sorted v (get_or places (v - 1) 0)) → IsNumber sorted w l → (v : ℕ) → 1 ≤ v → v ≤ i + 1 → MovesTo labels sorted v (get_or (places ++ w ∷ []) (v - 1) 0)
places-more labels sorted i l places w lt here count each one v low high k is =
    ⊎_elim
    (λ before.
    let old = each v low (omega arith) k is in
    subst (λ (n : ℕ). IsNumber sorted n k) (sym (get_or_append_left places (w ∷ []) 0 (v - 1) (omega (arith, count)))) old)
    (λ last.
    let e : v - 1 ≡ i = omega arith in
    let same : k ≡ l = sym (is.here l) ∙ ap (λ (n : ℕ). get_or labels n l) e ∙ sym here in
    subst (λ (n : ℕ). IsNumber sorted n k) (sym (get_or_push places w 0 (v - 1) (omega (arith, count)))) (subst (λ (x : List ℕ). IsNumber sorted w x) (sym same) one))
    (cases_lt (v - 1) i)

module _ {N : ℕ} (pieces : List (Piece N)) (cap : List ℕ) (labels : List (List ℕ)) (found : List GraphArc) (sound : IsSound pieces cap labels found) where
  pub found-ends : (count : ℕ) → count ≡ length labels → All (HasEnds count) found
  found-ends count same k d lt =
      let x = get_or found k d in
      let image = (sound.from_steps x (Contains-get_or found k d lt)).image in
      record { tail_low = image.tail.low; tail_high = omega (arith, image.tail.high); head_low = image.head.low; head_high = omega (arith, image.head.high) }

  module _ (distinct : List (List ℕ)) (places : List ℕ) (up : AllPairs Before distinct) (are : ArePlaces labels distinct places) where
    is-moved : (x : GraphArc) → Contains found x → IsMoved labels distinct x (moved_arc places x)
    is-moved x m =
        let image = (sound.from_steps x m).image in
        record {
          tail = are.each x.tail image.tail.low image.tail.high;
          head = are.each x.head image.head.low image.head.high;
          mark = refl;
        }

    one-moved : (x y : GraphArc) → Contains found x → IsMoved labels distinct x y → moved_arc places x ≡ y
    one-moved x y m moved =
        let from = sound.from_steps x m in
        let made = is-moved x m in
        let apart = ordered-apart distinct up in
        let k = room_left pieces cap from.from in
        let l = room_left pieces cap from.to in
        let tails : get_or places (x.tail - 1) 0 ≡ y.tail = number-one distinct apart (get_or places (x.tail - 1) 0) y.tail k (made.tail k from.image.tail) (moved.tail k from.image.tail) in
        let heads : get_or places (x.head - 1) 0 ≡ y.head = number-one distinct apart (get_or places (x.head - 1) 0) y.head l (made.head l from.image.head) (moved.head l from.image.head) in
        let marks : x.mark ≡ y.mark = sym moved.mark in
        λ i. record { tail = tails i; head = heads i; mark = marks i }

    pub moved-iff : (sorted : List GraphArc) → ((y : GraphArc) → Contains sorted y ↔ Contains (map (moved_arc places) found) y) → (y : GraphArc) → Contains sorted y ↔ ((x : GraphArc) × Contains found x × IsMoved labels distinct x y)
    moved-iff sorted same y = (
      λ m.
          let from = from_map (moved_arc places) found y ((same y).0 m) in
          (from.0, from.1, subst (λ (z : GraphArc). IsMoved labels distinct from.0 z) from.2 (is-moved from.0 from.1)),
      λ w. (same y).1 (subst (λ (z : GraphArc). Contains (map (moved_arc places) found) z) (one-moved w.0 y w.1 w.2) (contains_map (moved_arc places) found w.0 w.1)),
    )

-- arcs in order are no more than those that they come from
pub sorted-fewer : (places : List ℕ) (found sorted : List GraphArc) → AllPairs ArcBefore sorted → ((y : GraphArc) → Contains sorted y ↔ Contains (map (moved_arc places) found) y) → length sorted ≤ length found
sorted-fewer places found sorted up same =
    no_longer ArcBefore (λ x h. arc-one_way x x h h) (λ (x y : GraphArc). moved_arc places x ≡ y) (λ x y z h k. sym h ∙ k) sorted found up (λ y m. from_map (moved_arc places) found y ((same y).0 m))

module _ {N : ℕ} (pieces : List (Piece N)) (cap : List ℕ) (listed : IsPieceList pieces cap) (weighed : AreWeighed pieces cap) (exist : LevelGraphsExist) (graphs : LevelGraphsAreGraphs) where
  some-level : (g : GraphValue N) × IsLevelGraph pieces cap g
  some-level = exist N pieces cap listed weighed

  abbrev the_level : GraphValue N
  the_level = level_of pieces some-level.1.states some-level.0.arcs

  is-level : IsLevelGraph pieces cap the_level
  is-level = record { states = some-level.1.states; levels = some-level.1.levels; pieces_are = refl; labels_are = refl }

  within : IsGraphWithin cap the_level
  within = graphs N pieces cap the_level listed weighed is-level

  room-for : IsRoomFor cap the_level
  room-for = record { sized = weighed.sized; ranged = weighed.ranged; fits = within.fits }

  is-main : (main : GraphValue N) → IsImage the_level (rooms pieces cap some-level.1.states) main → IsMainGraph cap the_level main
  is-main main image = record {
    labels = rooms pieces cap some-level.1.states;
    from_target = are-targets pieces cap weighed.sized some-level.1.states some-level.0.arcs some-level.1.levels;
    image = image;
  }

  module _ (labels : List (List ℕ)) (found : List GraphArc) (whole : IsWhole pieces cap labels found) (distinct : List (List ℕ)) (sorted : List GraphArc) (up : AllPairs Before distinct) (same : (l : List ℕ) → Contains distinct l ↔ Contains labels l) (arcs_up : AllPairs ArcBefore sorted) (places : List ℕ) (are : ArePlaces labels distinct places) (moved : (y : GraphArc) → Contains sorted y ↔ Contains (map (moved_arc places) found) y) where
    image : IsImage the_level (rooms pieces cap some-level.1.states) (record { pieces = pieces; labels = distinct; arcs = sorted })
    image = found-image pieces cap weighed.sized some-level.1.states some-level.0.arcs some-level.1.levels labels found whole distinct sorted up same arcs_up (moved-iff pieces cap labels found whole.sound distinct places up are sorted moved)

    pub main-found : IsMainOf pieces cap (record { pieces = pieces; labels = distinct; arcs = sorted })
    main-found = record { level = the_level; is_level = is-level; is_main = is-main (record { pieces = pieces; labels = distinct; arcs = sorted }) image }

    pub main-graph : MainGraphsAreGraphs → IsGraph N (record { pieces = pieces; labels = distinct; arcs = sorted })
    main-graph law = law N cap the_level (record { pieces = pieces; labels = distinct; arcs = sorted }) within.graph room-for (is-main (record { pieces = pieces; labels = distinct; arcs = sorted }) image)

  pub main-over : ImagesExist → (room : ℕ) → IsTooMuch pieces cap room → (main : GraphValue N) × IsMainOf pieces cap main × (room < length main.arcs)
  main-over law room much =
      let targets = are-targets pieces cap weighed.sized some-level.1.states some-level.0.arcs some-level.1.levels in
      let made = law N the_level (rooms pieces cap some-level.1.states) within.graph (target-labelling cap the_level within.graph (rooms pieces cap some-level.1.states) targets) in
      let fewer = found-fewer pieces cap weighed.sized some-level.1.states some-level.0.arcs some-level.1.levels much.labels much.arcs much.sound made.0 made.1 in
      (made.0, record { level = the_level; is_level = is-level; is_main = is-main made.0 made.1 }, omega (arith, much.over))
