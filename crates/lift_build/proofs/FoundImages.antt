-- What a whole search has found is the main graph, once labels and arcs stand in order; and what it has found so far is no more.
use Rattle.std.proofs.Common.{◌≡◌, ◌≢◌, ℕ, ◌+◌, ◌-◌, ◌<◌, ◌≤◌, ◌↔◌, List, [], length, get_or, refl, sym, ap, ◌∙◌, subst, ⊎_elim, arith}
use Rattle.std.specs.Prelude.{Contains, AllPairs}
use Rattle.std.proofs.lemmas.Bool.{cases_order}
use Rattle.std.proofs.lemmas.List.{get_or_default}
use Rattle.weight_vec.specs.Weight.{Before}
use Rattle.label_graph.specs.declared.parts.GraphArc.{GraphArc}
use Rattle.label_graph.specs.declared.parts.Piece.{Piece}
use Rattle.label_graph.specs.declared.parts.Mark.{Mark}
use Rattle.label_graph.specs.Graph.{GraphValue, ArcBefore, label_of}
use Rattle.label_graph.specs.Images.{IsImage, BecomesArc}
use Rattle.label_graph.proofs.Fewer.{no_longer}
use Rattle.label_graph.proofs.Merging.{never_before_itself}
use Rattle.level_graph.proofs.Members.{contains_map, from_map}
use Rattle.level_graph.proofs.GraphOf.{node-reached, node-of, step-arc}
use Rattle.level_graph.proofs.Reached.{next_reached}
use Rattle.level_graph.specs.declared.states.State.{State}
use Rattle.level_graph.specs.Levels.{Step, IsLevels, IsReached}
use Rattle.lift_build.specs.inner.Numbers.{IsNumber, AreApart}
use Rattle.lift_build.specs.inner.Moves.{MovesTo, IsMoved}
use Rattle.lift_build.specs.inner.Rooms.{room_left}
use Rattle.lift_build.specs.inner.Searches.{IsImageOf, IsSound, IsWhole}
use Rattle.lift_build.proofs.Covering.{shown-reached}
use Rattle.lift_build.proofs.LevelRooms.{rooms, rooms-label, level_of}

pub number-label : (labels : List (List ℕ)) (n : ℕ) (l : List ℕ) → IsNumber labels n l → label_of labels n ≡ l
number-label labels n l is = is.here []

pub label-number : (labels : List (List ℕ)) (n : ℕ) (l : List ℕ) → 1 ≤ n → n ≤ length labels → label_of labels n ≡ l → IsNumber labels n l
label-number labels n l low high same = record { low = low; high = high; here = λ d. get_or_default labels (n - 1) d [] (omega arith) ∙ same }

module _ {X : Type 0} where
  pub number-contains : (xs : List X) (n : ℕ) (x : X) → IsNumber xs n x → Contains xs x
  number-contains xs n x is = (n - 1, omega (arith, is.low, is.high), is.here x)

  pub contains-number : (xs : List X) (x : X) → Contains xs x → (n : ℕ) × IsNumber xs n x
  contains-number xs x m =
      let lt : m.0 < length xs = m.1 in
      let same : m.0 + 1 - 1 ≡ m.0 = omega arith in
      (m.0 + 1, record { low = omega arith; high = omega arith; here = λ d. ap (λ (k : ℕ). get_or xs k d) same ∙ get_or_default xs m.0 d x lt ∙ m.2 })

  pub number-same : (xs : List X) (n : ℕ) (x y : X) → IsNumber xs n x → IsNumber xs n y → x ≡ y
  number-same xs n x y one two = sym (one.here x) ∙ two.here x

  -- different values have different numbers
  pub number-one : (xs : List X) → AreApart xs → (v w : ℕ) (x : X) → IsNumber xs v x → IsNumber xs w x → v ≡ w
  number-one xs apart v w x one two =
      ⊎_elim
      (λ e. e)
      (λ differ. ⊎_elim
      (λ lt. absurd (apart (v - 1) (w - 1) x (omega (arith, one.low)) (omega (arith, two.low, two.high)) (one.here x ∙ sym (two.here x))))
      (λ gt. absurd (apart (w - 1) (v - 1) x (omega (arith, two.low)) (omega (arith, one.low, one.high)) (two.here x ∙ sym (one.here x))))
      differ)
      (cases_order v w)

-- labels in order are different
pub ordered-apart : (labels : List (List ℕ)) → AllPairs Before labels → AreApart labels
ordered-apart labels up i j d lt high same = never_before_itself (get_or labels j d) (subst (λ (l : List ℕ). Before l (get_or labels j d)) same (up i j d lt high))

module _ {N : ℕ} (pieces : List (Piece N)) (cap : List ℕ) (sized : length cap ≡ N) (states : List (State N)) (arcs : List GraphArc) (are : IsLevels pieces cap states arcs) where
  -- the image of a step, by the numbers of other labels, is that of an arc of the level graph
  becomes : (others : List (List ℕ)) (s t : State N) (m : Mark) (x : GraphArc) → IsReached pieces cap s → Step pieces cap s m t → IsImageOf pieces cap others x s m t → (e : GraphArc) × Contains arcs e × BecomesArc (rooms pieces cap states) others e x
  becomes others s t m x reached step is =
      let v = node-of pieces cap states arcs are s reached in
      let w = node-of pieces cap states arcs are t (next_reached pieces cap s t m reached step) in (
        record { tail = v.0; head = w.0; mark = m },
        step-arc pieces cap states arcs are v.0 w.0 s t m v.1 w.1 step,
        record {
          tail = record { first = is.tail.low; last = is.tail.high; label = number-label others x.tail (room_left pieces cap s) is.tail ∙ sym (rooms-label pieces cap states v.0 s v.1) };
          head = record { first = is.head.low; last = is.head.high; label = number-label others x.head (room_left pieces cap t) is.head ∙ sym (rooms-label pieces cap states w.0 t w.1) };
          mark = is.mark;
          kept = λ loop. is.kept (sym is.mark ∙ loop.0) (number-same others x.head (room_left pieces cap s) (room_left pieces cap t) (subst (λ (n : ℕ). IsNumber others n (room_left pieces cap s)) loop.1 is.tail) is.head);
        },
      )

  moved-image : (labels others : List (List ℕ)) (s t : State N) (m : Mark) (x y : GraphArc) → IsMoved labels others x y → IsImageOf pieces cap labels x s m t → IsImageOf pieces cap others y s m t
  moved-image labels others s t m x y moved is = record {
    tail = moved.tail (room_left pieces cap s) is.tail;
    head = moved.head (room_left pieces cap t) is.head;
    mark = moved.mark ∙ is.mark;
    kept = is.kept;
  }

  module _ (labels : List (List ℕ)) (found : List GraphArc) (whole : IsWhole pieces cap labels found) (distinct : List (List ℕ)) (sorted : List GraphArc) (up : AllPairs Before distinct) (same : (l : List ℕ) → Contains distinct l ↔ Contains labels l) (arcs_up : AllPairs ArcBefore sorted) (moved : (y : GraphArc) → Contains sorted y ↔ ((x : GraphArc) × Contains found x × IsMoved labels distinct x y)) where
    room-found : (s : State N) → IsReached pieces cap s → Contains labels (room_left pieces cap s)
    room-found s reached =
        let shown = shown-reached pieces cap sized labels found s whole.covers reached in
        number-contains labels shown.number (room_left pieces cap s) shown.label

    node-exact : (l : List ℕ) → Contains distinct l ↔ Contains (rooms pieces cap states) l
    node-exact l = (
      λ m.
          let from = whole.sound.from_states l ((same l).0 m) in
          subst (λ (k : List ℕ). Contains (rooms pieces cap states) k) from.2 (contains_map (room_left pieces cap) states from.0 ((are.states_reached from.0).1 from.1)),
      λ m.
          let from = from_map (room_left pieces cap) states l m in
          (same l).1 (subst (λ (k : List ℕ). Contains labels k) from.2 (room-found from.0 ((are.states_reached from.0).0 from.1))),
    )

    to-arc : (y : GraphArc) → Contains sorted y → (e : GraphArc) × Contains arcs e × BecomesArc (rooms pieces cap states) distinct e y
    to-arc y m =
        let x = (moved y).0 m in
        let from = whole.sound.from_steps x.0 x.1 in
        becomes distinct from.from from.to x.0.mark y from.reached from.step (moved-image labels distinct from.from from.to x.0.mark x.0 y x.2 from.image)

    -- the number in order of a label that was found
    moves : (v w : ℕ) (l : List ℕ) → IsNumber labels v l → IsNumber distinct w l → MovesTo labels distinct v w
    moves v w l here there k is = subst (λ (j : List ℕ). IsNumber distinct w j) (number-same labels v l k here is) there

    from-arc : (e y : GraphArc) → Contains arcs e → BecomesArc (rooms pieces cap states) distinct e y → Contains sorted y
    from-arc e y m b =
        let is = (are.arcs_step e).0 m in
        let s = is.from in
        let t = is.to in
        let reached = node-reached pieces cap states arcs are e.tail s is.tail_at in
        let shown = shown-reached pieces cap sized labels found s whole.covers reached in
        let tail : IsNumber distinct y.tail (room_left pieces cap s) = label-number distinct y.tail (room_left pieces cap s) b.tail.first b.tail.last (b.tail.label ∙ rooms-label pieces cap states e.tail s is.tail_at) in
        let head : IsNumber distinct y.head (room_left pieces cap t) = label-number distinct y.head (room_left pieces cap t) b.head.first b.head.last (b.head.label ∙ rooms-label pieces cap states e.head t is.head_at) in
        ⊎_elim
        (λ w. absurd (b.kept (b.mark ∙ w.0, number-one distinct (ordered-apart distinct up) y.tail y.head (room_left pieces cap s) tail (subst (λ (l : List ℕ). IsNumber distinct y.head l) (sym w.1) head))))
        (λ w.
        (moved y).1 (
          w.0,
          w.1,
          record {
            tail = moves w.0.tail y.tail (room_left pieces cap s) w.2.tail tail;
            head = moves w.0.head y.head (room_left pieces cap t) w.2.head head;
            mark = b.mark ∙ sym w.2.mark;
          },
        ))
        (shown.steps e.mark t is.step)

    pub found-image : IsImage (level_of pieces states arcs) (rooms pieces cap states) (record { pieces = pieces; labels = distinct; arcs = sorted })
    found-image = record {
      pieces = refl;
      nodes = record { ordered = up; exact = node-exact };
      ordered = arcs_up;
      arcs = λ y. (to-arc y, λ e. from-arc e.0 y e.1 e.2);
    }

  -- no more arcs were found than the image has
  module _ (labels : List (List ℕ)) (found : List GraphArc) (sound : IsSound pieces cap labels found) (image : GraphValue N) (is : IsImage (level_of pieces states arcs) (rooms pieces cap states) image) where
    -- the arc of the image between the same labels
    Comes : GraphArc → GraphArc → Type 0
    Comes y x = (k : List ℕ) × (l : List ℕ) × IsNumber labels x.tail k × IsNumber labels x.head l × (label_of image.labels y.tail ≡ k) × (label_of image.labels y.head ≡ l) × (y.mark ≡ x.mark)

    one : (y x z : GraphArc) → Comes y x → Comes y z → x ≡ z
    unfolding Comes
    one y x z first second =
        let tails : x.tail ≡ z.tail = number-one labels sound.labels_apart x.tail z.tail first.0 first.2 (subst (λ (k : List ℕ). IsNumber labels z.tail k) (sym second.4 ∙ first.4) second.2) in
        let heads : x.head ≡ z.head = number-one labels sound.labels_apart x.head z.head first.1 first.3 (subst (λ (k : List ℕ). IsNumber labels z.head k) (sym second.5 ∙ first.5) second.3) in
        let marks : x.mark ≡ z.mark = sym first.6 ∙ second.6 in
        λ i. record { tail = tails i; head = heads i; mark = marks i }

    comes : (x : GraphArc) → Contains found x → (y : GraphArc) × Contains image.arcs y × Comes y x
    unfolding Comes
    comes x m =
        let from = sound.from_steps x m in
        let s = from.from in
        let t = from.to in
        let next = next_reached pieces cap s t x.mark from.reached from.step in
        let at : (r : State N) → IsReached pieces cap r → (n : ℕ) × IsNumber image.labels n (room_left pieces cap r) = λ r reached.
        contains-number image.labels (room_left pieces cap r) ((is.nodes.exact (room_left pieces cap r)).1 (contains_map (room_left pieces cap) states r ((are.states_reached r).1 reached))) in
        let v = at s from.reached in
        let w = at t next in
        let y : GraphArc = record { tail = v.0; head = w.0; mark = x.mark } in
        let image_of : IsImageOf pieces cap image.labels y s x.mark t = record { tail = v.1; head = w.1; mark = refl; kept = from.image.kept } in
        let made = becomes image.labels s t x.mark y from.reached from.step image_of in
        (y, (is.arcs y).1 (made.0, made.1, made.2), (room_left pieces cap s, room_left pieces cap t, from.image.tail, from.image.head, number-label image.labels v.0 (room_left pieces cap s) v.1, number-label image.labels w.0 (room_left pieces cap t) w.1, refl))

    pub found-fewer : length found ≤ length image.arcs
    found-fewer = no_longer (λ x y. x ≢ y) (λ x h. h refl) Comes one found image.arcs sound.arcs_apart comes
