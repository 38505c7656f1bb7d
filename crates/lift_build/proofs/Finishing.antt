-- A state is finished: its label and the arcs of its steps are added, and the search stays sound and done.
use Rattle.std.proofs.Common.{◌≡◌, ◌≢◌, ℕ, ◌-◌, ◌<◌, ◌≤◌, ◌⊎◌, Bool, true, false, nat_eq, if◌then◌else◌, List, [], length, get_or, Option, Some, None, refl, sym, ap, ◌∙◌, subst, inl, inr, ⊎_elim, arith}
use Rattle.std.specs.Prelude.{Contains}
use Rattle.std.proofs.lemmas.Bool.{eqb-true, eq-eqb, false≢true}
use Rattle.weight_vec.specs.Weight.{lower, minus}
use Rattle.weight_vec.proofs.Places.{get_or-plus}
use Rattle.label_graph.specs.declared.parts.GraphArc.{GraphArc}
use Rattle.label_graph.specs.declared.parts.Piece.{Piece}
use Rattle.label_graph.specs.declared.parts.Mark.{Mark}
use Rattle.label_graph.specs.declared.parts.Mark.TheVariants.{Loss, Piece as Carries}
use Rattle.label_graph.specs.Graph.{piece_weight}
use Rattle.level_graph.specs.declared.states.State.{State}
use Rattle.level_graph.specs.Levels.{Step, IsReached}
use Rattle.level_graph.proofs.Arcs.{step-one, step-mark}
use Rattle.lift_build.specs.declared.states.LiftedState.{LiftedState}
use Rattle.lift_build.specs.declared.found.Ahead.TheVariants.{Known}
use Rattle.lift_build.specs.declared.found.Search.{Search}
use Rattle.lift_build.specs.inner.Numbers.{IsNumber, IsAdded}
use Rattle.lift_build.specs.inner.Rooms.{room_left, IsLift}
use Rattle.lift_build.specs.inner.Searches.{IsImageOf, HasImage, Covers, IsDone, IsFromStep, IsSound, IsSearch, IsTooMuch, IsNoted, GrowsInto, LiesAhead, KnownTake, IsBefore, AreBehind, IsGrownBy, skip_arc, take_arc, state_of}
use Rattle.lift_build.proofs.Lifts.{under-room, under-back, lift-room, room-both, room-only, step-rises}
use Rattle.lift_build.proofs.FoundImages.{number-label, number-contains, contains-number, number-one}
use Rattle.lift_build.proofs.Covering.{covers-more, covers-grows, done-grows, image-grows}

-- an arc that was added, if there was one
module _ (old new : List GraphArc) where
  pub grown-stay : (o : Option GraphArc) → IsGrownBy o old new → (x : GraphArc) → Contains old x → Contains new x
  grown-stay None same x m = subst (λ (es : List GraphArc). Contains es x) (sym same) m
  grown-stay (Some y) added x m = let at = contains-number old x m in number-contains new at.0 x (added.1.grows at.0 x at.1)

  pub grown-here : (o : Option GraphArc) (x : GraphArc) → o ≡ Some x → IsGrownBy o old new → Contains new x
  grown-here None x e same = absurd (let bad : None ≡ Some x = e in cc)
  grown-here (Some y) x e added = let same : y ≡ x = cc in subst (λ (z : GraphArc). Contains new z) same (number-contains new added.0 y added.1.here)

module _ {N : ℕ} (pieces : List (Piece N)) (cap : List ℕ) (sized : length cap ≡ N) where
  -- one more label of a reached state
  pub sound-label : (labels more : List (List ℕ)) (arcs : List GraphArc) (s : State N) (n : ℕ) → IsSound pieces cap labels arcs → IsReached pieces cap s → IsAdded labels more (room_left pieces cap s) n → IsSound pieces cap more arcs
  sound-label labels more arcs s n sound reached added = record {
    target = added.grows 1 cap sound.target;
    from_states = λ l m. ⊎_elim (λ old. sound.from_states l old) (λ same. (s, reached, same)) (added.only l m);
    from_steps = λ x m. let from = sound.from_steps x m in record { from = from.from; to = from.to; reached = from.reached; step = from.step; image = image-grows pieces cap sized labels more arcs arcs added.grows (λ y k. k) x from.from from.to x.mark from.image };
    labels_apart = added.apart;
    arcs_apart = sound.arcs_apart;
  }

  pub sound-arc : (labels : List (List ℕ)) (arcs more : List GraphArc) (o : Option GraphArc) → IsSound pieces cap labels arcs → ((x : GraphArc) → o ≡ Some x → IsFromStep pieces cap labels x) → IsGrownBy o arcs more → IsSound pieces cap labels more
  sound-arc labels arcs more None sound from same = subst (λ (es : List GraphArc). IsSound pieces cap labels es) (sym same) sound
  sound-arc labels arcs more (Some x) sound from added = record {
    target = sound.target;
    from_states = sound.from_states;
    from_steps = λ y m. ⊎_elim (λ old. sound.from_steps y old) (λ same. subst (λ (z : GraphArc). IsFromStep pieces cap labels z) same (from x refl)) (added.1.only y m);
    labels_apart = sound.labels_apart;
    arcs_apart = added.1.apart;
  }

  -- the label before a skip and a take is what is left
  module _ (found : Search N) (s : LiftedState N) (skip : ℕ) (skips : LiesAhead pieces cap found (state_of s) Loss (Known skip)) where
    pub are-behind : (take : Option ℕ) → KnownTake pieces cap found (state_of s) take → AreBehind (piece_weight pieces s.piece) found.labels skip take
    are-behind None takes = (skips.2.label.low, skips.2.label.high)
    are-behind (Some take) takes = (
      skips.2.label.low,
      skips.2.label.high,
      takes.2.label.low,
      takes.2.label.high,
      (λ d.
          let here = ap (λ (l : List ℕ). get_or l d 0) (number-label found.labels take (room_left pieces cap takes.0) takes.2.label) in
          omega (arith, step-rises pieces cap sized (state_of s) takes.0 (Carries s.piece) takes.1 d, get_or-plus (room_left pieces cap (state_of s)) (piece_weight pieces s.piece) d)),
    )

    pub label-is : (take : Option ℕ) (label : List ℕ) → KnownTake pieces cap found (state_of s) take → IsBefore (piece_weight pieces s.piece) found.labels skip take label → label ≡ room_left pieces cap (state_of s)
    label-is None label never is = is ∙ number-label found.labels skip (room_left pieces cap skips.0) skips.2.label ∙ sym (room-only pieces cap sized (state_of s) skips.0 never skips.1)
    label-is (Some take) label takes is =
        let one = number-label found.labels skip (room_left pieces cap skips.0) skips.2.label in
        let two = number-label found.labels take (room_left pieces cap takes.0) takes.2.label in
        is ∙ (λ i. lower (one i) (minus (two i) (piece_weight pieces s.piece))) ∙ sym (room-both pieces cap sized (state_of s) takes.0 skips.0 s.piece takes.1 skips.1)

    -- the label that was added, from that of the piece of the state
    pub added-label : (take : Option ℕ) (piece : Piece N) (shown labels : List (List ℕ)) (label : List ℕ) (number : ℕ) → KnownTake pieces cap found (state_of s) take → piece_weight pieces s.piece ≡ piece.weight → shown ≡ found.labels → IsBefore piece.weight shown skip take label → IsAdded found.labels labels label number → IsAdded found.labels labels (room_left pieces cap (state_of s)) number
    added-label take piece shown labels label number takes weight same before added =
        let here : IsBefore (piece_weight pieces s.piece) found.labels skip take label = subst (λ (ls : List (List ℕ)). IsBefore (piece_weight pieces s.piece) ls skip take label) same (subst (λ (w : List ℕ). IsBefore w shown skip take label) (sym weight) before) in
        subst (λ (l : List ℕ). IsAdded found.labels labels l number) (label-is take label takes here) added

    pub behind-shown : (take : Option ℕ) (piece : Piece N) (shown : List (List ℕ)) → KnownTake pieces cap found (state_of s) take → piece_weight pieces s.piece ≡ piece.weight → shown ≡ found.labels → AreBehind piece.weight shown skip take
    behind-shown take piece shown takes weight same =
        subst (λ (ls : List (List ℕ)). AreBehind piece.weight ls skip take) (sym same) (subst (λ (w : List ℕ). AreBehind w found.labels skip take) weight (are-behind take takes))

  module _ (room : ℕ) (found : Search N) (s : LiftedState N) (is : IsSearch pieces cap room found) (lift : IsLift pieces cap (state_of s)) (labels : List (List ℕ)) (number : ℕ) (added : IsAdded found.labels labels (room_left pieces cap (state_of s)) number) where
    pub finish-label : IsSound pieces cap labels found.arcs
    finish-label =
        let same = lift-room pieces cap sized (state_of s) lift in
        sound-label found.labels labels found.arcs lift.state number is.sound lift.reached (subst (λ (l : List ℕ). IsAdded found.labels labels l number) (sym same) added)

    -- the image of a step of the state, and that it comes from a reached state
    module _ (m : Mark) (head : ℕ) (ahead : LiesAhead pieces cap found (state_of s) m (Known head)) (kept : m ≡ Loss → number ≢ head) where
      head-at : IsNumber labels head (room_left pieces cap ahead.0)
      head-at = added.grows head (room_left pieces cap ahead.0) ahead.2.label

      pub step-image : IsImageOf pieces cap labels (record { tail = number; head = head; mark = m }) (state_of s) m ahead.0
      step-image = record {
        tail = added.here;
        head = head-at;
        mark = refl;
        kept = λ loss same. kept loss (number-one labels added.apart number head (room_left pieces cap (state_of s)) added.here (subst (λ (l : List ℕ). IsNumber labels head l) (sym same) head-at));
      }

      pub step-from : IsFromStep pieces cap labels (record { tail = number; head = head; mark = m })
      step-from =
          let back = under-back pieces cap sized lift.state (state_of s) ahead.0 m lift.under ahead.1 in
          let here = lift-room pieces cap sized (state_of s) lift in
          let there = under-room pieces cap sized back.0 ahead.0 back.2 in
          record {
            from = lift.state;
            to = back.0;
            reached = lift.reached;
            step = back.1;
            image = record {
              tail = subst (λ (l : List ℕ). IsNumber labels number l) (sym here) added.here;
              head = subst (λ (l : List ℕ). IsNumber labels head l) (sym there) head-at;
              mark = refl;
              kept = λ loss same. step-image.kept loss (sym here ∙ same ∙ there);
            };
          }

    module _ (skip : ℕ) (skips : LiesAhead pieces cap found (state_of s) Loss (Known skip)) where
      skip-cases : (b : Bool) → nat_eq number skip ≡ b → ((number ≡ skip) × (skip_arc number skip ≡ None)) ⊎ ((number ≢ skip) × (skip_arc number skip ≡ Some (record { tail = number; head = skip; mark = Loss })))
      skip-cases true e = inl (eqb-true number skip e, ap (λ (b : Bool). if b then None else Some (record { tail = number; head = skip; mark = Loss })) e)
      skip-cases false e = inr ((λ same. false≢true (sym e ∙ eq-eqb number skip same)), ap (λ (b : Bool). if b then None else Some (record { tail = number; head = skip; mark = Loss })) e)

      pub skip-from : (x : GraphArc) → skip_arc number skip ≡ Some x → IsFromStep pieces cap labels x
      skip-from x e =
          ⊎_elim
          (λ w. absurd (let bad : None ≡ Some x = sym w.1 ∙ e in cc))
          (λ w.
          let some : Some (record { tail = number; head = skip; mark = Loss }) ≡ Some x = sym w.1 ∙ e in
          let same : record { tail = number; head = skip; mark = Loss } ≡ x = cc in
          subst (λ (z : GraphArc). IsFromStep pieces cap labels z) same (step-from Loss skip skips (λ loss. w.0)))
          (skip-cases (nat_eq number skip) refl)

      skip-image : (mid new : List GraphArc) → IsGrownBy (skip_arc number skip) found.arcs mid → ((x : GraphArc) → Contains mid x → Contains new x) → HasImage pieces cap labels new (state_of s) Loss skips.0
      skip-image mid new one stay =
          ⊎_elim
          (λ w.
          let there = added.grows skip (room_left pieces cap skips.0) skips.2.label in
          inl (refl, sym (added.here.here []) ∙ ap (λ (n : ℕ). get_or labels (n - 1) []) w.0 ∙ there.here []))
          (λ w.
          let x : GraphArc = record { tail = number; head = skip; mark = Loss } in
          inr (x, stay x (grown-here found.arcs mid (skip_arc number skip) x w.1 one), step-image Loss skip skips (λ loss. w.0)))
          (skip-cases (nat_eq number skip) refl)

      pub take-from : (take : Option ℕ) → KnownTake pieces cap found (state_of s) take → (x : GraphArc) → take_arc number take s.piece ≡ Some x → IsFromStep pieces cap labels x
      take-from None takes x e = absurd (let bad : None ≡ Some x = e in cc)
      take-from (Some take) takes x e =
          let same : record { tail = number; head = take; mark = Carries s.piece } ≡ x = cc in
          subst (λ (z : GraphArc). IsFromStep pieces cap labels z) same (step-from (Carries s.piece) take takes (λ loss. absurd (let bad : Carries s.piece ≡ Loss = loss in cc)))

      take-image : (take : Option ℕ) → KnownTake pieces cap found (state_of s) take → (mid new : List GraphArc) → IsGrownBy (take_arc number take s.piece) mid new → (t : State N) → Step pieces cap (state_of s) (Carries s.piece) t → HasImage pieces cap labels new (state_of s) (Carries s.piece) t × Covers pieces cap found.labels found.arcs t
      take-image None never mid new two t step = absurd (never t step)
      take-image (Some take) takes mid new two t step =
          let same = step-one pieces cap (state_of s) takes.0 t (Carries s.piece) takes.1 step in
          let x : GraphArc = record { tail = number; head = take; mark = Carries s.piece } in
          subst (λ (z : State N). HasImage pieces cap labels new (state_of s) (Carries s.piece) z × Covers pieces cap found.labels found.arcs z) same
          (inr (x, grown-here mid new (Some x) x refl two, step-image (Carries s.piece) take takes (λ loss. absurd (let bad : Carries s.piece ≡ Loss = loss in cc))), takes.2.covers)

      pub skip-over : (o : Option GraphArc) → o ≡ skip_arc number skip → (over : List GraphArc) × IsGrownBy o found.arcs over × (room < length over) → IsTooMuch pieces cap room
      skip-over o same over = record {
        labels = labels;
        arcs = over.0;
        sound = sound-arc labels found.arcs over.0 (skip_arc number skip) finish-label skip-from (subst (λ (p : Option GraphArc). IsGrownBy p found.arcs over.0) same over.1);
        over = over.2;
      }

      pub take-over : (take : Option ℕ) → KnownTake pieces cap found (state_of s) take → (mid : List GraphArc) → IsGrownBy (skip_arc number skip) found.arcs mid → (o : Option GraphArc) → o ≡ take_arc number take s.piece → (over : List GraphArc) × IsGrownBy o mid over × (room < length over) → IsTooMuch pieces cap room
      take-over take takes mid one o same over = record {
        labels = labels;
        arcs = over.0;
        sound = sound-arc labels mid over.0 (take_arc number take s.piece) (sound-arc labels found.arcs mid (skip_arc number skip) finish-label skip-from one) (take-from take takes) (subst (λ (p : Option GraphArc). IsGrownBy p mid over.0) same over.1);
        over = over.2;
      }

      -- the state is done
      pub finish-done : (take : Option ℕ) → KnownTake pieces cap found (state_of s) take → (mid new : List GraphArc) → IsGrownBy (skip_arc number skip) found.arcs mid → IsGrownBy (take_arc number take s.piece) mid new → IsDone pieces cap labels new (state_of s) number
      finish-done take takes mid new one two =
          let second = grown-stay mid new (take_arc number take s.piece) two in
          let stay : (x : GraphArc) → Contains found.arcs x → Contains new x = λ x m. second x (grown-stay found.arcs mid (skip_arc number skip) one x m) in
          let each : (m : Mark) (t : State N) → Step pieces cap (state_of s) m t → HasImage pieces cap labels new (state_of s) m t × Covers pieces cap found.labels found.arcs t = λ m t step.
          ⊎_elim
          (λ carries.
          let both = take-image take takes mid new two t (subst (λ (k : Mark). Step pieces cap (state_of s) k t) carries step) in
          (subst (λ (k : Mark). HasImage pieces cap labels new (state_of s) k t) (sym carries) both.0, both.1))
          (λ loss.
          let same = step-one pieces cap (state_of s) skips.0 t Loss skips.1 (subst (λ (k : Mark). Step pieces cap (state_of s) k t) loss step) in
          (subst (λ (k : Mark). HasImage pieces cap labels new (state_of s) k t) (sym loss) (subst (λ (z : State N). HasImage pieces cap labels new (state_of s) Loss z) same (skip-image mid new one second)), subst (λ (z : State N). Covers pieces cap found.labels found.arcs z) same skips.2.covers))
          (step-mark pieces cap (state_of s) t m step) in
          record {
            label = added.here;
            covers = covers-more pieces cap sized labels new (state_of s)
                (record { number = number; label = added.here; steps = λ m t step. (each m t step).0 })
                (λ m t step. covers-grows pieces cap sized found.labels labels found.arcs new added.grows stay t (each m t step).1);
          }

      -- and so is the search, once the state is noted
      pub finish-search : (take : Option ℕ) → KnownTake pieces cap found (state_of s) take → (mid : List GraphArc) → (old new : Search N) → old.labels ≡ labels → old.states ≡ found.states → old.numbers.items ≡ found.numbers.items → IsGrownBy (skip_arc number skip) found.arcs mid → IsGrownBy (take_arc number take s.piece) mid old.arcs → length old.arcs ≤ room → IsNoted old new s number → IsSearch pieces cap room new × GrowsInto found new
      finish-search take takes mid old new labels_are states_are numbers_are one two roomy noted =
          let arcs = old.arcs in
          let second = grown-stay mid arcs (take_arc number take s.piece) two in
          let stay : (x : GraphArc) → Contains found.arcs x → Contains arcs x = λ x m. second x (grown-stay found.arcs mid (skip_arc number skip) one x m) in
          let sound : IsSound pieces cap labels arcs = sound-arc labels mid arcs (take_arc number take s.piece) (sound-arc labels found.arcs mid (skip_arc number skip) finish-label skip-from one) (take-from take takes) two in
          let here : new.labels ≡ labels = noted.labels ∙ labels_are in
          let there : new.arcs ≡ arcs = noted.arcs in
          let done : (n : ℕ) (t : LiftedState N) → IsNumber new.states n t → IsDone pieces cap labels arcs (state_of t) (get_or new.numbers.items (n - 1) 0) = λ n t at.
          ⊎_elim
          (λ w.
          let early = subst (λ (ss : List (LiftedState N)). IsNumber ss n t) states_are w.0 in
          let value : get_or found.numbers.items (n - 1) 0 ≡ get_or new.numbers.items (n - 1) 0 = sym (w.1 ∙ ap (λ (ns : List ℕ). get_or ns (n - 1) 0) numbers_are) in
          subst (λ (v : ℕ). IsDone pieces cap labels arcs (state_of t) v) value (done-grows pieces cap sized found.labels labels found.arcs arcs added.grows stay (state_of t) (get_or found.numbers.items (n - 1) 0) (is.done n t early)))
          (λ w. subst (λ (v : ℕ). IsDone pieces cap labels arcs (state_of t) v) (sym w.1) (subst (λ (u : LiftedState N). IsDone pieces cap labels arcs (state_of u) number) (sym w.0) (finish-done take takes mid arcs one two)))
          (noted.each n t at) in (
            record {
              sound = subst (λ (es : List GraphArc). IsSound pieces cap new.labels es) (sym there) (subst (λ (ls : List (List ℕ)). IsSound pieces cap ls arcs) (sym here) sound);
              roomy = omega (arith, roomy, ap length there);
              count = noted.count;
              done = λ n t at. subst (λ (es : List GraphArc). IsDone pieces cap new.labels es (state_of t) (get_or new.numbers.items (n - 1) 0)) (sym there) (subst (λ (ls : List (List ℕ)). IsDone pieces cap ls arcs (state_of t) (get_or new.numbers.items (n - 1) 0)) (sym here) (done n t at));
            },
            record {
              labels = λ n l at. subst (λ (ls : List (List ℕ)). IsNumber ls n l) (sym here) (added.grows n l at);
              arcs = λ x m. subst (λ (es : List GraphArc). Contains es x) (sym there) (stay x m);
            },
          )
