-- How many arcs there are.
use Rattle.std.proofs.Common.{◌≡◌, ℕ, zero, suc, ◌+◌, ◌-◌, ◌<◌, ◌≤◌, List, [], ◌∷◌, ◌++◌, length, get_or, take, replicate, refl, sym, ap, ◌∙◌, subst, ⊎_elim, Option, Some, None, arith}
use Rattle.std.specs.Prelude.{Contains}
use Rattle.std.specs.List.{filter_map, cons_option}
use Rattle.std.proofs.lemmas.Bool.{cases_lt}
use Rattle.std.proofs.lemmas.List.{take_more, length-append}
use Rattle.std.proofs.lemmas.List.Elements.{filter_map-append, All-contains}
use Rattle.std.proofs.Math.Seq.{take-length}
use Rattle.label_graph.specs.declared.parts.GraphArc.{GraphArc}
use Rattle.label_graph.specs.declared.parts.Piece.{Piece}
use Rattle.label_graph.specs.declared.parts.Mark.{Mark}
use Rattle.label_graph.specs.declared.parts.Mark.TheVariants.{Piece as Carries}
use Rattle.level_graph.specs.declared.states.State.{State}
use Rattle.level_graph.specs.Levels.{Step, IsLevelCount, target}
use Rattle.level_graph.specs.inner.Layers.{taken, skipped, entered, IsLayer, AreStates, AreWeights, AppendsStep, take_mark, skip_mark}
use Rattle.level_graph.proofs.Members.{contains_here, contains_there}
use Rattle.level_graph.proofs.LayerSteps.{entries}
use Rattle.level_graph.proofs.Reached.{reached-low}
use Rattle.level_graph.proofs.Arcs.{ArcsSoFar, arcs-start, arcs-more, arcs-all, node-at, contains-node}
use Rattle.level_graph.proofs.SoFar.{SoFar, so_far-start, so_far-more, so_far-end}
use Rattle.level_graph.proofs.Pushes.{skip-step, step-skip, skipped-on, skipped-end, skipped-past, appends-one, appends-none, step-contained, take-is_step, step-is_take}

-- the piece at an index, if there is one
abbrev pub piece_at : {N : ℕ} → List (Piece N) → ℕ → Option (Piece N)
piece_at [] i = None
piece_at (p ∷ ps) zero = Some p
piece_at (p ∷ ps) (suc i) = piece_at ps i

pub piece_at-there : {N : ℕ} (ps : List (Piece N)) (i : ℕ) (piece : Piece N) → i < length ps → piece ≡ get_or ps i piece → piece_at ps i ≡ Some piece
piece_at-there [] i piece lt e = absurd (omega arith)
piece_at-there (p ∷ ps) zero piece lt e = ap Some (sym e)
piece_at-there (p ∷ ps) (suc i) piece lt e = piece_at-there ps i piece (omega arith) e

pub piece_at-past : {N : ℕ} (ps : List (Piece N)) (i : ℕ) → length ps ≤ i → piece_at ps i ≡ None
piece_at-past [] i le = refl
piece_at-past (p ∷ ps) zero le = absurd (omega arith)
piece_at-past (p ∷ ps) (suc i) le = piece_at-past ps i (omega arith)

pub piece_there : {N : ℕ} (ps : List (Piece N)) (i : ℕ) → i < length ps → (piece : Piece N) × (piece ≡ get_or ps i piece)
piece_there [] i lt = absurd (omega arith)
piece_there (p ∷ ps) zero lt = (p, refl)
piece_there (p ∷ ps) (suc i) lt = piece_there ps i (omega arith)

module _ {N : ℕ} (pieces : List (Piece N)) (room : List ℕ) where
  abbrev pub taken_with : Option (Piece N) → State N → Option (State N)
  taken_with None s = None
  taken_with (Some piece) s = taken piece room s

  abbrev pub taken_here : State N → Option (State N)
  taken_here s = taken_with (piece_at pieces (s.piece - 1)) s

  -- how many takes and skips lead on from these states
  abbrev pub takes : List (State N) → ℕ
  takes ss = length (filter_map taken_here ss)

  abbrev pub skips : List (State N) → ℕ
  skips ss = length (filter_map (skipped pieces room) ss)

  pub beyond : (ps : List (Piece N)) → length ps < (target ps room).piece
  beyond [] = omega arith
  beyond (p ∷ ps) = omega arith

  takes-append : (ss ts : List (State N)) → takes (ss ++ ts) ≡ takes ss + takes ts
  takes-append ss ts = ap length (filter_map-append taken_here ss ts) ∙ length-append (filter_map taken_here ss) (filter_map taken_here ts)

  skips-append : (ss ts : List (State N)) → skips (ss ++ ts) ≡ skips ss + skips ts
  skips-append ss ts = ap length (filter_map-append (skipped pieces room) ss ts) ∙ length-append (filter_map (skipped pieces room) ss) (filter_map (skipped pieces room) ts)

  taken_here-at : (s : State N) (piece : Piece N) → s.piece - 1 < length pieces → piece ≡ get_or pieces (s.piece - 1) piece → taken_here s ≡ taken piece room s
  taken_here-at s piece lt is = ap (λ (o : Option (Piece N)). taken_with o s) (piece_at-there pieces (s.piece - 1) piece lt is)

  taken_here-past : (s : State N) → length pieces ≤ s.piece - 1 → taken_here s ≡ None
  taken_here-past s le = ap (λ (o : Option (Piece N)). taken_with o s) (piece_at-past pieces (s.piece - 1) le)

  no_takes : takes (target pieces room ∷ []) ≡ 0
  no_takes =
      let far : length pieces ≤ (target pieces room).piece - 1 = omega (arith, beyond pieces) in
      ap (λ (o : Option (State N)). length (cons_option o [])) (taken_here-past (target pieces room) far)

  no_skips : skips (target pieces room ∷ []) ≡ 0
  no_skips = ap (λ (o : Option (State N)). length (cons_option o [])) (skipped-past pieces room (target pieces room) (beyond pieces))

  skips-all : (ss : List (State N)) → ((s : State N) → Contains ss s → s.piece ≤ length pieces) → skips ss ≡ length ss
  skips-all [] low = refl
  skips-all (s ∷ ss) low =
      let rest : skips ss ≡ length ss = skips-all ss (λ t m. low t (contains_there s ss t m)) in
      let first = low s (contains_here s ss) in
      ⊎_elim
      (λ lt. ap (λ (o : Option (State N)). length (cons_option o (filter_map (skipped pieces room) ss))) (skipped-on pieces room s lt) ∙ ap suc rest)
      (λ ge. ap (λ (o : Option (State N)). length (cons_option o (filter_map (skipped pieces room) ss))) (skipped-end pieces room s (omega arith)) ∙ ap suc rest)
      (cases_lt s.piece (length pieces))

  filter_map-same : (f h : State N → Option (State N)) (ss : List (State N)) → ((s : State N) → Contains ss s → f s ≡ h s) → filter_map f ss ≡ filter_map h ss
  filter_map-same f h [] same = refl
  filter_map-same f h (s ∷ ss) same =
      let first = same s (contains_here s ss) in
      let rest = filter_map-same f h ss (λ t m. same t (contains_there s ss t m)) in
      λ i. cons_option (first i) (rest i)

  -- the takes at one piece
  pub takes-layer : (k : ℕ) (piece : Piece N) (entering : List (List ℕ)) (layer : List (State N)) → k < length pieces → piece ≡ get_or pieces k piece → IsLayer (k + 1) piece room entering layer → length layer ≡ length entering + takes layer
  takes-layer k piece entering layer lt at is =
      let here : (s : State N) → Contains layer s → s.piece ≡ k + 1 = λ s m. All-contains (λ (z : State N). z.piece ≡ k + 1) layer s is.here m in
      let same : filter_map taken_here layer ≡ filter_map (taken piece room) layer = filter_map-same taken_here (taken piece room) layer (λ s m.
      let there = here s m in
      let index : k ≡ s.piece - 1 = omega arith in
      taken_here-at s piece (omega arith) (subst (λ (i : ℕ). piece ≡ get_or pieces i piece) index at)) in
      let whole : length layer ≡ length (entered {N = N} (k + 1) entering) + length (filter_map (taken piece room) layer) = ap length is.whole ∙ length-append (entered (k + 1) entering) (filter_map (taken piece room) layer) in
      let count : length (filter_map taken_here layer) ≡ length (filter_map (taken piece room) layer) = ap length same in
      omega (arith, entries N (k + 1) entering)

  module _ (states : List (State N)) (are : AreStates pieces room states) where
    one_more : (n : ℕ) (lt : n < length states) (s : State N) → s ≡ get_or states n s → (mark : State N → Mark) (o : Option (State N)) → ((t : State N) → o ≡ Some t → Step pieces room s (mark s) t) → ((t : State N) → Step pieces room s (mark s) t → o ≡ Some t) → (old : List GraphArc) → (new : List GraphArc) × AppendsStep pieces room states n mark old new × (length new ≡ length old + length (cons_option o []))
    one_more n lt s at mark None leads all old =
        (old, appends-none pieces room states are n lt s at mark old (λ t step. let bad : None ≡ Some t = all t step in cc), omega arith)
    one_more n lt s at mark (Some t) leads all old =
        let step = leads t refl in
        let node = contains-node states t (step-contained pieces room states are n lt s at t (mark s) step) in
        let arc : GraphArc = record { tail = n + 1; head = node.0; mark = mark s } in
        (old ++ arc ∷ [], appends-one pieces room states are n lt s at mark t node.0 old step node.1, length-append old (arc ∷ []))

    followed : (f : State N → Option (State N)) (n : ℕ) (s : State N) → n < length states → s ≡ get_or states n s → length (filter_map f (take (n + 1) states)) ≡ length (filter_map f (take n states)) + length (cons_option (f s) [])
    followed f n s lt at =
        ap (λ (ss : List (State N)). length (filter_map f ss)) (take_more states n s lt)
        ∙ ap length (filter_map-append f (take n states) (get_or states n s ∷ []))
        ∙ length-append (filter_map f (take n states)) (filter_map f (get_or states n s ∷ []))
        ∙ ap (λ (z : State N). length (filter_map f (take n states)) + length (cons_option (f z) [])) (sym at)

    -- there is a list of the arcs from the first n states, and its length
    pub arcs_exist : (n : ℕ) → n ≤ length states → (arcs : List GraphArc) × ArcsSoFar pieces room states n arcs × (length arcs ≡ takes (take n states) + skips (take n states))
    arcs_exist zero le = ([], arcs-start pieces room states, refl)
    arcs_exist (suc n) le =
        let lt : n < length states = omega arith in
        let old = arcs_exist n (omega arith) in
        let node = node-at states n lt in
        let s = node.0 in
        let index : n + 1 - 1 ≡ n = omega arith in
        let at : s ≡ get_or states n s = sym (subst (λ (i : ℕ). get_or states i s ≡ s) index node.1.2) in
        let low : 1 ≤ s.piece = reached-low pieces room s ((are.reached s).0 (n, lt, sym at)) in
        let take_step : (t : State N) → taken_here s ≡ Some t → Step pieces room s (Carries s.piece) t = λ t gives.
        ⊎_elim
        (λ inside.
        let piece = piece_there pieces (s.piece - 1) inside in
        take-is_step pieces room states are n lt s at piece.0 (omega arith) piece.1 t (sym (taken_here-at s piece.0 inside piece.1) ∙ gives))
        (λ outside. absurd (let bad : None ≡ Some t = sym (taken_here-past s outside) ∙ gives in cc))
        (cases_lt (s.piece - 1) (length pieces)) in
        let step_take : (t : State N) → Step pieces room s (Carries s.piece) t → taken_here s ≡ Some t = λ t step.
        let high = step.1 in
        let inside : s.piece - 1 < length pieces = omega arith in
        let piece = piece_there pieces (s.piece - 1) inside in
        taken_here-at s piece.0 inside piece.1 ∙ step-is_take pieces room states are n lt s at piece.0 high piece.1 t step in
        let mid = one_more n lt s at take_mark (taken_here s) take_step step_take old.0 in
        let new = one_more n lt s at skip_mark (skipped pieces room s) (skip-step pieces room s) (step-skip pieces room s) mid.0 in
        let one : n + 1 ≡ suc n = omega arith in
        let so_far = arcs-more pieces room states are n s node.1 old.0 mid.0 new.0 old.1 mid.1 new.1 in
        let first = followed taken_here n s lt at in
        let second = followed (skipped pieces room) n s lt at in
        let count : length new.0 ≡ takes (take (n + 1) states) + skips (take (n + 1) states) = omega (arith, old.2, mid.2, new.2) in
        (new.0, subst (λ (m : ℕ). ArcsSoFar pieces room states m new.0) one so_far, subst (λ (m : ℕ). length new.0 ≡ takes (take m states) + skips (take m states)) one count)

  -- some states so far, counted
  pub record Counted (k nodes count : ℕ) (entering : List (List ℕ)) : Type 0 where
    pub list : List (State N)
    pub so_far : SoFar pieces room k list entering
    pub nodes_are : nodes ≡ length list
    pub takes_are : count ≡ takes list

  pub counted-start : (zeros : List ℕ) → zeros ≡ replicate N 0 → Counted 0 0 0 (zeros ∷ [])
  counted-start zeros e = record { list = []; so_far = so_far-start pieces room zeros e; nodes_are = refl; takes_are = refl }

  pub counted-more : (k nodes count : ℕ) (piece : Piece N) (entering weights : List (List ℕ)) (layer : List (State N)) → k < length pieces → piece ≡ get_or pieces k piece → Counted k nodes count entering → IsLayer (k + 1) piece room entering layer → AreWeights layer weights → Counted (k + 1) (nodes + length layer) (count + (length layer - length entering)) weights
  counted-more k nodes count piece entering weights layer lt at old is kept =
      record {
        list = old.list ++ layer;
        so_far = so_far-more pieces room k piece old.list layer entering weights lt (sym at) old.so_far is kept;
        nodes_are = omega (arith, old.nodes_are, length-append old.list layer);
        takes_are = omega (arith, old.takes_are, takes-append old.list layer, takes-layer k piece entering layer lt at is);
      }

  pub counted-end : (nodes count : ℕ) (entering : List (List ℕ)) → Counted (length pieces) nodes count entering → IsLevelCount pieces room (nodes + 1) (nodes + count)
  counted-end nodes count entering old =
      let end = target pieces room in
      let are = so_far-end pieces room old.list entering old.so_far in
      let states : List (State N) = old.list ++ end ∷ [] in
      let made = arcs_exist states are (length states) (omega arith) in
      let whole : take (length states) states ≡ states = take-length states in
      let arcs_count : length made.0 ≡ takes states + skips states = subst (λ (ss : List (State N)). length made.0 ≡ takes ss + skips ss) whole made.2 in
      let all : skips old.list ≡ length old.list = skips-all old.list (λ s m. ((old.so_far.exact s).0 m).1) in
      record {
        state_list = states;
        arc_list = made.0;
        levels = arcs-all pieces room states (length states) made.0 are (omega arith) made.1;
        nodes_are = omega (arith, old.nodes_are, length-append old.list (end ∷ []));
        arcs_are = omega (arith, old.nodes_are, old.takes_are, arcs_count, all, no_takes, no_skips, takes-append old.list (end ∷ []), skips-append old.list (end ∷ []));
      }
