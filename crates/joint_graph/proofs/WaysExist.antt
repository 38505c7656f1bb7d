-- Each node has a heaviest way on to each target or none, and what room two nodes have can be compared.
use Rattle.std.proofs.Common.{◌≡◌, ℕ, ◌+◌, ◌-◌, ◌<◌, ◌≤◌, Option, Some, None, List, [], ◌∷◌, length, replicate, sym, ◌∙◌, subst, inl, inr, ⊎_elim, arith}
use Rattle.std.specs.Prelude.{Contains, All, AllPairs}
use Rattle.std.proofs.lemmas.Bool.{cases_eq}
use Rattle.label_graph.specs.declared.parts.GraphArc.{GraphArc}
use Rattle.label_graph.specs.declared.parts.Piece.{Piece}
use Rattle.label_graph.specs.Graph.{ArcBefore, mark_weight}
use Rattle.label_graph.proofs.InOrder.{first-before, rest-up}
use Rattle.label_graph.proofs.Members.{contains_there}
use Rattle.joint_graph.specs.Joints.{JointValue, target_at}
use Rattle.joint_graph.specs.Ways.{IsWay, IsWayOn, HaveSameRooms}
use Rattle.joint_graph.specs.inner.Passes.{relax}
use Rattle.joint_graph.proofs.Decisions.{Told, told-all, told-option}
use Rattle.joint_graph.proofs.JointPaths.{before-tail}
use Rattle.joint_graph.proofs.WaysOn.{way-itself, way-nowhere, way-other, way-tail}
use Rattle.joint_graph.proofs.Weighing.{mark-narrow, way-one}

module _ {N : ℕ} (pieces : List (Piece N)) (sized : All (λ (q : Piece N). length q.weight ≡ N) pieces) (b : ℕ) where
  pub way_exists : (arcs : List GraphArc) → AllPairs ArcBefore arcs → ((e : GraphArc) → Contains arcs e → e.tail < e.head) → (v : ℕ) → (way : Option (List ℕ)) × IsWay pieces arcs v b way
  way_exists [] up climbs v =
      ⊎_elim
      (λ same. (Some (replicate N 0), way-itself pieces b v same))
      (λ ne. (None, way-nowhere pieces b v ne))
      (cases_eq v b)
  way_exists (e ∷ arcs) up climbs v =
      let after : (f : GraphArc) → Contains arcs f → e.tail ≤ f.tail = λ f m. before-tail e f (first-before ArcBefore e arcs f up m) in
      let on = way_exists arcs (rest-up ArcBefore e arcs up) (λ f m. climbs f (contains_there e arcs f m)) in
      ⊎_elim
      (λ same.
      let here = on e.tail in
      let behind = on e.head in
      let made = way-tail pieces b e arcs after climbs here.0 behind.0 (mark-narrow pieces sized e.mark) here.1 behind.1 in
      let way = relax (mark_weight pieces e.mark) here.0 behind.0 in
      (way, subst (λ (w : ℕ). IsWay pieces (e ∷ arcs) w b way) (sym same) made))
      (λ ne.
      let other = on v in
      (other.0, way-other pieces b e arcs after climbs v other.0 ne other.1))
      (cases_eq v e.tail)

module _ (N : ℕ) (g : JointValue N) (sized : All (λ (q : Piece N). length q.weight ≡ N) g.pieces) (up : AllPairs ArcBefore g.arcs) (climbs : (e : GraphArc) → Contains g.arcs e → e.tail < e.head) where
  way_on : (t v : ℕ) → (way : Option (List ℕ)) × IsWayOn g t v way
  way_on t v = way_exists g.pieces sized (target_at g t) g.arcs up climbs v

  -- the same room for one type
  abbrev AlikeFor : ℕ → ℕ → ℕ → Type 0
  AlikeFor t v w = (way : Option (List ℕ)) × IsWayOn g t v way × IsWayOn g t w way

  told-alike : (t v w : ℕ) → Told (AlikeFor t v w)
  told-alike t v w =
      let one = way_on t v in
      let two = way_on t w in
      ⊎_elim
      (λ same. inl (one.0, one.1, subst (λ (o : Option (List ℕ)). IsWayOn g t w o) (sym same) two.1))
      (λ never. inr (λ h. never (way-one g.pieces g.arcs v (target_at g t) one.0 h.0 one.1 h.1 ∙ way-one g.pieces g.arcs w (target_at g t) h.0 two.0 h.2 two.1)))
      (told-option one.0 two.0)

  pub told-rooms : (n v w : ℕ) → Told (HaveSameRooms g n v w)
  told-rooms n v w =
      ⊎_elim
      (λ all. inl (λ t low high.
      let same : t - 1 + 1 ≡ t = omega arith in
      subst (λ (s : ℕ). AlikeFor s v w) same (all (t - 1) (omega arith))))
      (λ never. inr (λ rooms. never (λ k lt. rooms (k + 1) (omega arith) (omega arith))))
      (told-all (λ (k : ℕ). AlikeFor (k + 1) v w) (λ k. told-alike (k + 1) v w) n)

  pub rooms-itself : (n v : ℕ) → HaveSameRooms g n v v
  rooms-itself n v t low high = let way = way_on t v in (way.0, way.1, way.1)

  pub rooms-back : (n v w : ℕ) → HaveSameRooms g n v w → HaveSameRooms g n w v
  rooms-back n v w rooms t low high = let way = rooms t low high in (way.0, way.2, way.1)

  pub rooms-on : (n u v w : ℕ) → HaveSameRooms g n u v → HaveSameRooms g n v w → HaveSameRooms g n u w
  rooms-on n u v w one two t low high =
      let first = one t low high in
      let second = two t low high in
      let same = way-one g.pieces g.arcs v (target_at g t) first.0 second.0 first.2 second.1 in
      (second.0, subst (λ (o : Option (List ℕ)). IsWayOn g t u o) same first.1, second.2)
