-- Steps with given marks, and the paths that they are.
use Rattle.std.proofs.Common.{◌≡◌, ℕ, ◌+◌, List, [], ◌∷◌, length, refl, sym, ap, ◌∙◌, subst, ⊎_elim, arith}
use Rattle.std.proofs.lemmas.Bool.{cases_order}
use Rattle.label_graph.specs.declared.parts.GraphArc.{GraphArc}
use Rattle.label_graph.specs.declared.parts.Piece.{Piece}
use Rattle.label_graph.specs.declared.parts.Mark.{Mark}
use Rattle.label_graph.specs.Graph.{IsPath, mark_copies, copies_along}
use Rattle.level_graph.specs.declared.states.State.{State}
use Rattle.level_graph.specs.Levels.{Step, IsNode, IsLevels, source, target}
use Rattle.level_graph.proofs.Reached.{next_reached, source_reached, target_reached}
use Rattle.level_graph.proofs.Arcs.{node-same, node-one, nodes-before, step-one}
use Rattle.level_graph.proofs.GraphOf.{node-reached, node-of, state-of, step-arc, has_source, source-first, target-last}

-- the marks along a path
abbrev pub marks_along : List GraphArc → List Mark
marks_along [] = []
marks_along (e ∷ path) = e.mark ∷ marks_along path

-- how many copies of a piece some marks carry
abbrev pub copies_in : ℕ → List Mark → ℕ
copies_in p [] = 0
copies_in p (m ∷ marks) = mark_copies p m + copies_in p marks

pub copies-marks : (p : ℕ) (path : List GraphArc) → copies_along p path ≡ copies_in p (marks_along path)
copies-marks p [] = refl
copies-marks p (e ∷ path) = ap (λ (n : ℕ). mark_copies p e.mark + n) (copies-marks p path)

-- steps with these marks lead from s to t
abbrev pub Leads : {N : ℕ} → List (Piece N) → List ℕ → State N → List Mark → State N → Type 0
Leads pieces room s [] t = s ≡ t
Leads {N} pieces room s (m ∷ marks) t = (u : State N) × Step pieces room s m u × Leads pieces room u marks t

first_mark : (m n : Mark) (ms ns : List Mark) → ◌≡◌ {A = List Mark} (m ∷ ms) (n ∷ ns) → (m ≡ n) × (ms ≡ ns)
first_mark m n ms ns h = (cc, cc)

module _ {N : ℕ} (pieces : List (Piece N)) (room : List ℕ) (states : List (State N)) (arcs : List GraphArc) (are : IsLevels pieces room states arcs) where
  pub path-leads : (path : List GraphArc) (a b : ℕ) (s t : State N) → IsNode states a s → IsNode states b t → IsPath arcs a b path → Leads pieces room s (marks_along path) t
  path-leads [] a b s t here there h = node-same states b s t (subst (λ (v : ℕ). IsNode states v s) h here) there
  path-leads (e ∷ path) a b s t here there h =
      let is = (are.arcs_step e).0 h.0 in
      let from : is.from ≡ s = node-same states a is.from s (subst (λ (v : ℕ). IsNode states v is.from) h.1 is.tail_at) here in
      (is.to, subst (λ (z : State N). Step pieces room z e.mark is.to) from is.step, path-leads path e.head b is.to t is.head_at there h.2)

  pub leads-path : (marks : List Mark) (a b : ℕ) (s t : State N) → IsNode states a s → IsNode states b t → Leads pieces room s marks t → (path : List GraphArc) × IsPath arcs a b path × (marks_along path ≡ marks)
  leads-path [] a b s t here there h = ([], node-one states are.states_ordered a b t (subst (λ (z : State N). IsNode states a z) h here) there, refl)
  leads-path (m ∷ marks) a b s t here there h =
      let reached = node-reached pieces room states arcs are a s here in
      let next = node-of pieces room states arcs are h.0 (next_reached pieces room s h.0 m reached h.1) in
      let rest = leads-path marks next.0 b h.0 t next.1 there h.2 in
      let arc : GraphArc = record { tail = a; head = next.0; mark = m } in
      (arc ∷ rest.0, (step-arc pieces room states arcs are a next.0 s h.0 m here next.1 h.1, refl, rest.1), ap (λ (ms : List Mark). m ∷ ms) rest.2)

  -- one path has these marks
  pub path-one : (p q : List GraphArc) (a b c : ℕ) → IsPath arcs a b p → IsPath arcs a c q → marks_along p ≡ marks_along q → p ≡ q
  path-one [] [] a b c h k same = refl
  path-one [] (f ∷ q) a b c h k same = absurd (let bad : ◌≡◌ {A = List Mark} [] (f.mark ∷ marks_along q) = same in cc)
  path-one (e ∷ p) [] a b c h k same = absurd (let bad : ◌≡◌ {A = List Mark} (e.mark ∷ marks_along p) [] = same in cc)
  path-one (e ∷ p) (f ∷ q) a b c h k same =
      let parts = first_mark e.mark f.mark (marks_along p) (marks_along q) same in
      let one = (are.arcs_step e).0 h.0 in
      let two = (are.arcs_step f).0 k.0 in
      let tails : e.tail ≡ f.tail = h.1 ∙ sym k.1 in
      let from : one.from ≡ two.from = node-same states f.tail one.from two.from (subst (λ (v : ℕ). IsNode states v one.from) tails one.tail_at) two.tail_at in
      let step : Step pieces room two.from f.mark one.to = subst (λ (z : State N). Step pieces room z f.mark one.to) from (subst (λ (m : Mark). Step pieces room one.from m one.to) parts.0 one.step) in
      let to : one.to ≡ two.to = step-one pieces room two.from one.to two.to f.mark step two.step in
      let heads : e.head ≡ f.head = node-one states are.states_ordered e.head f.head two.to (subst (λ (z : State N). IsNode states e.head z) to one.head_at) two.head_at in
      let marks : e.mark ≡ f.mark = parts.0 in
      let arc : e ≡ f = (λ i. record { tail = tails i; head = heads i; mark = marks i }) in
      let rest : p ≡ q = path-one p q f.head b c (subst (λ (v : ℕ). IsPath arcs v b p) heads h.2) k.2 parts.1 in
      λ i. arc i ∷ rest i

  pub source-node : IsNode states 1 (source N)
  source-node =
      let node = node-of pieces room states arcs are (source N) (source_reached pieces room) in
      let first = state-of pieces room states arcs are 1 (omega arith) (has_source pieces room states arcs are) in
      ⊎_elim
      (λ same. subst (λ (v : ℕ). IsNode states v (source N)) same node.1)
      (λ apart. ⊎_elim
      (λ lt. absurd (omega (arith, node.1.0)))
      (λ gt. absurd (source-first pieces room first.0 (node-reached pieces room states arcs are 1 first.0 first.1) (nodes-before states are.states_ordered 1 node.0 first.0 (source N) first.1 node.1 gt)))
      apart)
      (cases_order node.0 1)

  pub target-node : IsNode states (length states) (target pieces room)
  target-node =
      let some = has_source pieces room states arcs are in
      let node = node-of pieces room states arcs are (target pieces room) (target_reached pieces room) in
      let last = state-of pieces room states arcs are (length states) some (omega arith) in
      ⊎_elim
      (λ same. subst (λ (v : ℕ). IsNode states v (target pieces room)) same node.1)
      (λ apart. ⊎_elim
      (λ lt. absurd (target-last pieces room last.0 (node-reached pieces room states arcs are (length states) last.0 last.1) (nodes-before states are.states_ordered node.0 (length states) (target pieces room) last.0 node.1 last.1 lt)))
      (λ gt. absurd (omega (arith, node.1.1)))
      apart)
      (cases_order node.0 (length states))
