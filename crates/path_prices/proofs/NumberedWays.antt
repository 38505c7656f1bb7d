-- Ways over the arcs of a type in their order are the paths of the type, by number.
use Rattle.std.proofs.Common.{◌≡◌, inl, inr, ℕ, zero, suc, ◌+◌, ◌-◌, ◌<◌, ◌≤◌, List, [], ◌∷◌, length, get_or, refl, sym, ap, ◌∙◌, subst, ⊎_elim, arith}
use Rattle.std.specs.Prelude.{All, AllPairs, Some}
use Rattle.std.proofs.lemmas.List.Elements.{Contains-get_or, All-tail}
use Rattle.std.proofs.lemmas.List.{get_or_default}
use Rattle.std.proofs.lemmas.Option.{slice_get-get_or}
use Rattle.packing_laws.specs.Instances.{IsAmong}
use Rattle.flow_graph.specs.declared.parts.TypeArc.{TypeArc}
use Rattle.flow_graph.specs.Arcs.{TypeValue, IsFlowType, IsFlowGraph, ArcBefore, flow_type, first_arc, arc_at, kind_of}
use Rattle.flow_graph.specs.Faithful.{IsPath, AreNumbersOf, IsNumberedPath}
use Rattle.flow_graph.proofs.Places.{has_numbers, path_numbers}
use Rattle.flow_graph.proofs.ArcKinds.{unique_number}
use Rattle.flow_graph.proofs.Ways.{way_on}
use Rattle.path_prices.specs.inner.Passes.{AreArcs, Leads, no_arc}

-- the numbers are those of arcs that lead from v to w, one after the other, where the first arc has number n
abbrev pub Steps : List TypeArc → ℕ → ℕ → ℕ → List ℕ → Type 0
Steps arcs n v w [] = v ≡ w
Steps arcs n v w (a ∷ numbers) = (k : ℕ) × (k < length arcs) × (a ≡ n + k) × ((get_or arcs k no_arc).tail ≡ v) × Steps arcs n (get_or arcs k no_arc).head w numbers

-- steps over a row are steps over a longer one
steps-cons : (e : TypeArc) (arcs : List TypeArc) (n v w : ℕ) (numbers : List ℕ) → Steps arcs (suc n) v w numbers → Steps (e ∷ arcs) n v w numbers
steps-cons e arcs n v w [] h = h
steps-cons e arcs n v w (a ∷ numbers) h =
    let low = h.1 in
    let at = h.2 in
    (suc h.0, omega (arith, low), omega (arith, at), h.3, steps-cons e arcs n (get_or arcs h.0 no_arc).head w numbers h.4)

pub steps_of : (arcs : List TypeArc) (n v w : ℕ) (numbers : List ℕ) → Leads arcs n v w numbers → Steps arcs n v w numbers
steps_of [] n v w numbers leads = subst (Steps [] n v w) (sym leads.0) leads.1
steps_of (e ∷ arcs) n v w numbers leads = ⊎_elim
    (λ past. steps-cons e arcs n v w numbers (steps_of arcs (suc n) v w numbers past))
    (λ over. subst (Steps (e ∷ arcs) n v w) (sym over.1) (zero, omega arith, omega arith, over.2, steps-cons e arcs n e.head w over.0 (steps_of arcs (suc n) e.head w over.0 over.3)))
    leads

-- steps from a higher node never go over the first arc
steps-behind : (e : TypeArc) (arcs : List TypeArc) (n v w : ℕ) (numbers : List ℕ) → All (λ e. e.tail < e.head) arcs → e.tail < v → Steps (e ∷ arcs) n v w numbers → Steps arcs (suc n) v w numbers
steps-behind e arcs n v w [] rise above h = h
steps-behind e arcs n v w (a ∷ numbers) rise above (zero, within, at, tail, rest) = absurd (omega (arith, tail, above))
steps-behind e arcs n v w (a ∷ numbers) rise above (suc k, within, at, tail, rest) =
    let inside : k < length arcs = omega (arith, within) in
    let up : (get_or arcs k no_arc).tail < (get_or arcs k no_arc).head = rise k no_arc inside in
    (k, inside, omega (arith, at), tail, steps-behind e arcs n (get_or arcs k no_arc).head w numbers rise (omega (arith, up, tail, above)) rest)

order-tail : (e : TypeArc) (arcs : List TypeArc) → AllPairs (λ e f. e.tail ≤ f.tail) (e ∷ arcs) → AllPairs (λ e f. e.tail ≤ f.tail) arcs
order-tail e arcs order = λ i j d low high. order (suc i) (suc j) d (omega (arith, low)) (omega (arith, high))

-- where arcs rise and those out of lower nodes come first, steps go over later and later arcs
pub leads_of : (arcs : List TypeArc) (n v w : ℕ) (numbers : List ℕ) → All (λ e. e.tail < e.head) arcs → AllPairs (λ e f. e.tail ≤ f.tail) arcs → Steps arcs n v w numbers → Leads arcs n v w numbers
leads_of [] n v w [] rise order h = (refl, h)
leads_of [] n v w (a ∷ numbers) rise order h = absurd (let within = h.1 in omega (arith, within))
leads_of (e ∷ arcs) n v w [] rise order h = inl (leads_of arcs (suc n) v w [] (All-tail (λ (e : TypeArc). e.tail < e.head) e arcs rise) (order-tail e arcs order) h)
leads_of (e ∷ arcs) n v w (a ∷ numbers) rise order (zero, within, at, tail, rest) =
    let more = All-tail (λ (e : TypeArc). e.tail < e.head) e arcs rise in
    let first : a ≡ n = omega (arith, at) in
    inr (numbers, ap (λ (b : ℕ). b ∷ numbers) first, tail, leads_of arcs (suc n) e.head w numbers more (order-tail e arcs order) (steps-behind e arcs n e.head w numbers more (rise 0 no_arc (omega arith)) rest))
leads_of (e ∷ arcs) n v w (a ∷ numbers) rise order (suc k, within, at, tail, rest) =
    let more = All-tail (λ (e : TypeArc). e.tail < e.head) e arcs rise in
    let inside : k < length arcs = omega (arith, within) in
    let later : e.tail ≤ (get_or arcs k no_arc).tail = order 0 (suc k) no_arc (omega arith) within in
    let up : (get_or arcs k no_arc).tail < (get_or arcs k no_arc).head = more k no_arc inside in
    let behind : Steps arcs (suc n) (get_or arcs k no_arc).head w numbers = steps-behind e arcs n (get_or arcs k no_arc).head w numbers more (omega (arith, later, up)) rest in
    inl (leads_of arcs (suc n) v w (a ∷ numbers) more (order-tail e arcs order) (k, inside, omega (arith, at), tail, behind))

-- an arc of a type goes before those of later numbers
tails-order : (arcs : List TypeArc) → AllPairs ArcBefore arcs → AllPairs (λ e f. e.tail ≤ f.tail) arcs
tails-order arcs order = λ i j d low high. ⊎_elim (λ less. omega (arith, less)) (λ same. let equal = same.0 in omega (arith, equal)) (order i j d low high)

-- what the arcs of a type keep
pub type-arcs : (x : TypeValue) (items : ℕ) → IsFlowType x → All (λ e. e.item ≤ items) x.arcs → AreArcs (x.nodes + 1) items x.arcs
type-arcs x items is carry = record {
  rise = λ k d within. let climbs = is.climbs k d within in (climbs.0, climbs.1, omega (arith, climbs.2));
  order = tails-order x.arcs is.ordered;
  items = carry;
}

module _ (g : List TypeValue) (t : ℕ) (is : IsFlowGraph g) (among : IsAmong t (length g)) where
  pub flow-type-is : IsFlowType (flow_type g t)
  flow-type-is = is.each (t - 1) (record { nodes = 1; arcs = [] }) (omega (arith, among.0, among.1))

  pub kind-at : (k : ℕ) → k < length (flow_type g t).arcs → arc_at g (first_arc g t + 1 + k) ≡ Some (kind_of t (get_or (flow_type g t).arcs k no_arc))
  kind-at k within = (has_numbers g t among).arcs k (get_or (flow_type g t).arcs k no_arc) (slice_get-get_or (flow_type g t).arcs k no_arc within)

  steps-numbered : (path : List TypeArc) (numbers : List ℕ) (v w : ℕ) → IsPath (flow_type g t).arcs v w path → AreNumbersOf g t numbers path → Steps (flow_type g t).arcs (first_arc g t + 1) v w numbers
  steps-numbered [] [] v w leads are = leads
  steps-numbered [] (a ∷ numbers) v w leads are = absurd are
  steps-numbered (e ∷ path) [] v w leads are = absurd are
  steps-numbered (e ∷ path) (a ∷ numbers) v w leads are =
      let arcs : List TypeArc = (flow_type g t).arcs in
      let k : ℕ = leads.0.0 in
      let within : k < length arcs = leads.0.1 in
      let same : get_or arcs k no_arc ≡ e = get_or_default arcs k no_arc e within ∙ leads.0.2 in
      let at : a ≡ first_arc g t + 1 + k = unique_number g is a (first_arc g t + 1 + k) (kind_of t e) are.0 (kind-at k within ∙ ap (λ (f : TypeArc). Some (kind_of t f)) same) in
      (k, within, at, ap (λ (f : TypeArc). f.tail) same ∙ leads.1, subst (λ (f : TypeArc). Steps arcs (first_arc g t + 1) f.head w numbers) (sym same) (steps-numbered path numbers e.head w leads.2 are.1))

  numbered-steps : (numbers : List ℕ) (v w : ℕ) → Steps (flow_type g t).arcs (first_arc g t + 1) v w numbers → (path : List TypeArc) × IsPath (flow_type g t).arcs v w path × AreNumbersOf g t numbers path
  numbered-steps [] v w h = ([], h, tt)
  numbered-steps (a ∷ numbers) v w h =
      let arcs : List TypeArc = (flow_type g t).arcs in
      let e : TypeArc = get_or arcs h.0 no_arc in
      let rest = numbered-steps numbers e.head w h.4 in
      (e ∷ rest.0, (Contains-get_or arcs h.0 no_arc h.1, h.3, rest.1), (subst (λ (b : ℕ). arc_at g b ≡ Some (kind_of t e)) (sym h.2) (kind-at h.0 h.1), rest.2))

  pub leads-path : (numbers : List ℕ) → IsNumberedPath g t numbers → Leads (flow_type g t).arcs (first_arc g t + 1) 1 (flow_type g t).nodes numbers
  leads-path numbers path =
      let type = flow-type-is in
      let rise : All (λ e. e.tail < e.head) (flow_type g t).arcs = λ k d within. (type.climbs k d within).1 in
      leads_of (flow_type g t).arcs (first_arc g t + 1) 1 (flow_type g t).nodes numbers rise (tails-order (flow_type g t).arcs type.ordered) (steps-numbered path.0 numbers 1 (flow_type g t).nodes path.1 path.2)

  pub path-leads : (numbers : List ℕ) → Leads (flow_type g t).arcs (first_arc g t + 1) 1 (flow_type g t).nodes numbers → IsNumberedPath g t numbers
  path-leads numbers leads = numbered-steps numbers 1 (flow_type g t).nodes (steps_of (flow_type g t).arcs (first_arc g t + 1) 1 (flow_type g t).nodes numbers leads)

  -- each type has a path
  pub some-path : (numbers : List ℕ) × IsNumberedPath g t numbers
  some-path =
      let type = flow-type-is in
      let low = type.source in
      let way = way_on (flow_type g t) type (flow_type g t).nodes 1 (omega arith) low (omega arith) in
      let numbers = path_numbers g t among way.0 1 (flow_type g t).nodes way.1 in
      (numbers.0, (way.0, way.1, numbers.1))
