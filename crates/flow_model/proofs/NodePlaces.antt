-- The places of nodes: one for each node of each type, in order.
use Rattle.std.proofs.Common.{◌≡◌, ℕ, ◌+◌, ◌-◌, ◌*◌, ◌<◌, ◌≤◌, Bool, true, false, cond, ◌==◌, ◌&&◌, List, [], ◌∷◌, length, get_or, take, refl, sym, ap, ◌∙◌, subst, ⊎_elim, arith, All, sum_by}
use Rattle.std.proofs.lemmas.Bool.{cases_eq, cases_order, eq-eqb, ne_eqb, and_from}
use Rattle.std.proofs.lemmas.List.{take-take}
use Rattle.std.proofs.lemmas.List.Sums.{sum_by_more, sum_by-take-le}
use Rattle.std.proofs.lemmas.List.Elements.{All-weaker, All-head, All-tail}
use Rattle.arc_num.specs.declared.TheConstants.{MAX_ITEMS}
use Rattle.packing_laws.specs.Instances.{InstanceValue, IsInstance, IsAmong}
use Rattle.flow_graph.specs.declared.parts.ArcKind.{ArcKind}
use Rattle.flow_graph.specs.declared.parts.ArcKind.TheVariants.{Bin, Loss, Piece}
use Rattle.flow_graph.specs.Arcs.{TypeValue, IsFlowGraph, flow_type, numbered}
use Rattle.flow_graph.specs.Faithful.{GraphOf}
use Rattle.flow_graph.specs.Ends.{comes_in, goes_out}
use Rattle.flow_model.specs.Flows.{weigh_arcs}
use Rattle.flow_model.specs.Models.{node_place}
use Rattle.flow_model.specs.Tallies.{AreStarts, TallyValue, IsTallyOf}
use Rattle.flow_model.specs.inner.Known.{IsBetween, IsArcOf, IsKnownGraph}
use Rattle.flow_model.specs.inner.Sums.{IsPlaced, Holds, IsFilled, tail_in, head_in}
use Rattle.flow_model.proofs.ArcsKnown.{known_graph, arcs_known}

-- how many nodes the first types have
abbrev pub first_nodes : List TypeValue → ℕ → ℕ
first_nodes g k = sum_by (λ x. x.nodes) (take k g)

pub more_types : (g : List TypeValue) (a b : ℕ) → a ≤ b → first_nodes g a ≤ first_nodes g b
more_types g a b low =
    let part = sum_by-take-le (λ (x : TypeValue). x.nodes) (take b g) a in
    let same : take a (take b g) ≡ take a g = take-take a b g low in
    subst (λ (h : List TypeValue). sum_by (λ x. x.nodes) h ≤ first_nodes g b) same part

-- the place of the target is the last of its type
pub target_place : (g : List TypeValue) (t : ℕ) → IsAmong t (length g) → node_place g t (flow_type g t).nodes ≡ first_nodes g t
target_place g t among =
    let e : t - 1 + 1 ≡ t = omega (arith, among.0) in
    sym (rw e at (sum_by_more (λ (x : TypeValue). x.nodes) g (t - 1) (record { nodes = 1; arcs = [] }) (omega (arith, among.0, among.1))))

pub place_fits : (g : List TypeValue) (t v : ℕ) → IsAmong t (length g) → IsAmong v (flow_type g t).nodes → IsAmong (node_place g t v) (sum_by (λ x. x.nodes) g)
place_fits g t v among node =
    let last = target_place g t among in
    let part = sum_by-take-le (λ (x : TypeValue). x.nodes) g t in
    (omega (arith, node.0), omega (arith, node.1, last, part))

pub places_rise : (g : List TypeValue) (s u t v : ℕ) → IsAmong s (length g) → u ≤ (flow_type g s).nodes → 1 ≤ v → s < t → node_place g s u < node_place g t v
places_rise g s u t v among node low before =
    let last = target_place g s among in
    let more = more_types g s (t - 1) (omega (arith, before)) in
    omega (arith, last, more, node, low)

pub and_no_left : (a b : Bool) → a ≡ false → (a && b) ≡ false
and_no_left a b h = rw h refl

pub and_no_right : (a b : Bool) → b ≡ false → (a && b) ≡ false
and_no_right true b h = h
and_no_right false b h = refl

-- two nodes have one place exactly where they are one node
pub place_test : (g : List TypeValue) (s u t v : ℕ) → IsAmong s (length g) → IsAmong u (flow_type g s).nodes → IsAmong t (length g) → IsAmong v (flow_type g t).nodes → (node_place g s u == node_place g t v) ≡ ((s == t) && (u == v))
place_test g s u t v one node two other = ⊎_elim
    (λ same. ⊎_elim
    (λ equal. eq-eqb (node_place g s u) (node_place g t v) (λ k. node_place g (same k) (equal k)) ∙ sym (and_from (s == t) (u == v) (eq-eqb s t same) (eq-eqb u v equal)))
    (λ apart.
    let differ : node_place g s u ≡ node_place g t v → ⊥ = λ e. apart (let start : first_nodes g (s - 1) ≡ first_nodes g (t - 1) = ap (λ (n : ℕ). first_nodes g (n - 1)) same in omega (arith, e, start)) in
    ne_eqb (node_place g s u) (node_place g t v) differ ∙ sym (and_no_right (s == t) (u == v) (ne_eqb u v apart)))
    (cases_eq u v))
    (λ apart.
    let types : s ≡ t → ⊥ = λ e. ⊎_elim (λ (lt : s < t). omega (arith, lt, e)) (λ (gt : t < s). omega (arith, gt, e)) apart in
    let differ : node_place g s u ≡ node_place g t v → ⊥ = λ e. ⊎_elim (λ (lt : s < t). let rise = places_rise g s u t v one node.1 other.0 lt in omega (arith, rise, e)) (λ (gt : t < s). let rise = places_rise g t v s u two other.1 node.0 gt in omega (arith, rise, e)) apart in
    ne_eqb (node_place g s u) (node_place g t v) differ ∙ sym (and_no_left (s == t) (u == v) (ne_eqb s t types)))
    (cases_order s t)

pub weigh_agree : (f h : ArcKind → ℕ) (kinds : List ArcKind) (values : List ℕ) → All (λ kind. f kind ≡ h kind) kinds → weigh_arcs f kinds values ≡ weigh_arcs h kinds values
weigh_agree f h [] values same = refl
weigh_agree f h (kind ∷ kinds) [] same = refl
weigh_agree f h (kind ∷ kinds) (x ∷ values) same =
    let first : f kind ≡ h kind = All-head (λ kind. f kind ≡ h kind) kind kinds same in
    let rest = weigh_agree f h kinds values (All-tail (λ kind. f kind ≡ h kind) kind kinds same) in
    λ k. first k * x + rest k

module _ (g : List TypeValue) (n : ℕ) (sources : All (λ x. 1 ≤ x.nodes) g) (t v : ℕ) (two : IsAmong t (length g)) (other : IsAmong v (flow_type g t).nodes) where
  source : (s : ℕ) → IsAmong s (length g) → 1 ≤ (flow_type g s).nodes
  source s among = sources (s - 1) (record { nodes = 1; arcs = [] }) (omega (arith, among.0, among.1))

  pub comes_test : (starts : List ℕ) → AreStarts g starts → (kind : ArcKind) → IsArcOf n g kind → (head_in starts kind == node_place g t v) ≡ comes_in t v kind
  comes_test starts are (Bin s) among = ap (λ (m : ℕ). m + 1 == node_place g t v) (are.each (s - 1) (omega (arith, among.0, among.1))) ∙ place_test g s 1 t v among (omega arith, source s among) two other
  comes_test starts are (Loss s tail head) own =
      let among = own.of_type in
      ap (λ (m : ℕ). m + head == node_place g t v) (are.each (s - 1) (omega (arith, among.0, among.1))) ∙ place_test g s head t v among (let low = own.low in let rises = own.rises in omega (arith, low, rises), own.high) two other
  comes_test starts are (Piece s tail head item form) own =
      let among = own.0.of_type in
      ap (λ (m : ℕ). m + head == node_place g t v) (are.each (s - 1) (omega (arith, among.0, among.1))) ∙ place_test g s head t v among (let low = own.0.low in let rises = own.0.rises in omega (arith, low, rises), own.0.high) two other

  pub goes_test : (starts : List ℕ) → AreStarts g starts → (kind : ArcKind) → IsArcOf n g kind → (tail_in starts kind == node_place g t v) ≡ goes_out g t v kind
  goes_test starts are (Bin s) among = ap (λ (m : ℕ). m == node_place g t v) (are.each s among.1 ∙ sym (target_place g s among)) ∙ place_test g s (flow_type g s).nodes t v among (source s among, omega arith) two other
  goes_test starts are (Loss s tail head) own =
      let among = own.of_type in
      ap (λ (m : ℕ). m + tail == node_place g t v) (are.each (s - 1) (omega (arith, among.0, among.1))) ∙ place_test g s tail t v among (own.low, let high = own.high in let rises = own.rises in omega (arith, high, rises)) two other
  goes_test starts are (Piece s tail head item form) own =
      let among = own.0.of_type in
      ap (λ (m : ℕ). m + tail == node_place g t v) (are.each (s - 1) (omega (arith, among.0, among.1))) ∙ place_test g s tail t v among (own.0.low, let high = own.0.high in let rises = own.0.rises in omega (arith, high, rises)) two other

-- the sums by place are the sums by node
pub filled : (I : InstanceValue) (g : List TypeValue) (values : List ℕ) (tally : TallyValue) → IsInstance I → IsFlowGraph g → GraphOf I g → IsTallyOf g tally → Holds (numbered g) values tally → IsFilled I g values tally
filled I g values tally instance is of room held =
    let arcs : All (IsArcOf (length I.items) g) (numbered g) = arcs_known I g is of in
    let known : IsKnownGraph I g = known_graph I g instance is of in
    record {
      inflow = λ t v among node.
          let fits = place_fits g t v among node in
          let wide = room.inflow in
          let e : node_place g t v - 1 + 1 ≡ node_place g t v = omega (arith, fits.0) in
          let sum = held.inflow (node_place g t v - 1) (omega (arith, fits.0, fits.1, wide)) in
          rw e at sum ∙ weigh_agree (λ kind. cond (head_in tally.starts kind == node_place g t v) 1 0) (λ kind. cond (comes_in t v kind) 1 0) (numbered g) values (All-weaker (IsArcOf (length I.items) g) (λ kind. cond {A = ℕ} (head_in tally.starts kind == node_place g t v) 1 0 ≡ cond (comes_in t v kind) 1 0) (λ kind own. ap (λ (b : Bool). cond {A = ℕ} b 1 0) (comes_test g (length I.items) known.sources t v among node tally.starts room.starts kind own)) (numbered g) arcs);
      outflow = λ t v among node.
          let fits = place_fits g t v among node in
          let wide = room.outflow in
          let e : node_place g t v - 1 + 1 ≡ node_place g t v = omega (arith, fits.0) in
          let sum = held.outflow (node_place g t v - 1) (omega (arith, fits.0, fits.1, wide)) in
          rw e at sum ∙ weigh_agree (λ kind. cond (tail_in tally.starts kind == node_place g t v) 1 0) (λ kind. cond (goes_out g t v kind) 1 0) (numbered g) values (All-weaker (IsArcOf (length I.items) g) (λ kind. cond {A = ℕ} (tail_in tally.starts kind == node_place g t v) 1 0 ≡ cond (goes_out g t v kind) 1 0) (λ kind own. ap (λ (b : Bool). cond {A = ℕ} b 1 0) (goes_test g (length I.items) known.sources t v among node tally.starts room.starts kind own)) (numbered g) arcs);
      items = λ i among.
          let e : i - 1 + 1 ≡ i = omega (arith, among.0) in
          let full = room.items in
          let few = instance.item_count in
          let sum = held.items (i - 1) (omega (arith, among.0, among.1, full, few)) in
          rw e at sum;
    }

pub placed_between : (g : List TypeValue) (starts : List ℕ) (n : ℕ) → AreStarts g starts → n ≡ sum_by (λ x. x.nodes) g → (t tail head : ℕ) → IsBetween g t tail head → ((1 ≤ t) × (t < length starts)) × IsAmong (get_or starts (t - 1) 0 + tail) n × IsAmong (get_or starts (t - 1) 0 + head) n
placed_between g starts n are whole t tail head own =
    let among = own.of_type in
    let size = are.size in
    let low = own.low in
    let rises = own.rises in
    let high = own.high in
    let one = place_fits g t tail among (low, omega (arith, rises, high)) in
    let two = place_fits g t head among (omega (arith, low, rises), high) in
    let begin = are.each (t - 1) (omega (arith, among.0, among.1)) in
    ((among.0, omega (arith, size, among.1)), (omega (arith, one.0, begin), omega (arith, one.1, begin, whole)), (omega (arith, two.0, begin), omega (arith, two.1, begin, whole)))

-- each arc has its places
pub placed : (g : List TypeValue) (starts : List ℕ) (n : ℕ) → All (λ x. 1 ≤ x.nodes) g → AreStarts g starts → n ≡ sum_by (λ x. x.nodes) g → (kind : ArcKind) → IsArcOf MAX_ITEMS g kind → IsPlaced n starts kind
placed g starts n sources are whole (Bin t) among =
    let size = are.size in
    let low : 1 ≤ (flow_type g t).nodes = sources (t - 1) (record { nodes = 1; arcs = [] }) (omega (arith, among.0, among.1)) in
    let first = place_fits g t 1 among (omega arith, low) in
    let last = place_fits g t (flow_type g t).nodes among (low, omega arith) in
    let end = are.each t among.1 in
    let begin = are.each (t - 1) (omega (arith, among.1)) in
    let target = target_place g t among in
    record {
      of_type = (among.0, omega (arith, size, among.1));
      tail = (omega (arith, last.0, end, target), omega (arith, last.1, end, target, whole));
      head = (omega (arith, first.0, begin), omega (arith, first.1, begin, whole));
    }
placed g starts n sources are whole (Loss t tail head) own =
    let base = placed_between g starts n are whole t tail head own in
    record { of_type = base.0; tail = base.1; head = base.2 }
placed g starts n sources are whole (Piece t tail head item form) own =
    let base = placed_between g starts n are whole t tail head own.0 in
    record { of_type = (base.0.0, base.0.1, own.1); tail = base.1; head = base.2 }

pub all_placed : (I : InstanceValue) (g : List TypeValue) (tally : TallyValue) → IsKnownGraph I g → IsTallyOf g tally → All (IsPlaced (length tally.inflow) tally.starts) (numbered g)
all_placed I g tally known room = All-weaker (IsArcOf MAX_ITEMS g) (IsPlaced (length tally.inflow) tally.starts) (placed g tally.starts (length tally.inflow) known.sources room.starts room.inflow) (numbered g) known.arcs
