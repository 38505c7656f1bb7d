-- A flow that lies in an open box: where the lines go on to the end and all are accepted, it costs what is claimed at least.
use Rattle.std.proofs.Common.{◌≡◌, ◌⊎◌, ℕ, zero, suc, ◌*◌, ◌≤◌, ◌<◌, true, false, List, [], ◌∷◌, ◌++◌, length, map, refl, sym, ◌∙◌, subst, inl, inr, ⊎_elim, arith, All}
use Rattle.std.proofs.lemmas.List.Elements.{All-contains, Contains-append_left, Contains-push}
use Rattle.packing_laws.specs.Instances.{InstanceValue, IsAmong}
use Rattle.packing_laws.specs.Packings.{Bins, IsPacking, cost_of}
use Rattle.step_bounds.specs.Steps.{StepValuesAreFloors, step_value_of}
use Rattle.flow_graph.specs.Arcs.{TypeValue, IsFlowGraph}
use Rattle.flow_graph.specs.Laws.{PotentialsCancel}
use Rattle.flow_model.specs.Boxes.{BoxesSplit, InBox}
use Rattle.flow_model.specs.Flows.{IsFlow, flow_cost, up_to}
use Rattle.flow_model.specs.Prices.{ConservedIsBalanced}
use Rattle.cert_text.specs.declared.lines.Claim.{Claim}
use Rattle.cert_text.specs.declared.lines.Claim.TheVariants.{Bound, Empty}
use Rattle.cert_text.specs.declared.lines.Prices.{Prices}
use Rattle.cert_text.specs.declared.lines.TreeLine.{TreeLine}
use Rattle.cert_text.specs.declared.lines.TreeLine.TheVariants.{Split, Needed, Leaf, Step}
use Rattle.cert_text.specs.declared.lines.CertLine.{CertLine}
use Rattle.cert_text.specs.declared.lines.CertLine.TheVariants as cert
use Rattle.cert_text.specs.Lines.{ArePrices, IsInPlace, IsTreeLine}
use Rattle.path_prices.specs.Worth.{worth_of}
use Rattle.cert_laws.specs.declared.causes.Cause.{Cause}
use Rattle.cert_laws.specs.declared.causes.Cause.TheVariants as cause
use Rattle.cert_laws.specs.Rules.{Box, Progress, after_line, after_lines, demands_of, first_box, opened_by, AreAccepted, ClaimsAtMost, GainsWithin, IfTree, IsAccepted, IsStrong, KeepsRule, NamesStep, SplitsBox}
use Rattle.cert_laws.proofs.NumbersUpTo.{contains_map, contains_up_to}
use Rattle.cert_laws.proofs.ClosedBoxes.{Beats, IsFraction, enough_beats, worth_below}

module _ (I : InstanceValue) (g : List TypeValue) (p : Progress) (line : CertLine) (accepted : IsAccepted I g p line) where
  abbrev Keeps : Cause → Type 0
  Keeps = KeepsRule I g p line

  pub running : p.ended ≡ false
  running = (accepted 1 cause.Text (omega arith)).0

  pub in_place : IsInPlace p.count p.version line
  in_place = let open_still = running in ⊎_elim (λ over. cc) (λ place. place) (accepted 0 cause.Text (omega arith))

  pub box_open : IfTree line (λ l. 0 < length p.boxes)
  box_open = (accepted 1 cause.Text (omega arith)).1

  pub keeps_unfinished : Keeps cause.Unfinished
  keeps_unfinished = accepted 2 cause.Text (omega arith)

  pub keeps_split : Keeps cause.NotSplit
  keeps_split = accepted 5 cause.Text (omega arith)

  pub keeps_step : Keeps cause.NotStep
  keeps_step = accepted 7 cause.Text (omega arith)

  -- the causes that come last
  abbrev last_causes : List Cause
  last_causes = map (λ t. cause.Gain t) (up_to (length g)) ++ cause.Weak ∷ []

  keeps_last : All Keeps last_causes
  keeps_last k d within = accepted (suc (suc (suc (suc (suc (suc (suc (suc k)))))))) d (omega (arith, within))

  pub keeps_gain : (t : ℕ) → IsAmong t (length g) → Keeps (cause.Gain t)
  keeps_gain t among = All-contains Keeps last_causes (cause.Gain t) keeps_last (Contains-append_left (map (λ t. cause.Gain t) (up_to (length g))) (cause.Weak ∷ []) (cause.Gain t) (contains_map (λ (t : ℕ). cause.Gain t) (up_to (length g)) t (contains_up_to (length g) t among)))

  pub keeps_weak : Keeps cause.Weak
  keeps_weak = All-contains Keeps last_causes cause.Weak keeps_last (Contains-push (map (λ t. cause.Gain t) (up_to (length g))) cause.Weak)

-- behind the claim none comes
claim_stays : (I : InstanceValue) (g : List TypeValue) (p : Progress) (lines : List CertLine) → 2 ≤ p.count → AreAccepted I g p lines → (after_lines p lines).claim ≡ p.claim
claim_stays I g p [] late are = refl
claim_stays I g p (cert.Head version ∷ lines) late are = let place = in_place I g p (cert.Head version) are.0 in absurd (omega (arith, late, place.0))
claim_stays I g p (cert.Claim claim goal ∷ lines) late are = let place = in_place I g p (cert.Claim claim goal) are.0 in absurd (omega (arith, late, place.0))
claim_stays I g p (cert.Tree l ∷ lines) late are = claim_stays I g (after_line p (cert.Tree l)) lines (omega (arith, late)) are.1
claim_stays I g p (cert.End ∷ lines) late are = claim_stays I g (after_line p cert.End) lines (omega (arith, late)) are.1

-- the values lie in one of the boxes
abbrev pub LieInOne : List ℕ → List Box → Type 0
LieInOne values [] = ⊥
LieInOne values (box ∷ boxes) = InBox values box ⊎ LieInOne values boxes

at_most : (least cost : ℕ) → ((n : ℕ) → least ≡ suc n → 1 * n < cost) → least ≤ cost
at_most zero cost more = omega arith
at_most (suc n) cost more = let above = more n refl in omega (arith, above)

beats_whole : (claim : Claim) (cost : ℕ) → Beats claim 1 cost → ClaimsAtMost cost claim
beats_whole claim cost beats = subst (ClaimsAtMost cost) (sym beats.claimed) (at_most beats.least cost beats.more)

claims_more : (n m : ℕ) (claim : Claim) → n ≤ m → ClaimsAtMost n claim → ClaimsAtMost m claim
claims_more n m Empty less claimed = claimed
claims_more n m (Bound bound) less claimed = omega (arith, less, claimed)

-- the laws of the crates below
pub record Laws : Type 0 where
  pub potentials : PotentialsCancel
  pub balanced : ConservedIsBalanced
  pub splits : BoxesSplit
  pub steps : StepValuesAreFloors

module _ (laws : Laws) (I : InstanceValue) (g : List TypeValue) (graph : IsFlowGraph g) (bins : Bins) (packing : IsPacking I bins) (values : List ℕ) (flow : IsFlow I g values) (cost : flow_cost I g values ≡ cost_of I bins) where
  whole_fraction : (box : Box) → InBox values box → IsFraction I g box 1 values
  whole_fraction box lies = record {
    size = flow.size;
    ranges = sym lies.size ∙ flow.size;
    conserved = flow.nodes;
    served = λ i among. let served = flow.demands i among in omega (arith, served);
    low = λ a among. let held = lies.each a (among.0, let size = lies.size in let long = flow.size in omega (arith, among.1, size, long)) in omega (arith, held.0);
    high = λ a among. let held = lies.each a (among.0, let size = lies.size in let long = flow.size in omega (arith, among.1, size, long)) in omega (arith, held.1);
  }

  -- prices that close a box in which the flow lies
  leaf_claims : (claim : Claim) (box : Box) (p : Prices) → InBox values box → ArePrices p → ((t : ℕ) → IsAmong t (length g) → GainsWithin I g t (Leaf p)) → IsStrong I box claim (Leaf p) → ClaimsAtMost (cost_of I bins) claim
  leaf_claims claim box p lies are gains strong =
      let below = worth_below I g box p 1 values are (whole_fraction box lies) laws.potentials laws.balanced graph gains in
      subst (λ (n : ℕ). ClaimsAtMost n claim) cost (beats_whole claim (flow_cost I g values) (enough_beats claim p.scale (worth_of (demands_of I) box p) 1 (flow_cost I g values) (omega arith) below strong))

  -- what a place of the tree does: it shows what is claimed, or the flow lies in one of the boxes that it leaves open
  tree_leads : (claim : Claim) (version : ℕ) (l : TreeLine) (boxes : List Box) → LieInOne values boxes → IsTreeLine version l → SplitsBox (first_box boxes) l → NamesStep I l → ((t : ℕ) → IsAmong t (length g) → GainsWithin I g t l) → IsStrong I (first_box boxes) claim l → ClaimsAtMost (cost_of I bins) claim ⊎ LieInOne values (opened_by l boxes)
  tree_leads claim version l [] lies place split step gains strong = absurd lies
  tree_leads claim version (Split a k) (box ∷ boxes) lies place split step gains strong = ⊎_elim
      (λ here. ⊎_elim (λ low. inr (inl low)) (λ high. inr (inr (inl high))) ((laws.splits.values values box a k split).either here))
      (λ later. inr (inr (inr later)))
      lies
  tree_leads claim version (Needed a k need) (box ∷ boxes) lies place split step gains strong = ⊎_elim
      (λ here. ⊎_elim (λ low. inr (inl low)) (λ high. inr (inr (inl high))) ((laws.splits.values values box a k split).either here))
      (λ later. inr (inr (inr later)))
      lies
  tree_leads claim version (Leaf p) (box ∷ boxes) lies place split step gains strong = ⊎_elim
      (λ here. inl (leaf_claims claim box p here place gains strong))
      (λ later. inr later)
      lies
  tree_leads claim version (Step dim step_size) (box ∷ boxes) lies place split step gains strong = ⊎_elim
      (λ here. inl (claims_more (step_value_of I dim step_size) (cost_of I bins) claim (laws.steps I dim step_size step bins packing) strong))
      (λ later. inr later)
      lies

  pub shown : (p : Progress) (lines : List CertLine) → p.ended ≡ false → LieInOne values p.boxes → AreAccepted I g p lines → (after_lines p lines).ended ≡ true → ClaimsAtMost (cost_of I bins) (after_lines p lines).claim
  shown p [] running lies are ended = cc
  shown p (cert.Head version ∷ lines) open_still lies are ended = shown (after_line p (cert.Head version)) lines open_still lies are.1 ended
  shown p (cert.Claim claim goal ∷ lines) open_still lies are ended = shown (after_line p (cert.Claim claim goal)) lines open_still lies are.1 ended
  shown p (cert.Tree l ∷ lines) open_still lies are ended =
      let place = in_place I g p (cert.Tree l) are.0 in
      ⊎_elim
      (λ claimed. subst (ClaimsAtMost (cost_of I bins)) (sym (claim_stays I g (after_line p (cert.Tree l)) lines (omega (arith, place.0)) are.1)) claimed)
      (λ left. shown (after_line p (cert.Tree l)) lines open_still left are.1 ended)
      (tree_leads p.claim p.version l p.boxes lies place.1 (keeps_split I g p (cert.Tree l) are.0) (keeps_step I g p (cert.Tree l) are.0) (keeps_gain I g p (cert.Tree l) are.0) (keeps_weak I g p (cert.Tree l) are.0))
  shown p (cert.End ∷ lines) open_still lies are ended =
      let closed : p.boxes ≡ [] = keeps_unfinished I g p cert.End are.0 in
      absurd (subst (LieInOne values) closed lies)
