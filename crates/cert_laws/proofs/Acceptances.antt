-- Lines that keep all rules are accepted.
use Rattle.std.proofs.Common.{◌≡◌, ℕ, ◌≤◌, false, List, [], ◌∷◌, ◌++◌, length, map, inr, All, Option}
use Rattle.std.proofs.lemmas.List.Elements.{All-append, All-cons, All-map, All-nil}
use Rattle.packing_laws.specs.Instances.{InstanceValue, IsAmong}
use Rattle.flow_graph.specs.Arcs.{TypeValue}
use Rattle.flow_model.specs.Flows.{up_to}
use Rattle.cert_text.specs.declared.lines.Claim.{Claim}
use Rattle.cert_text.specs.declared.lines.CertLine.TheVariants as cert
use Rattle.cert_text.specs.Lines.{IsBetween, IsClaim, IsGoal}
use Rattle.cert_laws.specs.declared.causes.Cause.{Cause}
use Rattle.cert_laws.specs.declared.causes.Cause.TheVariants as cause
use Rattle.cert_laws.specs.Rules.{IsAccepted, KeepsRule, Progress, causes_of}
use Rattle.cert_laws.proofs.NumbersUpTo.{all_up_to}

-- what holds of each cause
pub all_causes : (P : Cause → Type 0) (g : List TypeValue) → P cause.Text → P cause.Extra → P cause.Unfinished → P cause.NoItem → P cause.NoArc → P cause.NotSplit → P cause.NotNeeded → P cause.NotStep → ((t : ℕ) → IsAmong t (length g) → P (cause.Gain t)) → P cause.Weak → All P (causes_of g)
all_causes P g text extra unfinished item arc split needed step gains weak =
    let gain : All P (map (λ t. cause.Gain t) (up_to (length g))) = All-map P (λ (t : ℕ). cause.Gain t) (up_to (length g)) (all_up_to (λ (t : ℕ). P (cause.Gain t)) (length g) gains) in
    let last : List Cause = map (λ t. cause.Gain t) (up_to (length g)) ++ cause.Weak ∷ [] in
    let rest : All P last = All-append P (map (λ t. cause.Gain t) (up_to (length g))) (cause.Weak ∷ []) gain (All-cons P cause.Weak [] weak (All-nil P)) in
    let from_step = All-cons P cause.NotStep last step rest in
    let from_need = All-cons P cause.NotNeeded (cause.NotStep ∷ last) needed from_step in
    let from_split = All-cons P cause.NotSplit (cause.NotNeeded ∷ cause.NotStep ∷ last) split from_need in
    let from_arc = All-cons P cause.NoArc (cause.NotSplit ∷ cause.NotNeeded ∷ cause.NotStep ∷ last) arc from_split in
    let from_item = All-cons P cause.NoItem (cause.NoArc ∷ cause.NotSplit ∷ cause.NotNeeded ∷ cause.NotStep ∷ last) item from_arc in
    let from_end = All-cons P cause.Unfinished (cause.NoItem ∷ cause.NoArc ∷ cause.NotSplit ∷ cause.NotNeeded ∷ cause.NotStep ∷ last) unfinished from_item in
    let from_extra = All-cons P cause.Extra (cause.Unfinished ∷ cause.NoItem ∷ cause.NoArc ∷ cause.NotSplit ∷ cause.NotNeeded ∷ cause.NotStep ∷ last) extra from_end in
    All-cons P cause.Text (cause.Extra ∷ cause.Unfinished ∷ cause.NoItem ∷ cause.NoArc ∷ cause.NotSplit ∷ cause.NotNeeded ∷ cause.NotStep ∷ last) text from_extra

module _ (I : InstanceValue) (g : List TypeValue) (p : Progress) (running : p.ended ≡ false) where
  pub head_accepted : (version : ℕ) → p.count ≡ 0 → IsBetween 1 3 version → IsAccepted I g p (cert.Head version)
  head_accepted version first is = all_causes (KeepsRule I g p (cert.Head version)) g (inr (first, is)) (running, tt) tt tt tt tt tt tt (λ t among. tt) tt

  pub claim_accepted : (claim : Claim) (goal : Option ℕ) → p.count ≡ 1 → IsClaim claim → IsGoal p.version claim goal → IsAccepted I g p (cert.Claim claim goal)
  claim_accepted claim goal second is to = all_causes (KeepsRule I g p (cert.Claim claim goal)) g (inr (second, is, to)) (running, tt) tt tt tt tt tt tt (λ t among. tt) tt

  pub end_accepted : 2 ≤ p.count → p.boxes ≡ [] → IsAccepted I g p cert.End
  end_accepted late closed = all_causes (KeepsRule I g p cert.End) g (inr late) (running, tt) closed tt tt tt tt tt (λ t among. tt) tt
