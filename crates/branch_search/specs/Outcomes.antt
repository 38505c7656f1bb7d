-- What a search answers.
use Rattle.std.specs.Prelude.{◌≡◌, ℕ, ◌+◌, ◌≤◌, ◌<◌, List, Option, None, Some, IfSome}
use Rattle.std.specs.Option.{IsSomeAnd}
use Rattle.packing_laws.specs.declared.packings.Bin.{Bin}
use Rattle.packing_laws.specs.Instances.{InstanceValue}
use Rattle.packing_laws.specs.Packings.{cost_of}
use Rattle.packing_laws.specs.Printed.{bins_of}
use Rattle.packing_laws.specs.Floors.{HasPlaces, HasSingle, material_of, single_of}
use Rattle.flow_graph.specs.Arcs.{TypeValue}
use Rattle.flow_graph.specs.Chords.{points_of}
use Rattle.flow_model.specs.Boxes.{root_ranges}
use Rattle.cert_text.specs.declared.lines.Certificate.{Certificate}
use Rattle.cert_text.specs.declared.lines.Claim.{Claim}
use Rattle.cert_text.specs.declared.lines.Claim.TheVariants as claim
use Rattle.cert_text.specs.Lines.{lines_of}
use Rattle.cert_text.specs.Spelling.{certificate_text_of}
use Rattle.cert_laws.specs.Shown.{IsCertified}
use Rattle.cert_stream.specs.declared.verdict.Verdict.TheVariants.{Shown}
use Rattle.cert_stream.specs.Verdicts.{IsVerdict}
use Rattle.search_tree.specs.Trees.{splits_in}
use Rattle.search_states.specs.States.{IsPrinted}
use Rattle.branch_search.specs.declared.outcomes.Outcome.{Outcome}
use Rattle.branch_search.specs.declared.outcomes.Outcome.TheVariants.{Optimal, Infeasible, Bracket}

-- a certificate of version 2 that is accepted with a claim, for a goal and with no more than so many splits; its text shows the claim
pub record IsCertificateOf (I : InstanceValue) (g : List TypeValue) (most : ℕ) (claim : Claim) (goal : Option ℕ) (c : Certificate) : Type 0 where
  pub version : c.version ≡ 2
  pub claim_told : c.claim ≡ claim
  pub goal_told : c.goal ≡ goal
  pub certified : IsCertified I g (lines_of c) claim
  pub splits : splits_in c.lines ≤ most
  pub verdict : IsVerdict I g (certificate_text_of c) (Shown claim)

-- a bracket: all splits that were granted are made, and they are too few to single out the points of the root box; the bound is no
-- less than the material bound, a packing costs more than it, and where the single cost exists there is one that costs at most that
pub record IsBracket (I : InstanceValue) (g : List TypeValue) (budget lower : ℕ) (packing : Option (List Bin)) (c : Certificate) : Type 0 where
  pub certificate : IsCertificateOf I g budget (claim.Bound lower) (Some (lower + 1)) c
  pub all : splits_in c.lines ≡ budget
  pub points : budget + 1 < points_of g (root_ranges I g)
  pub material : material_of I ≤ lower
  pub places : HasPlaces I
  pub printed : IfSome packing (λ bins. IsPrinted I bins × (lower < cost_of I (bins_of bins)))
  pub single : HasSingle I → IsSomeAnd packing (λ bins. cost_of I (bins_of bins) ≤ single_of I)

-- what a search with a budget of splits answers: a packing that none is cheaper than, or that there is none, or a bracket
abbrev pub IsOutcome : InstanceValue → List TypeValue → ℕ → Outcome → Type 0
IsOutcome I g budget (Optimal bins c) = IsPrinted I bins × IsCertificateOf I g budget (claim.Bound (cost_of I (bins_of bins))) (Some (cost_of I (bins_of bins))) c
IsOutcome I g budget (Infeasible c) = IsCertificateOf I g budget claim.Empty None c
IsOutcome I g budget (Bracket lower packing c) = IsBracket I g budget lower packing c
