-- What a search found out is so, and its certificate shows it.
use Rattle.std.proofs.Common.{◌≡◌, ℕ, ◌+◌, List, Option, None, Some, refl, sym, subst, inl, inr}
use Rattle.packing_laws.specs.declared.packings.Bin.{Bin}
use Rattle.packing_laws.specs.Instances.{InstanceValue, IsInstance}
use Rattle.packing_laws.specs.Packings.{cost_of}
use Rattle.packing_laws.specs.Printed.{bins_of}
use Rattle.flow_graph.specs.Arcs.{TypeValue, IsFlowGraph}
use Rattle.flow_graph.specs.Faithful.{IsFaithful}
use Rattle.cert_text.specs.declared.lines.Certificate.{Certificate}
use Rattle.cert_text.specs.declared.lines.Claim.{Claim}
use Rattle.cert_text.specs.declared.lines.Claim.TheVariants.{Bound, Empty}
use Rattle.cert_text.specs.Lines.{lines_of}
use Rattle.cert_text.specs.Spelling.{certificate_text_of}
use Rattle.cert_laws.specs.Shown.{CertifiedIsSo}
use Rattle.cert_stream.specs.declared.verdict.Verdict.TheVariants.{Shown}
use Rattle.cert_stream.specs.Verdicts.{IsVerdict}
use Rattle.branch_search.specs.declared.outcomes.Outcome.{Outcome}
use Rattle.branch_search.specs.declared.outcomes.Outcome.TheVariants.{Optimal, Infeasible, Bracket}
use Rattle.branch_search.specs.Outcomes.{IsBracket, IsOutcome, IsCertificateOf}
use Rattle.arc_compile.specs.declared.results.TypeSize.{TypeSize}
use Rattle.arc_compile.specs.Compiled.{AreCompiled}
use Rattle.arc_compile.specs.Graphs.{IsSmall}
use Rattle.arc_program.specs.declared.status.Status.TheVariants.{Bracketed}
use Rattle.arc_program.specs.Reports.{first_line, between_line, bins_in, certificate_in}
use Rattle.arc_program.specs.commands.Solve.{SaysSo, IsClaimOf, IsFoundOut, outcome_status}
use Rattle.arc_program.specs.Headline.{HasMadeAll}

module _ (I : InstanceValue) (g : List TypeValue) (nodes : ℕ) where
  module _ (so : CertifiedIsSo) (known : IsInstance I) (graph : IsFlowGraph g) (faithful : IsFaithful I g) where
    -- the first line and the bins are so
    bracket_is_so : (lower : ℕ) (packing : Option (List Bin)) (c : Certificate) → IsBracket I g nodes lower packing c → SaysSo I (between_line I lower packing) (bins_in (Bracket lower packing c))
    bracket_is_so lower None c is = inr (inr (inl (record {
      lower = lower;
      line_is = refl;
      none = refl;
      floor = so I g (lines_of c) (Bound lower) known graph faithful is.certificate.certified;
      no_single = λ single. is.single single;
    })))
    bracket_is_so lower (Some bins) c is = inr (inl (record {
      lower = lower;
      cost = cost_of I (bins_of bins);
      line_is = refl;
      packing = record { packing = is.printed.0.packing; tidy = is.printed.0.tidy; cost_is = refl };
      joined = is.printed.0.joined;
      above = is.printed.1;
      floor = so I g (lines_of c) (Bound lower) known graph faithful is.certificate.certified;
    }))

    outcome_is_so : (o : Outcome) → IsOutcome I g nodes o → SaysSo I (first_line I o) (bins_in o)
    outcome_is_so (Optimal bins c) is = inl (record {
      cost = cost_of I (bins_of bins);
      line_is = refl;
      packing = record { packing = is.0.packing; tidy = is.0.tidy; cost_is = refl };
      least = ((bins_of bins, is.0.packing.packing, refl), so I g (lines_of c) (Bound (cost_of I (bins_of bins))) known graph faithful is.1.certified);
    })
    outcome_is_so (Infeasible c) is = inr (inr (inr (record { line_is = refl; none = refl; no_packing = so I g (lines_of c) Empty known graph faithful is.certified })))
    outcome_is_so (Bracket lower packing c) is = bracket_is_so lower packing c is

    pub is_found_out : (sizes : List TypeSize) → AreCompiled I g sizes → IsSmall I → (o : Outcome) → IsOutcome I g nodes o → IsFoundOut I nodes g sizes o
    is_found_out sizes compiled small o is = record { compiled = compiled; small = small; outcome_is = is; so = outcome_is_so o is }

  -- the certificate claims what the first line tells
  bracket_claim : (lower : ℕ) (packing : Option (List Bin)) → IsClaimOf (between_line I lower packing) (Bound lower)
  bracket_claim lower None = inr (inr refl)
  bracket_claim lower (Some bins) = inr (inl (cost_of I (bins_of bins), refl))

  pub claim_is : (o : Outcome) → IsOutcome I g nodes o → IsClaimOf (first_line I o) (certificate_in o).claim
  claim_is (Optimal bins c) is = subst (IsClaimOf (first_line I (Optimal bins c))) (sym is.1.claim_told) (inl refl)
  claim_is (Infeasible c) is = subst (IsClaimOf (first_line I (Infeasible c))) (sym is.claim_told) refl
  claim_is (Bracket lower packing c) is = subst (IsClaimOf (between_line I lower packing)) (sym is.certificate.claim_told) (bracket_claim lower packing)

  -- and its text has that claim as verdict
  verdict_of : (claim : Claim) (most : ℕ) (goal : Option ℕ) (c : Certificate) → IsCertificateOf I g most claim goal c → IsVerdict I g (certificate_text_of c) (Shown c.claim)
  verdict_of claim most goal c is = subst (λ (x : Claim). IsVerdict I g (certificate_text_of c) (Shown x)) (sym is.claim_told) is.verdict

  pub verdict_is : (o : Outcome) → IsOutcome I g nodes o → IsVerdict I g (certificate_text_of (certificate_in o)) (Shown (certificate_in o).claim)
  verdict_is (Optimal bins c) is = verdict_of (Bound (cost_of I (bins_of bins))) nodes (Some (cost_of I (bins_of bins))) c is.1
  verdict_is (Infeasible c) is = verdict_of Empty nodes None c is
  verdict_is (Bracket lower packing c) is = verdict_of (Bound lower) nodes (Some (lower + 1)) c is.certificate

  -- a bracket comes after every granted split
  pub made_all : (o : Outcome) → IsOutcome I g nodes o → outcome_status o ≡ Bracketed → HasMadeAll nodes I g (certificate_in o)
  made_all (Optimal bins c) is e = absurd (cc)
  made_all (Infeasible c) is e = absurd (cc)
  made_all (Bracket lower packing c) is e = record { all = is.all; few = is.points }
