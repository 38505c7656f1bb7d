-- Laws of verdicts.
use Rattle.std.specs.Prelude.{◌≡◌, ℕ, List}
use Rattle.packing_laws.specs.Instances.{InstanceValue, IsInstance}
use Rattle.flow_graph.specs.Arcs.{TypeValue, IsFlowGraph}
use Rattle.flow_graph.specs.Faithful.{IsFaithful}
use Rattle.cert_text.specs.declared.lines.Claim.{Claim}
use Rattle.cert_laws.specs.Shown.{Shows}
use Rattle.cert_stream.specs.declared.verdict.Verdict.{Verdict}
use Rattle.cert_stream.specs.declared.verdict.Verdict.TheVariants.{Shown}
use Rattle.cert_stream.specs.Verdicts.{IsVerdict}

-- what a text shows over a faithful graph is so: no packing costs less than the bound, or there is none
abbrev pub VerdictsAreSo : Type 0
VerdictsAreSo = (I : InstanceValue) (g : List TypeValue) (bytes : List ℕ) (claim : Claim) → IsInstance I → IsFlowGraph g → IsFaithful I g → IsVerdict I g bytes (Shown claim) → Shows I claim

-- no text has two verdicts
abbrev pub VerdictsAreExact : Type 0
VerdictsAreExact = (I : InstanceValue) (g : List TypeValue) (bytes : List ℕ) (one other : Verdict) → IsVerdict I g bytes one → IsVerdict I g bytes other → one ≡ other
