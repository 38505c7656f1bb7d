-- The headline: what a run of `solve` or `make` prints is so, a certificate shows it, and a bracket comes only after every granted split.
use Rattle.std.specs.Prelude.{◌≡◌, ℕ, ◌+◌, ◌<◌, ◌≤◌, List, ◌++◌, Option, None, Some, IfSome, Result, Ok, Err}
use Rattle.packing_laws.specs.declared.packings.Bin.{Bin}
use Rattle.packing_laws.specs.Instances.{InstanceValue}
use Rattle.flow_graph.specs.Arcs.{TypeValue}
use Rattle.flow_graph.specs.Chords.{points_of}
use Rattle.flow_model.specs.Boxes.{root_ranges}
use Rattle.cert_text.specs.declared.lines.Certificate.{Certificate}
use Rattle.cert_text.specs.Spelling.{certificate_text_of}
use Rattle.cert_stream.specs.declared.verdict.Verdict.TheVariants.{Shown}
use Rattle.cert_stream.specs.Verdicts.{IsVerdict}
use Rattle.search_tree.specs.Trees.{splits_in}
use Rattle.arc_compile.specs.Graphs.{IsSmall}
use Rattle.command_words.specs.declared.faults.WordFault.{WordFault}
use Rattle.command_words.specs.Requests.{Request, Compiles, Solves, Checks, Exports, Extracts, Bounds, Makes, certificate_of, nodes_of}
use Rattle.arc_program.specs.declared.status.Status.{Status}
use Rattle.arc_program.specs.declared.status.Status.TheVariants.{Bracketed}
use Rattle.arc_program.specs.World.{ShelfSeen, World}
use Rattle.arc_program.specs.Requests.{IsGiven}
use Rattle.arc_program.specs.Printing.{Line, PutsText}
use Rattle.arc_program.specs.Reports.{bins_text, splits_line}
use Rattle.arc_program.specs.Statuses.{IsReported}
use Rattle.arc_program.specs.commands.Extract.{IsCompiled}
use Rattle.arc_program.specs.commands.Solve.{SaysSo, IsClaimOf}

-- as many splits as single out each point of the root box of the graph
abbrev pub IsEnough : ℕ → InstanceValue → List TypeValue → Type 0
IsEnough nodes I g = points_of g (root_ranges I g) ≤ nodes + 1

-- the request grants enough splits to its search; one that searches for nothing needs none
abbrev pub GrantsEnough : Request → InstanceValue → List TypeValue → Type 0
GrantsEnough (Compiles name mvp workers) I g = Unit {0}
GrantsEnough (Solves name mvp nodes certificate workers) I g = IsEnough nodes I g
GrantsEnough (Checks name certificate mvp workers) I g = Unit {0}
GrantsEnough (Exports name mvp joint) I g = Unit {0}
GrantsEnough (Extracts name solution mvp) I g = Unit {0}
GrantsEnough (Bounds name mvp certificate) I g = Unit {0}
GrantsEnough (Makes seed size nodes workers) I g = IsEnough nodes I g

-- the text that a search prints, by its first line, its bins and its certificate: `solve` prints the line, the bins and the counts of
-- splits, `make` the line behind others
abbrev pub Tells : Request → Line → List Bin → Certificate → List ℕ → Type 0
Tells (Compiles name mvp workers) line bins c text = ⊥
Tells (Solves name mvp nodes certificate workers) line bins c text = text ≡ line ++ bins_text bins ++ splits_line c.lines
Tells (Checks name certificate mvp workers) line bins c text = ⊥
Tells (Exports name mvp joint) line bins c text = ⊥
Tells (Extracts name solution mvp) line bins c text = ⊥
Tells (Bounds name mvp certificate) line bins c text = ⊥
Tells (Makes seed size nodes workers) line bins c text = (before : List ℕ) × (text ≡ before ++ line)

-- the bytes are what was written under the name, where there is one and this is told
abbrev pub HasStored : Option (List ℕ) → List ℕ → ShelfSeen → ShelfSeen → Type 0
HasStored None bytes before after = Unit {0}
HasStored (Some name) bytes before after = IfSome (before.written name) (λ _. after.written name ≡ Some bytes)

-- a certificate shows what a first line tells: over the graph of the instance its text has that claim as verdict; and it is what was
-- written where that is asked for
pub record IsShownBy (request : Request) (I : InstanceValue) (graph : List TypeValue) (line : Line) (before after : ShelfSeen) (c : Certificate) : Type 0 where
  pub claim : IsClaimOf line c.claim
  pub verdict : IsVerdict I graph (certificate_text_of c) (Shown c.claim)
  pub stored : HasStored (certificate_of request) (certificate_text_of c) before after

-- every granted split was made, and they are not enough
pub record HasMadeAll (nodes : ℕ) (I : InstanceValue) (graph : List TypeValue) (c : Certificate) : Type 0 where
  pub all : splits_in c.lines ≡ nodes
  pub few : nodes + 1 < points_of graph (root_ranges I graph)

-- what is printed of the accepted instance, and left as the certificate
pub record IsDecided (request : Request) (before after : World) (made : Option Certificate) (status : Status) : Type 0 where
  pub instance : InstanceValue
  pub given : IsGiven request before.shelf.held instance
  pub small : IsSmall instance
  pub line : Line
  pub bins : List Bin
  pub so : SaysSo instance line bins
  pub certificate : Certificate
  pub text : List ℕ
  pub tells : Tells request line bins certificate text
  pub printed : PutsText text before.out after.out
  pub left : made ≡ Some certificate
  pub graph : List TypeValue
  pub compiled : IsCompiled instance graph
  pub shown : IsShownBy request instance graph line before.shelf after.shelf certificate
  pub granted : status ≡ Bracketed → HasMadeAll (nodes_of request) instance graph certificate

-- a search decides; what searches for nothing leaves no certificate and prints no bracket
abbrev pub Decides : Request → World → World → Option Certificate → Status → Type 0
Decides (Compiles name mvp workers) before after made status = made ≡ None
Decides (Solves name mvp nodes certificate workers) before after made status = IsDecided (Solves name mvp nodes certificate workers) before after made status
Decides (Checks name certificate mvp workers) before after made status = made ≡ None
Decides (Exports name mvp joint) before after made status = made ≡ None
Decides (Extracts name solution mvp) before after made status = made ≡ None
Decides (Bounds name mvp certificate) before after made status = made ≡ None
Decides (Makes seed size nodes workers) before after made status = IsDecided (Makes seed size nodes workers) before after made status

-- what a run prints and leaves as a certificate, where its report was taken whole
abbrev pub Headline : Result Request WordFault → World → World → Option Certificate → Status → Type 0
Headline (Ok request) before after made status = IsReported status → Decides request before after made status
Headline (Err fault) before after made status = Unit {0}
