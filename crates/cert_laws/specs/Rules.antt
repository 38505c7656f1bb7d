-- The rules that the lines of a certificate keep one after the other, and the first rule that is broken.
use Rattle.std.specs.Prelude.{◌≡◌, ◌⊎◌, ℕ, ◌+◌, ◌*◌, ◌≤◌, ◌<◌, Bool, true, false, pos, List, [], ◌∷◌, ◌++◌, Option, None, All, length, map}
use Rattle.packing_laws.specs.Instances.{InstanceValue}
use Rattle.packing_laws.specs.Packings.{cost_at}
use Rattle.step_bounds.specs.Steps.{IsStep, step_value_of}
use Rattle.flow_graph.specs.Arcs.{TypeValue, numbered}
use Rattle.flow_graph.specs.Chords.{IsGenuine, high_part, low_part}
use Rattle.flow_model.specs.Boxes.{root_ranges}
use Rattle.flow_model.specs.Flows.{up_to}
use Rattle.cert_text.specs.declared.lines.Claim.{Claim}
use Rattle.cert_text.specs.declared.lines.Claim.TheVariants.{Bound, Empty}
use Rattle.cert_text.specs.declared.lines.TreeLine.{TreeLine}
use Rattle.cert_text.specs.declared.lines.TreeLine.TheVariants.{Split, Needed, Leaf, Step}
use Rattle.cert_text.specs.declared.lines.CertLine.{CertLine}
use Rattle.cert_text.specs.declared.lines.CertLine.TheVariants as cert
use Rattle.cert_text.specs.Lines.{IsInPlace}
use Rattle.path_prices.specs.Gains.{GainsAtMost}
use Rattle.path_prices.specs.Worth.{IsEnough, worth_of}
use Rattle.cert_laws.specs.declared.causes.Cause.{Cause}
use Rattle.cert_laws.specs.declared.causes.Cause.TheVariants as cause
use Rattle.cert_laws.specs.Needs.{IsNeeded}

-- a box: a range for each arc
abbrev pub Box : Type 0
Box = List (ℕ × ℕ)

-- what the lines so far have told, and which boxes they leave open
pub record Progress : Type 0 where
  pub count : ℕ
  pub version : ℕ
  pub claim : Claim
  pub goal : Option ℕ
  pub boxes : List Box
  pub ended : Bool

-- before the first line the root box is open
abbrev pub at_start : InstanceValue → List TypeValue → Progress
at_start I g = record { count = 0; version = 0; claim = Empty; goal = None; boxes = root_ranges I g ∷ []; ended = false }

-- the open boxes after a place of the tree: a split puts the two parts of the first box into its place, low before high, and
-- what closes the first box takes it away
abbrev pub opened_by : TreeLine → List Box → List Box
opened_by line [] = []
opened_by (Split a k) (box ∷ boxes) = low_part box a k ∷ high_part box a k ∷ boxes
opened_by (Needed a k need) (box ∷ boxes) = low_part box a k ∷ high_part box a k ∷ boxes
opened_by (Leaf prices) (box ∷ boxes) = boxes
opened_by (Step dim step) (box ∷ boxes) = boxes

-- after one more line
abbrev pub after_line : Progress → CertLine → Progress
after_line p (cert.Head version) = record { count = p.count + 1; version = version; claim = p.claim; goal = p.goal; boxes = p.boxes; ended = p.ended }
after_line p (cert.Claim claim goal) = record { count = p.count + 1; version = p.version; claim = claim; goal = goal; boxes = p.boxes; ended = p.ended }
after_line p (cert.Tree line) = record { count = p.count + 1; version = p.version; claim = p.claim; goal = p.goal; boxes = opened_by line p.boxes; ended = p.ended }
after_line p cert.End = record { count = p.count + 1; version = p.version; claim = p.claim; goal = p.goal; boxes = p.boxes; ended = true }

-- after some lines
abbrev pub after_lines : Progress → List CertLine → Progress
after_lines p [] = p
after_lines p (line ∷ lines) = after_lines (after_line p line) lines

-- the first open box; one without ranges where none is open
abbrev pub first_box : List Box → Box
first_box [] = []
first_box (box ∷ boxes) = box

-- the line is a place of the tree of which something holds, or no place of the tree
abbrev pub IfTree : CertLine → (TreeLine → Type 0) → Type 0
IfTree (cert.Head version) P = Unit {0}
IfTree (cert.Claim claim goal) P = Unit {0}
IfTree (cert.Tree line) P = P line
IfTree cert.End P = Unit {0}

-- the line is no end, or something holds
abbrev pub IfEnd : CertLine → Type 0 → Type 0
IfEnd (cert.Head version) P = Unit {0}
IfEnd (cert.Claim claim goal) P = Unit {0}
IfEnd (cert.Tree line) P = Unit {0}
IfEnd cert.End P = P

-- each priced item exists
abbrev pub NamesItems : InstanceValue → TreeLine → Type 0
NamesItems I (Split a k) = Unit {0}
NamesItems I (Needed a k need) = Unit {0}
NamesItems I (Leaf prices) = All (λ x. x.item ≤ length I.items) prices.items
NamesItems I (Step dim step) = Unit {0}

-- each arc that is split, priced or carries something exists
abbrev pub NamesArcs : List TypeValue → TreeLine → Type 0
NamesArcs g (Split a k) = a ≤ length (numbered g)
NamesArcs g (Needed a k need) = (a ≤ length (numbered g)) × All (λ x. x.arc ≤ length (numbered g)) need.parts
NamesArcs g (Leaf prices) = All (λ x. x.arc ≤ length (numbered g)) prices.arcs
NamesArcs g (Step dim step) = Unit {0}

-- a split leaves numbers of the range on both sides
abbrev pub SplitsBox : Box → TreeLine → Type 0
SplitsBox box (Split a k) = IsGenuine box a k
SplitsBox box (Needed a k need) = IsGenuine box a k
SplitsBox box (Leaf prices) = Unit {0}
SplitsBox box (Step dim step) = Unit {0}

-- a need holds for the box and the goal
abbrev pub NeedsHold : InstanceValue → List TypeValue → Box → Option ℕ → TreeLine → Type 0
NeedsHold I g box goal (Split a k) = Unit {0}
NeedsHold I g box goal (Needed a k need) = IsNeeded I g box goal need
NeedsHold I g box goal (Leaf prices) = Unit {0}
NeedsHold I g box goal (Step dim step) = Unit {0}

-- a step exists
abbrev pub NamesStep : InstanceValue → TreeLine → Type 0
NamesStep I (Split a k) = Unit {0}
NamesStep I (Needed a k need) = Unit {0}
NamesStep I (Leaf prices) = Unit {0}
NamesStep I (Step dim step) = IsStep I dim step

-- at the prices of a leaf no bin of type t gains more than it costs
abbrev pub GainsWithin : InstanceValue → List TypeValue → ℕ → TreeLine → Type 0
GainsWithin I g t (Split a k) = Unit {0}
GainsWithin I g t (Needed a k need) = Unit {0}
GainsWithin I g t (Leaf prices) = GainsAtMost g prices t (pos (prices.scale * cost_at I t))
GainsWithin I g t (Step dim step) = Unit {0}

-- the demands of all items, in order
abbrev pub demands_of : InstanceValue → List ℕ
demands_of I = map (λ x. x.demand) I.items

-- the claim is a bound of at most n
abbrev pub ClaimsAtMost : ℕ → Claim → Type 0
ClaimsAtMost n Empty = ⊥
ClaimsAtMost n (Bound bound) = bound ≤ n

-- what the line shows is enough for the claim: the prices of a leaf in the box, or the value of a step
abbrev pub IsStrong : InstanceValue → Box → Claim → TreeLine → Type 0
IsStrong I box claim (Split a k) = Unit {0}
IsStrong I box claim (Needed a k need) = Unit {0}
IsStrong I box claim (Leaf prices) = IsEnough claim prices.scale (worth_of (demands_of I) box prices)
IsStrong I box claim (Step dim step) = ClaimsAtMost (step_value_of I dim step) claim

-- the line keeps the rule after which a cause is named, where the lines before it keep theirs
abbrev pub KeepsRule : InstanceValue → List TypeValue → Progress → CertLine → Cause → Type 0
KeepsRule I g p line cause.Text = (p.ended ≡ true) ⊎ IsInPlace p.count p.version line
KeepsRule I g p line cause.Extra = (p.ended ≡ false) × IfTree line (λ l. 0 < length p.boxes)
KeepsRule I g p line cause.Unfinished = IfEnd line (p.boxes ≡ [])
KeepsRule I g p line cause.NoItem = IfTree line (NamesItems I)
KeepsRule I g p line cause.NoArc = IfTree line (NamesArcs g)
KeepsRule I g p line cause.NotSplit = IfTree line (SplitsBox (first_box p.boxes))
KeepsRule I g p line cause.NotNeeded = IfTree line (NeedsHold I g (first_box p.boxes) p.goal)
KeepsRule I g p line cause.NotStep = IfTree line (NamesStep I)
KeepsRule I g p line (cause.Gain t) = IfTree line (GainsWithin I g t)
KeepsRule I g p line cause.Weak = IfTree line (IsStrong I (first_box p.boxes) p.claim)

-- the causes in their order; the gains of the types stand by type
abbrev pub causes_of : List TypeValue → List Cause
causes_of g = cause.Text ∷ cause.Extra ∷ cause.Unfinished ∷ cause.NoItem ∷ cause.NoArc ∷ cause.NotSplit ∷ cause.NotNeeded ∷ cause.NotStep ∷ (map (λ t. cause.Gain t) (up_to (length g)) ++ cause.Weak ∷ [])

-- the line is accepted: it keeps all rules
abbrev pub IsAccepted : InstanceValue → List TypeValue → Progress → CertLine → Type 0
IsAccepted I g p line = All (KeepsRule I g p line) (causes_of g)

-- the first of these that does not hold
abbrev pub IsFirstBroken : {X : Type 0} → (X → Type 0) → List X → X → Type 0
IsFirstBroken {X} Holds xs x = (before after : List X) × (xs ≡ before ++ x ∷ after) × All Holds before × (Holds x → ⊥)

-- the line is refused for a cause: the first whose rule it breaks
abbrev pub IsRefused : InstanceValue → List TypeValue → Progress → CertLine → Cause → Type 0
IsRefused I g p line fault = IsFirstBroken (KeepsRule I g p line) (causes_of g) fault

-- each of these lines is accepted behind those before it
abbrev pub AreAccepted : InstanceValue → List TypeValue → Progress → List CertLine → Type 0
AreAccepted I g p [] = Unit {0}
AreAccepted I g p (line ∷ lines) = IsAccepted I g p line × AreAccepted I g (after_line p line) lines

-- the first of these lines that is refused, as its number, and its cause
pub record IsFirstRefused (I : InstanceValue) (g : List TypeValue) (p : Progress) (lines : List CertLine) (number : ℕ) (fault : Cause) : Type 0 where
  pub before : List CertLine
  pub line : CertLine
  pub after : List CertLine
  pub all : lines ≡ before ++ line ∷ after
  pub accepted : AreAccepted I g p before
  pub refused : IsRefused I g (after_lines p before) line fault
  pub place : number ≡ p.count + length before + 1
