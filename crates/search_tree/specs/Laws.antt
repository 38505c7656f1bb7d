-- What holds of boxes and their parts.
use Rattle.std.specs.Prelude.{ℕ, ◌≤◌, List, All}
use Rattle.packing_laws.specs.Instances.{InstanceValue}
use Rattle.flow_graph.specs.Arcs.{TypeValue}
use Rattle.flow_graph.specs.Chords.{IsGenuine, high_part, low_part}
use Rattle.cert_laws.specs.Rules.{Box}
use Rattle.search_tree.specs.declared.places.Shown.{Shown}
use Rattle.search_tree.specs.Trees.{IsShown}

-- prices that close a box close each part of it, and what they show they also show weaker
pub record PartsAreShown : Type 0 where
  pub low : (I : InstanceValue) (g : List TypeValue) (box : Box) (s : Shown) (a k : ℕ) → All (λ r. r.0 ≤ r.1) box → IsGenuine box a k → IsShown I g box s → IsShown I g (low_part box a k) s
  pub high : (I : InstanceValue) (g : List TypeValue) (box : Box) (s : Shown) (a k : ℕ) → All (λ r. r.0 ≤ r.1) box → IsGenuine box a k → IsShown I g box s → IsShown I g (high_part box a k) s
