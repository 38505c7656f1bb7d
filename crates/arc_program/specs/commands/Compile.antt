-- What `compile` owes: the sizes of the graphs.
use Rattle.std.specs.Prelude.{◌≡◌, ℕ, List, length}
use Rattle.packing_laws.specs.Instances.{InstanceValue}
use Rattle.flow_graph.specs.Arcs.{TypeValue, numbered}
use Rattle.arc_compile.specs.declared.results.TypeSize.{TypeSize}
use Rattle.arc_compile.specs.Levels.{AreLevelSizes}
use Rattle.arc_compile.specs.Graphs.{IsSmall}
use Rattle.arc_compile.specs.Compiled.{AreCompiled}
use Rattle.arc_program.specs.declared.status.Status.{Status}
use Rattle.arc_program.specs.declared.status.Status.TheVariants.{Done}
use Rattle.arc_program.specs.Reports.{graphs_text}

-- the text is the report on the graphs of the instance: their sizes, and how many numbered arcs there are
pub record IsGraphReport (I : InstanceValue) (status : Status) (text : List ℕ) : Type 0 where
  pub levels : List (ℕ × ℕ)
  pub graph : List TypeValue
  pub sizes : List TypeSize
  pub are_levels : AreLevelSizes I levels
  pub are_compiled : AreCompiled I graph sizes
  pub small : IsSmall I
  pub text_is : text ≡ graphs_text I levels sizes (length (numbered graph))
  pub status_is : status ≡ Done
