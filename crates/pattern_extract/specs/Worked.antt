-- The worked model of three units, of which a bin holds two: its graph is faithful, and a flow of it is one run.
use Rattle.std.specs.Prelude.{◌≡◌, [], ◌∷◌, map}
use Rattle.packing_laws.specs.Packings.{Content}
use Rattle.flow_graph.specs.Arcs.{numbered}
use Rattle.flow_graph.specs.Faithful.{IsFaithful}
use Rattle.flow_model.specs.Worked.{three_of_one, its_graph}
use Rattle.pattern_extract.specs.declared.runs.PathRun.{PathRun}
use Rattle.pattern_extract.specs.Runs.{times_over}
use Rattle.pattern_extract.specs.Extracts.{units_along}

-- twice two units
abbrev pub twice_two : PathRun
twice_two = record { t = 1; times = 2; arcs = 2 ∷ 5 ∷ [] }

-- two units, one after the other
abbrev pub two_units : Content
two_units = record { item = 1; form = 1; count = 1 } ∷ record { item = 1; form = 1; count = 1 } ∷ []

pub record Examples : Type 0 where
  pub faithful : IsFaithful three_of_one its_graph
  pub times : map (times_over its_graph (twice_two ∷ [])) (1 ∷ 2 ∷ 3 ∷ 4 ∷ 5 ∷ []) ≡ 2 ∷ 2 ∷ 0 ∷ 0 ∷ 2 ∷ []
  pub content : units_along (numbered its_graph) twice_two.arcs ≡ two_units
