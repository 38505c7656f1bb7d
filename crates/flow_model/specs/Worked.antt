-- A model that is worked by hand: three units of one item, of which a bin holds two.
use Rattle.std.specs.Prelude.{◌≡◌, ℕ, List, [], ◌∷◌, None, pos, negsuc, map, replicate, ℤ}
use Rattle.packing_laws.specs.Instances.{InstanceValue}
use Rattle.flow_graph.specs.Arcs.{TypeValue, IsFlowType}
use Rattle.flow_graph.specs.Faithful.{GraphOf}
use Rattle.flow_graph.specs.Worked.{up_to_two}
use Rattle.flow_model.specs.declared.programs.RowKind.{RowKind}
use Rattle.flow_model.specs.declared.programs.RowKind.TheVariants.{Equal, Least}
use Rattle.flow_model.specs.declared.programs.Entry.{Entry}
use Rattle.flow_model.specs.Boxes.{root_ranges}
use Rattle.flow_model.specs.Flows.{flow_cost}
use Rattle.flow_model.specs.Models.{model_rows, model_columns}

-- in one dimension: bins of 2 for 3, and 3 units of an item that weighs 1
abbrev pub three_of_one : InstanceValue
three_of_one = record {
  dims = 1;
  types = record { cap = 2 ∷ []; cost = 3; limit = None } ∷ [];
  items = record { demand = 3; forms = (1 ∷ []) ∷ [] } ∷ [];
  caps = [];
}

-- the arcs of a bin that holds at most two
abbrev pub its_graph : List TypeValue
its_graph = up_to_two ∷ []

abbrev leaves : ℕ → Entry
leaves row = record { row = row; value = negsuc 0 }

abbrev enters : ℕ → Entry
enters row = record { row = row; value = pos 1 }

pub record Examples : Type 0 where
  pub type_is : IsFlowType up_to_two
  pub graph : GraphOf three_of_one its_graph
  pub box : root_ranges three_of_one its_graph ≡ replicate 5 (0, 3)
  pub costs : flow_cost three_of_one its_graph (2 ∷ 2 ∷ 0 ∷ 0 ∷ 2 ∷ []) ≡ 6
  pub prices : map (λ column. column.cost) (model_columns three_of_one its_graph) ≡ pos 3 ∷ pos 0 ∷ pos 0 ∷ pos 0 ∷ pos 0 ∷ []
  pub bounds : map {B = ℕ × ℕ} (λ column. (column.lower, column.upper)) (model_columns three_of_one its_graph) ≡ replicate 5 (0, 3)
  pub sides : map {B = RowKind × ℤ} (λ row. (row.kind, row.right)) (model_rows three_of_one its_graph) ≡ (Equal, pos 0) ∷ (Equal, pos 0) ∷ (Equal, pos 0) ∷ (Least, pos 3) ∷ []
  pub entries : map (λ column. column.entries) (model_columns three_of_one its_graph) ≡
      (enters 1 ∷ leaves 3 ∷ []) ∷
      (leaves 1 ∷ enters 2 ∷ enters 4 ∷ []) ∷
      (leaves 1 ∷ enters 3 ∷ []) ∷
      (leaves 2 ∷ enters 3 ∷ []) ∷
      (leaves 2 ∷ enters 3 ∷ enters 4 ∷ []) ∷ []
