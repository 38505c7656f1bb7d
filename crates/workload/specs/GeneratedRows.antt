-- Worked rows of the generator.
use Rattle.std.specs.Prelude.{◌≡◌, [], ◌∷◌, None}
use Rattle.workload.specs.Generated.{state_at, drawn, weight_of, demand_of, generated_value}

-- what the definitions give for seed 1, by a calculation of one's own
pub record GeneratedRows : Type 0 where
  pub state : state_at 1 1 ≡ 7806831264735756412
  pub draw : drawn 7806831264735756412 ≡ 908834774
  pub weight : weight_of 908834774 ≡ 2356
  pub demand : demand_of 908834774 ≡ 39
  pub one_item : generated_value 1 1 ≡ record { dims = 1; types = record { cap = 10000 ∷ []; cost = 1; limit = None } ∷ []; items = record { demand = 39; forms = (2356 ∷ []) ∷ [] } ∷ []; caps = [] }
