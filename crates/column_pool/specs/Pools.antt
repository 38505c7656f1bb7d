-- Pools of columns, as their callers see them: each way with its column, in the order in which they were put in.
use Rattle.std.specs.Prelude.{◌≢◌, List, AllPairs, map}
use Rattle.column_pool.specs.declared.ways.Way.{Way}
use Rattle.column_pool.specs.declared.columns.Column.{Column}

-- the ways that the columns stand for
abbrev pub ways_of : List (Way × Column) → List Way
ways_of pool = map (λ e. e.0) pool

-- no two columns stand for the same way
abbrev pub AllDiffer : List (Way × Column) → Type 0
AllDiffer pool = AllPairs (λ v w. v ≢ w) (ways_of pool)
