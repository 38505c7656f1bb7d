-- Sums over the arcs by place. Places count from 0.
use Rattle.std.specs.Prelude.{ℕ, suc, ◌+◌, ◌*◌, List, [], ◌∷◌}

-- f at the place of each value, times the value, added up
abbrev pub weigh : (ℕ → ℕ) → List ℕ → ℕ
weigh f [] = 0
weigh f (x ∷ xs) = f 0 * x + weigh (λ k. f (suc k)) xs
