-- The sizes of the lists of a basis.
use Rattle.std.specs.Prelude.{◌≡◌, ℕ, ◌≤◌}

-- each list has one place for each row, and prices keep no more than 40 bits behind the point
pub record IsShaped (rows inverse levels prices basics weights price_bits : ℕ) : Type 0 where
  pub square : inverse ≡ rows
  pub leveled : levels ≡ rows
  pub priced : prices ≡ rows
  pub filled : basics ≡ rows
  pub weighed : weights ≡ rows
  pub pointed : price_bits ≤ 40
