-- Bases, as their callers see them: which rows there are, what is basic in each, and what is made least.
use Rattle.std.specs.Prelude.{◌≡◌, ℕ, ◌<◌, List, length, slice_set}
use Rattle.simplex_basis.specs.declared.parts.Row.{Row}
use Rattle.simplex_basis.specs.declared.parts.Basic.{Basic}
use Rattle.simplex_basis.specs.declared.parts.Aim.{Aim}

pub record Standing : Type 0 where
  pub rows : List Row
  pub basics : List Basic
  pub aim : Aim

-- another variable stands in one row, and all else is as before
abbrev pub WithBasic : Standing → Standing → ℕ → Basic → Type 0
WithBasic old new row entering = (row < length old.basics) × (new ≡ record old { basics = slice_set old.basics row entering })

-- the rows, the aim and the number of basic variables are as before
pub record SameFrame (old new : Standing) : Type 0 where
  pub rows : new.rows ≡ old.rows
  pub aim : new.aim ≡ old.aim
  pub size : length new.basics ≡ length old.basics
