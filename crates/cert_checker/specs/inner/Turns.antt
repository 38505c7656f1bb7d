-- Steps of a walk from box to box.
use Rattle.std.specs.Prelude.{◌≡◌, ℕ, true, false, List, ◌∷◌}
use Rattle.flow_graph.specs.Chords.{low_part, range_at}
use Rattle.cert_laws.specs.Rules.{Box}
use Rattle.cert_checker.specs.declared.trails.Branch.{Branch}

-- the branch to the low part of a split of a box
abbrev pub low_branch : Box → ℕ → Branch
low_branch box arc = record { arc = arc; lower = (range_at box arc).0; upper = (range_at box arc).1; low = true }

-- a walk has gone on from a box to the low part of a split
pub record IsLowBranch (old : Box) (arc cut : ℕ) (new : Box) (before after : List Branch) : Type 0 where
  pub first : new ≡ low_part old arc cut
  pub trail : after ≡ low_branch old arc ∷ before

-- the branch to the high part of the split of a branch
abbrev pub other_branch : Branch → Branch
other_branch b = record { arc = b.arc; lower = b.lower; upper = b.upper; low = false }
