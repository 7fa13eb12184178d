-- The paths of a folder in byte order.
use Rattle.std.specs.Prelude.{ℕ, List, IsSorted}
use Rattle.std.specs.Cmp.Lexicographic.{slice_cmp}
use Rattle.std.specs.Ordering.{nat_cmp}
use Rattle.rf_world.specs.World.{Files, IsListing}

-- no path stands before one that is less, where paths are compared byte by byte, and a front of a path is less than it
abbrev pub AreInOrder : List (List ℕ) → Type 0
AreInOrder = IsSorted (slice_cmp nat_cmp)

-- the paths of the files under this root, each once, in byte order
pub record IsOrdered (root : List ℕ) (files : Files) (paths : List (List ℕ)) : Type 0 where
  pub listing : IsListing root files paths
  pub order : AreInOrder paths
