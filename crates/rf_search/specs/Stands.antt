-- Where a search stands: the domains now and at each frame, none of which is empty.
use Rattle.std.specs.Prelude.{ℕ, List, [], ◌∷◌, length, take}
use Rattle.rf_form.specs.Families.{Family, Filled}
use Rattle.rf_trail.specs.Removals.{left}
use Rattle.rf_cons.specs.Systems.{System}
use Rattle.rf_refute.specs.declared.frames.Frame.{Frame}
use Rattle.rf_refute.specs.Stacks.{Opened}

abbrev pub FilledFrames : ℕ → Family → List (ℕ × ℕ) → List Frame → Type 0
FilledFrames n first rs [] = Unit {0}
FilledFrames n first rs (f ∷ fs) = Filled n (left first (take f.mark rs)) × FilledFrames n first (take f.mark rs) fs

pub record Stands (s : System) (room : ℕ) (first : Family) (todo : List Family) (now : Family) (rs : List (ℕ × ℕ)) (fs : List Frame) : Type 0 where
  pub opened : Opened s.vals room first todo now rs fs
  pub filled : Filled (length s.vals) now
  pub frames : FilledFrames (length s.vals) first rs fs
