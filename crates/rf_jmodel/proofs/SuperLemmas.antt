-- Supertypes of supertypes.
use Rattle.std.proofs.Common.{ℕ}
use Rattle.rf_jmodel.specs.declared.projects.Project.{Project}
use Rattle.rf_jmodel.specs.Supertypes.{IsBelow, itself, above}

pub below-trans : (project : Project) (x y z : ℕ) → IsBelow project x y → IsBelow project y z → IsBelow project x z
below-trans project x y z (itself w) more = more
below-trans project x y z (above w between v direct below) more = above w between z direct (below-trans project between v z below more)
