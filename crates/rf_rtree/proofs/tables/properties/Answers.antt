use Rattle.std.proofs.Common.{refl}
use Rattle.rf_rtree.specs.Tables.{PROPERTIES}
use Rattle.rf_rtree.proofs.tables.properties.Goals as goal

pub returns : goal.returns
unfolding PROPERTIES
returns c = refl
