use Rattle.std.proofs.Common.{refl}
use Rattle.rf_rtree.specs.Tables.{KINDS}
use Rattle.rf_rtree.proofs.tables.kinds.Goals as goal

pub returns : goal.returns
unfolding KINDS
returns c = refl
