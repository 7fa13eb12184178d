use Rattle.std.proofs.Common.{refl}
use Rattle.rf_rtree.specs.Tables.{QUERIES}
use Rattle.rf_rtree.proofs.tables.queries.Goals as goal

pub returns : goal.returns
unfolding QUERIES
returns c = refl
