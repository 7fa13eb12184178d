use Rattle.std.proofs.Common.{◌≡◌, take}
use Rattle.rf_rtree.proofs.copies.copy_queries.Given as goal

abbrev pub invariant-loop-query : goal.invariant-loop-query
invariant-loop-query l = l.copies ≡ take l.query-index l.queries
