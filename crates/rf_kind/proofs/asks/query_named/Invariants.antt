use Rattle.std.proofs.Common.{◌≡◌, length}
use Rattle.std.specs.List.{find}
use Rattle.rf_rtree.specs.Asks.{asks}
use Rattle.rf_kind.proofs.asks.query_named.Given as goal

abbrev pub invariant-loop-queries : goal.invariant-loop-queries
invariant-loop-queries l = find (asks l.name) l.queries ≡ find (asks l.name) l.fn.queries

abbrev pub decreases-loop-queries : goal.decreases-loop-queries
decreases-loop-queries l = length l.queries
