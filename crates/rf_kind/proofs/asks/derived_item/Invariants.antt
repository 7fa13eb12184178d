use Rattle.std.proofs.Common.{◌≡◌, length}
use Rattle.std.specs.List.{find}
use Rattle.rf_rtree.specs.Asks.{derives}
use Rattle.rf_kind.proofs.asks.derived_item.Given as goal

abbrev pub invariant-loop-items : goal.invariant-loop-items
invariant-loop-items l = find (derives l.name) l.items ≡ find (derives l.name) l.fn.items

abbrev pub decreases-loop-items : goal.decreases-loop-items
decreases-loop-items l = length l.items
