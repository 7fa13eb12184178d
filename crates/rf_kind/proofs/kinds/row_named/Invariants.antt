use Rattle.std.proofs.Common.{◌≡◌, map, length}
use Rattle.rf_rtree.specs.Kinds.{entry_named}
use Rattle.rf_rtree.specs.Tables.{row_shown}
use Rattle.rf_kind.proofs.kinds.row_named.Given as goal

abbrev pub invariant-loop-rows : goal.invariant-loop-rows
invariant-loop-rows l = entry_named l.text (map row_shown l.rows) ≡ entry_named l.text (map row_shown l.fn.rows)

abbrev pub decreases-loop-rows : goal.decreases-loop-rows
decreases-loop-rows l = length l.rows
