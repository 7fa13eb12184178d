use Rattle.std.proofs.Common.{◌≡◌, map, take}
use Rattle.rf_rtree.specs.Asks.{query_of}
use Rattle.rf_rtree.specs.Tables.{row_shown}
use Rattle.rf_kind.proofs.language.java_lang.Given as goal

abbrev pub invariant-loop-row : goal.invariant-loop-row
invariant-loop-row l = l.list ≡ map query_of (map row_shown (take l.row-index l.row-items))
