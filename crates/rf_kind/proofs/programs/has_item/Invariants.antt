use Rattle.std.proofs.Common.{◌≡◌, length}
use Rattle.std.specs.List.{list_any}
use Rattle.rf_rtree.specs.Programs.{is_item}
use Rattle.rf_kind.proofs.programs.has_item.Given as goal

abbrev pub invariant-loop-items : goal.invariant-loop-items
invariant-loop-items l = list_any (is_item l.name) l.items ≡ list_any (is_item l.name) l.fn.items

abbrev pub decreases-loop-items : goal.decreases-loop-items
decreases-loop-items l = length l.items
