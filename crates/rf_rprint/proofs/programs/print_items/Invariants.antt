use Rattle.std.proofs.Common.{◌≡◌, ◌++◌, length}
use Rattle.rf_rtree.specs.Plain.{items_text}
use Rattle.rf_rprint.proofs.programs.print_items.Given as goal

abbrev pub invariant-loop-items : goal.invariant-loop-items
invariant-loop-items l = l.out ++ items_text l.items ≡ l.fn.out ++ items_text l.fn.items

abbrev pub decreases-loop-items : goal.decreases-loop-items
decreases-loop-items l = length l.items
