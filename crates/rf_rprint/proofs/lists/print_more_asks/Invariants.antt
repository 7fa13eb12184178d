use Rattle.std.proofs.Common.{◌≡◌, ◌++◌, length, map}
use Rattle.rf_rtree.specs.Plain.{after_commas, ask_text}
use Rattle.rf_rprint.proofs.lists.print_more_asks.Given as goal

abbrev pub invariant-loop-asks : goal.invariant-loop-asks
invariant-loop-asks l = l.out ++ after_commas (map ask_text l.asks) ≡ l.fn.out ++ after_commas (map ask_text l.fn.asks)

abbrev pub decreases-loop-asks : goal.decreases-loop-asks
decreases-loop-asks l = length l.asks
