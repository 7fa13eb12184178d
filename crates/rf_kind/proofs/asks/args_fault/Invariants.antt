use Rattle.std.proofs.Common.{◌≡◌, length}
use Rattle.rf_rtree.specs.Asks.{args_fault}
use Rattle.rf_kind.specs.Scopes.{levels, arg_kinds}
use Rattle.rf_kind.proofs.asks.args_fault.Given as goal

abbrev pub invariant-loop-words : goal.invariant-loop-words
invariant-loop-words l = args_fault (levels l.scope) l.words (arg_kinds l.kinds) ≡ args_fault (levels l.scope) l.fn.words (arg_kinds l.fn.kinds)

abbrev pub decreases-loop-words : goal.decreases-loop-words
decreases-loop-words l = length l.words
