use Rattle.std.proofs.Common.{◌≡◌, length}
use Rattle.rf_rtree.specs.Asks.{query_fault}
use Rattle.rf_rtree.specs.Faults.{first_of}
use Rattle.rf_kind.specs.Scopes.{levels, known_of}
use Rattle.rf_kind.proofs.forms.queries_fault.Given as goal

abbrev pub invariant-loop-asks : goal.invariant-loop-asks
invariant-loop-asks l = first_of (query_fault (known_of l.program) (levels l.scope)) l.asks ≡ first_of (query_fault (known_of l.program) (levels l.scope)) l.fn.asks

abbrev pub decreases-loop-asks : goal.decreases-loop-asks
decreases-loop-asks l = length l.asks
