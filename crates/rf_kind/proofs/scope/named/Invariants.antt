use Rattle.std.proofs.Common.{◌≡◌, length}
use Rattle.std.specs.List.{find}
use Rattle.rf_rtree.specs.Levels.{has_name}
use Rattle.rf_kind.proofs.scope.named.Given as goal

abbrev pub invariant-loop-vars : goal.invariant-loop-vars
invariant-loop-vars l = find (has_name l.name) l.vars ≡ find (has_name l.name) l.fn.vars

abbrev pub decreases-loop-vars : goal.decreases-loop-vars
decreases-loop-vars l = length l.vars
