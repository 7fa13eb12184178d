use Rattle.std.proofs.Common.{◌≡◌, length}
use Rattle.std.specs.List.{list_any}
use Rattle.rf_rtree.specs.Levels.{has_name}
use Rattle.rf_kind.proofs.scope.has_name.Given as goal

abbrev pub invariant-loop-vars : goal.invariant-loop-vars
invariant-loop-vars l = list_any (has_name l.name) l.vars ≡ list_any (has_name l.name) l.fn.vars

abbrev pub decreases-loop-vars : goal.decreases-loop-vars
decreases-loop-vars l = length l.vars
