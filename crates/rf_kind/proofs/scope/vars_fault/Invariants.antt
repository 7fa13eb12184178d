use Rattle.std.proofs.Common.{◌≡◌, [], take, drop}
use Rattle.rf_rtree.specs.Levels.{vars_fault}
use Rattle.rf_kind.specs.Scopes.{levels}
use Rattle.rf_kind.proofs.scope.vars_fault.Given as goal

abbrev pub invariant-loop-place : goal.invariant-loop-place
invariant-loop-place l =
    vars_fault l.own (levels l.scope) (take l.place l.vars) (drop l.place l.vars)
    ≡ vars_fault l.own (levels l.scope) [] l.vars
