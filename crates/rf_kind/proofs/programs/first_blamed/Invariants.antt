use Rattle.std.proofs.Common.{◌≡◌, [], take, drop}
use Rattle.rf_rtree.specs.Programs.{items_fault}
use Rattle.rf_kind.specs.Scopes.{known_of}
use Rattle.rf_kind.proofs.programs.first_blamed.Given as goal

abbrev pub invariant-loop-place : goal.invariant-loop-place
invariant-loop-place l =
    items_fault (known_of l.program) (take l.place l.items) (drop l.place l.items)
    ≡ items_fault (known_of l.program) [] l.items
