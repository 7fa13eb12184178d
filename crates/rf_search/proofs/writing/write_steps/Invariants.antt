use Rattle.std.proofs.Common.{◌≡◌, ◌++◌, map, take}
use Rattle.rf_refute.specs.Shown.{shown}
use Rattle.rf_search.specs.Writes.{removing}
use Rattle.rf_search.proofs.writing.write_steps.Given as goal

abbrev pub invariant-loop-step : goal.invariant-loop-step
invariant-loop-step l = map shown l.nodes ≡ map shown l.initial.nodes ++ map removing (take l.step-index l.steps)
