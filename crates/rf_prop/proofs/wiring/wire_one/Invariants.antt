use Rattle.std.proofs.Common.{take}
use Rattle.rf_prop.specs.Wiring.{Added}
use Rattle.rf_prop.proofs.wiring.wire_one.Given as goal

abbrev pub invariant-loop-x : goal.invariant-loop-x
invariant-loop-x l = Added (take l.x-index l.found) l.place l.initial.watchers.items l.watchers.items l.vars
