use Rattle.rf_prop.specs.Wiring.{WiredTo}
use Rattle.rf_prop.proofs.nets.Net.new.Given as goal

abbrev pub invariant-loop-place : goal.invariant-loop-place
invariant-loop-place g l = WiredTo (g.C.Constraints.system l.all) l.place l.vars l.watchers.items
