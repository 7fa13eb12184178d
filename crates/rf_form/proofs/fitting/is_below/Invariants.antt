use Rattle.std.proofs.Common.{◌≡◌, drop}
use Rattle.rf_form.specs.Fitting.{are_below}
use Rattle.rf_form.proofs.fitting.is_below.Given as goal

abbrev pub invariant-loop-v : goal.invariant-loop-v
invariant-loop-v l = are_below l.bound l.places ≡ are_below l.bound (drop l.v-index l.places)
