use Rattle.std.proofs.Common.{◌≡◌, ◌++◌, length, reverse}
use Rattle.rf_jmodel.specs.Numbering.{numbered_units}
use Rattle.rf_jmodel.proofs.numbering.number_units.Given as goal

abbrev pub invariant-loop-unit : goal.invariant-loop-unit
invariant-loop-unit l = numbered_units 0 l.left ++ reverse l.done ≡ numbered_units 0 l.fn.units

abbrev pub decreases-loop-unit : goal.decreases-loop-unit
decreases-loop-unit l = length l.left
