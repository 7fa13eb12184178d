use Rattle.std.proofs.Common.{◌≡◌, ◌++◌, drop}
use Rattle.rf_tables.specs.TypeKeys.{type_keys}
use Rattle.rf_tables.proofs.type_keys.all_keys.Given as goal

abbrev pub invariant-loop-unit : goal.invariant-loop-unit
invariant-loop-unit l = l.keys ++ type_keys l.at (drop l.unit-index l.units) ≡ type_keys 0 l.units
