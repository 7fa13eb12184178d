use Rattle.std.proofs.Common.{◌≡◌, [], drop}
use Rattle.rf_jmodel.specs.ProjectNames.{with_texts}
use Rattle.rf_tables.specs.PackageTexts.{all_fronts}
use Rattle.rf_tables.proofs.package_texts.put_packages.Given as goal

abbrev pub invariant-loop-unit : goal.invariant-loop-unit
invariant-loop-unit l = with_texts l.names (all_fronts (drop l.unit-index l.units)) ≡ with_texts [] (all_fronts l.units)
