use Rattle.std.proofs.Common.{◌≡◌, take}
use Rattle.rf_tables.proofs.package_texts.listed.Given as goal

abbrev pub invariant-loop-at : goal.invariant-loop-at
invariant-loop-at l = l.texts ≡ take l.at l.names
