use Rattle.std.proofs.Common.{◌≡◌, [], drop}
use Rattle.rf_jmodel.specs.ProjectNames.{with_texts, texts_of}
use Rattle.rf_jmodel.proofs.numbering.names_of.Given as goal

abbrev pub invariant-loop-unit : goal.invariant-loop-unit
invariant-loop-unit l = with_texts l.names (texts_of (drop l.unit-index l.units)) ≡ with_texts [] (texts_of l.units)
