use Rattle.std.proofs.Common.{◌≡◌, map}
use Rattle.std.specs.Slice.Iter.{iter_rest}
use Rattle.rf_text_rows.specs.Formula.{meaning, each}
use Rattle.rf_text_rows.proofs.formula.Formula.+holds.Given as goal

-- the formulas that are left decide
abbrev pub invariant-loop-formula : goal.invariant-loop-formula
invariant-loop-formula l = meaning l.self ≡ each (map meaning (iter_rest l.formula-iterator))
