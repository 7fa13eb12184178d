use Rattle.std.proofs.Common.{◌≡◌, ◌++◌}
use Rattle.std.specs.Slice.Iter.{iter_rest}
use Rattle.rf_text_rows.proofs.formula.Formula.+copy.Given as goal

-- the copies and what is left are the formulas
abbrev pub invariant-loop-formula : goal.invariant-loop-formula
invariant-loop-formula l = l.copies ++ iter_rest l.formula-iterator ≡ iter_rest l.initial.formula-iterator
