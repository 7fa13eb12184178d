use Rattle.std.proofs.Common.{ℕ, ◌<◌, ◌≤◌, length}
use Rattle.rf_form.specs.Truths.{row}
use Rattle.rf_form.proofs.fitting.is_short.Given as goal

abbrev pub invariant-loop-x : goal.invariant-loop-x
invariant-loop-x l = (k : ℕ) → k < l.x → length (row l.vals k) ≤ 65536
