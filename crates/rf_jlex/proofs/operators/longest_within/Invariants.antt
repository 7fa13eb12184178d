use Rattle.std.proofs.Common.{◌≡◌, ℕ, ◌≤◌, take, Some}
use Rattle.rf_jtree.specs.declared.operators.Op.{Op}
use Rattle.rf_jtree.specs.Operators.{operator_of}
use Rattle.rf_jlex.proofs.operators.longest_within.Given as goal

abbrev pub invariant-loop-length : goal.invariant-loop-length
invariant-loop-length l = record {
  within : l.length ≤ l.most;
  longer : (n : ℕ) (op : Op) → n ≤ l.most → operator_of (take n l.text) ≡ Some op → n ≤ l.length;
}

abbrev pub decreases-loop-length : goal.decreases-loop-length
decreases-loop-length l = l.length
