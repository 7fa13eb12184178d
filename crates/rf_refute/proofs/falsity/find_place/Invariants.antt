use Rattle.std.proofs.Common.{ℕ, ◌-◌, ◌<◌, ◌≤◌, length}
use Rattle.rf_refute.proofs.falsity.find_place.Given as goal

abbrev pub invariant-loop-low : goal.invariant-loop-low
invariant-loop-low g l = let s = g.C.Constraints.system l.all in record {
  order : l.low ≤ l.high;
  inside : l.high ≤ length s.formulas;
  below : (p : ℕ) → p < l.low → s.numbers p < l.number;
  above : (p : ℕ) → l.high ≤ p → p < length s.formulas → l.number < s.numbers p;
}

abbrev pub decreases-loop-low : goal.decreases-loop-low
decreases-loop-low g l = l.high - l.low
