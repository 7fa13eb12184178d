use Rattle.std.proofs.Common.{ℕ, ◌<◌, ◌*◌}
use Rattle.rf_form.specs.Truths.{row}
use Rattle.rf_trail.specs.Trails.{IsSet}
use Rattle.rf_trail.proofs.sets.are_sets.Given as goal

abbrev pub invariant-loop-row : goal.invariant-loop-row
invariant-loop-row g l = (x : ℕ) → x < l.row-index → IsSet (64 * g.row.W) (row l.rows x)
