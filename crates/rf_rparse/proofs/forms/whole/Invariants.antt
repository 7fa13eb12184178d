use Rattle.std.proofs.Common.{◌≡◌, length}
use Rattle.rf_rparse.specs.Frames.{done, join_implies, either_of, whole_of}
use Rattle.rf_rparse.proofs.forms.whole.Given as goal

abbrev pub invariant-loop-form : goal.invariant-loop-form
invariant-loop-form l = join_implies l.form l.stack ≡ whole_of (either_of (done l.fn.operand l.fn.stack))

abbrev pub decreases-loop-form : goal.decreases-loop-form
decreases-loop-form l = length l.stack
