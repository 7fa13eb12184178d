use Rattle.std.proofs.Common.{◌≡◌, length}
use Rattle.rf_rparse.specs.Frames.{done}
use Rattle.rf_rparse.proofs.forms.done.Given as goal

abbrev pub invariant-loop-form : goal.invariant-loop-form
invariant-loop-form l = done l.form l.stack ≡ done l.fn.operand l.fn.stack

abbrev pub decreases-loop-form : goal.decreases-loop-form
decreases-loop-form l = length l.stack
