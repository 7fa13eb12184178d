use Rattle.std.proofs.Common.{◌≡◌, ℕ, ◌<◌, true, length}
use Rattle.rf_form.specs.Fitting.{are_below}
use Rattle.rf_form.specs.Truths.{row}
use Rattle.rf_form.proofs.domains.Doms.fits.Given as goal

abbrev pub invariant-loop-x : goal.invariant-loop-x
invariant-loop-x l = (k : ℕ) → k < l.x → are_below (length (row l.vals k)) (row l.self.alive k) ≡ true
