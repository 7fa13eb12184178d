use Rattle.std.proofs.Common.{◌≡◌, ◌<◌, ℕ, []}
use Rattle.rf_form.specs.Truths.{row}
use Rattle.rf_prop.proofs.filling.are_filled.Given as goal

abbrev pub invariant-loop-x : goal.invariant-loop-x
invariant-loop-x l = (k : ℕ) → k < l.x → row l.doms.alive k ≡ [] → ⊥
