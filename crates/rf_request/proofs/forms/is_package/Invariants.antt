use Rattle.std.proofs.Common.{◌↔◌, length}
use Rattle.rf_request.specs.Forms.{IsPackage}
use Rattle.rf_request.proofs.forms.is_package.Given as goal

abbrev pub invariant-loop-behind : goal.invariant-loop-behind
invariant-loop-behind l = IsPackage l.rest ↔ IsPackage l.word

abbrev pub decreases-loop-behind : goal.decreases-loop-behind
decreases-loop-behind l = length l.rest
