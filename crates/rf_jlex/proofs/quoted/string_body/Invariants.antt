use Rattle.std.proofs.Common.{◌-◌, length}
use Rattle.rf_jlex.proofs.StringLemmas.{Reads}
use Rattle.rf_jlex.proofs.quoted.string_body.Given as goal

abbrev pub invariant-loop-length : goal.invariant-loop-length
invariant-loop-length l = Reads l.text l.end

abbrev pub decreases-loop-length : goal.decreases-loop-length
decreases-loop-length l = length l.initial.text - l.end
