use Rattle.std.proofs.Common.{◌∙◌}
use Rattle.rf_jmods.specs.ModReads.{is_suppress_name}
use Rattle.rf_jmods.proofs.ModLemmas.{second-there, second-missing, first-missing}
use Rattle.rf_jmods.proofs.annotations.names_suppress.Goals as goal

pub returns-in_default : goal.returns-in_default
returns-in_default c = first-missing is_suppress_name c.args.t.now c.args.at (rw c.in_default.is at c.tok_at.ensures.value)

pub returns-in-Some-tok_at : goal.returns-in-Some-tok_at
returns-in-Some-tok_at c = c.is_suppress_name.ensures ∙ second-there is_suppress_name c.args.t.now c.args.at _ _ (rw c.in-Some.is at c.tok_at.ensures.value) (rw c.in-Some-tok_at.is at c.tok_at-2.ensures.value)

pub returns-in-None : goal.returns-in-None
returns-in-None c = second-missing is_suppress_name c.args.t.now c.args.at _ (rw c.in-Some.is at c.tok_at.ensures.value) (rw c.in-None.is at c.tok_at-2.ensures.value)
