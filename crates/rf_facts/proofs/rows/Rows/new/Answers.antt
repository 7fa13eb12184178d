use Rattle.std.proofs.Common.{refl}
use Rattle.rf_facts.specs.Rows.{pieces}
use Rattle.rf_facts.proofs.rows.Rows.new.Goals as goal

pub returns : goal.returns
unfolding pieces
returns c = refl
