use Rattle.rf_jview.proofs.NamingLemmas.{writes_names}
use Rattle.rf_jview.proofs.laws.namings_write_names.Goals as goal

pub returns : goal.returns
returns c = writes_names
