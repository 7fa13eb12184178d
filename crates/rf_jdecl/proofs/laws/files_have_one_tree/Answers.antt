use Rattle.rf_jdecl.proofs.Final.{one_file}
use Rattle.rf_jdecl.proofs.laws.files_have_one_tree.Goals as goal

pub returns : goal.returns
returns c = one_file
