use Rattle.rf_jstmt.proofs.BlockLemmas.{one_block}
use Rattle.rf_jstmt.proofs.laws.blocks_have_one_tree.Goals as goal

pub returns : goal.returns
returns c = one_block
