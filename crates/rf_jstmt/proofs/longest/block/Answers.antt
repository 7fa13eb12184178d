use Rattle.rf_jstmt.proofs.BlockAnswers.{longest-block}
use Rattle.rf_jstmt.proofs.longest.block.Goals as goal

pub returns : goal.returns
returns c = longest-block c.args.t.now c.args.at c.args.room c.block_and_end.result c.block_and_end.ensures
