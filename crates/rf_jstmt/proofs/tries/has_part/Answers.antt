use Rattle.rf_jtree.specs.StmtShown.{last_shown}
use Rattle.rf_jstmt.proofs.ListShows.{has_part-some}
use Rattle.rf_jstmt.proofs.tries.has_part.Goals as goal

pub returns-in-len1-up : goal.returns-in-len1-up
returns-in-len1-up c = has_part-some c.args.catches.now (last_shown c.args.last.now) (rw c.as_slice.ensures at c.in-len1-up.len_at_least)
