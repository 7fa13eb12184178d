use Rattle.std.proofs.Common.{arith}
use Rattle.std.proofs.lemmas.Grind.{common_steps}
use Rattle.rf_jtree.proofs.StmtShows.{stmt_shown-Try}
use Rattle.rf_jview.proofs.Walks.{walks}
use Rattle.rf_jwalk.proofs.stmts.+stmt.Goals as goal

pub stmt-returns-in_ok-catches-in-Try : goal.stmt-returns-in_ok-catches-in-Try
stmt-returns-in_ok-catches-in-Try t c = rw (c.in-Try.is, stmt_shown-Try) (grind (arith, common_steps, walks))
