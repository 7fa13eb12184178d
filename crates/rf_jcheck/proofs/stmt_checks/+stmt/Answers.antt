use Rattle.std.proofs.Common.{arith}
use Rattle.std.proofs.lemmas.Grind.{common_steps}
use Rattle.rf_jtree.proofs.StmtShows.{stmt_shown-If, stmt_shown-Try}
use Rattle.rf_jcheck.proofs.stmt_checks.+stmt.Goals as goal

pub stmt_fits-returns-then-stmt_fits : goal.stmt_fits-returns-then-stmt_fits
stmt_fits-returns-then-stmt_fits t c = rw (c.in-If.is, stmt_shown-If) (grind (arith, common_steps))

pub stmt_fits-last_fits-requires : goal.stmt_fits-last_fits-requires
stmt_fits-last_fits-requires t c = let weight = rw (c.in-Try.is, stmt_shown-Try) at c.decreases in (omega arith, tt)

pub stmt_fits-returns-then-catches_fit : goal.stmt_fits-returns-then-catches_fit
stmt_fits-returns-then-catches_fit t c = rw (c.in-Try.is, stmt_shown-Try) (grind (arith, common_steps))
