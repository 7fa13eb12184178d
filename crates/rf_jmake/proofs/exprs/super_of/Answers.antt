use Rattle.rf_jtree.proofs.ExprShows.{expr_shown-Super}
use Rattle.rf_jmake.proofs.FormLemmas.{super_args-shown}
use Rattle.rf_jmake.proofs.exprs.super_of.Goals as goal

pub returns : goal.returns
returns c = rw super_args-shown (rw (expr_shown-Super, c.in_ok-first.ensures, c.in_ok-mark.ensures, c.in_ok-member.ensures) at c.boxed.ensures)
