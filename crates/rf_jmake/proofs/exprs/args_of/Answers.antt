use Rattle.rf_jtree.specs.declared.exprs.Args.{Args}
use Rattle.rf_jtree.specs.declared.exprs.Braces.{Braces}
use Rattle.rf_jtree.specs.declared.exprs.Expr.{Expr}
use Rattle.rf_jtree.specs.declared.exprs.Expr.TheOpen.{Args-F}
use Rattle.rf_jtree.specs.declared.exprs.Init.{Init}
use Rattle.rf_jtree.proofs.ExprShows.{args_shown-roll}
use Rattle.rf_jmake.proofs.FormLemmas.{exprs-shown}
use Rattle.rf_jmake.proofs.exprs.args_of.Goals as goal

pub returns : goal.returns
returns c =
    let parts : Args-F Expr Init Args Braces = record { left = c.args.left; list = c.args.list; right = c.args.right } in
    rw exprs-shown (rw (args_shown-roll parts) at c.boxed_args.ensures)
