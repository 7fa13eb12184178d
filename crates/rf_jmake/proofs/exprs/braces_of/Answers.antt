use Rattle.rf_jtree.specs.declared.exprs.Args.{Args}
use Rattle.rf_jtree.specs.declared.exprs.Braces.{Braces}
use Rattle.rf_jtree.specs.declared.exprs.Expr.{Expr}
use Rattle.rf_jtree.specs.declared.exprs.Expr.TheOpen.{Braces-F}
use Rattle.rf_jtree.specs.declared.exprs.Init.{Init}
use Rattle.rf_jtree.proofs.ExprShows.{braces_shown-roll}
use Rattle.rf_jmake.proofs.FormLemmas.{inits-shown}
use Rattle.rf_jmake.proofs.exprs.braces_of.Goals as goal

pub returns : goal.returns
returns c =
    let parts : Braces-F Expr Init Args Braces = record { left = c.args.left; items = c.args.items; comma = c.args.comma; right = c.args.right } in
    rw inits-shown (rw (braces_shown-roll parts) at c.boxed_braces.ensures)
