-- What was read of the parts of a variable is what the variable shows.
use Rattle.std.proofs.Common.{Some, drop, sym, ap, ◌∙◌, arith}
use Rattle.rf_jtree.specs.StmtTrees.{VarTree, var_depth}
use Rattle.rf_jexpr.specs.Reads.{and_then}
use Rattle.rf_jstmt.specs.VarReads.{var}
use Rattle.rf_jstmt.proofs.variables.var.Goals as goal

pub returns-clause-gives : goal.returns-clause-gives
unfolding var and_then
returns-clause-gives c =
    let id = c.in_ok-id.ensures.gives in
    let pairs = c.in_ok-bracket_pairs.ensures in
    let found = c.in_ok-beginning.ensures in
    let shown = sym c.var_of.ensures in (
      rw (id.0, pairs.0, found.0) (ap (λ (v : VarTree). Some (v, drop c.in_ok-beginning.beginning.end c.args.t.now)) shown),
      omega (arith, id.1, pairs.1, found.1),
      found.2,
      found.3 ∙ ap var_depth shown,
      found.4,
    )
