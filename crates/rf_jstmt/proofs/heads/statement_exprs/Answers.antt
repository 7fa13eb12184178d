-- What was read of expressions in a row, as far as all of them stand as statements.
use Rattle.std.proofs.Common.{◌≡◌, true, false, not, drop, refl, sym, ap, ◌∙◌, arith}
use Rattle.rf_jtree.specs.ExprTrees.{exprs_depth}
use Rattle.rf_jexpr.specs.Reads.{begins}
use Rattle.rf_jexpr.specs.Stops.{begins_expr}
use Rattle.rf_jstmt.specs.StmtParts.{statement_exprs}
use Rattle.rf_jstmt.proofs.HeadLemmas.{list-shown, exprs-none, exprs-refused, exprs-stand}
use Rattle.rf_jstmt.proofs.heads.statement_exprs.Goals as goal

pub returns-then-not-begins_expr_at : goal.returns-then-not-begins_expr_at
unfolding statement_exprs
returns-then-not-begins_expr_at c =
    let none : begins begins_expr (drop c.args.at c.args.t.now) ≡ false = sym c.begins_expr_at.ensures ∙ c.if-not-begins_expr_at.true in
    rw c.left_out.ensures (rw none refl, omega arith, c.requires, refl, omega arith)

pub returns-then-is_none : goal.returns-then-is_none
unfolding statement_exprs
returns-then-is_none c =
    let one : begins begins_expr (drop c.args.at c.args.t.now) ≡ true = sym c.begins_expr_at.ensures ∙ c.if-not-begins_expr_at.false in
    rw one (exprs-none _ _ _ _ (c.is_none.ensures ∙ ap not c.if-is_none.true) c.in_ok-list.ensures.0)

pub returns-then-not-are_statements : goal.returns-then-not-are_statements
unfolding statement_exprs
returns-then-not-are_statements c =
    let one : begins begins_expr (drop c.args.at c.args.t.now) ≡ true = sym c.begins_expr_at.ensures ∙ c.if-not-begins_expr_at.false in
    rw one (exprs-refused _ _ _ _ (sym c.are_statements.ensures ∙ c.if-not-are_statements.true) c.in_ok-list.ensures.0)

pub returns : goal.returns
unfolding statement_exprs
returns c =
    let one : begins begins_expr (drop c.args.at c.args.t.now) ≡ true = sym c.begins_expr_at.ensures ∙ c.if-not-begins_expr_at.false in
    let list = c.in_ok-list.ensures in (
      rw one (exprs-stand _ _ _ _ (c.is_none.ensures ∙ ap not c.if-is_none.false) (sym c.are_statements.ensures ∙ c.if-not-are_statements.false) list.0),
      list.1,
      list.2,
      list.3 ∙ ap exprs_depth (list-shown _),
      list.4,
    )
