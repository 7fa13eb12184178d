-- The further conditions on what was read, as tests.
use Rattle.std.specs.Prelude.{Bool, true, false, ◌&&◌}
use Rattle.rf_jtree.specs.declared.operator_names.TheConstants.{SUFFIXES}
use Rattle.rf_jtree.specs.ExprTrees.{ExprTree, Assign, Unary, Postfix, Call, Super, SuperArgs, New, ExprsTree, NoExprs, Exprs, MoreExprsTree, NoMoreExprs, MoreExprs}
use Rattle.rf_jtree.specs.Kinds.{is_op_of}

-- ---- expressions that stand as statements (JLS 14.8, 14.14.1)

unfoldable pub is_statement_expr : ExprTree → Bool
is_statement_expr (Assign left op expression) = true
is_statement_expr (Unary op expression) = is_op_of SUFFIXES op
is_statement_expr (Postfix expression op) = true
is_statement_expr (Call on id args) = true
is_statement_expr (Super word dot id (SuperArgs args)) = true
is_statement_expr (New word name args) = true
is_statement_expr expr = false

unfoldable pub are_more_statement_exprs : MoreExprsTree → Bool
are_more_statement_exprs NoMoreExprs = true
are_more_statement_exprs (MoreExprs comma expr rest) = is_statement_expr expr && are_more_statement_exprs rest

unfoldable pub are_statement_exprs : ExprsTree → Bool
are_statement_exprs NoExprs = true
are_statement_exprs (Exprs first rest) = is_statement_expr first && are_more_statement_exprs rest
