-- The tests on what was read hold exactly where the conditions of the grammar do.
use Rattle.std.proofs.Common.{IsTrue, refl}
use Rattle.rf_jtree.specs.ExprTrees.{ExprTree, Assign, Unary, Postfix, Call, Super, SuperArgs, New, ExprsTree, NoExprs, Exprs, MoreExprsTree, NoMoreExprs, MoreExprs}
use Rattle.rf_jtree.specs.StmtFits.{IsStatementExpr, AreMoreStatementExprs, AreStatementExprs, HasCatchOrLast}
use Rattle.rf_jtree.specs.StmtTrees.{CatchesTree, NoCatches, Catches, LastTree, NoLast, Last}
use Rattle.rf_jexpr.proofs.Tools.{both, and_true}
use Rattle.rf_jstmt.specs.StmtReads.{has_part}
use Rattle.rf_jstmt.specs.StmtTests.{is_statement_expr, are_more_statement_exprs, are_statement_exprs}

-- ---- expressions that stand as statements

pub is_statement_expr-Is : (expr : ExprTree) → IsTrue (is_statement_expr expr) → IsStatementExpr expr
unfolding is_statement_expr
is_statement_expr-Is (Assign left op expression) h = tt
is_statement_expr-Is (Unary op expression) h = h
is_statement_expr-Is (Postfix expression op) h = tt
is_statement_expr-Is (Call on id args) h = tt
is_statement_expr-Is (Super word dot id (SuperArgs args)) h = tt
is_statement_expr-Is (New word name args) h = tt
is_statement_expr-Is expr h = absurd (cc)

pub Is-is_statement_expr : (expr : ExprTree) → IsStatementExpr expr → IsTrue (is_statement_expr expr)
unfolding is_statement_expr
Is-is_statement_expr (Assign left op expression) h = refl
Is-is_statement_expr (Unary op expression) h = h
Is-is_statement_expr (Postfix expression op) h = refl
Is-is_statement_expr (Call on id args) h = refl
Is-is_statement_expr (Super word dot id (SuperArgs args)) h = refl
Is-is_statement_expr (New word name args) h = refl
Is-is_statement_expr expr h = absurd h

are_more-Are : (rest : MoreExprsTree) → IsTrue (are_more_statement_exprs rest) → AreMoreStatementExprs rest
unfolding are_more_statement_exprs
are_more-Are NoMoreExprs h = tt
are_more-Are (MoreExprs comma expr rest) h = let parts = both (is_statement_expr expr) (are_more_statement_exprs rest) h in (is_statement_expr-Is expr parts.0, are_more-Are rest parts.1)

Are-are_more : (rest : MoreExprsTree) → AreMoreStatementExprs rest → IsTrue (are_more_statement_exprs rest)
unfolding are_more_statement_exprs
Are-are_more NoMoreExprs h = refl
Are-are_more (MoreExprs comma expr rest) h = and_true _ _ (Is-is_statement_expr expr h.0) (Are-are_more rest h.1)

pub are_statement_exprs-Are : (exprs : ExprsTree) → IsTrue (are_statement_exprs exprs) → AreStatementExprs exprs
unfolding are_statement_exprs
are_statement_exprs-Are NoExprs h = tt
are_statement_exprs-Are (Exprs first rest) h = let parts = both (is_statement_expr first) (are_more_statement_exprs rest) h in (is_statement_expr-Is first parts.0, are_more-Are rest parts.1)

pub Are-are_statement_exprs : (exprs : ExprsTree) → AreStatementExprs exprs → IsTrue (are_statement_exprs exprs)
unfolding are_statement_exprs
Are-are_statement_exprs NoExprs h = refl
Are-are_statement_exprs (Exprs first rest) h = and_true _ _ (Is-is_statement_expr first h.0) (Are-are_more rest h.1)

-- ---- a `try` has one of its other parts

pub has_part-Has : (catches : CatchesTree) (last : LastTree) → IsTrue (has_part catches last) → HasCatchOrLast catches last
unfolding has_part
has_part-Has NoCatches NoLast h = absurd (cc)
has_part-Has NoCatches (Last word body) h = tt
has_part-Has (Catches first rest) last h = tt

pub Has-has_part : (catches : CatchesTree) (last : LastTree) → HasCatchOrLast catches last → IsTrue (has_part catches last)
unfolding has_part
Has-has_part NoCatches NoLast h = absurd h
Has-has_part NoCatches (Last word body) h = refl
Has-has_part (Catches first rest) last h = refl
