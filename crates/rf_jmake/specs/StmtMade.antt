-- What parts of statements show as, where they aren't yet in one piece, and statements that are made.
use Rattle.std.specs.Prelude.{◌≡◌, List, map, Result, IfOk}
use Rattle.std.specs.declared.alloc.Global.{Global}
use Rattle.std.specs.declared.boxed.Box.{Box}
use Rattle.rf_jtree.specs.declared.exprs.Expr.{Expr}
use Rattle.rf_jtree.specs.declared.stmts.Catch.{Catch}
use Rattle.rf_jtree.specs.declared.stmts.Group.{Group}
use Rattle.rf_jtree.specs.declared.stmts.Stmt.{Stmt}
use Rattle.rf_jtree.specs.declared.tokens.Tok.{Tok}
use Rattle.rf_jtree.specs.ExprTrees.{ExprTree}
use Rattle.rf_jtree.specs.StmtShown.{catch_shown, group_shown, stmt_shown}
use Rattle.rf_jtree.specs.StmtTrees.{CatchTree, GroupTree, StmtTree}
use Rattle.rf_text.specs.declared.memory.Memory.{Memory}
use Rattle.rf_jmake.specs.ExprMade.{boxed_shown}

-- what stands behind a pointer, shown
abbrev pub boxed_stmt_shown : Box Stmt Global → StmtTree
boxed_stmt_shown boxed = stmt_shown boxed.value

-- a statement, where there is memory for it
abbrev pub MakesStmt : Result (Box Stmt Global) Memory → StmtTree → Type 0
MakesStmt result tree = IfOk result (λ found. boxed_stmt_shown found ≡ tree)

-- a message of an `assert`
abbrev pub boxed_message_shown : Tok × Box Expr Global → Tok × ExprTree
boxed_message_shown part = (part.0, boxed_shown part.1)

-- groups, and catch clauses
abbrev pub groups_found : List Group → List GroupTree
groups_found groups = map group_shown groups

abbrev pub catches_found : List Catch → List CatchTree
catches_found catches = map catch_shown catches
