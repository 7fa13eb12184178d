-- Parts of statements that the walk takes together.
use Rattle.std.specs.Prelude.{List, [], ◌∷◌, ◌++◌, Option}
use Rattle.rf_jtree.specs.declared.stmts.ForHead.{ForHead}
use Rattle.rf_jtree.specs.ExprShown.{exprs_shown}
use Rattle.rf_jtree.specs.ExprTrees.{ExprTree, ExprsTree}
use Rattle.rf_jtree.specs.StmtShown.{first_shown, optional_expr_shown}
use Rattle.rf_jtree.specs.StmtTrees.{StmtTree, GroupsTree}
use Rattle.rf_jview.specs.declared.marks.Mark.{Mark}
use Rattle.rf_jview.specs.declared.marks.Mark.TheVariants as m
use Rattle.rf_jview.specs.declared.marks.Opening.TheVariants as o
use Rattle.rf_jview.specs.ExprMarks.{expr_marks, exprs_marks}
use Rattle.rf_jview.specs.MarkWords.{after, opens}
use Rattle.rf_jview.specs.NameMarks.{option_marks}
use Rattle.rf_jview.specs.StmtMarks.{for_head_marks, stmt_marks, groups_marks}

-- a basic `for` from its first `;` to its `)`
abbrev pub tests_marks : Option ExprTree → ExprsTree → List Mark
tests_marks test last = m.Plain ∷ (option_marks expr_marks test ++ m.Plain ∷ (exprs_marks last ++ m.Plain ∷ []))

-- a basic `for` with its body
abbrev pub for_marks : ForHead → StmtTree → List Mark
for_marks head body =
    let front = for_head_marks (first_shown head.first) (optional_expr_shown head.test) (exprs_shown head.last) in
    opens o.Block (front ++ stmt_marks (after 1 front) body)

-- a `switch` from its `{` on
abbrev pub switch_marks : GroupsTree → List Mark
switch_marks groups = opens o.Block (groups_marks 1 groups ++ m.Plain ∷ [])
