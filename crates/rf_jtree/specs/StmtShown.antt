-- What statements show as trees: themselves without pointers. A layer is a statement whose parts are trees already.
use Rattle.std.specs.Prelude.{List, map, [], ◌∷◌, Option, Some, None, option_map}
use Rattle.std.specs.declared.alloc.Global.{Global}
use Rattle.std.specs.declared.boxed.Box.{Box}
use Rattle.rf_jtree.specs.declared.exprs.Expr.{Expr}
use Rattle.rf_jtree.specs.declared.exprs.Init.{Init}
use Rattle.rf_jtree.specs.declared.stmts.Block.{Block, fold-Block}
use Rattle.rf_jtree.specs.declared.stmts.Catch.{Catch, fold-Catch}
use Rattle.rf_jtree.specs.declared.stmts.EachHead.{EachHead}
use Rattle.rf_jtree.specs.declared.stmts.ForFirst.{ForFirst}
use Rattle.rf_jtree.specs.declared.stmts.ForFirst.TheVariants as f
use Rattle.rf_jtree.specs.declared.stmts.ForHead.{ForHead}
use Rattle.rf_jtree.specs.declared.stmts.Group.{Group, fold-Group}
use Rattle.rf_jtree.specs.declared.stmts.Head.{Head}
use Rattle.rf_jtree.specs.declared.stmts.Local.{Local}
use Rattle.rf_jtree.specs.declared.stmts.Stmt.{Stmt, fold-Stmt}
use Rattle.rf_jtree.specs.declared.stmts.Stmt.TheOpen.{Stmt-F, Block-F, Catch-F, Group-F}
use Rattle.rf_jtree.specs.declared.stmts.Var.{Var}
use Rattle.rf_jtree.specs.declared.tokens.Tok.{Tok}
use Rattle.rf_jtree.specs.ExprShown.{expr_shown, exprs_shown, init_shown}
use Rattle.rf_jtree.specs.ExprTrees.{ExprTree, InitTree}
use Rattle.rf_jtree.specs.NameShown.{many_shown, name_shown, type_shown, mods_shown}
use Rattle.rf_jtree.specs.StmtTrees.{VarTree, LocalTree, ForFirstTree, StmtTree, BlockTree, StmtsTree, OtherTree, GroupTree, GroupsTree, CatchTree, CatchesTree, LastTree}
use Rattle.rf_jtree.specs.StmtTrees as t

-- declarations, and what a basic `for` begins with
abbrev pub beginning_shown : Tok × Init → Tok × InitTree
beginning_shown beginning = (beginning.0, init_shown beginning.1)

abbrev pub var_shown : Var → VarTree
var_shown var = record { id = var.id; dims = var.dims; init = option_map beginning_shown var.init }

abbrev pub more_vars_shown : List (Tok × Var) → List (Tok × VarTree)
more_vars_shown rest = map (λ item. (item.0, var_shown item.1)) rest

abbrev pub local_shown : Local → LocalTree
local_shown local = record { mods = mods_shown local.mods; used_type = type_shown local.used_type; vars = many_shown var_shown local.vars }

abbrev pub first_shown : ForFirst → ForFirstTree
first_shown (f.Local local) = t.ForFirstTree.Local (local_shown local)
first_shown (f.Exprs exprs) = t.ForFirstTree.Exprs (exprs_shown exprs)

-- an expression behind a pointer, and one that may be left out
abbrev pub boxed_expr_shown : Box Expr Global → ExprTree
boxed_expr_shown boxed = expr_shown boxed.value

abbrev pub optional_expr_shown : Option (Box Expr Global) → Option ExprTree
optional_expr_shown expression = option_map boxed_expr_shown expression

-- the second expression of an `assert`
abbrev pub message_shown : Tok × Box Expr Global → Tok × ExprTree
message_shown message = (message.0, boxed_expr_shown message.1)

-- statements of what stands before their bodies
abbrev pub if_tree : Head → StmtTree → OtherTree → StmtTree
if_tree head then other = t.If head.word head.left (boxed_expr_shown head.expression) head.right then other

abbrev pub while_tree : Head → StmtTree → StmtTree
while_tree head body = t.While head.word head.left (boxed_expr_shown head.expression) head.right body

abbrev pub do_tree : Tok → StmtTree → Head → Tok → StmtTree
do_tree word body until semi = t.Do word body until.word until.left (boxed_expr_shown until.expression) until.right semi

abbrev pub for_tree : ForHead → StmtTree → StmtTree
for_tree head body =
    t.For head.word head.left (first_shown head.first) head.semi1 (optional_expr_shown head.test) head.semi2 (exprs_shown head.last) head.right body

abbrev pub each_tree : EachHead → StmtTree → StmtTree
each_tree head body =
    t.Each head.word head.left (mods_shown head.mods) (type_shown head.used_type) head.id head.colon (boxed_expr_shown head.over) head.right body

abbrev pub switch_tree : Head → Tok → GroupsTree → Tok → StmtTree
switch_tree head brace groups end = t.Switch head.word head.left (boxed_expr_shown head.expression) head.right brace groups end

abbrev pub sync_tree : Head → BlockTree → StmtTree
sync_tree head body = t.Sync head.word head.left (boxed_expr_shown head.expression) head.right body

-- lists, and parts that may be left out, of trees
abbrev pub stmts_tree : List StmtTree → StmtsTree
stmts_tree [] = t.NoStmts
stmts_tree (stmt ∷ rest) = t.Stmts stmt (stmts_tree rest)

abbrev pub other_tree : Option (Tok × Box StmtTree Global) → OtherTree
other_tree None = t.NoOther
other_tree (Some other) = t.Other other.0 other.1.value

abbrev pub groups_tree : List GroupTree → GroupsTree
groups_tree [] = t.NoGroups
groups_tree (group ∷ rest) = t.Groups group (groups_tree rest)

abbrev pub catches_tree : List CatchTree → CatchesTree
catches_tree [] = t.NoCatches
catches_tree (first ∷ rest) = t.Catches first (catches_tree rest)

abbrev pub last_tree : Option (Tok × Box BlockTree Global) → LastTree
last_tree None = t.NoLast
last_tree (Some last) = t.Last last.0 last.1.value

-- the layers
abbrev pub stmt_layer : Stmt-F StmtTree BlockTree CatchTree GroupTree → StmtTree
stmt_layer (Stmt-F.Block block) = t.Block block
stmt_layer (Stmt-F.Empty semi) = t.Empty semi
stmt_layer (Stmt-F.Local local semi) = t.StmtTree.Local (local_shown local.value) semi
stmt_layer (Stmt-F.Label id colon body) = t.Label id colon body.value
stmt_layer (Stmt-F.Expression expression semi) = t.Expression (boxed_expr_shown expression) semi
stmt_layer (Stmt-F.If head then other) = if_tree head.value then.value (other_tree other)
stmt_layer (Stmt-F.While head body) = while_tree head.value body.value
stmt_layer (Stmt-F.Do word body until semi) = do_tree word body.value until.value semi
stmt_layer (Stmt-F.For head body) = for_tree head.value body.value
stmt_layer (Stmt-F.Each head body) = each_tree head.value body.value
stmt_layer (Stmt-F.Switch head brace groups end) = switch_tree head.value brace (groups_tree groups) end
stmt_layer (Stmt-F.Jump word label semi) = t.Jump word label semi
stmt_layer (Stmt-F.Return word expression semi) = t.Return word (optional_expr_shown expression) semi
stmt_layer (Stmt-F.Throw word expression semi) = t.Throw word (boxed_expr_shown expression) semi
stmt_layer (Stmt-F.Sync head body) = sync_tree head.value body.value
stmt_layer (Stmt-F.Assert word test message semi) = t.Assert word (boxed_expr_shown test) (option_map message_shown message) semi
stmt_layer (Stmt-F.Try word body catches last) = t.Try word body.value (catches_tree catches) (last_tree last)

abbrev pub block_layer : Block-F StmtTree BlockTree CatchTree GroupTree → BlockTree
block_layer block = t.Braces block.left (stmts_tree block.list) block.right

abbrev pub catch_layer : Catch-F StmtTree BlockTree CatchTree GroupTree → CatchTree
catch_layer part = t.Catch part.word part.left part.fixed (name_shown part.name) part.id part.right part.body

abbrev pub group_layer : Group-F StmtTree BlockTree CatchTree GroupTree → GroupTree
group_layer group = t.Group group.word (optional_expr_shown group.expression) group.colon (stmts_tree group.body)

-- the trees
unfoldable pub stmt_shown : Stmt → StmtTree
stmt_shown = fold-Stmt StmtTree BlockTree CatchTree GroupTree stmt_layer block_layer catch_layer group_layer

unfoldable pub block_shown : Block → BlockTree
block_shown = fold-Block StmtTree BlockTree CatchTree GroupTree stmt_layer block_layer catch_layer group_layer

unfoldable pub catch_shown : Catch → CatchTree
catch_shown = fold-Catch StmtTree BlockTree CatchTree GroupTree stmt_layer block_layer catch_layer group_layer

unfoldable pub group_shown : Group → GroupTree
group_shown = fold-Group StmtTree BlockTree CatchTree GroupTree stmt_layer block_layer catch_layer group_layer

-- the parts that lead back to statements
abbrev pub stmts_shown : List Stmt → StmtsTree
stmts_shown [] = t.NoStmts
stmts_shown (stmt ∷ rest) = t.Stmts (stmt_shown stmt) (stmts_shown rest)

abbrev pub other_shown : Option (Tok × Box Stmt Global) → OtherTree
other_shown None = t.NoOther
other_shown (Some other) = t.Other other.0 (stmt_shown other.1.value)

abbrev pub groups_shown : List Group → GroupsTree
groups_shown [] = t.NoGroups
groups_shown (group ∷ rest) = t.Groups (group_shown group) (groups_shown rest)

abbrev pub catches_shown : List Catch → CatchesTree
catches_shown [] = t.NoCatches
catches_shown (first ∷ rest) = t.Catches (catch_shown first) (catches_shown rest)

abbrev pub last_shown : Option (Tok × Box Block Global) → LastTree
last_shown None = t.NoLast
last_shown (Some last) = t.Last last.0 (block_shown last.1.value)
