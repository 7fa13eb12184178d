-- Statements and local declarations rewritten, each token by its number. Labels and modifiers stay.
use Rattle.std.specs.Prelude.{ℕ, suc}
use Rattle.rf_jtree.specs.ExprTrees.{expr_yield, exprs_yield}
use Rattle.rf_jtree.specs.NameTrees.{ManyTree, name_yield, type_yield, dims_yield, mods_yield, tok_yield, option_yield}
use Rattle.rf_jtree.specs.StmtTrees.{VarTree, LocalTree, ForFirstTree, StmtTree, Block, Empty, Label, Expression, If, While, Do, For, Each, Switch, Jump, Return, Throw, Sync, Assert, Try}
use Rattle.rf_jtree.specs.StmtTrees.{BlockTree, Braces, StmtsTree, NoStmts, Stmts, OtherTree, NoOther, Other, GroupTree, Group, GroupsTree, NoGroups, Groups, CatchTree, Catch, CatchesTree, NoCatches, Catches, LastTree, NoLast, Last}
use Rattle.rf_jtree.specs.StmtTrees.{var_yield, first_yield, stmt_yield, block_yield, group_yield, catch_yield, catches_yield}
use Rattle.rf_jview.specs.ExprWith.{expr_with, exprs_with, init_with}
use Rattle.rf_jview.specs.Rewritings.{Rewriting, behind, retext, option_with, behind_with, many_with, type_with}

abbrev pub var_with : Rewriting → ℕ → VarTree → VarTree
var_with g n var = record { id = retext g n var.id; dims = var.dims; init = option_with (behind_with (init_with g)) (behind (suc n) (dims_yield var.dims)) var.init }

abbrev pub vars_with : Rewriting → ℕ → ManyTree VarTree → ManyTree VarTree
vars_with g n vars = many_with var_yield (var_with g) n vars

abbrev pub local_with : Rewriting → ℕ → LocalTree → LocalTree
local_with g n local = record {
  mods = local.mods;
  used_type = type_with g (behind n (mods_yield local.mods)) local.used_type;
  vars = vars_with g (behind (behind n (mods_yield local.mods)) (type_yield local.used_type)) local.vars;
}

abbrev pub first_with : Rewriting → ℕ → ForFirstTree → ForFirstTree
first_with g n (ForFirstTree.Local local) = ForFirstTree.Local (local_with g n local)
first_with g n (ForFirstTree.Exprs exprs) = ForFirstTree.Exprs (exprs_with g n exprs)

abbrev mutual
  pub stmt_with : Rewriting → ℕ → StmtTree → StmtTree
  stmt_with g n (Block block) = Block (block_with g n block)
  stmt_with g n (Empty semi) = Empty semi
  stmt_with g n (StmtTree.Local local semi) = StmtTree.Local (local_with g n local) semi
  stmt_with g n (Label id colon body) = Label id colon (stmt_with g (suc (suc n)) body)
  stmt_with g n (Expression expression semi) = Expression (expr_with g n expression) semi
  stmt_with g n (If word left test right then other) = If word left (expr_with g (suc (suc n)) test) right (stmt_with g (suc (behind (suc (suc n)) (expr_yield test))) then) (other_with g (behind (suc (behind (suc (suc n)) (expr_yield test))) (stmt_yield then)) other)
  stmt_with g n (While word left test right body) = While word left (expr_with g (suc (suc n)) test) right (stmt_with g (suc (behind (suc (suc n)) (expr_yield test))) body)
  stmt_with g n (Do word body until left test right semi) = Do word (stmt_with g (suc n) body) until left (expr_with g (suc (suc (behind (suc n) (stmt_yield body)))) test) right semi
  stmt_with g n (For word left first semi1 test semi2 last right body) = For word left (first_with g (suc (suc n)) first) semi1 (option_with (expr_with g) (suc (behind (suc (suc n)) (first_yield first))) test) semi2 (exprs_with g (suc (behind (suc (behind (suc (suc n)) (first_yield first))) (option_yield expr_yield test))) last) right (stmt_with g (suc (behind (suc (behind (suc (behind (suc (suc n)) (first_yield first))) (option_yield expr_yield test))) (exprs_yield last))) body)
  stmt_with g n (Each word left mods used_type id colon over right body) = Each word left mods (type_with g (behind (suc (suc n)) (mods_yield mods)) used_type) (retext g (behind (behind (suc (suc n)) (mods_yield mods)) (type_yield used_type)) id) colon (expr_with g (suc (suc (behind (behind (suc (suc n)) (mods_yield mods)) (type_yield used_type)))) over) right (stmt_with g (suc (behind (suc (suc (behind (behind (suc (suc n)) (mods_yield mods)) (type_yield used_type)))) (expr_yield over))) body)
  stmt_with g n (Switch word left on right brace groups end) = Switch word left (expr_with g (suc (suc n)) on) right brace (groups_with g (suc (suc (behind (suc (suc n)) (expr_yield on)))) groups) end
  stmt_with g n (Jump word label semi) = Jump word label semi
  stmt_with g n (Return word expression semi) = Return word (option_with (expr_with g) (suc n) expression) semi
  stmt_with g n (Throw word expression semi) = Throw word (expr_with g (suc n) expression) semi
  stmt_with g n (Sync word left on right body) = Sync word left (expr_with g (suc (suc n)) on) right (block_with g (suc (behind (suc (suc n)) (expr_yield on))) body)
  stmt_with g n (Assert word test message semi) = Assert word (expr_with g (suc n) test) (option_with (behind_with (expr_with g)) (behind (suc n) (expr_yield test)) message) semi
  stmt_with g n (Try word body catches last) = Try word (block_with g (suc n) body) (catches_with g (behind (suc n) (block_yield body)) catches) (last_with g (behind (behind (suc n) (block_yield body)) (catches_yield catches)) last)

  pub block_with : Rewriting → ℕ → BlockTree → BlockTree
  block_with g n (Braces left list right) = Braces left (stmts_with g (suc n) list) right

  pub stmts_with : Rewriting → ℕ → StmtsTree → StmtsTree
  stmts_with g n NoStmts = NoStmts
  stmts_with g n (Stmts stmt rest) = Stmts (stmt_with g n stmt) (stmts_with g (behind n (stmt_yield stmt)) rest)

  pub other_with : Rewriting → ℕ → OtherTree → OtherTree
  other_with g n NoOther = NoOther
  other_with g n (Other word stmt) = Other word (stmt_with g (suc n) stmt)

  pub group_with : Rewriting → ℕ → GroupTree → GroupTree
  group_with g n (Group word expression colon body) = Group word (option_with (expr_with g) (suc n) expression) colon (stmts_with g (suc (behind (suc n) (option_yield expr_yield expression))) body)

  pub groups_with : Rewriting → ℕ → GroupsTree → GroupsTree
  groups_with g n NoGroups = NoGroups
  groups_with g n (Groups group rest) = Groups (group_with g n group) (groups_with g (behind n (group_yield group)) rest)

  pub catch_with : Rewriting → ℕ → CatchTree → CatchTree
  catch_with g n (Catch word left fixed name id right body) = Catch word left fixed (g.written (behind (suc (suc n)) (option_yield tok_yield fixed)) name) (retext g (behind (behind (suc (suc n)) (option_yield tok_yield fixed)) (name_yield name)) id) right (block_with g (suc (suc (behind (behind (suc (suc n)) (option_yield tok_yield fixed)) (name_yield name)))) body)

  pub catches_with : Rewriting → ℕ → CatchesTree → CatchesTree
  catches_with g n NoCatches = NoCatches
  catches_with g n (Catches first rest) = Catches (catch_with g n first) (catches_with g (behind n (catch_yield first)) rest)

  pub last_with : Rewriting → ℕ → LastTree → LastTree
  last_with g n NoLast = NoLast
  last_with g n (Last word body) = Last word (block_with g (suc n) body)
