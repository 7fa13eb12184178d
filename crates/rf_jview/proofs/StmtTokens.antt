-- What becomes of the tokens of a statement that is rewritten.
use Rattle.std.proofs.Common.{ℕ, suc}
use Rattle.rf_jtree.specs.ExprTrees.{expr_yield, exprs_yield, init_yield}
use Rattle.rf_jtree.specs.NameTrees.{ManyTree, name_yield, type_yield, mods_yield, dims_yield, option_yield, behind_yield, tok_yield, many_yield}
use Rattle.rf_jtree.specs.StmtTrees.{VarTree, LocalTree, ForFirstTree, StmtTree, Block, Empty, Label, Expression, If, While, Do, For, Each, Switch, Jump, Return, Throw, Sync, Assert, Try}
use Rattle.rf_jtree.specs.StmtTrees.{BlockTree, Braces, StmtsTree, NoStmts, Stmts, OtherTree, NoOther, Other, GroupTree, Group, GroupsTree, NoGroups, Groups, CatchTree, Catch, CatchesTree, NoCatches, Catches, LastTree, NoLast, Last}
use Rattle.rf_jtree.specs.StmtTrees.{var_yield, local_yield, first_yield, stmt_yield, block_yield, stmts_yield, other_yield, group_yield, groups_yield, catch_yield, catches_yield, last_yield}
use Rattle.rf_jview.specs.ExprWith.{expr_with, init_with}
use Rattle.rf_jview.specs.Rewritings.{Rewriting, behind, behind_with}
use Rattle.rf_jview.specs.Rewritten.{Rewritten, none, type_name}
use Rattle.rf_jview.specs.StmtWith.{var_with, vars_with, local_with, first_with, stmt_with, block_with, stmts_with, other_with, group_with, groups_with, catch_with, catches_with, last_with}
use Rattle.rf_jview.proofs.ExprTokens.{expr_tokens, exprs_tokens, init_tokens}
use Rattle.rf_jview.proofs.Tokens.{joined, kept_then, text_then, same, optional_tokens, behind_tokens, many_tokens, type_tokens}

pub var_tokens : (g : Rewriting) (n : ℕ) (var : VarTree) → Rewritten g n (var_yield var) (var_yield (var_with g n var))
var_tokens g n var =
    text_then var.id (joined (same (dims_yield var.dims))
    (optional_tokens (behind_yield init_yield) (behind_with (init_with g)) (behind_tokens init_yield (init_with g) (init_tokens g)) (behind (suc n) (dims_yield var.dims)) var.init))

pub vars_tokens : (g : Rewriting) (n : ℕ) (vars : ManyTree VarTree) → Rewritten g n (many_yield var_yield vars) (many_yield var_yield (vars_with g n vars))
vars_tokens g n vars = many_tokens var_yield (var_with g) (var_tokens g) n vars

pub local_tokens : (g : Rewriting) (n : ℕ) (local : LocalTree) → Rewritten g n (local_yield local) (local_yield (local_with g n local))
local_tokens g n local =
    joined (same (mods_yield local.mods))
    (joined (type_tokens g (behind n (mods_yield local.mods)) local.used_type)
    (vars_tokens g (behind (behind n (mods_yield local.mods)) (type_yield local.used_type)) local.vars))

first_tokens : (g : Rewriting) (n : ℕ) (first : ForFirstTree) → Rewritten g n (first_yield first) (first_yield (first_with g n first))
first_tokens g n (ForFirstTree.Local local) = local_tokens g n local
first_tokens g n (ForFirstTree.Exprs exprs) = exprs_tokens g n exprs

mutual
  pub stmt_tokens : (g : Rewriting) (n : ℕ) (tree : StmtTree) → Rewritten g n (stmt_yield tree) (stmt_yield (stmt_with g n tree))
  stmt_tokens g n (Block block) = (block_tokens g n block)
  stmt_tokens g n (Empty semi) = kept_then semi (none _)
  stmt_tokens g n (StmtTree.Local local semi) = joined (local_tokens g n local) (kept_then semi (none _))
  stmt_tokens g n (Label id colon body) = kept_then id (kept_then colon ((stmt_tokens g (suc (suc n)) body)))
  stmt_tokens g n (Expression expression semi) = joined (expr_tokens g n expression) (kept_then semi (none _))
  stmt_tokens g n (If word left test right then other) = kept_then word (kept_then left (joined (expr_tokens g (suc (suc n)) test) (kept_then right (joined (stmt_tokens g (suc (behind (suc (suc n)) (expr_yield test))) then) ((other_tokens g (behind (suc (behind (suc (suc n)) (expr_yield test))) (stmt_yield then)) other))))))
  stmt_tokens g n (While word left test right body) = kept_then word (kept_then left (joined (expr_tokens g (suc (suc n)) test) (kept_then right ((stmt_tokens g (suc (behind (suc (suc n)) (expr_yield test))) body)))))
  stmt_tokens g n (Do word body until left test right semi) = kept_then word (joined (stmt_tokens g (suc n) body) (kept_then until (kept_then left (joined (expr_tokens g (suc (suc (behind (suc n) (stmt_yield body)))) test) (kept_then right (kept_then semi (none _)))))))
  stmt_tokens g n (For word left first semi1 test semi2 last right body) = kept_then word (kept_then left (joined (first_tokens g (suc (suc n)) first) (kept_then semi1 (joined (optional_tokens expr_yield (expr_with g) (expr_tokens g) (suc (behind (suc (suc n)) (first_yield first))) test) (kept_then semi2 (joined (exprs_tokens g (suc (behind (suc (behind (suc (suc n)) (first_yield first))) (option_yield expr_yield test))) last) (kept_then right ((stmt_tokens g (suc (behind (suc (behind (suc (behind (suc (suc n)) (first_yield first))) (option_yield expr_yield test))) (exprs_yield last))) body)))))))))
  stmt_tokens g n (Each word left mods used_type id colon over right body) = kept_then word (kept_then left (joined (same (mods_yield mods)) (joined (type_tokens g (behind (suc (suc n)) (mods_yield mods)) used_type) (text_then id (kept_then colon (joined (expr_tokens g (suc (suc (behind (behind (suc (suc n)) (mods_yield mods)) (type_yield used_type)))) over) (kept_then right ((stmt_tokens g (suc (behind (suc (suc (behind (behind (suc (suc n)) (mods_yield mods)) (type_yield used_type)))) (expr_yield over))) body)))))))))
  stmt_tokens g n (Switch word left on right brace groups end) = kept_then word (kept_then left (joined (expr_tokens g (suc (suc n)) on) (kept_then right (kept_then brace (joined (groups_tokens g (suc (suc (behind (suc (suc n)) (expr_yield on)))) groups) (kept_then end (none _)))))))
  stmt_tokens g n (Jump word label semi) = kept_then word (joined (same (option_yield tok_yield label)) (kept_then semi (none _)))
  stmt_tokens g n (Return word expression semi) = kept_then word (joined (optional_tokens expr_yield (expr_with g) (expr_tokens g) (suc n) expression) (kept_then semi (none _)))
  stmt_tokens g n (Throw word expression semi) = kept_then word (joined (expr_tokens g (suc n) expression) (kept_then semi (none _)))
  stmt_tokens g n (Sync word left on right body) = kept_then word (kept_then left (joined (expr_tokens g (suc (suc n)) on) (kept_then right ((block_tokens g (suc (behind (suc (suc n)) (expr_yield on))) body)))))
  stmt_tokens g n (Assert word test message semi) = kept_then word (joined (expr_tokens g (suc n) test) (joined (optional_tokens (behind_yield expr_yield) (behind_with (expr_with g)) (behind_tokens expr_yield (expr_with g) (expr_tokens g)) (behind (suc n) (expr_yield test)) message) (kept_then semi (none _))))
  stmt_tokens g n (Try word body catches last) = kept_then word (joined (block_tokens g (suc n) body) (joined (catches_tokens g (behind (suc n) (block_yield body)) catches) ((last_tokens g (behind (behind (suc n) (block_yield body)) (catches_yield catches)) last))))

  pub block_tokens : (g : Rewriting) (n : ℕ) (tree : BlockTree) → Rewritten g n (block_yield tree) (block_yield (block_with g n tree))
  block_tokens g n (Braces left list right) = kept_then left (joined (stmts_tokens g (suc n) list) (kept_then right (none _)))

  pub stmts_tokens : (g : Rewriting) (n : ℕ) (tree : StmtsTree) → Rewritten g n (stmts_yield tree) (stmts_yield (stmts_with g n tree))
  stmts_tokens g n NoStmts = none n
  stmts_tokens g n (Stmts stmt rest) = joined (stmt_tokens g n stmt) ((stmts_tokens g (behind n (stmt_yield stmt)) rest))

  pub other_tokens : (g : Rewriting) (n : ℕ) (tree : OtherTree) → Rewritten g n (other_yield tree) (other_yield (other_with g n tree))
  other_tokens g n NoOther = none n
  other_tokens g n (Other word stmt) = kept_then word ((stmt_tokens g (suc n) stmt))

  pub group_tokens : (g : Rewriting) (n : ℕ) (tree : GroupTree) → Rewritten g n (group_yield tree) (group_yield (group_with g n tree))
  group_tokens g n (Group word expression colon body) = kept_then word (joined (optional_tokens expr_yield (expr_with g) (expr_tokens g) (suc n) expression) (kept_then colon ((stmts_tokens g (suc (behind (suc n) (option_yield expr_yield expression))) body))))

  pub groups_tokens : (g : Rewriting) (n : ℕ) (tree : GroupsTree) → Rewritten g n (groups_yield tree) (groups_yield (groups_with g n tree))
  groups_tokens g n NoGroups = none n
  groups_tokens g n (Groups group rest) = joined (group_tokens g n group) ((groups_tokens g (behind n (group_yield group)) rest))

  pub catch_tokens : (g : Rewriting) (n : ℕ) (tree : CatchTree) → Rewritten g n (catch_yield tree) (catch_yield (catch_with g n tree))
  catch_tokens g n (Catch word left fixed name id right body) = kept_then word (kept_then left (joined (same (option_yield tok_yield fixed)) (joined (type_name (behind (suc (suc n)) (option_yield tok_yield fixed)) name) (text_then id (kept_then right ((block_tokens g (suc (suc (behind (behind (suc (suc n)) (option_yield tok_yield fixed)) (name_yield name)))) body)))))))

  pub catches_tokens : (g : Rewriting) (n : ℕ) (tree : CatchesTree) → Rewritten g n (catches_yield tree) (catches_yield (catches_with g n tree))
  catches_tokens g n NoCatches = none n
  catches_tokens g n (Catches first rest) = joined (catch_tokens g n first) ((catches_tokens g (behind n (catch_yield first)) rest))

  pub last_tokens : (g : Rewriting) (n : ℕ) (tree : LastTree) → Rewritten g n (last_yield tree) (last_yield (last_with g n tree))
  last_tokens g n NoLast = none n
  last_tokens g n (Last word body) = kept_then word ((block_tokens g (suc n) body))
