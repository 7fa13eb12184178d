-- How large a statement is: more than all its parts together. A check of a statement goes to lighter parts.
use Rattle.std.proofs.Common.{ℕ, ◌+◌}
use Rattle.rf_jtree.specs.StmtTrees.{StmtTree, Block, Empty, Label, Expression, If, While, Do, For, Each, Switch, Jump, Return, Throw, Sync, Assert, Try}
use Rattle.rf_jtree.specs.StmtTrees.{BlockTree, Braces, StmtsTree, NoStmts, Stmts, OtherTree, NoOther, Other, GroupTree, Group, GroupsTree, NoGroups, Groups, CatchTree, Catch, CatchesTree, NoCatches, Catches, LastTree, NoLast, Last}

abbrev mutual
  pub stmt_weight : StmtTree → ℕ
  stmt_weight (Block block) = 1 + block_weight block
  stmt_weight (Empty semi) = 1
  stmt_weight (StmtTree.Local local semi) = 1
  stmt_weight (Label id colon body) = 1 + stmt_weight body
  stmt_weight (Expression expression semi) = 1
  stmt_weight (If word left test right then other) = 1 + (stmt_weight then + other_weight other)
  stmt_weight (While word left test right body) = 1 + stmt_weight body
  stmt_weight (Do word body until left test right semi) = 1 + stmt_weight body
  stmt_weight (For word left first semi1 test semi2 last right body) = 1 + stmt_weight body
  stmt_weight (Each word left mods used_type id colon over right body) = 1 + stmt_weight body
  stmt_weight (Switch word left on right brace groups end) = 1 + groups_weight groups
  stmt_weight (Jump word label semi) = 1
  stmt_weight (Return word expression semi) = 1
  stmt_weight (Throw word expression semi) = 1
  stmt_weight (Sync word left on right body) = 1 + block_weight body
  stmt_weight (Assert word test message semi) = 1
  stmt_weight (Try word body catches last) = 1 + (block_weight body + (catches_weight catches + last_weight last))

  pub block_weight : BlockTree → ℕ
  block_weight (Braces left list right) = 1 + stmts_weight list

  pub stmts_weight : StmtsTree → ℕ
  stmts_weight NoStmts = 1
  stmts_weight (Stmts stmt rest) = 1 + (stmt_weight stmt + stmts_weight rest)

  pub other_weight : OtherTree → ℕ
  other_weight NoOther = 1
  other_weight (Other word stmt) = 1 + stmt_weight stmt

  pub group_weight : GroupTree → ℕ
  group_weight (Group word expression colon body) = 1 + stmts_weight body

  pub groups_weight : GroupsTree → ℕ
  groups_weight NoGroups = 1
  groups_weight (Groups group rest) = 1 + (group_weight group + groups_weight rest)

  pub catch_weight : CatchTree → ℕ
  catch_weight (Catch word left fixed name id right body) = 1 + block_weight body

  pub catches_weight : CatchesTree → ℕ
  catches_weight NoCatches = 1
  catches_weight (Catches first rest) = 1 + (catch_weight first + catches_weight rest)

  pub last_weight : LastTree → ℕ
  last_weight NoLast = 1
  last_weight (Last word body) = 1 + block_weight body
