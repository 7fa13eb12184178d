-- What stands in statements and local declarations. Each part is told how far behind the beginning of its block it stands.
use Rattle.std.specs.Prelude.{ℕ, ◌+◌, List, [], ◌∷◌, ◌++◌, Option}
use Rattle.rf_jtree.specs.declared.tokens.Tok.{Tok}
use Rattle.rf_jtree.specs.ExprTrees.{ExprTree, ExprsTree}
use Rattle.rf_jtree.specs.NameTrees.{ManyTree, TypeUseTree, ModTree, option_yield, tok_yield}
use Rattle.rf_jtree.specs.StmtTrees.{VarTree, LocalTree, ForFirstTree, StmtTree, Block, Empty, Label, Expression, If, While, Do, For, Each, Switch, Jump, Return, Throw, Sync, Assert, Try}
use Rattle.rf_jtree.specs.StmtTrees.{BlockTree, Braces, StmtsTree, NoStmts, Stmts, OtherTree, NoOther, Other, GroupTree, Group, GroupsTree, NoGroups, Groups, CatchTree, Catch, CatchesTree, NoCatches, Catches, LastTree, NoLast, Last}
use Rattle.rf_jview.specs.declared.marks.Mark.{Mark}
use Rattle.rf_jview.specs.declared.marks.Mark.TheVariants as m
use Rattle.rf_jview.specs.declared.marks.Opening.{Opening}
use Rattle.rf_jview.specs.declared.marks.Opening.TheVariants as o
use Rattle.rf_jview.specs.ExprMarks.{expr_marks, exprs_marks, init_marks}
use Rattle.rf_jview.specs.MarkWords.{counted, after, plains, opens}
use Rattle.rf_jview.specs.NameMarks.{type_name_marks, type_marks, dims_marks, mods_marks, option_marks, behind_marks}

-- what stands behind the identifier of a variable (JLS 8.3, 14.4)
abbrev pub beginning_marks : VarTree → List Mark
beginning_marks var = dims_marks var.dims ++ option_marks (behind_marks init_marks) var.init

-- A local declaration declares each of its variables in the block around it (JLS 14.4).
abbrev pub local_var_marks : ℕ → VarTree → List Mark
local_var_marks back var = m.Local back ∷ beginning_marks var

abbrev pub more_locals_marks : ℕ → List (Tok × VarTree) → List Mark
more_locals_marks back [] = []
more_locals_marks back (item ∷ rest) =
    m.Plain ∷ (local_var_marks (back + 1) item.1 ++ more_locals_marks (after (back + 1) (local_var_marks (back + 1) item.1)) rest)

abbrev pub locals_marks : ℕ → ManyTree VarTree → List Mark
locals_marks back vars = local_var_marks back vars.first ++ more_locals_marks (after back (local_var_marks back vars.first)) vars.rest

abbrev pub local_marks : ℕ → LocalTree → List Mark
local_marks back local =
    mods_marks local.mods ++ (type_marks local.used_type ++ locals_marks (after (after back (mods_marks local.mods)) (type_marks local.used_type)) local.vars)

abbrev pub first_marks : ℕ → ForFirstTree → List Mark
first_marks back (ForFirstTree.Local local) = local_marks back local
first_marks back (ForFirstTree.Exprs exprs) = exprs_marks exprs

-- a keyword with an expression in parentheses
abbrev pub head_marks : ExprTree → List Mark
head_marks test = m.Plain ∷ m.Plain ∷ (expr_marks test ++ m.Plain ∷ [])

-- a basic `for` from its `(` on (JLS 14.14.1)
abbrev pub for_head_marks : ForFirstTree → Option ExprTree → ExprsTree → List Mark
for_head_marks first test last =
    m.Plain ∷ (first_marks 2 first ++ m.Plain ∷ (option_marks expr_marks test ++ m.Plain ∷ (exprs_marks last ++ m.Plain ∷ [])))

-- `for (T x : over` (JLS 14.14.2). The block of the variable begins behind that, with `)`.
abbrev pub over_marks : ExprTree → List Mark
over_marks over = m.Ahead (2 + counted (expr_marks over)) ∷ m.Plain ∷ expr_marks over

abbrev pub each_head_marks : List ModTree → TypeUseTree → ExprTree → List Mark
each_head_marks mods used_type over =
    m.Plain ∷ m.Plain ∷ (mods_marks mods ++ (type_marks used_type ++ over_marks over))

-- `catch (T x)`, the block of whose variable begins behind it (JLS 14.20)
abbrev pub catch_head_marks : Option Tok → List Mark → List Mark
catch_head_marks fixed name = m.Plain ∷ m.Plain ∷ (plains (option_yield tok_yield fixed) ++ (name ++ m.Ahead 2 ∷ m.Plain ∷ []))

abbrev mutual
  -- Braces are blocks, and so are a basic `for` with its body, the body of another `for`, and the braces of a `switch`
  -- (JLS 14.2, 14.11, 14.14).
  pub stmt_marks : ℕ → StmtTree → List Mark
  stmt_marks back (Block block) = block_marks o.Block block
  stmt_marks back (Empty semi) = m.Plain ∷ []
  stmt_marks back (StmtTree.Local local semi) = local_marks back local ++ m.Plain ∷ []
  stmt_marks back (Label id colon body) = m.Plain ∷ m.Plain ∷ stmt_marks (back + 1 + 1) body
  stmt_marks back (Expression expression semi) = expr_marks expression ++ m.Plain ∷ []
  stmt_marks back (If word left test right then other) =
      head_marks test ++ (stmt_marks (after back (head_marks test)) then
      ++ other_marks (after (after back (head_marks test)) (stmt_marks (after back (head_marks test)) then)) other)
  stmt_marks back (While word left test right body) = head_marks test ++ stmt_marks (after back (head_marks test)) body
  stmt_marks back (Do word body until left test right semi) = m.Plain ∷ (stmt_marks (back + 1) body ++ (head_marks test ++ m.Plain ∷ []))
  stmt_marks back (For word left first semi1 test semi2 last right body) =
      opens o.Block (for_head_marks first test last ++ stmt_marks (after 1 (for_head_marks first test last)) body)
  stmt_marks back (Each word left mods used_type id colon over right body) = each_head_marks mods used_type over ++ opens o.Block (stmt_marks 1 body)
  stmt_marks back (Switch word left on right brace groups end) = head_marks on ++ opens o.Block (groups_marks 1 groups ++ m.Plain ∷ [])
  stmt_marks back (Jump word label semi) = m.Plain ∷ (plains (option_yield tok_yield label) ++ m.Plain ∷ [])
  stmt_marks back (Return word expression semi) = m.Plain ∷ (option_marks expr_marks expression ++ m.Plain ∷ [])
  stmt_marks back (Throw word expression semi) = m.Plain ∷ (expr_marks expression ++ m.Plain ∷ [])
  stmt_marks back (Sync word left on right body) = head_marks on ++ block_marks o.Block body
  stmt_marks back (Assert word test message semi) = m.Plain ∷ (expr_marks test ++ (option_marks (behind_marks expr_marks) message ++ m.Plain ∷ []))
  stmt_marks back (Try word body catches last) = m.Plain ∷ (block_marks o.Block body ++ (catches_marks catches ++ last_marks last))

  pub block_marks : Opening → BlockTree → List Mark
  block_marks opening (Braces left list right) = opens opening (stmts_marks 1 list ++ m.Plain ∷ [])

  pub stmts_marks : ℕ → StmtsTree → List Mark
  stmts_marks back NoStmts = []
  stmts_marks back (Stmts stmt rest) = stmt_marks back stmt ++ stmts_marks (after back (stmt_marks back stmt)) rest

  pub other_marks : ℕ → OtherTree → List Mark
  other_marks back NoOther = []
  other_marks back (Other word stmt) = m.Plain ∷ stmt_marks (back + 1) stmt

  pub group_marks : ℕ → GroupTree → List Mark
  group_marks back (Group word expression colon body) =
      m.Plain ∷ (option_marks expr_marks expression ++ m.Plain ∷ stmts_marks (after (back + 1) (option_marks expr_marks expression) + 1) body)

  pub groups_marks : ℕ → GroupsTree → List Mark
  groups_marks back NoGroups = []
  groups_marks back (Groups group rest) = group_marks back group ++ groups_marks (after back (group_marks back group)) rest

  pub catch_marks : CatchTree → List Mark
  catch_marks (Catch word left fixed name id right body) = catch_head_marks fixed (type_name_marks name) ++ block_marks o.Block body

  pub catches_marks : CatchesTree → List Mark
  catches_marks NoCatches = []
  catches_marks (Catches first rest) = catch_marks first ++ catches_marks rest

  pub last_marks : LastTree → List Mark
  last_marks NoLast = []
  last_marks (Last word body) = m.Plain ∷ block_marks o.Block body
