-- The trees of statements, without the pointers that programs keep between their parts; the tokens of each from left to
-- right, and its depth. Where a statement leads back to itself through a list or a part that may be left out, that list
-- or part is a type of its own.
use Rattle.std.specs.Prelude.{ℕ, ◌+◌, max, List, [], ◌∷◌, ◌++◌, Option}
use Rattle.rf_jtree.specs.declared.names.Dims.{Dims}
use Rattle.rf_jtree.specs.declared.tokens.Tok.{Tok}
use Rattle.rf_jtree.specs.ExprTrees.{ExprTree, ExprsTree, InitTree, expr_yield, exprs_yield, init_yield, expr_depth, exprs_depth, init_depth}
use Rattle.rf_jtree.specs.NameTrees.{ManyTree, NameTree, TypeUseTree, ModTree, name_yield, type_yield, dims_yield, mods_yield, tok_yield, option_yield, many_yield, behind_yield, option_depth, many_depth}

-- a variable: its name, brackets, and what it begins with (JLS 8.3, 14.4)
pub record VarTree : Type 0 where
  pub id : Tok
  pub dims : Dims
  pub init : Option (Tok × InitTree)

-- a local declaration, without its `;` (JLS 14.4)
pub record LocalTree : Type 0 where
  pub mods : List ModTree
  pub used_type : TypeUseTree
  pub vars : ManyTree VarTree

-- what a basic `for` begins with: a local declaration, or expressions (JLS 14.14.1)
pub data ForFirstTree : Type 0 where
  Local : LocalTree → ForFirstTree
  Exprs : ExprsTree → ForFirstTree

mutual
  -- a statement (JLS 14)
  pub data StmtTree : Type 0 where
    Block : BlockTree → StmtTree
    Empty : Tok → StmtTree
    Local : LocalTree → Tok → StmtTree
    Label : Tok → Tok → StmtTree → StmtTree
    Expression : ExprTree → Tok → StmtTree
    If : (word left : Tok) (test : ExprTree) (right : Tok) (then : StmtTree) (other : OtherTree) → StmtTree
    While : (word left : Tok) (test : ExprTree) (right : Tok) (body : StmtTree) → StmtTree
    Do : (word : Tok) (body : StmtTree) (until left : Tok) (test : ExprTree) (right semi : Tok) → StmtTree
    For : (word left : Tok) (first : ForFirstTree) (semi1 : Tok) (test : Option ExprTree) (semi2 : Tok) (last : ExprsTree) (right : Tok) (body : StmtTree) → StmtTree
    Each : (word left : Tok) (mods : List ModTree) (used_type : TypeUseTree) (id colon : Tok) (over : ExprTree) (right : Tok) (body : StmtTree) → StmtTree
    Switch : (word left : Tok) (on : ExprTree) (right brace : Tok) (groups : GroupsTree) (end : Tok) → StmtTree
    Jump : Tok → Option Tok → Tok → StmtTree
    Return : Tok → Option ExprTree → Tok → StmtTree
    Throw : Tok → ExprTree → Tok → StmtTree
    Sync : (word left : Tok) (on : ExprTree) (right : Tok) (body : BlockTree) → StmtTree
    Assert : Tok → ExprTree → Option (Tok × ExprTree) → Tok → StmtTree
    Try : (word : Tok) (body : BlockTree) (catches : CatchesTree) (last : LastTree) → StmtTree

  -- statements in braces (JLS 14.2)
  pub data BlockTree : Type 0 where
    Braces : (left : Tok) (list : StmtsTree) (right : Tok) → BlockTree

  pub data StmtsTree : Type 0 where
    NoStmts : StmtsTree
    Stmts : StmtTree → StmtsTree → StmtsTree

  -- the other part of an `if`, if it has one (JLS 14.9)
  pub data OtherTree : Type 0 where
    NoOther : OtherTree
    Other : Tok → StmtTree → OtherTree

  -- `case value:` or `default:` with the statements up to the next one (JLS 14.11)
  pub data GroupTree : Type 0 where
    Group : (word : Tok) (expression : Option ExprTree) (colon : Tok) (body : StmtsTree) → GroupTree

  pub data GroupsTree : Type 0 where
    NoGroups : GroupsTree
    Groups : GroupTree → GroupsTree → GroupsTree

  -- a catch clause (JLS 14.20)
  pub data CatchTree : Type 0 where
    Catch : (word left : Tok) (fixed : Option Tok) (name : NameTree) (id right : Tok) (body : BlockTree) → CatchTree

  pub data CatchesTree : Type 0 where
    NoCatches : CatchesTree
    Catches : CatchTree → CatchesTree → CatchesTree

  -- the last part of a `try`, if it has one (JLS 14.20.2)
  pub data LastTree : Type 0 where
    NoLast : LastTree
    Last : Tok → BlockTree → LastTree

-- the tokens from left to right
abbrev pub var_yield : VarTree → List Tok
var_yield var = var.id ∷ (dims_yield var.dims ++ option_yield (behind_yield init_yield) var.init)

abbrev pub local_yield : LocalTree → List Tok
local_yield local = mods_yield local.mods ++ (type_yield local.used_type ++ many_yield var_yield local.vars)

abbrev pub first_yield : ForFirstTree → List Tok
first_yield (ForFirstTree.Local local) = local_yield local
first_yield (ForFirstTree.Exprs exprs) = exprs_yield exprs

abbrev mutual
  pub stmt_yield : StmtTree → List Tok
  stmt_yield (Block block) = block_yield block
  stmt_yield (Empty semi) = semi ∷ []
  stmt_yield (StmtTree.Local local semi) = local_yield local ++ semi ∷ []
  stmt_yield (Label id colon body) = id ∷ colon ∷ stmt_yield body
  stmt_yield (Expression expression semi) = expr_yield expression ++ semi ∷ []
  stmt_yield (If word left test right then other) = word ∷ left ∷ (expr_yield test ++ right ∷ (stmt_yield then ++ other_yield other))
  stmt_yield (While word left test right body) = word ∷ left ∷ (expr_yield test ++ right ∷ stmt_yield body)
  stmt_yield (Do word body until left test right semi) = word ∷ (stmt_yield body ++ until ∷ left ∷ (expr_yield test ++ right ∷ semi ∷ []))
  stmt_yield (For word left first semi1 test semi2 last right body) =
      word ∷ left ∷ (first_yield first ++ semi1 ∷ (option_yield expr_yield test ++ semi2 ∷ (exprs_yield last ++ right ∷ stmt_yield body)))
  stmt_yield (Each word left mods used_type id colon over right body) =
      word ∷ left ∷ (mods_yield mods ++ (type_yield used_type ++ id ∷ colon ∷ (expr_yield over ++ right ∷ stmt_yield body)))
  stmt_yield (Switch word left on right brace groups end) = word ∷ left ∷ (expr_yield on ++ right ∷ brace ∷ (groups_yield groups ++ end ∷ []))
  stmt_yield (Jump word label semi) = word ∷ (option_yield tok_yield label ++ semi ∷ [])
  stmt_yield (Return word expression semi) = word ∷ (option_yield expr_yield expression ++ semi ∷ [])
  stmt_yield (Throw word expression semi) = word ∷ (expr_yield expression ++ semi ∷ [])
  stmt_yield (Sync word left on right body) = word ∷ left ∷ (expr_yield on ++ right ∷ block_yield body)
  stmt_yield (Assert word test message semi) = word ∷ (expr_yield test ++ (option_yield (behind_yield expr_yield) message ++ semi ∷ []))
  stmt_yield (Try word body catches last) = word ∷ (block_yield body ++ (catches_yield catches ++ last_yield last))

  pub block_yield : BlockTree → List Tok
  block_yield (Braces left list right) = left ∷ (stmts_yield list ++ right ∷ [])

  pub stmts_yield : StmtsTree → List Tok
  stmts_yield NoStmts = []
  stmts_yield (Stmts stmt rest) = stmt_yield stmt ++ stmts_yield rest

  pub other_yield : OtherTree → List Tok
  other_yield NoOther = []
  other_yield (Other word stmt) = word ∷ stmt_yield stmt

  pub group_yield : GroupTree → List Tok
  group_yield (Group word expression colon body) = word ∷ (option_yield expr_yield expression ++ colon ∷ stmts_yield body)

  pub groups_yield : GroupsTree → List Tok
  groups_yield NoGroups = []
  groups_yield (Groups group rest) = group_yield group ++ groups_yield rest

  pub catch_yield : CatchTree → List Tok
  catch_yield (Catch word left fixed name id right body) =
      word ∷ left ∷ (option_yield tok_yield fixed ++ (name_yield name ++ id ∷ right ∷ block_yield body))

  pub catches_yield : CatchesTree → List Tok
  catches_yield NoCatches = []
  catches_yield (Catches first rest) = catch_yield first ++ catches_yield rest

  pub last_yield : LastTree → List Tok
  last_yield NoLast = []
  last_yield (Last word body) = word ∷ block_yield body

-- The depth: that of the deepest expression in a declaration, 0 where there is none.
abbrev pub var_depth : VarTree → ℕ
var_depth var = option_depth (λ init. init_depth init.1) var.init

abbrev pub local_depth : LocalTree → ℕ
local_depth local = many_depth var_depth local.vars

abbrev pub first_depth : ForFirstTree → ℕ
first_depth (ForFirstTree.Local local) = local_depth local
first_depth (ForFirstTree.Exprs exprs) = exprs_depth exprs

-- A statement has one more than the deepest expression or statement in it; braces alone are no level of their own.
abbrev mutual
  pub stmt_depth : StmtTree → ℕ
  stmt_depth (Block block) = block_depth block + 1
  stmt_depth (Empty semi) = 1
  stmt_depth (StmtTree.Local local semi) = local_depth local + 1
  stmt_depth (Label id colon body) = stmt_depth body + 1
  stmt_depth (Expression expression semi) = expr_depth expression + 1
  stmt_depth (If word left test right then other) = max (expr_depth test) (max (stmt_depth then) (other_depth other)) + 1
  stmt_depth (While word left test right body) = max (expr_depth test) (stmt_depth body) + 1
  stmt_depth (Do word body until left test right semi) = max (stmt_depth body) (expr_depth test) + 1
  stmt_depth (For word left first semi1 test semi2 last right body) =
      max (first_depth first) (max (option_depth expr_depth test) (max (exprs_depth last) (stmt_depth body))) + 1
  stmt_depth (Each word left mods used_type id colon over right body) = max (expr_depth over) (stmt_depth body) + 1
  stmt_depth (Switch word left on right brace groups end) = max (expr_depth on) (groups_depth groups) + 1
  stmt_depth (Jump word label semi) = 1
  stmt_depth (Return word expression semi) = option_depth expr_depth expression + 1
  stmt_depth (Throw word expression semi) = expr_depth expression + 1
  stmt_depth (Sync word left on right body) = max (expr_depth on) (block_depth body) + 1
  stmt_depth (Assert word test message semi) = max (expr_depth test) (option_depth (λ part. expr_depth part.1) message) + 1
  stmt_depth (Try word body catches last) = max (block_depth body) (max (catches_depth catches) (last_depth last)) + 1

  pub block_depth : BlockTree → ℕ
  block_depth (Braces left list right) = stmts_depth list

  pub stmts_depth : StmtsTree → ℕ
  stmts_depth NoStmts = 0
  stmts_depth (Stmts stmt rest) = max (stmt_depth stmt) (stmts_depth rest)

  pub other_depth : OtherTree → ℕ
  other_depth NoOther = 0
  other_depth (Other word stmt) = stmt_depth stmt

  pub group_depth : GroupTree → ℕ
  group_depth (Group word expression colon body) = max (option_depth expr_depth expression) (stmts_depth body)

  pub groups_depth : GroupsTree → ℕ
  groups_depth NoGroups = 0
  groups_depth (Groups group rest) = max (group_depth group) (groups_depth rest)

  pub catch_depth : CatchTree → ℕ
  catch_depth (Catch word left fixed name id right body) = block_depth body

  pub catches_depth : CatchesTree → ℕ
  catches_depth NoCatches = 0
  catches_depth (Catches first rest) = max (catch_depth first) (catches_depth rest)

  pub last_depth : LastTree → ℕ
  last_depth NoLast = 0
  last_depth (Last word body) = block_depth body
