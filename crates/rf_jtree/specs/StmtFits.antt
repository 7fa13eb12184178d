-- When statements fit: the forms of the grammar, and the further conditions, each under a name. They look at finished
-- trees alone.
use Rattle.std.specs.Prelude.{List, ◌⊎◌, Bool, true, false, Option, Some, None, IsTrue, IfSome}
use Rattle.rf_jtree.specs.declared.tokens.Tok.{Tok}
use Rattle.rf_jtree.specs.declared.words.Kw.{Kw}
use Rattle.rf_jtree.specs.declared.operator_names.TheConstants.{COMMA, COLON, SEMICOLON, ASSIGN, SUFFIXES}
use Rattle.rf_jtree.specs.declared.keyword_names.TheConstants.{ASSERT, BREAK, CASE, CATCH, CONTINUE, DEFAULT, DO, ELSE, FINAL, FINALLY, FOR, IF, RETURN, SWITCH, SYNCHRONIZED, THROW, TRY, WHILE}
use Rattle.rf_jtree.specs.ExprFits.{ExprFits, ExprsFit, InitFits}
use Rattle.rf_jtree.specs.ExprTrees.{ExprTree, Assign, Unary, Postfix, Call, Super, SuperArgs, New, ExprsTree, NoExprs, Exprs, MoreExprsTree, NoMoreExprs, MoreExprs, InitTree}
use Rattle.rf_jtree.specs.Kinds.{IsOp, IsKey, IsIdent, AreParens, AreBraces, is_op_of}
use Rattle.rf_jtree.specs.NameFits.{EachFits, ManyFit, NameFits, DimsFit, TypeFits, ModsFit}
use Rattle.rf_jtree.specs.NameTrees.{ModTree, Word}
use Rattle.rf_jtree.specs.StmtTrees.{VarTree, LocalTree, ForFirstTree, StmtTree, Block, Empty, Label, Expression, If, While, Do, For, Each, Switch, Jump, Return, Throw, Sync, Assert, Try}
use Rattle.rf_jtree.specs.StmtTrees.{BlockTree, Braces, StmtsTree, NoStmts, Stmts, OtherTree, NoOther, Other, GroupTree, Group, GroupsTree, NoGroups, Groups, CatchTree, Catch, CatchesTree, NoCatches, Catches, LastTree, NoLast, Last}

-- A local variable or a parameter has `final` and annotations alone (JLS 8.4.1, 14.4).
abbrev pub IsFinalOrAnnotation : ModTree → Type 0
IsFinalOrAnnotation (Word tok) = IsKey FINAL tok
IsFinalOrAnnotation annotation = Unit {0}

pub record VariableModsFit (mods : List ModTree) : Type 0 where
  pub fit : ModsFit mods
  pub each : EachFits IsFinalOrAnnotation mods

-- a variable: its name, brackets, and what it begins with (JLS 8.3, 14.4)
abbrev pub BeginningFits : Tok × InitTree → Type 0
BeginningFits beginning = IsOp ASSIGN beginning.0 × InitFits beginning.1

pub record VarFits (var : VarTree) : Type 0 where
  pub id_is : IsIdent var.id
  pub dims_fit : DimsFit var.dims
  pub beginning_fits : IfSome var.init BeginningFits

-- a local declaration, without its `;` (JLS 14.4)
pub record LocalFits (local : LocalTree) : Type 0 where
  pub mods_fit : VariableModsFit local.mods
  pub used_type_fits : TypeFits local.used_type
  pub vars_fit : ManyFit VarFits COMMA local.vars

-- A local declaration stands in braces or behind a label of a `switch` alone, so it is no part of another statement
-- (JLS 14.4).
abbrev pub IsNoLocal : StmtTree → Type 0
IsNoLocal (StmtTree.Local local semi) = ⊥
IsNoLocal stmt = Unit {0}

-- An expression that is a statement is an assignment, has `++` or `--`, is a call, or is a new object and no new array
-- (JLS 14.8).
abbrev pub IsStatementExpr : ExprTree → Type 0
IsStatementExpr (Assign left op expression) = Unit {0}
IsStatementExpr (Unary op expression) = IsTrue (is_op_of SUFFIXES op)
IsStatementExpr (Postfix expression op) = Unit {0}
IsStatementExpr (Call on id args) = Unit {0}
IsStatementExpr (Super word dot id (SuperArgs args)) = Unit {0}
IsStatementExpr (New word name args) = Unit {0}
IsStatementExpr expr = ⊥

-- The expressions in the first and the third part of a `for` are such expressions too (JLS 14.14.1).
abbrev pub AreMoreStatementExprs : MoreExprsTree → Type 0
AreMoreStatementExprs NoMoreExprs = Unit {0}
AreMoreStatementExprs (MoreExprs comma expr rest) = IsStatementExpr expr × AreMoreStatementExprs rest

abbrev pub AreStatementExprs : ExprsTree → Type 0
AreStatementExprs NoExprs = Unit {0}
AreStatementExprs (Exprs first rest) = IsStatementExpr first × AreMoreStatementExprs rest

-- what a basic `for` begins with (JLS 14.14.1)
abbrev pub FirstFits : ForFirstTree → Type 0
FirstFits (ForFirstTree.Local local) = LocalFits local
FirstFits (ForFirstTree.Exprs exprs) = AreStatementExprs exprs × ExprsFit exprs

-- A statement ends open where an `else` behind it would go on with it: it ends with an `if` that has no `else` (JLS 14.5).
abbrev mutual
  pub ends_open : StmtTree → Bool
  ends_open (Label id colon body) = ends_open body
  ends_open (If word left test right then other) = other_ends_open other
  ends_open (While word left test right body) = ends_open body
  ends_open (For word left first semi1 test semi2 last right body) = ends_open body
  ends_open (Each word left mods used_type id colon over right body) = ends_open body
  ends_open stmt = false

  pub other_ends_open : OtherTree → Bool
  other_ends_open NoOther = true
  other_ends_open (Other word stmt) = ends_open stmt

abbrev pub EndsOpen : StmtTree → Type 0
EndsOpen stmt = IsTrue (ends_open stmt)

-- An `else` belongs to the nearest `if`, so nothing that ends open stands before it (JLS 14.5, 14.9).
abbrev pub IsNearestIf : StmtTree → OtherTree → Type 0
IsNearestIf then NoOther = Unit {0}
IsNearestIf then (Other word stmt) = ¬ (EndsOpen then)

-- A `try` has a catch or a `finally` (JLS 14.20).
abbrev pub HasCatchOrLast : CatchesTree → LastTree → Type 0
HasCatchOrLast NoCatches NoLast = ⊥
HasCatchOrLast NoCatches (Last word body) = Unit {0}
HasCatchOrLast (Catches first rest) last = Unit {0}

-- What each form asks of its tokens, and of its parts beside that they fit.

-- a keyword with something in parentheses behind it, as in `if (..)`
pub record IsHead (key : Kw) (word left right : Tok) : Type 0 where
  pub word_is : IsKey key word
  pub parens : AreParens left right

-- a label (JLS 14.7)
pub record IsLabel (id colon : Tok) (body : StmtTree) : Type 0 where
  pub id_is : IsIdent id
  pub colon_is : IsOp COLON colon
  pub no_local : IsNoLocal body

-- an expression and `;` (JLS 14.8)
pub record IsExpressionStmt (expression : ExprTree) (semi : Tok) : Type 0 where
  pub statement : IsStatementExpr expression
  pub semi_is : IsOp SEMICOLON semi

-- `if (..) then`, with an `else` or without (JLS 14.9)
pub record IsIf (word left right : Tok) (then : StmtTree) (other : OtherTree) : Type 0 where
  pub head : IsHead IF word left right
  pub nearest : IsNearestIf then other
  pub no_local : IsNoLocal then

-- `while (..) body` (JLS 14.12)
pub record IsWhile (word left right : Tok) (body : StmtTree) : Type 0 where
  pub head : IsHead WHILE word left right
  pub no_local : IsNoLocal body

-- `do body while (..);` (JLS 14.13)
pub record IsDo (word : Tok) (body : StmtTree) (until left right semi : Tok) : Type 0 where
  pub word_is : IsKey DO word
  pub no_local : IsNoLocal body
  pub until_is : IsHead WHILE until left right
  pub semi_is : IsOp SEMICOLON semi

-- `for (first; test; last) body` (JLS 14.14.1)
pub record IsFor (word left semi1 semi2 : Tok) (last : ExprsTree) (right : Tok) (body : StmtTree) : Type 0 where
  pub head : IsHead FOR word left right
  pub semi1_is : IsOp SEMICOLON semi1
  pub semi2_is : IsOp SEMICOLON semi2
  pub last_statements : AreStatementExprs last
  pub no_local : IsNoLocal body

-- `for (T x : over) body` (JLS 14.14.2)
pub record IsEach (word left : Tok) (mods : List ModTree) (id colon right : Tok) (body : StmtTree) : Type 0 where
  pub head : IsHead FOR word left right
  pub mods_fit : VariableModsFit mods
  pub id_is : IsIdent id
  pub colon_is : IsOp COLON colon
  pub no_local : IsNoLocal body

-- `switch (..) {..}` (JLS 14.11)
pub record IsSwitch (word left right brace end : Tok) : Type 0 where
  pub head : IsHead SWITCH word left right
  pub braces : AreBraces brace end

-- `case value:`, or `default:` without a value (JLS 14.11)
abbrev pub IsGroupWord : Tok → Option ExprTree → Type 0
IsGroupWord word None = IsKey DEFAULT word
IsGroupWord word (Some expression) = IsKey CASE word

-- `break` or `continue`, with a label or without (JLS 14.15, 14.16)
pub record IsJump (word : Tok) (label : Option Tok) (semi : Tok) : Type 0 where
  pub word_is : (IsKey BREAK word) ⊎ (IsKey CONTINUE word)
  pub label_is : IfSome label IsIdent
  pub semi_is : IsOp SEMICOLON semi

-- a keyword and `;`, with an expression between them: `return` and `throw` (JLS 14.17, 14.18)
pub record IsExit (key : Kw) (word semi : Tok) : Type 0 where
  pub word_is : IsKey key word
  pub semi_is : IsOp SEMICOLON semi

-- the second expression of an `assert` (JLS 14.10)
abbrev pub MessageFits : Tok × ExprTree → Type 0
MessageFits message = IsOp COLON message.0 × ExprFits message.1

-- `catch (..)`, with `final` or without (JLS 14.20)
pub record IsCatch (word left : Tok) (fixed : Option Tok) (id right : Tok) : Type 0 where
  pub head : IsHead CATCH word left right
  pub fixed_is : IfSome fixed (IsKey FINAL)
  pub id_is : IsIdent id

-- `try` with at least one of its other parts (JLS 14.20)
pub record IsTry (word : Tok) (catches : CatchesTree) (last : LastTree) : Type 0 where
  pub word_is : IsKey TRY word
  pub has_part : HasCatchOrLast catches last

-- A statement fits, or a local declaration among statements (JLS 14).
abbrev mutual
  pub StmtFits : StmtTree → Type 0
  StmtFits (Block block) = BlockFits block
  StmtFits (Empty semi) = IsOp SEMICOLON semi
  StmtFits (StmtTree.Local local semi) = LocalFits local × IsOp SEMICOLON semi
  StmtFits (Label id colon body) = IsLabel id colon body × StmtFits body
  StmtFits (Expression expression semi) = IsExpressionStmt expression semi × ExprFits expression
  StmtFits (If word left test right then other) = IsIf word left right then other × ExprFits test × StmtFits then × OtherFits other
  StmtFits (While word left test right body) = IsWhile word left right body × ExprFits test × StmtFits body
  StmtFits (Do word body until left test right semi) = IsDo word body until left right semi × StmtFits body × ExprFits test
  StmtFits (For word left first semi1 test semi2 last right body) =
      IsFor word left semi1 semi2 last right body × FirstFits first × IfSome test ExprFits × ExprsFit last × StmtFits body
  StmtFits (Each word left mods used_type id colon over right body) =
      IsEach word left mods id colon right body × TypeFits used_type × ExprFits over × StmtFits body
  StmtFits (Switch word left on right brace groups end) = IsSwitch word left right brace end × ExprFits on × GroupsFit groups
  StmtFits (Jump word label semi) = IsJump word label semi
  StmtFits (Return word expression semi) = IsExit RETURN word semi × IfSome expression ExprFits
  StmtFits (Throw word expression semi) = IsExit THROW word semi × ExprFits expression
  StmtFits (Sync word left on right body) = IsHead SYNCHRONIZED word left right × ExprFits on × BlockFits body
  StmtFits (Assert word test message semi) = IsExit ASSERT word semi × ExprFits test × IfSome message MessageFits
  StmtFits (Try word body catches last) = IsTry word catches last × BlockFits body × CatchesFit catches × LastFits last

  -- statements in braces (JLS 14.2)
  pub BlockFits : BlockTree → Type 0
  BlockFits (Braces left list right) = AreBraces left right × StmtsFit list

  pub StmtsFit : StmtsTree → Type 0
  StmtsFit NoStmts = Unit {0}
  StmtsFit (Stmts stmt rest) = StmtFits stmt × StmtsFit rest

  pub OtherFits : OtherTree → Type 0
  OtherFits NoOther = Unit {0}
  OtherFits (Other word stmt) = IsKey ELSE word × IsNoLocal stmt × StmtFits stmt

  pub GroupFits : GroupTree → Type 0
  GroupFits (Group word expression colon body) = IsGroupWord word expression × IfSome expression ExprFits × IsOp COLON colon × StmtsFit body

  pub GroupsFit : GroupsTree → Type 0
  GroupsFit NoGroups = Unit {0}
  GroupsFit (Groups group rest) = GroupFits group × GroupsFit rest

  pub CatchFits : CatchTree → Type 0
  CatchFits (Catch word left fixed name id right body) = IsCatch word left fixed id right × NameFits name × BlockFits body

  pub CatchesFit : CatchesTree → Type 0
  CatchesFit NoCatches = Unit {0}
  CatchesFit (Catches first rest) = CatchFits first × CatchesFit rest

  pub LastFits : LastTree → Type 0
  LastFits NoLast = Unit {0}
  LastFits (Last word body) = IsKey FINALLY word × BlockFits body
