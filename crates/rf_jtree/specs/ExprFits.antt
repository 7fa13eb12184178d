-- When expressions fit: the forms of the grammar, and the further conditions, each under a name. They look at finished
-- trees alone.
use Rattle.std.specs.Prelude.{◌≢◌, ◌+◌, ◌≤◌, List, [], ◌∷◌, Bool, true, IsTrue, IfSome}
use Rattle.rf_jtree.specs.declared.names.Dims.{Dims}
use Rattle.rf_jtree.specs.declared.tokens.Tok.{Tok}
use Rattle.rf_jtree.specs.declared.tokens.TokKind.{TokKind}
use Rattle.rf_jtree.specs.declared.tokens.TokKind.TheVariants as kind
use Rattle.rf_jtree.specs.declared.levels.TheConstants.{CONDITIONAL_LEVEL, OR_OR_LEVEL, COMPARISON_LEVEL, UNARY_LEVEL, POSTFIX_LEVEL, PRIMARY_LEVEL}
use Rattle.rf_jtree.specs.declared.operator_names.TheConstants.{COMMA, DOT, QUESTION, COLON, ASSIGNMENTS, PREFIXES, SUFFIXES, OPERAND_OPERATORS}
use Rattle.rf_jtree.specs.declared.keyword_names.TheConstants.{INSTANCEOF, NEW, SUPER, THIS, OPERAND_WORDS}
use Rattle.rf_jtree.specs.ExprTrees.{ExprTree, Assign, Cond, Binary, Instance, Unary, Cast, Postfix, Lit, This, Paren, Name, Call, Field, Super, New, Index, NewArray, NewInit}
use Rattle.rf_jtree.specs.ExprTrees.{OnTree, NoOn, On, ArgsTree, Args, SuperArgsTree, NoArgs, SuperArgs, ExprsTree, NoExprs, Exprs, MoreExprsTree, NoMoreExprs, MoreExprs, SizesTree, NoSizes, Sizes}
use Rattle.rf_jtree.specs.ExprTrees.{InitTree, Expression, Braced, BracesTree, Braces, InitsTree, NoInits, Inits, MoreInitsTree, NoMoreInits, MoreInits, expr_yield}
use Rattle.rf_jtree.specs.Kinds.{IsOp, IsKey, IsIdent, AreParens, AreBrackets, AreBraces, is_op_of, has_op, has_key, is_literal}
use Rattle.rf_jtree.specs.Levels.{BindsAt, binary_level}
use Rattle.rf_jtree.specs.NameFits.{NameFits, BaseFits, DimsFit, TypeFits}
use Rattle.rf_jtree.specs.NameTrees.{TypeBaseTree, Prim, Named, TypeUseTree}

-- The left side of an assignment is a name, a field or an item of an array; in parentheses it is none (JLS 15.26).
abbrev pub IsLeftSide : ExprTree → Type 0
IsLeftSide (Name name) = Unit {0}
IsLeftSide (Field operand dot id) = Unit {0}
IsLeftSide (Super word dot id NoArgs) = Unit {0}
IsLeftSide (Index operand left index right) = Unit {0}
IsLeftSide expr = ⊥

-- The third part of `?:` is no assignment (JLS 15.25).
abbrev pub IsNoAssignment : ExprTree → Type 0
IsNoAssignment expr = BindsAt CONDITIONAL_LEVEL expr

-- What the operand of a cast to a class or an array begins with: an identifier, a literal, `(`, `!`, `~`, `this`, `super`
-- or `new` (JLS 15.15, 15.16).
abbrev begins_operand_kind : TokKind → Bool
begins_operand_kind kind.Ident = true
begins_operand_kind (kind.Key word) = has_key OPERAND_WORDS word
begins_operand_kind kind.Int = true
begins_operand_kind kind.Long = true
begins_operand_kind kind.Float = true
begins_operand_kind kind.Double = true
begins_operand_kind kind.Char = true
begins_operand_kind kind.Str = true
begins_operand_kind kind.True = true
begins_operand_kind kind.False = true
begins_operand_kind kind.Null = true
begins_operand_kind (kind.Op op) = has_op OPERAND_OPERATORS op

abbrev pub begins_operand : Tok → Bool
begins_operand tok = begins_operand_kind tok.kind

abbrev pub BeginsOperand : List Tok → Type 0
BeginsOperand [] = ⊥
BeginsOperand (tok ∷ toks) = IsTrue (begins_operand tok)

-- A type in parentheses is a cast where it is a primitive type without brackets, and else where such an operand follows
-- (JLS 15.16). Otherwise `(a) - b` would be a cast too.
abbrev pub CastTakes : TypeBaseTree → List (Tok × Tok) → List Tok → Type 0
CastTakes (Prim tok) [] operand = Unit {0}
CastTakes (Prim tok) (pair ∷ dims) operand = BeginsOperand operand
CastTakes (Named name) dims operand = BeginsOperand operand

-- A primary expression (JLS 15.8).
abbrev pub IsPrimary : ExprTree → Type 0
IsPrimary expr = BindsAt PRIMARY_LEVEL expr

-- A run of identifiers and dots is one name as far as it goes, so no field is taken of a name (JLS 6.5, 15.11).
abbrev pub IsNoName : ExprTree → Type 0
IsNoName (Name name) = ⊥
IsNoName expr = Unit {0}

-- A `[` behind a new array without items belongs to the new array, so no item is taken of it (JLS 15.10, 15.13).
abbrev pub IsNoNewArray : ExprTree → Type 0
IsNoNewArray (NewArray word base sizes dims) = ⊥
IsNoNewArray expr = Unit {0}

-- A new array without items has a size, and one with items has brackets (JLS 15.10).
abbrev pub HasSize : SizesTree → Type 0
HasSize NoSizes = ⊥
HasSize (Sizes left size right rest) = Unit {0}

abbrev pub HasBrackets : Dims → Type 0
HasBrackets dims = dims.list ≢ []

-- What each form asks of its tokens, and of its parts beside that they fit.

-- `left = value`, with any assignment operator (JLS 15.26)
pub record IsAssign (left : ExprTree) (op : Tok) : Type 0 where
  pub left_side : IsLeftSide left
  pub op_is : IsTrue (is_op_of ASSIGNMENTS op)

-- `test ? then : other` (JLS 15.25)
pub record IsCond (test : ExprTree) (mark colon : Tok) (other : ExprTree) : Type 0 where
  pub test_binds : BindsAt OR_OR_LEVEL test
  pub mark_is : IsOp QUESTION mark
  pub colon_is : IsOp COLON colon
  pub no_assignment : IsNoAssignment other

-- a binary operator; those of one level group to the left (JLS 15.17 to 15.24)
pub record IsBinary (left : ExprTree) (op : Tok) (right : ExprTree) : Type 0 where
  pub op_is : OR_OR_LEVEL ≤ binary_level op
  pub left_binds : BindsAt (binary_level op) left
  pub right_binds : BindsAt (binary_level op + 1) right

-- `value instanceof T` (JLS 15.20.2)
pub record IsInstance (operand : ExprTree) (word : Tok) : Type 0 where
  pub operand_binds : BindsAt COMPARISON_LEVEL operand
  pub word_is : IsKey INSTANCEOF word

-- a prefix operator (JLS 15.15)
pub record IsUnary (op : Tok) (operand : ExprTree) : Type 0 where
  pub op_is : IsTrue (is_op_of PREFIXES op)
  pub operand_binds : BindsAt UNARY_LEVEL operand

-- `(T) value` (JLS 15.16)
pub record IsCast (left : Tok) (used_type : TypeUseTree) (right : Tok) (operand : ExprTree) : Type 0 where
  pub parens : AreParens left right
  pub operand_binds : BindsAt UNARY_LEVEL operand
  pub takes : CastTakes used_type.base used_type.dims.list (expr_yield operand)

-- `value++` or `value--` (JLS 15.14)
pub record IsPostfix (operand : ExprTree) (op : Tok) : Type 0 where
  pub operand_binds : BindsAt POSTFIX_LEVEL operand
  pub op_is : IsTrue (is_op_of SUFFIXES op)

-- what a method is called on: a name or another primary expression (JLS 15.12)
pub record IsOn (operand : ExprTree) (dot : Tok) : Type 0 where
  pub primary : IsPrimary operand
  pub dot_is : IsOp DOT dot

-- `value.x` where the value is no name (JLS 15.11)
pub record IsField (operand : ExprTree) (dot id : Tok) : Type 0 where
  pub primary : IsPrimary operand
  pub no_name : IsNoName operand
  pub dot_is : IsOp DOT dot
  pub id_is : IsIdent id

-- `super.x`, or the front of `super.m(..)` (JLS 15.11.2, 15.12)
pub record IsSuper (word dot id : Tok) : Type 0 where
  pub word_is : IsKey SUPER word
  pub dot_is : IsOp DOT dot
  pub id_is : IsIdent id

-- `value[index]` (JLS 15.13)
pub record IsIndex (operand : ExprTree) (left right : Tok) : Type 0 where
  pub primary : IsPrimary operand
  pub no_new_array : IsNoNewArray operand
  pub brackets : AreBrackets left right

-- An expression fits (JLS 15).
abbrev mutual
  pub ExprFits : ExprTree → Type 0
  ExprFits (Assign left op operand) = IsAssign left op × ExprFits left × ExprFits operand
  ExprFits (Cond test mark then colon other) = IsCond test mark colon other × ExprFits test × ExprFits then × ExprFits other
  ExprFits (Binary left op right) = IsBinary left op right × ExprFits left × ExprFits right
  ExprFits (Instance operand word used_type) = IsInstance operand word × ExprFits operand × TypeFits used_type
  ExprFits (Unary op operand) = IsUnary op operand × ExprFits operand
  ExprFits (Cast left used_type right operand) = IsCast left used_type right operand × TypeFits used_type × ExprFits operand
  ExprFits (Postfix operand op) = IsPostfix operand op × ExprFits operand
  ExprFits (Lit tok) = IsTrue (is_literal tok)
  ExprFits (This tok) = IsKey THIS tok
  ExprFits (Paren left operand right) = AreParens left right × ExprFits operand
  ExprFits (Name name) = NameFits name
  ExprFits (Call on id args) = OnFits on × IsIdent id × ArgsFit args
  ExprFits (Field operand dot id) = IsField operand dot id × ExprFits operand
  ExprFits (Super word dot id args) = IsSuper word dot id × SuperArgsFit args
  ExprFits (New word name args) = IsKey NEW word × NameFits name × ArgsFit args
  ExprFits (Index operand left index right) = IsIndex operand left right × ExprFits operand × ExprFits index
  ExprFits (NewArray word base sizes dims) = IsKey NEW word × BaseFits base × HasSize sizes × SizesFit sizes × DimsFit dims
  ExprFits (NewInit word base dims init) = IsKey NEW word × BaseFits base × HasBrackets dims × DimsFit dims × BracesFit init

  pub OnFits : OnTree → Type 0
  OnFits NoOn = Unit {0}
  OnFits (On operand dot) = IsOn operand dot × ExprFits operand

  pub ArgsFit : ArgsTree → Type 0
  ArgsFit (Args left list right) = AreParens left right × ExprsFit list

  pub SuperArgsFit : SuperArgsTree → Type 0
  SuperArgsFit NoArgs = Unit {0}
  SuperArgsFit (SuperArgs args) = ArgsFit args

  pub ExprsFit : ExprsTree → Type 0
  ExprsFit NoExprs = Unit {0}
  ExprsFit (Exprs first rest) = ExprFits first × MoreExprsFit rest

  pub MoreExprsFit : MoreExprsTree → Type 0
  MoreExprsFit NoMoreExprs = Unit {0}
  MoreExprsFit (MoreExprs comma expr rest) = IsOp COMMA comma × ExprFits expr × MoreExprsFit rest

  pub SizesFit : SizesTree → Type 0
  SizesFit NoSizes = Unit {0}
  SizesFit (Sizes left size right rest) = AreBrackets left right × ExprFits size × SizesFit rest

  -- what a variable or an array item begins with (JLS 8.3, 10.6)
  pub InitFits : InitTree → Type 0
  InitFits (Expression operand) = ExprFits operand
  InitFits (Braced braces) = BracesFit braces

  -- items in braces, with a comma behind the last one or without (JLS 10.6)
  pub BracesFit : BracesTree → Type 0
  BracesFit (Braces left items comma right) = AreBraces left right × IfSome comma (IsOp COMMA) × InitsFit items

  pub InitsFit : InitsTree → Type 0
  InitsFit NoInits = Unit {0}
  InitsFit (Inits first rest) = InitFits first × MoreInitsFit rest

  pub MoreInitsFit : MoreInitsTree → Type 0
  MoreInitsFit NoMoreInits = Unit {0}
  MoreInitsFit (MoreInits comma init rest) = IsOp COMMA comma × InitFits init × MoreInitsFit rest
