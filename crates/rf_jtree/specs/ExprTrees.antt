-- The trees of expressions, without the pointers that programs keep between their parts; the tokens of each from left to
-- right, and its depth. Where an expression leads back to itself through a list or a part that may be left out, that
-- list or part is a type of its own.
use Rattle.std.specs.Prelude.{ℕ, ◌+◌, max, List, [], ◌∷◌, ◌++◌, Option}
use Rattle.rf_jtree.specs.declared.names.Dims.{Dims}
use Rattle.rf_jtree.specs.declared.tokens.Tok.{Tok}
use Rattle.rf_jtree.specs.NameTrees.{NameTree, TypeBaseTree, TypeUseTree, name_yield, base_yield, type_yield, dims_yield, option_yield, tok_yield}

mutual
  -- an expression (JLS 15)
  pub data ExprTree : Type 0 where
    Assign : ExprTree → Tok → ExprTree → ExprTree
    Cond : ExprTree → Tok → ExprTree → Tok → ExprTree → ExprTree
    Binary : ExprTree → Tok → ExprTree → ExprTree
    Instance : ExprTree → Tok → TypeUseTree → ExprTree
    Unary : Tok → ExprTree → ExprTree
    Cast : Tok → TypeUseTree → Tok → ExprTree → ExprTree
    Postfix : ExprTree → Tok → ExprTree
    Lit : Tok → ExprTree
    This : Tok → ExprTree
    Paren : Tok → ExprTree → Tok → ExprTree
    Name : NameTree → ExprTree
    Call : (on : OnTree) (id : Tok) (args : ArgsTree) → ExprTree
    Field : ExprTree → Tok → Tok → ExprTree
    Super : (word dot id : Tok) (args : SuperArgsTree) → ExprTree
    New : Tok → NameTree → ArgsTree → ExprTree
    Index : ExprTree → Tok → ExprTree → Tok → ExprTree
    NewArray : (word : Tok) (base : TypeBaseTree) (sizes : SizesTree) (dims : Dims) → ExprTree
    NewInit : (word : Tok) (base : TypeBaseTree) (dims : Dims) (init : BracesTree) → ExprTree

  -- what a method is called on, with its dot, if it is called on something (JLS 15.12)
  pub data OnTree : Type 0 where
    NoOn : OnTree
    On : ExprTree → Tok → OnTree

  -- arguments in parentheses (JLS 15.12)
  pub data ArgsTree : Type 0 where
    Args : (left : Tok) (list : ExprsTree) (right : Tok) → ArgsTree

  -- the arguments of a call of `super`, where it is one and no field (JLS 15.11.2, 15.12)
  pub data SuperArgsTree : Type 0 where
    NoArgs : SuperArgsTree
    SuperArgs : ArgsTree → SuperArgsTree

  -- any number of expressions, with a token between two of them
  pub data ExprsTree : Type 0 where
    NoExprs : ExprsTree
    Exprs : (first : ExprTree) (rest : MoreExprsTree) → ExprsTree

  pub data MoreExprsTree : Type 0 where
    NoMoreExprs : MoreExprsTree
    MoreExprs : Tok → ExprTree → MoreExprsTree → MoreExprsTree

  -- the sizes of a new array, each in its brackets (JLS 15.10)
  pub data SizesTree : Type 0 where
    NoSizes : SizesTree
    Sizes : Tok → ExprTree → Tok → SizesTree → SizesTree

  -- what a variable or an array item begins with: an expression, or items in braces (JLS 8.3, 10.6)
  pub data InitTree : Type 0 where
    Expression : ExprTree → InitTree
    Braced : BracesTree → InitTree

  -- items in braces, with a comma behind the last one or without (JLS 10.6)
  pub data BracesTree : Type 0 where
    Braces : (left : Tok) (items : InitsTree) (comma : Option Tok) (right : Tok) → BracesTree

  -- any number of items, with a token between two of them
  pub data InitsTree : Type 0 where
    NoInits : InitsTree
    Inits : (first : InitTree) (rest : MoreInitsTree) → InitsTree

  pub data MoreInitsTree : Type 0 where
    NoMoreInits : MoreInitsTree
    MoreInits : Tok → InitTree → MoreInitsTree → MoreInitsTree

-- the tokens from left to right
abbrev mutual
  pub expr_yield : ExprTree → List Tok
  expr_yield (Assign left op operand) = expr_yield left ++ op ∷ expr_yield operand
  expr_yield (Cond test mark then colon other) = expr_yield test ++ mark ∷ (expr_yield then ++ colon ∷ expr_yield other)
  expr_yield (Binary left op right) = expr_yield left ++ op ∷ expr_yield right
  expr_yield (Instance operand word used_type) = expr_yield operand ++ word ∷ type_yield used_type
  expr_yield (Unary op operand) = op ∷ expr_yield operand
  expr_yield (Cast left used_type right operand) = left ∷ (type_yield used_type ++ right ∷ expr_yield operand)
  expr_yield (Postfix operand op) = expr_yield operand ++ op ∷ []
  expr_yield (Lit tok) = tok ∷ []
  expr_yield (This tok) = tok ∷ []
  expr_yield (Paren left operand right) = left ∷ (expr_yield operand ++ right ∷ [])
  expr_yield (Name name) = name_yield name
  expr_yield (Call on id args) = on_yield on ++ id ∷ args_yield args
  expr_yield (Field operand dot id) = expr_yield operand ++ dot ∷ id ∷ []
  expr_yield (Super word dot id args) = word ∷ dot ∷ id ∷ super_args_yield args
  expr_yield (New word name args) = word ∷ (name_yield name ++ args_yield args)
  expr_yield (Index operand left index right) = expr_yield operand ++ left ∷ (expr_yield index ++ right ∷ [])
  expr_yield (NewArray word base sizes dims) = word ∷ (base_yield base ++ (sizes_yield sizes ++ dims_yield dims))
  expr_yield (NewInit word base dims init) = word ∷ (base_yield base ++ (dims_yield dims ++ braces_yield init))

  pub on_yield : OnTree → List Tok
  on_yield NoOn = []
  on_yield (On operand dot) = expr_yield operand ++ dot ∷ []

  pub args_yield : ArgsTree → List Tok
  args_yield (Args left list right) = left ∷ (exprs_yield list ++ right ∷ [])

  pub super_args_yield : SuperArgsTree → List Tok
  super_args_yield NoArgs = []
  super_args_yield (SuperArgs args) = args_yield args

  pub exprs_yield : ExprsTree → List Tok
  exprs_yield NoExprs = []
  exprs_yield (Exprs first rest) = expr_yield first ++ more_exprs_yield rest

  pub more_exprs_yield : MoreExprsTree → List Tok
  more_exprs_yield NoMoreExprs = []
  more_exprs_yield (MoreExprs comma expr rest) = comma ∷ (expr_yield expr ++ more_exprs_yield rest)

  pub sizes_yield : SizesTree → List Tok
  sizes_yield NoSizes = []
  sizes_yield (Sizes left size right rest) = left ∷ (expr_yield size ++ right ∷ sizes_yield rest)

  pub init_yield : InitTree → List Tok
  init_yield (Expression operand) = expr_yield operand
  init_yield (Braced braces) = braces_yield braces

  pub braces_yield : BracesTree → List Tok
  braces_yield (Braces left items comma right) = left ∷ (inits_yield items ++ (option_yield tok_yield comma ++ right ∷ []))

  pub inits_yield : InitsTree → List Tok
  inits_yield NoInits = []
  inits_yield (Inits first rest) = init_yield first ++ more_inits_yield rest

  pub more_inits_yield : MoreInitsTree → List Tok
  more_inits_yield NoMoreInits = []
  more_inits_yield (MoreInits comma init rest) = comma ∷ (init_yield init ++ more_inits_yield rest)

-- The depth. A name, a literal and `this` have 1, and each other expression one more than the deepest expression in it.
-- Items in braces have one more than the deepest of them; the braces of a new array are no level of their own.
abbrev mutual
  pub expr_depth : ExprTree → ℕ
  expr_depth (Assign left op operand) = max (expr_depth left) (expr_depth operand) + 1
  expr_depth (Cond test mark then colon other) = max (expr_depth test) (max (expr_depth then) (expr_depth other)) + 1
  expr_depth (Binary left op right) = max (expr_depth left) (expr_depth right) + 1
  expr_depth (Instance operand word used_type) = expr_depth operand + 1
  expr_depth (Unary op operand) = expr_depth operand + 1
  expr_depth (Cast left used_type right operand) = expr_depth operand + 1
  expr_depth (Postfix operand op) = expr_depth operand + 1
  expr_depth (Lit tok) = 1
  expr_depth (This tok) = 1
  expr_depth (Paren left operand right) = expr_depth operand + 1
  expr_depth (Name name) = 1
  expr_depth (Call on id args) = max (on_depth on) (args_depth args) + 1
  expr_depth (Field operand dot id) = expr_depth operand + 1
  expr_depth (Super word dot id args) = super_args_depth args + 1
  expr_depth (New word name args) = args_depth args + 1
  expr_depth (Index operand left index right) = max (expr_depth operand) (expr_depth index) + 1
  expr_depth (NewArray word base sizes dims) = sizes_depth sizes + 1
  expr_depth (NewInit word base dims init) = braces_depth init + 1

  -- the deepest expression in it, 0 where there is none
  pub on_depth : OnTree → ℕ
  on_depth NoOn = 0
  on_depth (On operand dot) = expr_depth operand

  pub args_depth : ArgsTree → ℕ
  args_depth (Args left list right) = exprs_depth list

  pub super_args_depth : SuperArgsTree → ℕ
  super_args_depth NoArgs = 0
  super_args_depth (SuperArgs args) = args_depth args

  pub exprs_depth : ExprsTree → ℕ
  exprs_depth NoExprs = 0
  exprs_depth (Exprs first rest) = max (expr_depth first) (more_exprs_depth rest)

  pub more_exprs_depth : MoreExprsTree → ℕ
  more_exprs_depth NoMoreExprs = 0
  more_exprs_depth (MoreExprs comma expr rest) = max (expr_depth expr) (more_exprs_depth rest)

  pub sizes_depth : SizesTree → ℕ
  sizes_depth NoSizes = 0
  sizes_depth (Sizes left size right rest) = max (expr_depth size) (sizes_depth rest)

  pub init_depth : InitTree → ℕ
  init_depth (Expression operand) = expr_depth operand
  init_depth (Braced braces) = braces_depth braces + 1

  -- the deepest item, 0 where there is none
  pub braces_depth : BracesTree → ℕ
  braces_depth (Braces left items comma right) = inits_depth items

  pub inits_depth : InitsTree → ℕ
  inits_depth NoInits = 0
  inits_depth (Inits first rest) = max (init_depth first) (more_inits_depth rest)

  pub more_inits_depth : MoreInitsTree → ℕ
  more_inits_depth NoMoreInits = 0
  more_inits_depth (MoreInits comma init rest) = max (init_depth init) (more_inits_depth rest)
