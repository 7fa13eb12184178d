-- What stands in expressions: a mark for each token, in the clauses of the tokens.
use Rattle.std.specs.Prelude.{ℕ, ◌+◌, List, [], ◌∷◌, ◌++◌}
use Rattle.rf_jtree.specs.ExprTrees.{ExprTree, Assign, Cond, Binary, Instance, Unary, Cast, Postfix, Lit, This, Paren, Name, Call, Field, Super, New, Index, NewArray, NewInit}
use Rattle.rf_jtree.specs.ExprTrees.{OnTree, NoOn, On, ArgsTree, Args, SuperArgsTree, NoArgs, SuperArgs, ExprsTree, NoExprs, Exprs, MoreExprsTree, NoMoreExprs, MoreExprs, SizesTree, NoSizes, Sizes}
use Rattle.rf_jtree.specs.ExprTrees.{InitTree, Expression, Braced, BracesTree, Braces, InitsTree, NoInits, Inits, MoreInitsTree, NoMoreInits, MoreInits}
use Rattle.rf_jtree.specs.NameTrees.{option_yield, tok_yield}
use Rattle.rf_jview.specs.declared.marks.Invocation.{Invocation}
use Rattle.rf_jview.specs.declared.marks.Invocation.TheVariants as i
use Rattle.rf_jview.specs.declared.marks.Mark.{Mark}
use Rattle.rf_jview.specs.declared.marks.Mark.TheVariants as m
use Rattle.rf_jview.specs.MarkWords.{counted, plains}
use Rattle.rf_jview.specs.NameMarks.{type_name_marks, name_marks, base_marks, dims_marks, type_marks}

abbrev mutual
  -- The identifier of a field access is a reference (JLS 15.11). A creation invokes a constructor, beside the reference
  -- that the class's name is (JLS 15.9); a new array invokes none (JLS 15.10).
  pub expr_marks : ExprTree → List Mark
  expr_marks (Assign left op operand) = expr_marks left ++ m.Plain ∷ expr_marks operand
  expr_marks (Cond test mark then colon other) = expr_marks test ++ m.Plain ∷ (expr_marks then ++ m.Plain ∷ expr_marks other)
  expr_marks (Binary left op right) = expr_marks left ++ m.Plain ∷ expr_marks right
  expr_marks (Instance operand word used_type) = expr_marks operand ++ m.Plain ∷ type_marks used_type
  expr_marks (Unary op operand) = m.Plain ∷ expr_marks operand
  expr_marks (Cast left used_type right operand) = m.Plain ∷ (type_marks used_type ++ m.Plain ∷ expr_marks operand)
  expr_marks (Postfix operand op) = expr_marks operand ++ m.Plain ∷ []
  expr_marks (Lit tok) = m.Plain ∷ []
  expr_marks (This tok) = m.Plain ∷ []
  expr_marks (Paren left operand right) = m.Plain ∷ (expr_marks operand ++ m.Plain ∷ [])
  expr_marks (Name name) = name_marks name
  expr_marks (Call on id args) = on_marks on ++ m.Plain ∷ args_marks i.Method 1 args
  expr_marks (Field operand dot id) = expr_marks operand ++ m.Plain ∷ m.FieldAccess ∷ []
  expr_marks (Super word dot id args) = m.Plain ∷ m.Plain ∷ super_marks args
  expr_marks (New word name args) = m.Plain ∷ (type_name_marks name ++ args_marks i.Creation 2 args)
  expr_marks (Index operand left index right) = expr_marks operand ++ m.Plain ∷ (expr_marks index ++ m.Plain ∷ [])
  expr_marks (NewArray word base sizes dims) = m.Plain ∷ (base_marks base ++ (sizes_marks sizes ++ dims_marks dims))
  expr_marks (NewInit word base dims init) = m.Plain ∷ (base_marks base ++ (dims_marks dims ++ braces_marks init))

  pub on_marks : OnTree → List Mark
  on_marks NoOn = []
  on_marks (On operand dot) = expr_marks operand ++ m.Plain ∷ []

  -- Arguments, with `(` so far behind the identifier or the keyword: the place of an invocation is its `)`.
  pub args_marks : Invocation → ℕ → ArgsTree → List Mark
  args_marks invocation back (Args left list right) =
      m.Plain ∷ (exprs_marks list ++ m.Invokes invocation (back + 1 + counted (exprs_marks list)) ∷ [])

  -- from the identifier of `super.x` or `super.m(..)` on (JLS 15.11.2, 15.12)
  pub super_marks : SuperArgsTree → List Mark
  super_marks NoArgs = m.FieldAccess ∷ []
  super_marks (SuperArgs args) = m.Plain ∷ args_marks i.Method 1 args

  pub exprs_marks : ExprsTree → List Mark
  exprs_marks NoExprs = []
  exprs_marks (Exprs first rest) = expr_marks first ++ more_exprs_marks rest

  pub more_exprs_marks : MoreExprsTree → List Mark
  more_exprs_marks NoMoreExprs = []
  more_exprs_marks (MoreExprs comma expr rest) = m.Plain ∷ (expr_marks expr ++ more_exprs_marks rest)

  pub sizes_marks : SizesTree → List Mark
  sizes_marks NoSizes = []
  sizes_marks (Sizes left size right rest) = m.Plain ∷ (expr_marks size ++ m.Plain ∷ sizes_marks rest)

  pub init_marks : InitTree → List Mark
  init_marks (Expression operand) = expr_marks operand
  init_marks (Braced braces) = braces_marks braces

  pub braces_marks : BracesTree → List Mark
  braces_marks (Braces left items comma right) = m.Plain ∷ (inits_marks items ++ (plains (option_yield tok_yield comma) ++ m.Plain ∷ []))

  pub inits_marks : InitsTree → List Mark
  inits_marks NoInits = []
  inits_marks (Inits first rest) = init_marks first ++ more_inits_marks rest

  pub more_inits_marks : MoreInitsTree → List Mark
  more_inits_marks NoMoreInits = []
  more_inits_marks (MoreInits comma init rest) = m.Plain ∷ (init_marks init ++ more_inits_marks rest)
