-- No type is declared in an expression.
use Rattle.std.proofs.Common.{refl, ℕ}
use Rattle.rf_jtree.specs.ExprTrees.{ExprTree, Assign, Cond, Binary, Instance, Unary, Cast, Postfix, Lit, This, Paren, Name, Call, Field, Super, New, Index, NewArray, NewInit}
use Rattle.rf_jtree.specs.ExprTrees.{OnTree, NoOn, On, ArgsTree, Args, SuperArgsTree, NoArgs, SuperArgs, ExprsTree, NoExprs, Exprs, MoreExprsTree, NoMoreExprs, MoreExprs, SizesTree, NoSizes, Sizes}
use Rattle.rf_jtree.specs.ExprTrees.{InitTree, Expression, Braced, BracesTree, Braces, InitsTree, NoInits, Inits, MoreInitsTree, NoMoreInits, MoreInits}
use Rattle.rf_jtree.specs.NameTrees.{dims_yield, option_yield, tok_yield}
use Rattle.rf_jview.specs.declared.marks.Invocation.{Invocation}
use Rattle.rf_jview.specs.declared.marks.Invocation.TheVariants as i
use Rattle.rf_jview.specs.ExprMarks.{expr_marks, on_marks, args_marks, super_marks, exprs_marks, more_exprs_marks, sizes_marks, init_marks, braces_marks, inits_marks, more_inits_marks}
use Rattle.rf_jmodel.proofs.NoTypes.{HasNoType, none, one, both, each, name_untyped, tname_untyped, base_untyped, type_untyped}

mutual
  pub expr_untyped : (tree : ExprTree) → HasNoType (expr_marks tree)
  expr_untyped (Assign left op operand) = both (expr_untyped left) (one refl ((expr_untyped operand)))
  expr_untyped (Cond test mark then colon other) = both (expr_untyped test) (one refl (both (expr_untyped then) (one refl ((expr_untyped other)))))
  expr_untyped (Binary left op right) = both (expr_untyped left) (one refl ((expr_untyped right)))
  expr_untyped (Instance operand word used_type) = both (expr_untyped operand) (one refl ((type_untyped used_type)))
  expr_untyped (Unary op operand) = one refl ((expr_untyped operand))
  expr_untyped (Cast left used_type right operand) = one refl (both (type_untyped used_type) (one refl ((expr_untyped operand))))
  expr_untyped (Postfix operand op) = both (expr_untyped operand) (one refl none)
  expr_untyped (Lit tok) = one refl none
  expr_untyped (This tok) = one refl none
  expr_untyped (Paren left operand right) = one refl (both (expr_untyped operand) (one refl none))
  expr_untyped (Name name) = (name_untyped name)
  expr_untyped (Call on id args) = both (on_untyped on) (one refl (args_untyped i.Method 1 args))
  expr_untyped (Field operand dot id) = both (expr_untyped operand) (one refl (one refl none))
  expr_untyped (Super word dot id args) = one refl (one refl (super_args_untyped args))
  expr_untyped (New word name args) = one refl (both (tname_untyped name) (args_untyped i.Creation 2 args))
  expr_untyped (Index operand left index right) = both (expr_untyped operand) (one refl (both (expr_untyped index) (one refl none)))
  expr_untyped (NewArray word base sizes dims) = one refl (both (base_untyped base) (both (sizes_untyped sizes) ((each (dims_yield dims)))))
  expr_untyped (NewInit word base dims init) = one refl (both (base_untyped base) (both (each (dims_yield dims)) ((braces_untyped init))))

  pub on_untyped : (tree : OnTree) → HasNoType (on_marks tree)
  on_untyped NoOn = none
  on_untyped (On operand dot) = both (expr_untyped operand) (one refl none)

  pub args_untyped : (invocation : Invocation) (back : ℕ) (args : ArgsTree) → HasNoType (args_marks invocation back args)
  args_untyped invocation back (Args left list right) = one refl (both (exprs_untyped list) (one refl none))

  pub super_args_untyped : (args : SuperArgsTree) → HasNoType (super_marks args)
  super_args_untyped NoArgs = one refl none
  super_args_untyped (SuperArgs args) = one refl (args_untyped i.Method 1 args)

  pub exprs_untyped : (tree : ExprsTree) → HasNoType (exprs_marks tree)
  exprs_untyped NoExprs = none
  exprs_untyped (Exprs first rest) = both (expr_untyped first) ((more_exprs_untyped rest))

  pub more_exprs_untyped : (tree : MoreExprsTree) → HasNoType (more_exprs_marks tree)
  more_exprs_untyped NoMoreExprs = none
  more_exprs_untyped (MoreExprs comma expr rest) = one refl (both (expr_untyped expr) ((more_exprs_untyped rest)))

  pub sizes_untyped : (tree : SizesTree) → HasNoType (sizes_marks tree)
  sizes_untyped NoSizes = none
  sizes_untyped (Sizes left size right rest) = one refl (both (expr_untyped size) (one refl ((sizes_untyped rest))))

  pub init_untyped : (tree : InitTree) → HasNoType (init_marks tree)
  init_untyped (Expression operand) = (expr_untyped operand)
  init_untyped (Braced braces) = (braces_untyped braces)

  pub braces_untyped : (tree : BracesTree) → HasNoType (braces_marks tree)
  braces_untyped (Braces left items comma right) = one refl (both (inits_untyped items) (both (each (option_yield tok_yield comma)) (one refl none)))

  pub inits_untyped : (tree : InitsTree) → HasNoType (inits_marks tree)
  inits_untyped NoInits = none
  inits_untyped (Inits first rest) = both (init_untyped first) ((more_inits_untyped rest))

  pub more_inits_untyped : (tree : MoreInitsTree) → HasNoType (more_inits_marks tree)
  more_inits_untyped NoMoreInits = none
  more_inits_untyped (MoreInits comma init rest) = one refl (both (init_untyped init) ((more_inits_untyped rest)))
