-- An expression has as many marks as tokens.
use Rattle.std.proofs.Common.{ℕ, ◌∷◌}
use Rattle.rf_jtree.specs.declared.tokens.Tok.{Tok}
use Rattle.rf_jtree.specs.ExprTrees.{ExprTree, Assign, Cond, Binary, Instance, Unary, Cast, Postfix, Lit, This, Paren, Name, Call, Field, Super, New, Index, NewArray, NewInit}
use Rattle.rf_jtree.specs.ExprTrees.{OnTree, NoOn, On, ArgsTree, Args, SuperArgsTree, NoArgs, SuperArgs, ExprsTree, NoExprs, Exprs, MoreExprsTree, NoMoreExprs, MoreExprs, SizesTree, NoSizes, Sizes}
use Rattle.rf_jtree.specs.ExprTrees.{InitTree, Expression, Braced, BracesTree, Braces, InitsTree, NoInits, Inits, MoreInitsTree, NoMoreInits, MoreInits}
use Rattle.rf_jtree.specs.ExprTrees.{expr_yield, on_yield, args_yield, super_args_yield, exprs_yield, more_exprs_yield, sizes_yield, init_yield, braces_yield, inits_yield, more_inits_yield}
use Rattle.rf_jtree.specs.NameTrees.{dims_yield, option_yield, tok_yield}
use Rattle.rf_jview.specs.declared.marks.Invocation.{Invocation}
use Rattle.rf_jview.specs.declared.marks.Invocation.TheVariants as i
use Rattle.rf_jview.specs.ExprMarks.{expr_marks, on_marks, args_marks, super_marks, exprs_marks, more_exprs_marks, sizes_marks, init_marks, braces_marks, inits_marks, more_inits_marks}
use Rattle.rf_jview.proofs.Lengths.{AsMany, none, one, both, each, name_as_many, tname_as_many, base_as_many, type_as_many}

mutual
  pub expr_as_many : (tree : ExprTree) → AsMany (expr_marks tree) (expr_yield tree)
  expr_as_many (Assign left op operand) = both (expr_as_many left) (one ((expr_as_many operand)))
  expr_as_many (Cond test mark then colon other) = both (expr_as_many test) (one (both (expr_as_many then) (one ((expr_as_many other)))))
  expr_as_many (Binary left op right) = both (expr_as_many left) (one ((expr_as_many right)))
  expr_as_many (Instance operand word used_type) = both (expr_as_many operand) (one ((type_as_many used_type)))
  expr_as_many (Unary op operand) = one ((expr_as_many operand))
  expr_as_many (Cast left used_type right operand) = one (both (type_as_many used_type) (one ((expr_as_many operand))))
  expr_as_many (Postfix operand op) = both (expr_as_many operand) (one none)
  expr_as_many (Lit tok) = one none
  expr_as_many (This tok) = one none
  expr_as_many (Paren left operand right) = one (both (expr_as_many operand) (one none))
  expr_as_many (Name name) = (name_as_many name)
  expr_as_many (Call on id args) = both (on_as_many on) (one (args_as_many i.Method 1 args))
  expr_as_many (Field operand dot id) = both (expr_as_many operand) (one (one none))
  expr_as_many (Super word dot id args) = one (one (super_args_as_many id args))
  expr_as_many (New word name args) = one (both (tname_as_many name) (args_as_many i.Creation 2 args))
  expr_as_many (Index operand left index right) = both (expr_as_many operand) (one (both (expr_as_many index) (one none)))
  expr_as_many (NewArray word base sizes dims) = one (both (base_as_many base) (both (sizes_as_many sizes) ((each (dims_yield dims)))))
  expr_as_many (NewInit word base dims init) = one (both (base_as_many base) (both (each (dims_yield dims)) ((braces_as_many init))))

  pub on_as_many : (tree : OnTree) → AsMany (on_marks tree) (on_yield tree)
  on_as_many NoOn = none
  on_as_many (On operand dot) = both (expr_as_many operand) (one none)

  pub args_as_many : (invocation : Invocation) (back : ℕ) (args : ArgsTree) → AsMany (args_marks invocation back args) (args_yield args)
  args_as_many invocation back (Args left list right) = one (both (exprs_as_many list) (one none))

  pub super_args_as_many : (id : Tok) (args : SuperArgsTree) → AsMany (super_marks args) (id ∷ super_args_yield args)
  super_args_as_many id NoArgs = one none
  super_args_as_many id (SuperArgs args) = one (args_as_many i.Method 1 args)

  pub exprs_as_many : (tree : ExprsTree) → AsMany (exprs_marks tree) (exprs_yield tree)
  exprs_as_many NoExprs = none
  exprs_as_many (Exprs first rest) = both (expr_as_many first) ((more_exprs_as_many rest))

  pub more_exprs_as_many : (tree : MoreExprsTree) → AsMany (more_exprs_marks tree) (more_exprs_yield tree)
  more_exprs_as_many NoMoreExprs = none
  more_exprs_as_many (MoreExprs comma expr rest) = one (both (expr_as_many expr) ((more_exprs_as_many rest)))

  pub sizes_as_many : (tree : SizesTree) → AsMany (sizes_marks tree) (sizes_yield tree)
  sizes_as_many NoSizes = none
  sizes_as_many (Sizes left size right rest) = one (both (expr_as_many size) (one ((sizes_as_many rest))))

  pub init_as_many : (tree : InitTree) → AsMany (init_marks tree) (init_yield tree)
  init_as_many (Expression operand) = (expr_as_many operand)
  init_as_many (Braced braces) = (braces_as_many braces)

  pub braces_as_many : (tree : BracesTree) → AsMany (braces_marks tree) (braces_yield tree)
  braces_as_many (Braces left items comma right) = one (both (inits_as_many items) (both (each (option_yield tok_yield comma)) (one none)))

  pub inits_as_many : (tree : InitsTree) → AsMany (inits_marks tree) (inits_yield tree)
  inits_as_many NoInits = none
  inits_as_many (Inits first rest) = both (init_as_many first) ((more_inits_as_many rest))

  pub more_inits_as_many : (tree : MoreInitsTree) → AsMany (more_inits_marks tree) (more_inits_yield tree)
  more_inits_as_many NoMoreInits = none
  more_inits_as_many (MoreInits comma init rest) = one (both (init_as_many init) ((more_inits_as_many rest)))
