-- Expressions rewritten, each token by its number.
use Rattle.std.specs.Prelude.{ℕ, suc}
use Rattle.rf_jtree.specs.ExprTrees.{ExprTree, Assign, Cond, Binary, Instance, Unary, Cast, Postfix, Lit, This, Paren, Name, Call, Field, Super, New, Index, NewArray, NewInit}
use Rattle.rf_jtree.specs.ExprTrees.{OnTree, NoOn, On, ArgsTree, Args, SuperArgsTree, NoArgs, SuperArgs, ExprsTree, NoExprs, Exprs, MoreExprsTree, NoMoreExprs, MoreExprs, SizesTree, NoSizes, Sizes}
use Rattle.rf_jtree.specs.ExprTrees.{InitTree, Expression, Braced, BracesTree, Braces, InitsTree, NoInits, Inits, MoreInitsTree, NoMoreInits, MoreInits}
use Rattle.rf_jtree.specs.ExprTrees.{expr_yield, on_yield, init_yield}
use Rattle.rf_jtree.specs.NameTrees.{name_yield, base_yield, type_yield, dims_yield}
use Rattle.rf_jview.specs.Rewritings.{Rewriting, behind, retext, name_with, base_with, type_with}

abbrev mutual
  pub expr_with : Rewriting → ℕ → ExprTree → ExprTree
  expr_with g n (Assign left op operand) = Assign (expr_with g n left) op (expr_with g (suc (behind n (expr_yield left))) operand)
  expr_with g n (Cond test mark then colon other) = Cond (expr_with g n test) mark (expr_with g (suc (behind n (expr_yield test))) then) colon (expr_with g (suc (behind (suc (behind n (expr_yield test))) (expr_yield then))) other)
  expr_with g n (Binary left op right) = Binary (expr_with g n left) op (expr_with g (suc (behind n (expr_yield left))) right)
  expr_with g n (Instance operand word used_type) = Instance (expr_with g n operand) word (type_with g (suc (behind n (expr_yield operand))) used_type)
  expr_with g n (Unary op operand) = Unary op (expr_with g (suc n) operand)
  expr_with g n (Cast left used_type right operand) = Cast left (type_with g (suc n) used_type) right (expr_with g (suc (behind (suc n) (type_yield used_type))) operand)
  expr_with g n (Postfix operand op) = Postfix (expr_with g n operand) op
  expr_with g n (Lit tok) = Lit tok
  expr_with g n (This tok) = This tok
  expr_with g n (Paren left operand right) = Paren left (expr_with g (suc n) operand) right
  expr_with g n (Name name) = Name (name_with g n name)
  expr_with g n (Call on id args) = Call (on_with g n on) (retext g (behind n (on_yield on)) id) (args_with g (suc (behind n (on_yield on))) args)
  expr_with g n (Field operand dot id) = Field (expr_with g n operand) dot (retext g (suc (behind n (expr_yield operand))) id)
  expr_with g n (Super word dot id args) = Super word dot (retext g (suc (suc n)) id) (super_args_with g (suc (suc (suc n))) args)
  expr_with g n (New word name args) = New word (g.written (suc n) name) (args_with g (behind (suc n) (name_yield name)) args)
  expr_with g n (Index operand left index right) = Index (expr_with g n operand) left (expr_with g (suc (behind n (expr_yield operand))) index) right
  expr_with g n (NewArray word base sizes dims) = NewArray word (base_with g (suc n) base) (sizes_with g (behind (suc n) (base_yield base)) sizes) dims
  expr_with g n (NewInit word base dims init) = NewInit word (base_with g (suc n) base) dims (braces_with g (behind (behind (suc n) (base_yield base)) (dims_yield dims)) init)

  pub on_with : Rewriting → ℕ → OnTree → OnTree
  on_with g n NoOn = NoOn
  on_with g n (On operand dot) = On (expr_with g n operand) dot

  pub args_with : Rewriting → ℕ → ArgsTree → ArgsTree
  args_with g n (Args left list right) = Args left (exprs_with g (suc n) list) right

  pub super_args_with : Rewriting → ℕ → SuperArgsTree → SuperArgsTree
  super_args_with g n NoArgs = NoArgs
  super_args_with g n (SuperArgs args) = SuperArgs (args_with g n args)

  pub exprs_with : Rewriting → ℕ → ExprsTree → ExprsTree
  exprs_with g n NoExprs = NoExprs
  exprs_with g n (Exprs first rest) = Exprs (expr_with g n first) (more_exprs_with g (behind n (expr_yield first)) rest)

  pub more_exprs_with : Rewriting → ℕ → MoreExprsTree → MoreExprsTree
  more_exprs_with g n NoMoreExprs = NoMoreExprs
  more_exprs_with g n (MoreExprs comma expr rest) = MoreExprs comma (expr_with g (suc n) expr) (more_exprs_with g (behind (suc n) (expr_yield expr)) rest)

  pub sizes_with : Rewriting → ℕ → SizesTree → SizesTree
  sizes_with g n NoSizes = NoSizes
  sizes_with g n (Sizes left size right rest) = Sizes left (expr_with g (suc n) size) right (sizes_with g (suc (behind (suc n) (expr_yield size))) rest)

  pub init_with : Rewriting → ℕ → InitTree → InitTree
  init_with g n (Expression operand) = Expression (expr_with g n operand)
  init_with g n (Braced braces) = Braced (braces_with g n braces)

  pub braces_with : Rewriting → ℕ → BracesTree → BracesTree
  braces_with g n (Braces left items comma right) = Braces left (inits_with g (suc n) items) comma right

  pub inits_with : Rewriting → ℕ → InitsTree → InitsTree
  inits_with g n NoInits = NoInits
  inits_with g n (Inits first rest) = Inits (init_with g n first) (more_inits_with g (behind n (init_yield first)) rest)

  pub more_inits_with : Rewriting → ℕ → MoreInitsTree → MoreInitsTree
  more_inits_with g n NoMoreInits = NoMoreInits
  more_inits_with g n (MoreInits comma init rest) = MoreInits comma (init_with g (suc n) init) (more_inits_with g (behind (suc n) (init_yield init)) rest)
