-- What becomes of the tokens of an expression that is rewritten.
use Rattle.std.proofs.Common.{ℕ, suc}
use Rattle.rf_jtree.specs.ExprTrees.{ExprTree, Assign, Cond, Binary, Instance, Unary, Cast, Postfix, Lit, This, Paren, Name, Call, Field, Super, New, Index, NewArray, NewInit}
use Rattle.rf_jtree.specs.ExprTrees.{OnTree, NoOn, On, ArgsTree, Args, SuperArgsTree, NoArgs, SuperArgs, ExprsTree, NoExprs, Exprs, MoreExprsTree, NoMoreExprs, MoreExprs, SizesTree, NoSizes, Sizes}
use Rattle.rf_jtree.specs.ExprTrees.{InitTree, Expression, Braced, BracesTree, Braces, InitsTree, NoInits, Inits, MoreInitsTree, NoMoreInits, MoreInits}
use Rattle.rf_jtree.specs.ExprTrees.{expr_yield, on_yield, args_yield, super_args_yield, exprs_yield, more_exprs_yield, sizes_yield, init_yield, braces_yield, inits_yield, more_inits_yield}
use Rattle.rf_jtree.specs.NameTrees.{name_yield, base_yield, type_yield, dims_yield, option_yield, tok_yield}
use Rattle.rf_jview.specs.ExprWith.{expr_with, on_with, args_with, super_args_with, exprs_with, more_exprs_with, sizes_with, init_with, braces_with, inits_with, more_inits_with}
use Rattle.rf_jview.specs.Rewritings.{Rewriting, behind}
use Rattle.rf_jview.specs.Rewritten.{Rewritten, none, type_name}
use Rattle.rf_jview.proofs.Tokens.{joined, kept_then, text_then, same, name_tokens, base_tokens, type_tokens}

mutual
  pub expr_tokens : (g : Rewriting) (n : ℕ) (tree : ExprTree) → Rewritten g n (expr_yield tree) (expr_yield (expr_with g n tree))
  expr_tokens g n (Assign left op operand) = joined (expr_tokens g n left) (kept_then op ((expr_tokens g (suc (behind n (expr_yield left))) operand)))
  expr_tokens g n (Cond test mark then colon other) = joined (expr_tokens g n test) (kept_then mark (joined (expr_tokens g (suc (behind n (expr_yield test))) then) (kept_then colon ((expr_tokens g (suc (behind (suc (behind n (expr_yield test))) (expr_yield then))) other)))))
  expr_tokens g n (Binary left op right) = joined (expr_tokens g n left) (kept_then op ((expr_tokens g (suc (behind n (expr_yield left))) right)))
  expr_tokens g n (Instance operand word used_type) = joined (expr_tokens g n operand) (kept_then word ((type_tokens g (suc (behind n (expr_yield operand))) used_type)))
  expr_tokens g n (Unary op operand) = kept_then op ((expr_tokens g (suc n) operand))
  expr_tokens g n (Cast left used_type right operand) = kept_then left (joined (type_tokens g (suc n) used_type) (kept_then right ((expr_tokens g (suc (behind (suc n) (type_yield used_type))) operand))))
  expr_tokens g n (Postfix operand op) = joined (expr_tokens g n operand) (kept_then op (none _))
  expr_tokens g n (Lit tok) = kept_then tok (none _)
  expr_tokens g n (This tok) = kept_then tok (none _)
  expr_tokens g n (Paren left operand right) = kept_then left (joined (expr_tokens g (suc n) operand) (kept_then right (none _)))
  expr_tokens g n (Name name) = (name_tokens g n name)
  expr_tokens g n (Call on id args) = joined (on_tokens g n on) (text_then id ((args_tokens g (suc (behind n (on_yield on))) args)))
  expr_tokens g n (Field operand dot id) = joined (expr_tokens g n operand) (kept_then dot (text_then id (none _)))
  expr_tokens g n (Super word dot id args) = kept_then word (kept_then dot (text_then id ((super_args_tokens g (suc (suc (suc n))) args))))
  expr_tokens g n (New word name args) = kept_then word (joined (type_name (suc n) name) ((args_tokens g (behind (suc n) (name_yield name)) args)))
  expr_tokens g n (Index operand left index right) = joined (expr_tokens g n operand) (kept_then left (joined (expr_tokens g (suc (behind n (expr_yield operand))) index) (kept_then right (none _))))
  expr_tokens g n (NewArray word base sizes dims) = kept_then word (joined (base_tokens g (suc n) base) (joined (sizes_tokens g (behind (suc n) (base_yield base)) sizes) ((same (dims_yield dims)))))
  expr_tokens g n (NewInit word base dims init) = kept_then word (joined (base_tokens g (suc n) base) (joined (same (dims_yield dims)) ((braces_tokens g (behind (behind (suc n) (base_yield base)) (dims_yield dims)) init))))

  pub on_tokens : (g : Rewriting) (n : ℕ) (tree : OnTree) → Rewritten g n (on_yield tree) (on_yield (on_with g n tree))
  on_tokens g n NoOn = none n
  on_tokens g n (On operand dot) = joined (expr_tokens g n operand) (kept_then dot (none _))

  pub args_tokens : (g : Rewriting) (n : ℕ) (tree : ArgsTree) → Rewritten g n (args_yield tree) (args_yield (args_with g n tree))
  args_tokens g n (Args left list right) = kept_then left (joined (exprs_tokens g (suc n) list) (kept_then right (none _)))

  pub super_args_tokens : (g : Rewriting) (n : ℕ) (tree : SuperArgsTree) → Rewritten g n (super_args_yield tree) (super_args_yield (super_args_with g n tree))
  super_args_tokens g n NoArgs = none n
  super_args_tokens g n (SuperArgs args) = (args_tokens g n args)

  pub exprs_tokens : (g : Rewriting) (n : ℕ) (tree : ExprsTree) → Rewritten g n (exprs_yield tree) (exprs_yield (exprs_with g n tree))
  exprs_tokens g n NoExprs = none n
  exprs_tokens g n (Exprs first rest) = joined (expr_tokens g n first) ((more_exprs_tokens g (behind n (expr_yield first)) rest))

  pub more_exprs_tokens : (g : Rewriting) (n : ℕ) (tree : MoreExprsTree) → Rewritten g n (more_exprs_yield tree) (more_exprs_yield (more_exprs_with g n tree))
  more_exprs_tokens g n NoMoreExprs = none n
  more_exprs_tokens g n (MoreExprs comma expr rest) = kept_then comma (joined (expr_tokens g (suc n) expr) ((more_exprs_tokens g (behind (suc n) (expr_yield expr)) rest)))

  pub sizes_tokens : (g : Rewriting) (n : ℕ) (tree : SizesTree) → Rewritten g n (sizes_yield tree) (sizes_yield (sizes_with g n tree))
  sizes_tokens g n NoSizes = none n
  sizes_tokens g n (Sizes left size right rest) = kept_then left (joined (expr_tokens g (suc n) size) (kept_then right ((sizes_tokens g (suc (behind (suc n) (expr_yield size))) rest))))

  pub init_tokens : (g : Rewriting) (n : ℕ) (tree : InitTree) → Rewritten g n (init_yield tree) (init_yield (init_with g n tree))
  init_tokens g n (Expression operand) = (expr_tokens g n operand)
  init_tokens g n (Braced braces) = (braces_tokens g n braces)

  pub braces_tokens : (g : Rewriting) (n : ℕ) (tree : BracesTree) → Rewritten g n (braces_yield tree) (braces_yield (braces_with g n tree))
  braces_tokens g n (Braces left items comma right) = kept_then left (joined (inits_tokens g (suc n) items) (joined (same (option_yield tok_yield comma)) (kept_then right (none _))))

  pub inits_tokens : (g : Rewriting) (n : ℕ) (tree : InitsTree) → Rewritten g n (inits_yield tree) (inits_yield (inits_with g n tree))
  inits_tokens g n NoInits = none n
  inits_tokens g n (Inits first rest) = joined (init_tokens g n first) ((more_inits_tokens g (behind n (init_yield first)) rest))

  pub more_inits_tokens : (g : Rewriting) (n : ℕ) (tree : MoreInitsTree) → Rewritten g n (more_inits_yield tree) (more_inits_yield (more_inits_with g n tree))
  more_inits_tokens g n NoMoreInits = none n
  more_inits_tokens g n (MoreInits comma init rest) = kept_then comma (joined (init_tokens g (suc n) init) ((more_inits_tokens g (behind (suc n) (init_yield init)) rest)))
