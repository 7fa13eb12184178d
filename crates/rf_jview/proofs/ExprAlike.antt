-- The marks of an expression stay where it is rewritten.
use Rattle.std.proofs.Common.{ℕ, suc, [], ◌∷◌}
use Rattle.rf_jtree.specs.ExprTrees.{ExprTree, Assign, Cond, Binary, Instance, Unary, Cast, Postfix, Lit, This, Paren, Name, Call, Field, Super, New, Index, NewArray, NewInit}
use Rattle.rf_jtree.specs.ExprTrees.{OnTree, NoOn, On, ArgsTree, Args, SuperArgsTree, NoArgs, SuperArgs, ExprsTree, NoExprs, Exprs, MoreExprsTree, NoMoreExprs, MoreExprs, SizesTree, NoSizes, Sizes}
use Rattle.rf_jtree.specs.ExprTrees.{InitTree, Expression, Braced, BracesTree, Braces, InitsTree, NoInits, Inits, MoreInitsTree, NoMoreInits, MoreInits}
use Rattle.rf_jtree.specs.ExprTrees.{expr_yield, on_yield, init_yield}
use Rattle.rf_jtree.specs.NameTrees.{name_yield, base_yield, type_yield, dims_yield, option_yield, tok_yield}
use Rattle.rf_jview.specs.declared.marks.Invocation.{Invocation}
use Rattle.rf_jview.specs.declared.marks.Invocation.TheVariants as i
use Rattle.rf_jview.specs.declared.marks.Mark.TheVariants as m
use Rattle.rf_jview.specs.ExprMarks.{expr_marks, on_marks, args_marks, super_marks, exprs_marks, more_exprs_marks, sizes_marks, init_marks, braces_marks, inits_marks, more_inits_marks}
use Rattle.rf_jview.specs.ExprWith.{expr_with, on_with, args_with, super_args_with, exprs_with, more_exprs_with, sizes_with, init_with, braces_with, inits_with, more_inits_with}
use Rattle.rf_jview.specs.MarkWords.{plains}
use Rattle.rf_jview.specs.NameMarks.{dims_marks}
use Rattle.rf_jview.specs.Rewritings.{Rewriting, behind}
use Rattle.rf_jview.proofs.Alike.{Alike, alike, both, plain, invoked, tname_alike, name_alike, base_alike, type_alike}

mutual
  pub expr_alike : (g : Rewriting) (n : ℕ) (tree : ExprTree) → Alike (expr_marks (expr_with g n tree)) (expr_marks tree)
  expr_alike g n (Assign left op operand) = both (expr_alike g n left) (plain ((expr_alike g (suc (behind n (expr_yield left))) operand)))
  expr_alike g n (Cond test mark then colon other) = both (expr_alike g n test) (plain (both (expr_alike g (suc (behind n (expr_yield test))) then) (plain ((expr_alike g (suc (behind (suc (behind n (expr_yield test))) (expr_yield then))) other)))))
  expr_alike g n (Binary left op right) = both (expr_alike g n left) (plain ((expr_alike g (suc (behind n (expr_yield left))) right)))
  expr_alike g n (Instance operand word used_type) = both (expr_alike g n operand) (plain ((type_alike g (suc (behind n (expr_yield operand))) used_type)))
  expr_alike g n (Unary op operand) = plain ((expr_alike g (suc n) operand))
  expr_alike g n (Cast left used_type right operand) = plain (both (type_alike g (suc n) used_type) (plain ((expr_alike g (suc (behind (suc n) (type_yield used_type))) operand))))
  expr_alike g n (Postfix operand op) = both (expr_alike g n operand) (plain (alike []))
  expr_alike g n (Lit tok) = plain (alike [])
  expr_alike g n (This tok) = plain (alike [])
  expr_alike g n (Paren left operand right) = plain (both (expr_alike g (suc n) operand) (plain (alike [])))
  expr_alike g n (Name name) = (name_alike g n name)
  expr_alike g n (Call on id args) = both (on_alike g n on) (plain (args_alike g (suc (behind n (on_yield on))) i.Method 1 args))
  expr_alike g n (Field operand dot id) = both (expr_alike g n operand) (alike (m.Plain ∷ m.FieldAccess ∷ []))
  expr_alike g n (Super word dot id args) = plain (plain (super_args_alike g (suc (suc (suc n))) args))
  expr_alike g n (New word name args) = plain (both (tname_alike g (suc n) name) (args_alike g (behind (suc n) (name_yield name)) i.Creation 2 args))
  expr_alike g n (Index operand left index right) = both (expr_alike g n operand) (plain (both (expr_alike g (suc (behind n (expr_yield operand))) index) (plain (alike []))))
  expr_alike g n (NewArray word base sizes dims) = plain (both (base_alike g (suc n) base) (both (sizes_alike g (behind (suc n) (base_yield base)) sizes) ((alike (dims_marks dims)))))
  expr_alike g n (NewInit word base dims init) = plain (both (base_alike g (suc n) base) (both (alike (dims_marks dims)) ((braces_alike g (behind (behind (suc n) (base_yield base)) (dims_yield dims)) init))))

  pub on_alike : (g : Rewriting) (n : ℕ) (tree : OnTree) → Alike (on_marks (on_with g n tree)) (on_marks tree)
  on_alike g n NoOn = alike []
  on_alike g n (On operand dot) = both (expr_alike g n operand) (plain (alike []))

  pub args_alike : (g : Rewriting) (n : ℕ) (invocation : Invocation) (back : ℕ) (args : ArgsTree) → Alike (args_marks invocation back (args_with g n args)) (args_marks invocation back args)
  args_alike g n invocation back (Args left list right) = plain (invoked invocation back (exprs_alike g (suc n) list))

  pub super_args_alike : (g : Rewriting) (n : ℕ) (args : SuperArgsTree) → Alike (super_marks (super_args_with g n args)) (super_marks args)
  super_args_alike g n NoArgs = alike (m.FieldAccess ∷ [])
  super_args_alike g n (SuperArgs args) = plain (args_alike g n i.Method 1 args)

  pub exprs_alike : (g : Rewriting) (n : ℕ) (tree : ExprsTree) → Alike (exprs_marks (exprs_with g n tree)) (exprs_marks tree)
  exprs_alike g n NoExprs = alike []
  exprs_alike g n (Exprs first rest) = both (expr_alike g n first) ((more_exprs_alike g (behind n (expr_yield first)) rest))

  pub more_exprs_alike : (g : Rewriting) (n : ℕ) (tree : MoreExprsTree) → Alike (more_exprs_marks (more_exprs_with g n tree)) (more_exprs_marks tree)
  more_exprs_alike g n NoMoreExprs = alike []
  more_exprs_alike g n (MoreExprs comma expr rest) = plain (both (expr_alike g (suc n) expr) ((more_exprs_alike g (behind (suc n) (expr_yield expr)) rest)))

  pub sizes_alike : (g : Rewriting) (n : ℕ) (tree : SizesTree) → Alike (sizes_marks (sizes_with g n tree)) (sizes_marks tree)
  sizes_alike g n NoSizes = alike []
  sizes_alike g n (Sizes left size right rest) = plain (both (expr_alike g (suc n) size) (plain ((sizes_alike g (suc (behind (suc n) (expr_yield size))) rest))))

  pub init_alike : (g : Rewriting) (n : ℕ) (tree : InitTree) → Alike (init_marks (init_with g n tree)) (init_marks tree)
  init_alike g n (Expression operand) = (expr_alike g n operand)
  init_alike g n (Braced braces) = (braces_alike g n braces)

  pub braces_alike : (g : Rewriting) (n : ℕ) (tree : BracesTree) → Alike (braces_marks (braces_with g n tree)) (braces_marks tree)
  braces_alike g n (Braces left items comma right) = plain (both (inits_alike g (suc n) items) (both (alike (plains (option_yield tok_yield comma))) (plain (alike []))))

  pub inits_alike : (g : Rewriting) (n : ℕ) (tree : InitsTree) → Alike (inits_marks (inits_with g n tree)) (inits_marks tree)
  inits_alike g n NoInits = alike []
  inits_alike g n (Inits first rest) = both (init_alike g n first) ((more_inits_alike g (behind n (init_yield first)) rest))

  pub more_inits_alike : (g : Rewriting) (n : ℕ) (tree : MoreInitsTree) → Alike (more_inits_marks (more_inits_with g n tree)) (more_inits_marks tree)
  more_inits_alike g n NoMoreInits = alike []
  more_inits_alike g n (MoreInits comma init rest) = plain (both (init_alike g (suc n) init) ((more_inits_alike g (behind (suc n) (init_yield init)) rest)))
