-- An expression that fits does so where it is rewritten.
use Rattle.std.proofs.Common.{◌≡◌, ◌≤◌, ℕ, suc, List, [], ◌∷◌, Option, Some, None, IfSome, IsTrue, refl, sym, subst}
use Rattle.rf_jtree.specs.declared.operators.Op.{Op}
use Rattle.rf_jtree.specs.declared.tokens.Tok.{Tok}
use Rattle.rf_jtree.specs.declared.operator_names.TheConstants.{DOT}
use Rattle.rf_jtree.specs.ExprTrees.{ExprTree, Assign, Cond, Binary, Instance, Unary, Cast, Postfix, Lit, This, Paren, Name, Call, Field, Super, New, Index, NewArray, NewInit}
use Rattle.rf_jtree.specs.ExprTrees.{OnTree, NoOn, On, ArgsTree, Args, SuperArgsTree, NoArgs, SuperArgs, ExprsTree, NoExprs, Exprs, MoreExprsTree, NoMoreExprs, MoreExprs, SizesTree, NoSizes, Sizes}
use Rattle.rf_jtree.specs.ExprTrees.{InitTree, Expression, Braced, BracesTree, Braces, InitsTree, NoInits, Inits, MoreInitsTree, NoMoreInits, MoreInits}
use Rattle.rf_jtree.specs.ExprFits.{ExprFits, OnFits, ArgsFit, SuperArgsFit, ExprsFit, MoreExprsFit, SizesFit, InitFits, BracesFit, InitsFit, MoreInitsFit}
use Rattle.rf_jtree.specs.ExprFits.{IsLeftSide, IsNoName, IsNoNewArray, HasSize, CastTakes, BeginsOperand, begins_operand}
use Rattle.rf_jtree.specs.ExprTrees.{expr_yield, on_yield, init_yield}
use Rattle.rf_jtree.specs.Kinds.{IsOp, IsIdent}
use Rattle.rf_jtree.specs.Levels.{BindsAt, expr_level}
use Rattle.rf_jtree.specs.NameFits.{EachFits, ManyFit, NameFits, BaseFits, TypeFits}
use Rattle.rf_jtree.specs.NameTrees.{ManyTree, NameTree, TypeBaseTree, Prim, Named, TypeUseTree, name_yield, base_yield, type_yield, dims_yield, tok_yield}
use Rattle.rf_jfit.specs.ExprFirst.{expr_first, on_first}
use Rattle.rf_jfit.proofs.ExprFirstLemmas.{BeginsOperand_yield}
use Rattle.rf_jview.specs.ExprWith.{expr_with, on_with, args_with, super_args_with, exprs_with, more_exprs_with, sizes_with, init_with, braces_with, inits_with, more_inits_with}
use Rattle.rf_jview.specs.Rewritings.{Rewriting, WritesNames, behind, retext, option_with, list_with, rest_with, many_with, name_with, base_with, type_with}

-- lists of parts, and parts that may be left out
pub each_fits-with : {A : Type 0} (Fits : A → Type 0) (yield : A → List Tok) (change : ℕ → A → A) → ((n : ℕ) (part : A) → Fits part → Fits (change n part))
    → (n : ℕ) (parts : List A) → EachFits Fits parts → EachFits Fits (list_with yield change n parts)
each_fits-with Fits yield change each n [] fit = tt
each_fits-with Fits yield change each n (part ∷ parts) fit =
    (each n part fit.0, each_fits-with Fits yield change each (behind n (yield part)) parts fit.1)

rest_fits-with : {A : Type 0} (Fits : A → Type 0) (between : Op) (yield : A → List Tok) (change : ℕ → A → A) → ((n : ℕ) (part : A) → Fits part → Fits (change n part))
    → (n : ℕ) (rest : List (Tok × A)) → EachFits (λ item. IsOp between item.0 × Fits item.1) rest
    → EachFits (λ item. IsOp between item.0 × Fits item.1) (rest_with yield change n rest)
rest_fits-with Fits between yield change each n [] fit = tt
rest_fits-with Fits between yield change each n (item ∷ rest) fit =
    ((fit.0.0, each (suc n) item.1 fit.0.1), rest_fits-with Fits between yield change each (behind (suc n) (yield item.1)) rest fit.1)

pub many_fits-with : {A : Type 0} (Fits : A → Type 0) (between : Op) (yield : A → List Tok) (change : ℕ → A → A) → ((n : ℕ) (part : A) → Fits part → Fits (change n part))
    → (n : ℕ) (many : ManyTree A) → ManyFit Fits between many → ManyFit Fits between (many_with yield change n many)
many_fits-with Fits between yield change each n many fit =
    (each n many.first fit.0, rest_fits-with Fits between yield change each (behind n (yield many.first)) many.rest fit.1)

pub optional_fits-with : {A : Type 0} (Fits : A → Type 0) (change : ℕ → A → A) → ((n : ℕ) (part : A) → Fits part → Fits (change n part))
    → (n : ℕ) (part : Option A) → IfSome part Fits → IfSome (option_with change n part) Fits
optional_fits-with Fits change each n None fit = tt
optional_fits-with Fits change each n (Some part) fit = each n part fit

-- names and types
pub name_fits-with : (g : Rewriting) (n : ℕ) (name : NameTree) → NameFits name → NameFits (name_with g n name)
name_fits-with g n name fit = many_fits-with IsIdent DOT tok_yield (retext g) (λ n tok is. is) n name.ids fit

pub base_fits-with : (g : Rewriting) → WritesNames g → (n : ℕ) (base : TypeBaseTree) → BaseFits base → BaseFits (base_with g n base)
base_fits-with g w n (Prim tok) fit = fit
base_fits-with g w n (Named name) fit = w.names n name fit

pub type_fits-with : (g : Rewriting) → WritesNames g → (n : ℕ) (used_type : TypeUseTree) → TypeFits used_type → TypeFits (type_with g n used_type)
type_fits-with g w n used_type fit = (base_fits-with g w n used_type.base fit.0, fit.1)

-- how tightly an expression binds, and which form it has, stay
level-with : (g : Rewriting) (n : ℕ) (tree : ExprTree) → expr_level (expr_with g n tree) ≡ expr_level tree
level-with g n (Assign left op operand) = refl
level-with g n (Cond test mark then colon other) = refl
level-with g n (Binary left op right) = refl
level-with g n (Instance operand word used_type) = refl
level-with g n (Unary op operand) = refl
level-with g n (Cast left used_type right operand) = refl
level-with g n (Postfix operand op) = refl
level-with g n (Lit tok) = refl
level-with g n (This tok) = refl
level-with g n (Paren left operand right) = refl
level-with g n (Name name) = refl
level-with g n (Call on id args) = refl
level-with g n (Field operand dot id) = refl
level-with g n (Super word dot id args) = refl
level-with g n (New word name args) = refl
level-with g n (Index operand left index right) = refl
level-with g n (NewArray word base sizes dims) = refl
level-with g n (NewInit word base dims init) = refl

binds-with : (g : Rewriting) (n : ℕ) (tree : ExprTree) (level : ℕ) → BindsAt level tree → BindsAt level (expr_with g n tree)
binds-with g n tree level binds = subst (λ own. level ≤ own) (sym (level-with g n tree)) binds

left_side-with : (g : Rewriting) (n : ℕ) (tree : ExprTree) → IsLeftSide tree → IsLeftSide (expr_with g n tree)
left_side-with g n (Assign left op operand) h = h
left_side-with g n (Cond test mark then colon other) h = h
left_side-with g n (Binary left op right) h = h
left_side-with g n (Instance operand word used_type) h = h
left_side-with g n (Unary op operand) h = h
left_side-with g n (Cast left used_type right operand) h = h
left_side-with g n (Postfix operand op) h = h
left_side-with g n (Lit tok) h = h
left_side-with g n (This tok) h = h
left_side-with g n (Paren left operand right) h = h
left_side-with g n (Name name) h = h
left_side-with g n (Call on id args) h = h
left_side-with g n (Field operand dot id) h = h
left_side-with g n (Super word dot id NoArgs) h = h
left_side-with g n (Super word dot id (SuperArgs args)) h = h
left_side-with g n (New word name args) h = h
left_side-with g n (Index operand left index right) h = h
left_side-with g n (NewArray word base sizes dims) h = h
left_side-with g n (NewInit word base dims init) h = h

no_name-with : (g : Rewriting) (n : ℕ) (tree : ExprTree) → IsNoName tree → IsNoName (expr_with g n tree)
no_name-with g n (Assign left op operand) h = h
no_name-with g n (Cond test mark then colon other) h = h
no_name-with g n (Binary left op right) h = h
no_name-with g n (Instance operand word used_type) h = h
no_name-with g n (Unary op operand) h = h
no_name-with g n (Cast left used_type right operand) h = h
no_name-with g n (Postfix operand op) h = h
no_name-with g n (Lit tok) h = h
no_name-with g n (This tok) h = h
no_name-with g n (Paren left operand right) h = h
no_name-with g n (Name name) h = h
no_name-with g n (Call on id args) h = h
no_name-with g n (Field operand dot id) h = h
no_name-with g n (Super word dot id args) h = h
no_name-with g n (New word name args) h = h
no_name-with g n (Index operand left index right) h = h
no_name-with g n (NewArray word base sizes dims) h = h
no_name-with g n (NewInit word base dims init) h = h

no_new_array-with : (g : Rewriting) (n : ℕ) (tree : ExprTree) → IsNoNewArray tree → IsNoNewArray (expr_with g n tree)
no_new_array-with g n (Assign left op operand) h = h
no_new_array-with g n (Cond test mark then colon other) h = h
no_new_array-with g n (Binary left op right) h = h
no_new_array-with g n (Instance operand word used_type) h = h
no_new_array-with g n (Unary op operand) h = h
no_new_array-with g n (Cast left used_type right operand) h = h
no_new_array-with g n (Postfix operand op) h = h
no_new_array-with g n (Lit tok) h = h
no_new_array-with g n (This tok) h = h
no_new_array-with g n (Paren left operand right) h = h
no_new_array-with g n (Name name) h = h
no_new_array-with g n (Call on id args) h = h
no_new_array-with g n (Field operand dot id) h = h
no_new_array-with g n (Super word dot id args) h = h
no_new_array-with g n (New word name args) h = h
no_new_array-with g n (Index operand left index right) h = h
no_new_array-with g n (NewArray word base sizes dims) h = h
no_new_array-with g n (NewInit word base dims init) h = h

has_size-with : (g : Rewriting) (n : ℕ) (tree : SizesTree) → HasSize tree → HasSize (sizes_with g n tree)
has_size-with g n NoSizes h = h
has_size-with g n (Sizes left size right rest) h = h

-- what an expression begins with stays of its kind
mutual
  first-with : (g : Rewriting) (n : ℕ) (tree : ExprTree) → begins_operand (expr_first (expr_with g n tree)) ≡ begins_operand (expr_first tree)
  first-with g n (Assign left op operand) = first-with g n left
  first-with g n (Cond test mark then colon other) = first-with g n test
  first-with g n (Binary left op right) = first-with g n left
  first-with g n (Instance operand word used_type) = first-with g n operand
  first-with g n (Unary op operand) = refl
  first-with g n (Cast left used_type right operand) = refl
  first-with g n (Postfix operand op) = first-with g n operand
  first-with g n (Lit tok) = refl
  first-with g n (This tok) = refl
  first-with g n (Paren left operand right) = refl
  first-with g n (Name name) = refl
  first-with g n (Call on id args) = on_first-with g n on (behind n (on_yield on)) id
  first-with g n (Field operand dot id) = first-with g n operand
  first-with g n (Super word dot id args) = refl
  first-with g n (New word name args) = refl
  first-with g n (Index operand left index right) = first-with g n operand
  first-with g n (NewArray word base sizes dims) = refl
  first-with g n (NewInit word base dims init) = refl

  on_first-with : (g : Rewriting) (n : ℕ) (on : OnTree) (next : ℕ) (id : Tok) → begins_operand (on_first (on_with g n on) (retext g next id)) ≡ begins_operand (on_first on id)
  on_first-with g n NoOn next id = refl
  on_first-with g n (On operand dot) next id = first-with g n operand

begins-with : (g : Rewriting) (n : ℕ) (tree : ExprTree) → BeginsOperand (expr_yield tree) → BeginsOperand (expr_yield (expr_with g n tree))
begins-with g n tree begins =
    (BeginsOperand_yield (expr_with g n tree)).0 (subst IsTrue (sym (first-with g n tree)) ((BeginsOperand_yield tree).1 begins))

cast_takes-with : (g : Rewriting) (n : ℕ) (base : TypeBaseTree) (dims : List (Tok × Tok)) (next : ℕ) (operand : ExprTree) → CastTakes base dims (expr_yield operand)
    → CastTakes (base_with g n base) dims (expr_yield (expr_with g next operand))
cast_takes-with g n (Prim tok) [] next operand takes = tt
cast_takes-with g n (Prim tok) (pair ∷ dims) next operand takes = begins-with g next operand takes
cast_takes-with g n (Named name) dims next operand takes = begins-with g next operand takes

mutual
  pub expr_fits-with : (g : Rewriting) → WritesNames g → (n : ℕ) (tree : ExprTree) → ExprFits tree → ExprFits (expr_with g n tree)
  expr_fits-with g w n (Assign left op operand) fit = (record { left_side = left_side-with g n left fit.0.left_side; op_is = fit.0.op_is }, expr_fits-with g w n left fit.1, expr_fits-with g w (suc (behind n (expr_yield left))) operand fit.2)
  expr_fits-with g w n (Cond test mark then colon other) fit = (record { test_binds = binds-with g n test _ (fit.0.test_binds); mark_is = fit.0.mark_is; colon_is = fit.0.colon_is; no_assignment = binds-with g (suc (behind (suc (behind n (expr_yield test))) (expr_yield then))) other _ (fit.0.no_assignment) }, expr_fits-with g w n test fit.1, expr_fits-with g w (suc (behind n (expr_yield test))) then fit.2, expr_fits-with g w (suc (behind (suc (behind n (expr_yield test))) (expr_yield then))) other fit.3)
  expr_fits-with g w n (Binary left op right) fit = (record { op_is = fit.0.op_is; left_binds = binds-with g n left _ (fit.0.left_binds); right_binds = binds-with g (suc (behind n (expr_yield left))) right _ (fit.0.right_binds) }, expr_fits-with g w n left fit.1, expr_fits-with g w (suc (behind n (expr_yield left))) right fit.2)
  expr_fits-with g w n (Instance operand word used_type) fit = (record { operand_binds = binds-with g n operand _ (fit.0.operand_binds); word_is = fit.0.word_is }, expr_fits-with g w n operand fit.1, type_fits-with g w (suc (behind n (expr_yield operand))) used_type fit.2)
  expr_fits-with g w n (Unary op operand) fit = (record { op_is = fit.0.op_is; operand_binds = binds-with g (suc n) operand _ (fit.0.operand_binds) }, expr_fits-with g w (suc n) operand fit.1)
  expr_fits-with g w n (Cast left used_type right operand) fit = (record { parens = fit.0.parens; operand_binds = binds-with g (suc (behind (suc n) (type_yield used_type))) operand _ (fit.0.operand_binds); takes = cast_takes-with g (suc n) used_type.base used_type.dims.list (suc (behind (suc n) (type_yield used_type))) operand fit.0.takes }, type_fits-with g w (suc n) used_type fit.1, expr_fits-with g w (suc (behind (suc n) (type_yield used_type))) operand fit.2)
  expr_fits-with g w n (Postfix operand op) fit = (record { operand_binds = binds-with g n operand _ (fit.0.operand_binds); op_is = fit.0.op_is }, expr_fits-with g w n operand fit.1)
  expr_fits-with g w n (Lit tok) fit = fit
  expr_fits-with g w n (This tok) fit = fit
  expr_fits-with g w n (Paren left operand right) fit = (fit.0, expr_fits-with g w (suc n) operand fit.1)
  expr_fits-with g w n (Name name) fit = name_fits-with g n name fit
  expr_fits-with g w n (Call on id args) fit = (on_fits-with g w n on fit.0, fit.1, args_fits-with g w (suc (behind n (on_yield on))) args fit.2)
  expr_fits-with g w n (Field operand dot id) fit = (record { primary = binds-with g n operand _ (fit.0.primary); no_name = no_name-with g n operand fit.0.no_name; dot_is = fit.0.dot_is; id_is = fit.0.id_is }, expr_fits-with g w n operand fit.1)
  expr_fits-with g w n (Super word dot id args) fit = (record { word_is = fit.0.word_is; dot_is = fit.0.dot_is; id_is = fit.0.id_is }, super_args_fits-with g w (suc (suc (suc n))) args fit.1)
  expr_fits-with g w n (New word name args) fit = (fit.0, w.names (suc n) name fit.1, args_fits-with g w (behind (suc n) (name_yield name)) args fit.2)
  expr_fits-with g w n (Index operand left index right) fit = (record { primary = binds-with g n operand _ (fit.0.primary); no_new_array = no_new_array-with g n operand fit.0.no_new_array; brackets = fit.0.brackets }, expr_fits-with g w n operand fit.1, expr_fits-with g w (suc (behind n (expr_yield operand))) index fit.2)
  expr_fits-with g w n (NewArray word base sizes dims) fit = (fit.0, base_fits-with g w (suc n) base fit.1, has_size-with g (behind (suc n) (base_yield base)) sizes fit.2, sizes_fits-with g w (behind (suc n) (base_yield base)) sizes fit.3, fit.4)
  expr_fits-with g w n (NewInit word base dims init) fit = (fit.0, base_fits-with g w (suc n) base fit.1, fit.2, fit.3, braces_fits-with g w (behind (behind (suc n) (base_yield base)) (dims_yield dims)) init fit.4)

  pub on_fits-with : (g : Rewriting) → WritesNames g → (n : ℕ) (tree : OnTree) → OnFits tree → OnFits (on_with g n tree)
  on_fits-with g w n NoOn fit = tt
  on_fits-with g w n (On operand dot) fit = (record { primary = binds-with g n operand _ (fit.0.primary); dot_is = fit.0.dot_is }, expr_fits-with g w n operand fit.1)

  pub args_fits-with : (g : Rewriting) → WritesNames g → (n : ℕ) (tree : ArgsTree) → ArgsFit tree → ArgsFit (args_with g n tree)
  args_fits-with g w n (Args left list right) fit = (fit.0, exprs_fits-with g w (suc n) list fit.1)

  pub super_args_fits-with : (g : Rewriting) → WritesNames g → (n : ℕ) (tree : SuperArgsTree) → SuperArgsFit tree → SuperArgsFit (super_args_with g n tree)
  super_args_fits-with g w n NoArgs fit = tt
  super_args_fits-with g w n (SuperArgs args) fit = args_fits-with g w n args fit

  pub exprs_fits-with : (g : Rewriting) → WritesNames g → (n : ℕ) (tree : ExprsTree) → ExprsFit tree → ExprsFit (exprs_with g n tree)
  exprs_fits-with g w n NoExprs fit = tt
  exprs_fits-with g w n (Exprs first rest) fit = (expr_fits-with g w n first fit.0, more_exprs_fits-with g w (behind n (expr_yield first)) rest fit.1)

  pub more_exprs_fits-with : (g : Rewriting) → WritesNames g → (n : ℕ) (tree : MoreExprsTree) → MoreExprsFit tree → MoreExprsFit (more_exprs_with g n tree)
  more_exprs_fits-with g w n NoMoreExprs fit = tt
  more_exprs_fits-with g w n (MoreExprs comma expr rest) fit = (fit.0, expr_fits-with g w (suc n) expr fit.1, more_exprs_fits-with g w (behind (suc n) (expr_yield expr)) rest fit.2)

  pub sizes_fits-with : (g : Rewriting) → WritesNames g → (n : ℕ) (tree : SizesTree) → SizesFit tree → SizesFit (sizes_with g n tree)
  sizes_fits-with g w n NoSizes fit = tt
  sizes_fits-with g w n (Sizes left size right rest) fit = (fit.0, expr_fits-with g w (suc n) size fit.1, sizes_fits-with g w (suc (behind (suc n) (expr_yield size))) rest fit.2)

  pub init_fits-with : (g : Rewriting) → WritesNames g → (n : ℕ) (tree : InitTree) → InitFits tree → InitFits (init_with g n tree)
  init_fits-with g w n (Expression operand) fit = expr_fits-with g w n operand fit
  init_fits-with g w n (Braced braces) fit = braces_fits-with g w n braces fit

  pub braces_fits-with : (g : Rewriting) → WritesNames g → (n : ℕ) (tree : BracesTree) → BracesFit tree → BracesFit (braces_with g n tree)
  braces_fits-with g w n (Braces left items comma right) fit = (fit.0, fit.1, inits_fits-with g w (suc n) items fit.2)

  pub inits_fits-with : (g : Rewriting) → WritesNames g → (n : ℕ) (tree : InitsTree) → InitsFit tree → InitsFit (inits_with g n tree)
  inits_fits-with g w n NoInits fit = tt
  inits_fits-with g w n (Inits first rest) fit = (init_fits-with g w n first fit.0, more_inits_fits-with g w (behind n (init_yield first)) rest fit.1)

  pub more_inits_fits-with : (g : Rewriting) → WritesNames g → (n : ℕ) (tree : MoreInitsTree) → MoreInitsFit tree → MoreInitsFit (more_inits_with g n tree)
  more_inits_fits-with g w n NoMoreInits fit = tt
  more_inits_fits-with g w n (MoreInits comma init rest) fit = (fit.0, init_fits-with g w (suc n) init fit.1, more_inits_fits-with g w (behind (suc n) (init_yield init)) rest fit.2)
