-- The parts of an expression that stand in brackets of their own are read where they stand, whatever follows.
use Rattle.std.proofs.Common.{◌≡◌, ℕ, ◌≤◌, List, [], ◌∷◌, ◌++◌, Option, Some, None, Bool, false, ◌||◌, ◌==◌, IfSome, refl, ap, ◌∙◌, sym, arith, append_assoc}
use Rattle.std.specs.List.{flat_map}
use Rattle.rf_jtree.specs.declared.operators.Op.{Op}
use Rattle.rf_jtree.specs.declared.tokens.Tok.{Tok}
use Rattle.rf_jtree.specs.declared.levels.TheConstants.{ASSIGNMENT_LEVEL, CONDITIONAL_LEVEL, OR_OR_LEVEL, UNARY_LEVEL}
use Rattle.rf_jtree.specs.declared.operator_names.TheConstants.{LEFT_PAREN, RIGHT_PAREN, LEFT_BRACE, RIGHT_BRACE, LEFT_BRACKET, RIGHT_BRACKET, COMMA, PREFIXES}
use Rattle.rf_jtree.specs.ExprFits.{ExprsFit, MoreExprsFit, SizesFit, InitsFit, MoreInitsFit}
use Rattle.rf_jtree.specs.ExprShown.{more_exprs_tree, more_inits_tree, sizes_tree}
use Rattle.rf_jtree.specs.ExprTrees.{ExprTree, Paren, Args, ExprsTree, NoExprs, Exprs, MoreExprsTree, NoMoreExprs, MoreExprs, SizesTree, NoSizes, Sizes, InitTree, BracesTree, Braces, InitsTree, NoInits, Inits, MoreInitsTree, NoMoreInits, MoreInits}
use Rattle.rf_jtree.specs.ExprTrees.{expr_yield, args_yield, exprs_yield, sizes_yield, init_yield, braces_yield, inits_yield, exprs_depth, more_exprs_depth, sizes_depth, inits_depth, more_inits_depth}
use Rattle.rf_jtree.specs.Kinds.{IsOp, AreBrackets, AreParens, has_op}
use Rattle.rf_jtree.specs.NameFits.{EachFits, ManyFit}
use Rattle.rf_jtree.specs.NameTrees.{ManyTree, many_yield, option_yield}
use Rattle.rf_jmake.specs.ExprMade.{exprs_of, inits_of}
use Rattle.rf_jexpr.specs.PartReads.{Parsers, paren, args, sized, braces}
use Rattle.rf_jexpr.specs.Reads.{Reads, and_then, is_op, begins, optional, behind, separated}
use Rattle.rf_jexpr.specs.Stops.{stops, Stops}
use Rattle.rf_jexpr.proofs.Bounded.{AreBounded}
use Rattle.rf_jexpr.proofs.CompleteNames.{Anything}
use Rattle.rf_jexpr.proofs.LoopLemmas.{IsExact, separated-exact}
use Rattle.rf_jexpr.proofs.SoundParts.{Good, GoodInit, GoodArgs, GoodBraces, GoodSize, size_yield, exprs_yield-of, inits_yield-of, sizes_yield-tree}
use Rattle.rf_jexpr.proofs.StopLemmas.{stops_comma, stops_paren, stops_bracket, stops_brace}
use Rattle.rf_jexpr.proofs.Tools.{bind-Some, bind-None, token-at, token-other, optional-Some, optional-None, IsOp-is_op}
use Rattle.rf_jexpr.proofs.Within.{IsFar}

-- A reader reads each such part exactly, where the tokens behind it stop it, and something else that is no shorter otherwise.
pub record Completes {A : Type 0} (Fits : A → Type 0) (Stop : List Tok → Type 0) (yield : A → List Tok) (item : Reads A) : Type 0 where
  pub exact : IsExact Fits Stop yield item
  pub far : IsFar Fits yield item

-- An expression may begin with this operator, or items in braces may.
unfoldable pub begins_init : Op → Bool
begins_init op = (op.0 == LEFT_BRACE.0) || ((op.0 == LEFT_PAREN.0) || has_op PREFIXES op)

-- where no part begins, nothing is read
abbrev pub Refuses : {A : Type 0} → Reads A → Type 0
Refuses {A} item = (op : Op) (tok : Tok) (rest : List Tok) → begins_init op ≡ false → IsOp op tok → item (tok ∷ rest) ≡ None

-- the readers of a room
pub record AreComplete (room : ℕ) (p : Parsers) : Type 0 where
  pub expr : Completes (Good ASSIGNMENT_LEVEL room) (Stops ASSIGNMENT_LEVEL) expr_yield p.expr
  pub conditional : Completes (Good CONDITIONAL_LEVEL room) (Stops CONDITIONAL_LEVEL) expr_yield p.conditional
  pub binary : (least : ℕ) → OR_OR_LEVEL ≤ least → Completes (Good least room) (Stops least) expr_yield (p.binary least)
  pub unary : Completes (Good UNARY_LEVEL room) (Stops UNARY_LEVEL) expr_yield p.unary
  pub init : Completes (GoodInit room) (Stops ASSIGNMENT_LEVEL) init_yield p.init
  pub expr_refuses : Refuses p.expr
  pub init_refuses : Refuses p.init
  pub bounded : AreBounded p

-- the same tokens give the same answer
pub reads-same : {A : Type 0} (item : Reads A) {toks other : List Tok} {z : Option (A × List Tok)} → toks ≡ other → item other ≡ z → item toks ≡ z
reads-same item same h = ap item same ∙ h

-- ---- lists with commas, which may be empty

-- what ends such a list
pub record Ends {A : Type 0} (item : Reads A) (rest : List Tok) : Type 0 where
  pub stop : Stops ASSIGNMENT_LEVEL rest
  pub no_item : item rest ≡ None
  pub no_more : behind (is_op COMMA) item rest ≡ None

pub list-exact : {A : Type 0} (Fits : A → Type 0) (yield : A → List Tok) (item : Reads A) → IsExact Fits (Stops ASSIGNMENT_LEVEL) yield item
    → IsExact (λ (found : Option (ManyTree A)). IfSome found (ManyFit Fits COMMA)) (Ends item) (option_yield (many_yield yield)) (optional (separated COMMA item))
unfolding separated
list-exact Fits yield item exact None rest fit ends = optional-None _ rest (bind-None _ _ ends.no_item)
list-exact Fits yield item exact (Some found) rest fit ends =
    optional-Some _ _ found rest (separated-exact Fits (Stops ASSIGNMENT_LEVEL) yield COMMA item exact (λ tok others is. stops_comma tok others is) found rest fit (ends.stop, ends.no_more))

no_comma : (op : Op) (tok : Tok) (rest : List Tok) → (op.0 == COMMA.0) ≡ false → IsOp op tok → begins (is_op COMMA) (tok ∷ rest) ≡ false
unfolding begins is_op
no_comma op tok rest h is = rw is h

-- a closing token does
pub ends_closed : {A : Type 0} (item : Reads A) → Refuses item → (op : Op) (tok : Tok) (rest : List Tok) → begins_init op ≡ false → (op.0 == COMMA.0) ≡ false → IsOp op tok → Stops ASSIGNMENT_LEVEL (tok ∷ rest) → Ends item (tok ∷ rest)
unfolding behind
ends_closed item refuses op tok rest none other is stop = record {
  stop = stop;
  no_item = refuses op tok rest none is;
  no_more = bind-None _ _ (token-other (is_op COMMA) (tok ∷ rest) (no_comma op tok rest other is));
}

-- and so does a comma before a closing brace
ends_comma : {A : Type 0} (item : Reads A) → Refuses item → (comma right : Tok) (rest : List Tok) → IsOp COMMA comma → IsOp RIGHT_BRACE right → Ends item (comma ∷ right ∷ rest)
unfolding behind begins_init
ends_comma item refuses comma right rest is closes = record {
  stop = stops_comma comma (right ∷ rest) is;
  no_item = refuses COMMA comma (right ∷ rest) refl is;
  no_more = bind-Some _ _ _ _ (token-at (is_op COMMA) comma (right ∷ rest) (IsOp-is_op COMMA comma is)) (bind-None _ _ (refuses RIGHT_BRACE right rest refl closes));
}

-- ---- the lists of trees

more_exprs_of : MoreExprsTree → List (Tok × ExprTree)
more_exprs_of NoMoreExprs = []
more_exprs_of (MoreExprs comma expr rest) = (comma, expr) ∷ more_exprs_of rest

more_exprs-same : (more : MoreExprsTree) → more_exprs_tree (more_exprs_of more) ≡ more
unfolding more_exprs_of
more_exprs-same NoMoreExprs = refl
more_exprs-same (MoreExprs comma expr rest) = ap (λ others. MoreExprs comma expr others) (more_exprs-same rest)

more_exprs-good : (room : ℕ) (more : MoreExprsTree) → MoreExprsFit more → more_exprs_depth more ≤ room → EachFits (λ (part : Tok × ExprTree). IsOp COMMA part.0 × Good ASSIGNMENT_LEVEL room part.1) (more_exprs_of more)
unfolding more_exprs_of
more_exprs-good room NoMoreExprs fit shallow = tt
more_exprs-good room (MoreExprs comma expr rest) fit shallow =
    ((fit.0, record { fits = fit.1; binds = omega arith; shallow = omega arith }), more_exprs-good room rest fit.2 (omega arith))

exprs_list : ExprsTree → Option (ManyTree ExprTree)
exprs_list NoExprs = None
exprs_list (Exprs first rest) = Some (record { first = first; rest = more_exprs_of rest })

exprs-same : (exprs : ExprsTree) → exprs_of (exprs_list exprs) ≡ exprs
unfolding exprs_list exprs_of
exprs-same NoExprs = refl
exprs-same (Exprs first rest) = ap (λ others. Exprs first others) (more_exprs-same rest)

exprs-good : (room : ℕ) (exprs : ExprsTree) → ExprsFit exprs → exprs_depth exprs ≤ room → IfSome (exprs_list exprs) (ManyFit (Good ASSIGNMENT_LEVEL room) COMMA)
unfolding exprs_list
exprs-good room NoExprs fit shallow = tt
exprs-good room (Exprs first rest) fit shallow = (record { fits = fit.0; binds = omega arith; shallow = omega arith }, more_exprs-good room rest fit.1 (omega arith))

more_inits_of : MoreInitsTree → List (Tok × InitTree)
more_inits_of NoMoreInits = []
more_inits_of (MoreInits comma init rest) = (comma, init) ∷ more_inits_of rest

more_inits-same : (more : MoreInitsTree) → more_inits_tree (more_inits_of more) ≡ more
unfolding more_inits_of
more_inits-same NoMoreInits = refl
more_inits-same (MoreInits comma init rest) = ap (λ others. MoreInits comma init others) (more_inits-same rest)

more_inits-good : (room : ℕ) (more : MoreInitsTree) → MoreInitsFit more → more_inits_depth more ≤ room → EachFits (λ (part : Tok × InitTree). IsOp COMMA part.0 × GoodInit room part.1) (more_inits_of more)
unfolding more_inits_of
more_inits-good room NoMoreInits fit shallow = tt
more_inits-good room (MoreInits comma init rest) fit shallow = ((fit.0, record { fits = fit.1; shallow = omega arith }), more_inits-good room rest fit.2 (omega arith))

inits_list : InitsTree → Option (ManyTree InitTree)
inits_list NoInits = None
inits_list (Inits first rest) = Some (record { first = first; rest = more_inits_of rest })

inits-same : (inits : InitsTree) → inits_of (inits_list inits) ≡ inits
unfolding inits_list inits_of
inits-same NoInits = refl
inits-same (Inits first rest) = ap (λ others. Inits first others) (more_inits-same rest)

inits-good : (room : ℕ) (inits : InitsTree) → InitsFit inits → inits_depth inits ≤ room → IfSome (inits_list inits) (ManyFit (GoodInit room) COMMA)
unfolding inits_list
inits-good room NoInits fit shallow = tt
inits-good room (Inits first rest) fit shallow = (record { fits = fit.0; shallow = omega arith }, more_inits-good room rest fit.1 (omega arith))

unfoldable pub sizes_list : SizesTree → List (Tok × ExprTree × Tok)
sizes_list NoSizes = []
sizes_list (Sizes left size right rest) = (left, size, right) ∷ sizes_list rest

pub sizes-same : (sizes : SizesTree) → sizes_tree (sizes_list sizes) ≡ sizes
unfolding sizes_list
sizes-same NoSizes = refl
sizes-same (Sizes left size right rest) = ap (λ others. Sizes left size right others) (sizes-same rest)

pub sizes_yield-list : (sizes : SizesTree) → sizes_yield sizes ≡ flat_map size_yield (sizes_list sizes)
sizes_yield-list sizes = sym (sizes_yield-tree (sizes_list sizes) ∙ ap sizes_yield (sizes-same sizes))

pub sizes-good : (room : ℕ) (sizes : SizesTree) → SizesFit sizes → sizes_depth sizes ≤ room → EachFits (GoodSize room) (sizes_list sizes)
unfolding sizes_list
sizes-good room NoSizes fit shallow = tt
sizes-good room (Sizes left size right rest) fit shallow = (record { are_brackets = fit.0; good = record { fits = fit.1; binds = omega arith; shallow = omega arith } }, sizes-good room rest fit.2 (omega arith))

-- ---- the parts

module _ (room : ℕ) (p : Parsers) (c : AreComplete room p) where
  pub paren-exact : (left : Tok) (operand : ExprTree) (right : Tok) (rest : List Tok) → AreParens left right → Good ASSIGNMENT_LEVEL room operand → paren p (left ∷ (expr_yield operand ++ right ∷ rest)) ≡ Some (Paren left operand right, rest)
  unfolding paren
  paren-exact left operand right rest parens good =
      bind-Some _ _ _ _ (token-at (is_op LEFT_PAREN) left _ (IsOp-is_op LEFT_PAREN left parens.0))
      (bind-Some _ _ _ _ (c.expr.exact operand (right ∷ rest) good (stops_paren right rest parens.1))
      (bind-Some _ _ _ _ (token-at (is_op RIGHT_PAREN) right rest (IsOp-is_op RIGHT_PAREN right parens.1)) refl))

  args-read : (left : Tok) (list : ExprsTree) (right : Tok) (rest : List Tok) → AreParens left right → ExprsFit list → exprs_depth list ≤ room → args p (left ∷ (exprs_yield list ++ right ∷ rest)) ≡ Some (Args left list right, rest)
  unfolding args begins_init
  args-read left list right rest parens fit shallow =
      let found : Option (ManyTree ExprTree) = exprs_list list in
      let same : exprs_of found ≡ list = exprs-same list in
      let tokens : exprs_yield list ++ right ∷ rest ≡ option_yield (many_yield expr_yield) found ++ right ∷ rest = ap (λ front. front ++ right ∷ rest) (sym (exprs_yield-of found ∙ ap exprs_yield same)) in
      let ends = ends_closed p.expr c.expr_refuses RIGHT_PAREN right rest refl refl parens.1 (stops_paren right rest parens.1) in
      bind-Some _ _ _ _ (token-at (is_op LEFT_PAREN) left _ (IsOp-is_op LEFT_PAREN left parens.0))
      (bind-Some _ _ _ _ (reads-same (optional (separated COMMA p.expr)) tokens (list-exact (Good ASSIGNMENT_LEVEL room) expr_yield p.expr c.expr.exact found (right ∷ rest) (exprs-good room list fit shallow) ends))
      (bind-Some _ _ _ _ (token-at (is_op RIGHT_PAREN) right rest (IsOp-is_op RIGHT_PAREN right parens.1)) (ap (λ others. Some (Args left others right, rest)) same)))

  pub args-exact : IsExact (GoodArgs room) Anything args_yield (args p)
  args-exact (Args left list right) rest good stops =
      reads-same (args p) (ap (λ others. left ∷ others) (append_assoc (exprs_yield list) (right ∷ []) rest)) (args-read left list right rest good.fits.0 good.fits.1 good.shallow)

  pub sized-exact : IsExact (GoodSize room) Anything size_yield (sized p)
  unfolding sized
  sized-exact size rest good stops =
      reads-same (sized p) (ap (λ others. size.0 ∷ others) (append_assoc (expr_yield size.1) (size.2 ∷ []) rest))
      (bind-Some _ _ _ _ (token-at (is_op LEFT_BRACKET) size.0 _ (IsOp-is_op LEFT_BRACKET size.0 good.are_brackets.0))
      (bind-Some _ _ _ _ (c.expr.exact size.1 (size.2 ∷ rest) good.good (stops_bracket size.2 rest good.are_brackets.1))
      (bind-Some _ _ _ _ (token-at (is_op RIGHT_BRACKET) size.2 rest (IsOp-is_op RIGHT_BRACKET size.2 good.are_brackets.1)) refl)))

  -- no size stands where no `[` does, and none where brackets are empty
  pub no_size : (rest : List Tok) → begins (is_op LEFT_BRACKET) rest ≡ false → sized p rest ≡ None
  unfolding sized
  no_size rest h = bind-None _ _ (token-other (is_op LEFT_BRACKET) rest h)

  pub no_size-brackets : (left right : Tok) (rest : List Tok) → AreBrackets left right → sized p (left ∷ right ∷ rest) ≡ None
  unfolding sized begins_init
  no_size-brackets left right rest pair =
      bind-Some _ _ _ _ (token-at (is_op LEFT_BRACKET) left _ (IsOp-is_op LEFT_BRACKET left pair.0)) (bind-None _ _ (c.expr_refuses RIGHT_BRACKET right rest refl pair.1))

  -- the items, and what stands behind them
  items-read : (items : InitsTree) (rest : List Tok) → InitsFit items → inits_depth items ≤ room → Ends p.init rest → (read : Option (ManyTree InitTree) × List Tok → Option (BracesTree × List Tok)) (z : Option (BracesTree × List Tok))
      → read (inits_list items, rest) ≡ z → (and_then (optional (separated COMMA p.init) (inits_yield items ++ rest)) read) ≡ z
  items-read items rest fit shallow ends read z h =
      let found : Option (ManyTree InitTree) = inits_list items in
      let tokens : inits_yield items ++ rest ≡ option_yield (many_yield init_yield) found ++ rest = ap (λ front. front ++ rest) (sym (inits_yield-of found ∙ ap inits_yield (inits-same items))) in
      bind-Some _ _ _ _ (reads-same (optional (separated COMMA p.init)) tokens (list-exact (GoodInit room) init_yield p.init c.init.exact found rest (inits-good room items fit shallow) ends)) h

  pub braces-exact : IsExact (GoodBraces room) Anything braces_yield (braces p)
  unfolding braces begins_init
  braces-exact (Braces left items None right) rest good stops =
      let pair = good.fits.0 in
      reads-same (braces p) (ap (λ others. left ∷ others) (append_assoc (inits_yield items) (right ∷ []) rest))
      (bind-Some _ _ _ _ (token-at (is_op LEFT_BRACE) left _ (IsOp-is_op LEFT_BRACE left pair.0))
      (items-read items (right ∷ rest) good.fits.2 good.shallow (ends_closed p.init c.init_refuses RIGHT_BRACE right rest refl refl pair.1 (stops_brace right rest pair.1)) _ _
      (bind-Some _ _ _ _ (optional-None _ _ (token-other (is_op COMMA) (right ∷ rest) (no_comma RIGHT_BRACE right rest refl pair.1)))
      (bind-Some _ _ _ _ (token-at (is_op RIGHT_BRACE) right rest (IsOp-is_op RIGHT_BRACE right pair.1)) (ap (λ others. Some (Braces left others None right, rest)) (inits-same items))))))
  braces-exact (Braces left items (Some comma) right) rest good stops =
      let pair = good.fits.0 in
      reads-same (braces p) (ap (λ others. left ∷ others) (append_assoc (inits_yield items) (comma ∷ right ∷ []) rest))
      (bind-Some _ _ _ _ (token-at (is_op LEFT_BRACE) left _ (IsOp-is_op LEFT_BRACE left pair.0))
      (items-read items (comma ∷ right ∷ rest) good.fits.2 good.shallow (ends_comma p.init c.init_refuses comma right rest good.fits.1 pair.1) _ _
      (bind-Some _ _ _ _ (optional-Some _ _ comma (right ∷ rest) (token-at (is_op COMMA) comma (right ∷ rest) (IsOp-is_op COMMA comma good.fits.1)))
      (bind-Some _ _ _ _ (token-at (is_op RIGHT_BRACE) right rest (IsOp-is_op RIGHT_BRACE right pair.1)) (ap (λ others. Some (Braces left others (Some comma) right, rest)) (inits-same items))))))
