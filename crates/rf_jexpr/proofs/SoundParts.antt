-- What the readers of parts in brackets read fits, and is no deeper than the room that is left for parts.
use Rattle.std.proofs.Common.{◌≡◌, ℕ, suc, ◌≤◌, max, List, [], ◌∷◌, ◌++◌, Option, Some, None, IfSome, refl, ap, ◌∙◌, sym, append_assoc, arith}
use Rattle.std.specs.List.{flat_map}
use Rattle.rf_jtree.specs.declared.tokens.Tok.{Tok}
use Rattle.rf_jtree.specs.declared.levels.TheConstants.{ASSIGNMENT_LEVEL, CONDITIONAL_LEVEL, OR_OR_LEVEL, UNARY_LEVEL, PRIMARY_LEVEL}
use Rattle.rf_jtree.specs.declared.operator_names.TheConstants.{LEFT_PAREN, RIGHT_PAREN, LEFT_BRACE, RIGHT_BRACE, LEFT_BRACKET, RIGHT_BRACKET, COMMA}
use Rattle.rf_jtree.specs.ExprFits.{ExprFits, ArgsFit, ExprsFit, MoreExprsFit, SizesFit, InitFits, BracesFit, InitsFit, MoreInitsFit}
use Rattle.rf_jtree.specs.ExprShown.{more_exprs_tree, more_inits_tree, sizes_tree}
use Rattle.rf_jtree.specs.ExprTrees.{ExprTree, Paren, ArgsTree, Args, ExprsTree, InitTree, BracesTree, Braces, InitsTree, expr_yield, args_yield, exprs_yield, more_exprs_yield, sizes_yield, init_yield, braces_yield, inits_yield, more_inits_yield, expr_depth, args_depth, exprs_depth, more_exprs_depth, sizes_depth, init_depth, braces_depth, inits_depth, more_inits_depth}
use Rattle.rf_jtree.specs.Kinds.{IsOp, AreBrackets}
use Rattle.rf_jtree.specs.Levels.{BindsAt}
use Rattle.rf_jtree.specs.NameFits.{EachFits, ManyFit}
use Rattle.rf_jtree.specs.NameTrees.{ManyTree, many_yield, option_yield, tok_yield}
use Rattle.rf_jmake.specs.ExprMade.{exprs_of, inits_of}
use Rattle.rf_jexpr.specs.PartReads.{Parsers, paren, args, sized, braces}
use Rattle.rf_jexpr.specs.Reads.{is_op, token, optional, separated}
use Rattle.rf_jexpr.proofs.LoopLemmas.{Read, IsSound, separated-sound}
use Rattle.rf_jexpr.proofs.SoundNames.{token-sound, optional-sound}
use Rattle.rf_jexpr.proofs.Tools.{bound, of_bind, token_takes, is_op-IsOp, by_some}

-- an expression that fits, binds at this level, and is no deeper than the room
pub record Good (level room : ℕ) (expr : ExprTree) : Type 0 where
  pub fits : ExprFits expr
  pub binds : BindsAt level expr
  pub shallow : expr_depth expr ≤ room

pub record GoodInit (room : ℕ) (init : InitTree) : Type 0 where
  pub fits : InitFits init
  pub shallow : init_depth init ≤ room

-- what the readers of a room read is so
pub record AreSound (room : ℕ) (p : Parsers) : Type 0 where
  pub expr : IsSound (Good ASSIGNMENT_LEVEL room) expr_yield p.expr
  pub conditional : IsSound (Good CONDITIONAL_LEVEL room) expr_yield p.conditional
  pub binary : (least : ℕ) → OR_OR_LEVEL ≤ least → least ≤ UNARY_LEVEL → IsSound (Good least room) expr_yield (p.binary least)
  pub unary : IsSound (Good UNARY_LEVEL room) expr_yield p.unary
  pub init : IsSound (GoodInit room) init_yield p.init

pub record GoodExprs (room : ℕ) (exprs : ExprsTree) : Type 0 where
  pub fits : ExprsFit exprs
  pub shallow : exprs_depth exprs ≤ room

pub record GoodArgs (room : ℕ) (args : ArgsTree) : Type 0 where
  pub fits : ArgsFit args
  pub shallow : args_depth args ≤ room

pub record GoodInits (room : ℕ) (inits : InitsTree) : Type 0 where
  pub fits : InitsFit inits
  pub shallow : inits_depth inits ≤ room

pub record GoodBraces (room : ℕ) (braces : BracesTree) : Type 0 where
  pub fits : BracesFit braces
  pub shallow : braces_depth braces ≤ room

max_le : (a b n : ℕ) → a ≤ n → b ≤ n → max a b ≤ n
max_le a b n h k = omega arith

-- what stands between two tokens, with them
closed_takes : (toks : List Tok) (left : Tok) (behind_left inner behind : List Tok) (right : Tok) (rest : List Tok) → toks ≡ left ∷ behind_left → behind_left ≡ inner ++ behind → behind ≡ right ∷ rest → toks ≡ (left ∷ (inner ++ right ∷ [])) ++ rest
closed_takes toks left behind_left inner behind right rest first second third =
    first ∙ ap (λ others. left ∷ others) (second ∙ ap (λ others. inner ++ others) third ∙ sym (append_assoc inner (right ∷ []) rest))

-- ---- lists of parts

abbrev IsPart : {A : Type 0} → (A → Type 0) → Tok × A → Type 0
IsPart Fits part = IsOp COMMA part.0 × Fits part.1

more_exprs-fit : (room : ℕ) (rest : List (Tok × ExprTree)) → EachFits (IsPart (Good ASSIGNMENT_LEVEL room)) rest → MoreExprsFit (more_exprs_tree rest)
more_exprs-fit room [] each = tt
more_exprs-fit room (part ∷ rest) each = (each.0.0, each.0.1.fits, more_exprs-fit room rest each.1)

more_exprs-shallow : (room : ℕ) (rest : List (Tok × ExprTree)) → EachFits (IsPart (Good ASSIGNMENT_LEVEL room)) rest → more_exprs_depth (more_exprs_tree rest) ≤ room
more_exprs-shallow room [] each = omega arith
more_exprs-shallow room (part ∷ rest) each = max_le _ _ room each.0.1.shallow (more_exprs-shallow room rest each.1)

pub more_exprs_yield-tree : (rest : List (Tok × ExprTree)) → flat_map (λ (part : Tok × ExprTree). part.0 ∷ expr_yield part.1) rest ≡ more_exprs_yield (more_exprs_tree rest)
more_exprs_yield-tree [] = refl
more_exprs_yield-tree (part ∷ rest) = ap (λ others. part.0 ∷ (expr_yield part.1 ++ others)) (more_exprs_yield-tree rest)

pub exprs-good : (room : ℕ) (found : Option (ManyTree ExprTree)) → IfSome found (ManyFit (Good ASSIGNMENT_LEVEL room) COMMA) → GoodExprs room (exprs_of found)
unfolding exprs_of
exprs-good room None fit = record { fits = tt; shallow = omega arith }
exprs-good room (Some many) fit = record {
  fits = (fit.0.fits, more_exprs-fit room many.rest fit.1);
  shallow = max_le _ _ room fit.0.shallow (more_exprs-shallow room many.rest fit.1);
}

pub exprs_yield-of : (found : Option (ManyTree ExprTree)) → option_yield (many_yield expr_yield) found ≡ exprs_yield (exprs_of found)
unfolding exprs_of
exprs_yield-of None = refl
exprs_yield-of (Some many) = ap (λ others. expr_yield many.first ++ others) (more_exprs_yield-tree many.rest)

more_inits-fit : (room : ℕ) (rest : List (Tok × InitTree)) → EachFits (IsPart (GoodInit room)) rest → MoreInitsFit (more_inits_tree rest)
more_inits-fit room [] each = tt
more_inits-fit room (part ∷ rest) each = (each.0.0, each.0.1.fits, more_inits-fit room rest each.1)

more_inits-shallow : (room : ℕ) (rest : List (Tok × InitTree)) → EachFits (IsPart (GoodInit room)) rest → more_inits_depth (more_inits_tree rest) ≤ room
more_inits-shallow room [] each = omega arith
more_inits-shallow room (part ∷ rest) each = max_le _ _ room each.0.1.shallow (more_inits-shallow room rest each.1)

pub more_inits_yield-tree : (rest : List (Tok × InitTree)) → flat_map (λ (part : Tok × InitTree). part.0 ∷ init_yield part.1) rest ≡ more_inits_yield (more_inits_tree rest)
more_inits_yield-tree [] = refl
more_inits_yield-tree (part ∷ rest) = ap (λ others. part.0 ∷ (init_yield part.1 ++ others)) (more_inits_yield-tree rest)

inits-good : (room : ℕ) (found : Option (ManyTree InitTree)) → IfSome found (ManyFit (GoodInit room) COMMA) → GoodInits room (inits_of found)
unfolding inits_of
inits-good room None fit = record { fits = tt; shallow = omega arith }
inits-good room (Some many) fit = record {
  fits = (fit.0.fits, more_inits-fit room many.rest fit.1);
  shallow = max_le _ _ room fit.0.shallow (more_inits-shallow room many.rest fit.1);
}

pub inits_yield-of : (found : Option (ManyTree InitTree)) → option_yield (many_yield init_yield) found ≡ inits_yield (inits_of found)
unfolding inits_of
inits_yield-of None = refl
inits_yield-of (Some many) = ap (λ others. init_yield many.first ++ others) (more_inits_yield-tree many.rest)

-- a size or an index
pub record GoodSize (room : ℕ) (part : Tok × ExprTree × Tok) : Type 0 where
  pub are_brackets : AreBrackets part.0 part.2
  pub good : Good ASSIGNMENT_LEVEL room part.1

abbrev pub size_yield : Tok × ExprTree × Tok → List Tok
size_yield part = part.0 ∷ (expr_yield part.1 ++ part.2 ∷ [])

pub sizes-fit : (room : ℕ) (sizes : List (Tok × ExprTree × Tok)) → EachFits (GoodSize room) sizes → SizesFit (sizes_tree sizes)
sizes-fit room [] each = tt
sizes-fit room (part ∷ rest) each = (each.0.are_brackets, each.0.good.fits, sizes-fit room rest each.1)

pub sizes-shallow : (room : ℕ) (sizes : List (Tok × ExprTree × Tok)) → EachFits (GoodSize room) sizes → sizes_depth (sizes_tree sizes) ≤ room
sizes-shallow room [] each = omega arith
sizes-shallow room (part ∷ rest) each = max_le _ _ room each.0.good.shallow (sizes-shallow room rest each.1)

pub sizes_yield-tree : (sizes : List (Tok × ExprTree × Tok)) → flat_map size_yield sizes ≡ sizes_yield (sizes_tree sizes)
sizes_yield-tree [] = refl
sizes_yield-tree (part ∷ rest) =
    ap (λ others. part.0 ∷ others) (append_assoc (expr_yield part.1) (part.2 ∷ []) (flat_map size_yield rest) ∙ ap (λ others. expr_yield part.1 ++ part.2 ∷ others) (sizes_yield-tree rest))

-- ---- the parts

module _ (room : ℕ) (p : Parsers) (s : AreSound room p) where
  pub paren-sound : IsSound (Good PRIMARY_LEVEL (suc room)) expr_yield (paren p)
  unfolding paren
  paren-sound toks y h = elim (of_bind (token (is_op LEFT_PAREN) toks) _ _ h) [
    | bound left left_found found ↦ elim (of_bind (p.expr left.1) _ _ found) [
      | bound operand operand_found right_found ↦ elim (of_bind (token (is_op RIGHT_PAREN) operand.1) _ _ right_found) [
        | bound right found same ↦
            let first = token_takes (is_op LEFT_PAREN) toks left left_found in
            let second = s.expr left.1 operand operand_found in
            let third = token_takes (is_op RIGHT_PAREN) operand.1 right found in
            let shallow : expr_depth operand.0 ≤ room = second.fits.shallow in
            let all : Read (Good PRIMARY_LEVEL (suc room)) expr_yield toks (Paren left.0 operand.0 right.0) right.1 =
            record {
              fits = record { fits = ((is_op-IsOp LEFT_PAREN left.0 first.is, is_op-IsOp RIGHT_PAREN right.0 third.is), second.fits.fits); binds = omega arith; shallow = omega arith };
              takes = closed_takes toks left.0 left.1 (expr_yield operand.0) operand.1 right.0 right.1 first.takes second.takes third.takes;
            } in
            by_some (λ z. Read (Good PRIMARY_LEVEL (suc room)) expr_yield toks z.0 z.1) (Paren left.0 operand.0 right.0, right.1) y same all
      ]
    ]
  ]

  pub args-sound : IsSound (GoodArgs room) args_yield (args p)
  unfolding args
  args-sound toks y h = elim (of_bind (token (is_op LEFT_PAREN) toks) _ _ h) [
    | bound left left_found found ↦ elim (of_bind (optional (separated COMMA p.expr) left.1) _ _ found) [
      | bound list list_found right_found ↦ elim (of_bind (token (is_op RIGHT_PAREN) list.1) _ _ right_found) [
        | bound right found same ↦
            let first = token_takes (is_op LEFT_PAREN) toks left left_found in
            let second = optional-sound _ _ (separated COMMA p.expr) (separated-sound (Good ASSIGNMENT_LEVEL room) expr_yield COMMA p.expr s.expr) left.1 list list_found in
            let third = token_takes (is_op RIGHT_PAREN) list.1 right found in
            let good = exprs-good room list.0 second.fits in
            let all : Read (GoodArgs room) args_yield toks (Args left.0 (exprs_of list.0) right.0) right.1 =
            record {
              fits = record { fits = ((is_op-IsOp LEFT_PAREN left.0 first.is, is_op-IsOp RIGHT_PAREN right.0 third.is), good.fits); shallow = good.shallow };
              takes = closed_takes toks left.0 left.1 (exprs_yield (exprs_of list.0)) list.1 right.0 right.1 first.takes (second.takes ∙ ap (λ front. front ++ list.1) (exprs_yield-of list.0)) third.takes;
            } in
            by_some (λ z. Read (GoodArgs room) args_yield toks z.0 z.1) (Args left.0 (exprs_of list.0) right.0, right.1) y same all
      ]
    ]
  ]

  pub sized-sound : IsSound (GoodSize room) size_yield (sized p)
  unfolding sized
  sized-sound toks y h = elim (of_bind (token (is_op LEFT_BRACKET) toks) _ _ h) [
    | bound left left_found found ↦ elim (of_bind (p.expr left.1) _ _ found) [
      | bound operand operand_found right_found ↦ elim (of_bind (token (is_op RIGHT_BRACKET) operand.1) _ _ right_found) [
        | bound right found same ↦
            let first = token_takes (is_op LEFT_BRACKET) toks left left_found in
            let second = s.expr left.1 operand operand_found in
            let third = token_takes (is_op RIGHT_BRACKET) operand.1 right found in
            let all : Read (GoodSize room) size_yield toks (left.0, operand.0, right.0) right.1 =
            record {
              fits = record { are_brackets = (is_op-IsOp LEFT_BRACKET left.0 first.is, is_op-IsOp RIGHT_BRACKET right.0 third.is); good = second.fits };
              takes = closed_takes toks left.0 left.1 (expr_yield operand.0) operand.1 right.0 right.1 first.takes second.takes third.takes;
            } in
            by_some (λ z. Read (GoodSize room) size_yield toks z.0 z.1) ((left.0, operand.0, right.0), right.1) y same all
      ]
    ]
  ]

  pub braces-sound : IsSound (GoodBraces room) braces_yield (braces p)
  unfolding braces
  braces-sound toks y h = elim (of_bind (token (is_op LEFT_BRACE) toks) _ _ h) [
    | bound left left_found found ↦ elim (of_bind (optional (separated COMMA p.init) left.1) _ _ found) [
      | bound items items_found comma_found ↦ elim (of_bind (optional (token (is_op COMMA)) items.1) _ _ comma_found) [
        | bound comma comma_is right_found ↦ elim (of_bind (token (is_op RIGHT_BRACE) comma.1) _ _ right_found) [
          | bound right found same ↦
              let first = token_takes (is_op LEFT_BRACE) toks left left_found in
              let second = optional-sound _ _ (separated COMMA p.init) (separated-sound (GoodInit room) init_yield COMMA p.init s.init) left.1 items items_found in
              let third = optional-sound (IsOp COMMA) tok_yield (token (is_op COMMA)) (token-sound (IsOp COMMA) (is_op COMMA) (is_op-IsOp COMMA)) items.1 comma comma_is in
              let fourth = token_takes (is_op RIGHT_BRACE) comma.1 right found in
              let good = inits-good room items.0 second.fits in
              let inner : left.1 ≡ (inits_yield (inits_of items.0) ++ option_yield tok_yield comma.0) ++ comma.1 =
              second.takes ∙ ap (λ front. front ++ items.1) (inits_yield-of items.0) ∙ ap (λ others. inits_yield (inits_of items.0) ++ others) third.takes ∙ sym (append_assoc (inits_yield (inits_of items.0)) (option_yield tok_yield comma.0) comma.1) in
              let all : Read (GoodBraces room) braces_yield toks (Braces left.0 (inits_of items.0) comma.0 right.0) right.1 =
              record {
                fits = record { fits = ((is_op-IsOp LEFT_BRACE left.0 first.is, is_op-IsOp RIGHT_BRACE right.0 fourth.is), third.fits, good.fits); shallow = good.shallow };
                takes = closed_takes toks left.0 left.1 (inits_yield (inits_of items.0) ++ option_yield tok_yield comma.0) comma.1 right.0 right.1 first.takes inner fourth.takes
                    ∙ ap (λ others. left.0 ∷ (others ++ right.1)) (append_assoc (inits_yield (inits_of items.0)) (option_yield tok_yield comma.0) (right.0 ∷ []));
              } in
              by_some (λ z. Read (GoodBraces room) braces_yield toks z.0 z.1) (Braces left.0 (inits_of items.0) comma.0 right.0, right.1) y same all
        ]
      ]
    ]
  ]
