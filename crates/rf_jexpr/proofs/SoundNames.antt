-- What the readers of names and types read fits.
use Rattle.std.proofs.Common.{◌≡◌, List, ◌∷◌, ◌++◌, Option, Some, None, Bool, IsTrue, IfSome, refl, ap, ◌∙◌, sym, subst, append_assoc}
use Rattle.rf_jtree.specs.declared.tokens.Tok.{Tok}
use Rattle.rf_jtree.specs.declared.operator_names.TheConstants.{DOT, LEFT_BRACKET, RIGHT_BRACKET}
use Rattle.rf_jtree.specs.declared.keyword_names.TheConstants.{PRIMITIVES}
use Rattle.rf_jtree.specs.Kinds.{IsIdent, is_key_of}
use Rattle.rf_jtree.specs.NameFits.{NameFits, BracketsFit, DimsFit, BaseFits, TypeFits, ManyFit}
use Rattle.rf_jtree.specs.NameTrees.{Prim, Named, tok_yield, pair_yield, option_yield, many_yield, name_yield, dims_yield, base_yield, type_yield}
use Rattle.rf_jexpr.specs.NameReads.{name, brackets, dims, primitive, named_type, type_base, type_use}
use Rattle.rf_jexpr.specs.Reads.{Reads, ◌>>=◌, is_op, is_ident, token, optional}
use Rattle.rf_jexpr.proofs.LoopLemmas.{Read, IsSound, many-sound, separated-sound}
use Rattle.rf_jexpr.proofs.Tools.{bound, of_bind, where_true, where_false, of_if, read, left_out, of_optional, token_takes, is_op-IsOp, is_ident-IsIdent, by_some}

pub token-sound : (Fits : Tok → Type 0) (test : Tok → Bool) → ((tok : Tok) → IsTrue (test tok) → Fits tok) → IsSound Fits tok_yield (token test)
token-sound Fits test means toks y h =
    let took = token_takes test toks y h in
    record { fits = means y.0 took.is; takes = took.takes }

-- what is made of a part that was read, of the same tokens
pub made-sound : {A B : Type 0} (Fits : A → Type 0) (yield : A → List Tok) (item : Reads A) (Whole : B → Type 0) (whole_yield : B → List Tok) (make : A → B)
    → IsSound Fits yield item → ((x : A) → Fits x → Whole (make x)) → ((x : A) → yield x ≡ whole_yield (make x)) → IsSound Whole whole_yield (λ toks. item toks >>= λ x. Some (make x.0, x.1))
made-sound Fits yield item Whole whole_yield make sound fits same toks y h = elim (of_bind (item toks) _ _ h) [
  | bound x found made ↦
      let part = sound toks x found in
      let all : Read Whole whole_yield toks (make x.0) x.1 = record { fits = fits x.0 part.fits; takes = part.takes ∙ ap (λ front. front ++ x.1) (same x.0) } in
      by_some (λ z. Read Whole whole_yield toks z.0 z.1) (make x.0, x.1) y made all
]

pub optional-sound : {A : Type 0} (Fits : A → Type 0) (yield : A → List Tok) (item : Reads A) → IsSound Fits yield item → IsSound (λ part. IfSome part Fits) (option_yield yield) (optional item)
optional-sound {A} Fits yield item sound toks y h = elim (of_optional item toks y h) [
  | read x here found ↦
      let part = sound toks (x, y.1) found in
      let all : Read (λ (z : Option A). IfSome z Fits) (option_yield yield) toks (Some x) y.1 = record { fits = part.fits; takes = part.takes } in
      subst (λ (z : Option A). Read (λ (part : Option A). IfSome part Fits) (option_yield yield) toks z y.1) (sym here) all
  | left_out here behind none ↦
      let all : Read (λ (z : Option A). IfSome z Fits) (option_yield yield) toks None toks = record { fits = tt; takes = refl } in
      let behind_all = subst (λ (rest : List Tok). Read (λ (z : Option A). IfSome z Fits) (option_yield yield) toks None rest) (sym behind) all in
      subst (λ (z : Option A). Read (λ (part : Option A). IfSome part Fits) (option_yield yield) toks z y.1) (sym here) behind_all
]

pub name-sound : IsSound NameFits name_yield name
unfolding name
name-sound = made-sound (ManyFit IsIdent DOT) (many_yield tok_yield) _ NameFits name_yield _
    (separated-sound IsIdent tok_yield DOT (token is_ident) (token-sound IsIdent is_ident is_ident-IsIdent)) (λ ids fits. fits) (λ ids. refl)

pub brackets-sound : IsSound BracketsFit pair_yield brackets
unfolding brackets
brackets-sound toks y h = elim (of_bind (token (is_op LEFT_BRACKET) toks) _ _ h) [
  | bound left left_found right_found ↦ elim (of_bind (token (is_op RIGHT_BRACKET) left.1) _ _ right_found) [
    | bound right found same ↦
        let first = token_takes (is_op LEFT_BRACKET) toks left left_found in
        let second = token_takes (is_op RIGHT_BRACKET) left.1 right found in
        let all : Read BracketsFit pair_yield toks (left.0, right.0) right.1 =
        record { fits = (is_op-IsOp LEFT_BRACKET left.0 first.is, is_op-IsOp RIGHT_BRACKET right.0 second.is); takes = first.takes ∙ ap (λ others. left.0 ∷ others) second.takes } in
        by_some (λ z. Read BracketsFit pair_yield toks z.0 z.1) ((left.0, right.0), right.1) y same all
  ]
]

pub dims-sound : IsSound DimsFit dims_yield dims
unfolding dims
dims-sound = made-sound _ _ _ DimsFit dims_yield _ (many-sound BracketsFit pair_yield brackets brackets-sound) (λ pairs fits. fits) (λ pairs. refl)

pub type_base-sound : IsSound BaseFits base_yield type_base
unfolding type_base primitive named_type
type_base-sound toks y h = elim (of_if _ _ _ _ h) [
  | where_true is found ↦ made-sound _ tok_yield _ BaseFits base_yield Prim (token-sound (λ tok. IsTrue (is_key_of PRIMITIVES tok)) (is_key_of PRIMITIVES) (λ tok is. is)) (λ tok fits. fits) (λ tok. refl) toks y found
  | where_false not found ↦ made-sound NameFits name_yield name BaseFits base_yield Named name-sound (λ found fits. fits) (λ found. refl) toks y found
]

pub type_use-sound : IsSound TypeFits type_yield type_use
unfolding type_use
type_use-sound toks y h = elim (of_bind (type_base toks) _ _ h) [
  | bound base base_found dims_found ↦ elim (of_bind (dims base.1) _ _ dims_found) [
    | bound bracket_pairs found same ↦
        let first = type_base-sound toks base base_found in
        let second = dims-sound base.1 bracket_pairs found in
        let all : Read TypeFits type_yield toks (record { base = base.0; dims = bracket_pairs.0 }) bracket_pairs.1 =
        record { fits = (first.fits, second.fits); takes = first.takes ∙ ap (λ others. base_yield base.0 ++ others) second.takes ∙ sym (append_assoc (base_yield base.0) (dims_yield bracket_pairs.0) bracket_pairs.1) } in
        by_some (λ z. Read TypeFits type_yield toks z.0 z.1) (record { base = base.0; dims = bracket_pairs.0 }, bracket_pairs.1) y same all
  ]
]
