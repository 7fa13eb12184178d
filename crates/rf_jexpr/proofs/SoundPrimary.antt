-- What the readers of primary expressions read fits, binds as one, and is no deeper than the room.
use Rattle.std.proofs.Common.{◌≡◌, ℕ, suc, ◌≤◌, List, [], ◌∷◌, ◌++◌, Option, Some, None, IsTrue, IfSome, refl, ap, ◌∙◌, sym, append_assoc, append-nil, arith, leb-true, nat_le}
use Rattle.std.specs.List.{flat_map}
use Rattle.rf_jtree.specs.declared.names.Dims.{Dims}
use Rattle.rf_jtree.specs.declared.tokens.Tok.{Tok}
use Rattle.rf_jtree.specs.declared.levels.TheConstants.{PRIMARY_LEVEL}
use Rattle.rf_jtree.specs.declared.operator_names.TheConstants.{LEFT_PAREN, DOT}
use Rattle.rf_jtree.specs.declared.keyword_names.TheConstants.{NEW, SUPER, THIS}
use Rattle.rf_jtree.specs.ExprFits.{OnFits, SuperArgsFit, IsNoName, IsNoNewArray, HasBrackets}
use Rattle.rf_jtree.specs.ExprShown.{sizes_tree, super_args_tree}
use Rattle.rf_jtree.specs.ExprTrees.{ExprTree, Name, Call, Field, Super, New, Index, NewArray, NewInit, On, ArgsTree, expr_yield, on_yield, args_yield, super_args_yield, sizes_yield, expr_depth, on_depth, super_args_depth, braces_yield, args_depth, braces_depth, sizes_depth}
use Rattle.rf_jtree.specs.Kinds.{IsOp, IsIdent, IsKey, is_literal}
use Rattle.rf_jtree.specs.NameFits.{NameFits, EachFits, BaseFits}
use Rattle.rf_jtree.specs.NameTrees.{NameTree, TypeBaseTree, Prim, Named, tok_yield, option_yield, name_yield, base_yield, dims_yield}
use Rattle.rf_jexpr.specs.NameReads.{name, dims, type_base}
use Rattle.rf_jexpr.specs.PartReads.{Parsers, args, sized, braces}
use Rattle.rf_jmake.specs.Called.{front, last, called_on, called_id}
use Rattle.rf_jexpr.specs.PrimaryReads.{literal, this_word, super_member, new_class, has_brackets, new_filled, new_array, creation, named_call, named, first_part, member_call, is_no_name, field, member, is_no_new_array, item, suffix, primary}
use Rattle.rf_jexpr.specs.Reads.{when, is_op, is_key, is_ident, begins, token, optional, many}
use Rattle.rf_jexpr.proofs.LoopLemmas.{Read, IsSound, many-sound, chain-keeps}
use Rattle.rf_jexpr.proofs.SoundNames.{token-sound, made-sound, optional-sound, name-sound, dims-sound, type_base-sound}
use Rattle.rf_jexpr.proofs.SoundParts.{Good, AreSound, GoodArgs, GoodSize, size_yield, sizes-fit, sizes-shallow, sizes_yield-tree, paren-sound, args-sound, sized-sound, braces-sound}
use Rattle.rf_jexpr.proofs.Tools.{bound, of_bind, by_first, by_other, of_else, passed, of_when, where_true, where_false, of_if, either_way, token_takes, is_op-IsOp, is_key-IsKey, is_ident-IsIdent, by_some}

literal-sound : (m : ℕ) → IsSound (Good PRIMARY_LEVEL (suc m)) expr_yield literal
unfolding literal
literal-sound m = made-sound (λ tok. IsTrue (is_literal tok)) tok_yield _ (Good PRIMARY_LEVEL (suc m)) expr_yield _
    (token-sound (λ tok. IsTrue (is_literal tok)) is_literal (λ tok is. is)) (λ tok is. record { fits = is; binds = omega arith; shallow = omega arith }) (λ tok. refl)

this_word-sound : (m : ℕ) → IsSound (Good PRIMARY_LEVEL (suc m)) expr_yield this_word
unfolding this_word
this_word-sound m = made-sound (IsKey THIS) tok_yield _ (Good PRIMARY_LEVEL (suc m)) expr_yield _
    (token-sound (IsKey THIS) (is_key THIS) (is_key-IsKey THIS)) (λ tok is. record { fits = is; binds = omega arith; shallow = omega arith }) (λ tok. refl)

super_args-fit : (m : ℕ) (found : Option ArgsTree) → IfSome found (GoodArgs m) → SuperArgsFit (super_args_tree found) × (super_args_depth (super_args_tree found) ≤ m)
super_args-fit m None fit = (tt, omega arith)
super_args-fit m (Some list) fit = (fit.fits, fit.shallow)

super_args_yield-tree : (found : Option ArgsTree) → option_yield args_yield found ≡ super_args_yield (super_args_tree found)
super_args_yield-tree None = refl
super_args_yield-tree (Some list) = refl

three_parts : (first toks second second_rest third rest : List Tok) → toks ≡ second ++ second_rest → second_rest ≡ third ++ rest → first ++ toks ≡ (first ++ (second ++ third)) ++ rest
three_parts first toks second second_rest third rest h k =
    ap (λ others. first ++ others) (h ∙ ap (λ others. second ++ others) k ∙ sym (append_assoc second third rest)) ∙ sym (append_assoc first (second ++ third) rest)

-- a method's name and its arguments, behind what the method is called on
call_takes : (on : List Tok) (id : Tok) (toks list rest : List Tok) → toks ≡ list ++ rest → (on ++ id ∷ []) ++ toks ≡ (on ++ id ∷ list) ++ rest
call_takes on id toks list rest h = append_assoc on (id ∷ []) toks ∙ ap (λ others. on ++ id ∷ others) h ∙ sym (append_assoc on (id ∷ list) rest)

is_no_name-IsNoName : (expr : ExprTree) → IsTrue (is_no_name expr) → IsNoName expr
unfolding is_no_name
is_no_name-IsNoName (Name found) h = absurd (cc)
is_no_name-IsNoName expr h = tt

is_no_new_array-IsNoNewArray : (expr : ExprTree) → IsTrue (is_no_new_array expr) → IsNoNewArray expr
unfolding is_no_new_array
is_no_new_array-IsNoNewArray (NewArray word base sizes bracket_pairs) h = absurd (cc)
is_no_new_array-IsNoNewArray expr h = tt

-- ---- creations

has_brackets-HasBrackets : (bracket_pairs : Dims) → IsTrue (has_brackets bracket_pairs) → HasBrackets bracket_pairs
unfolding has_brackets
has_brackets-HasBrackets bracket_pairs is none = absurd (cc (rw none at is))

-- ---- the identifiers of a name that is called

record IsCallName (first : Tok) (rest : List (Tok × Tok)) : Type 0 where
  on_fits : OnFits (called_on first rest)
  id_fits : IsIdent (called_id first rest)
  yields : name_yield (record { ids = record { first = first; rest = rest } }) ≡ on_yield (called_on first rest) ++ called_id first rest ∷ []

front-last : {A : Type 0} (yield : A → List Tok) (part : A) (rest : List A) → flat_map yield (part ∷ rest) ≡ flat_map yield (front part rest) ++ yield (last part rest)
unfolding front last
front-last yield part [] = append-nil (yield part)
front-last yield part (next ∷ rest) = ap (λ others. yield part ++ others) (front-last yield next rest) ∙ sym (append_assoc (yield part) (flat_map yield (front next rest)) (yield (last next rest)))

front-last-fit : {A : Type 0} (Fits : A → Type 0) (part : A) (rest : List A) → EachFits Fits (part ∷ rest) → EachFits Fits (front part rest) × Fits (last part rest)
unfolding front last
front-last-fit Fits part [] each = (tt, each.0)
front-last-fit Fits part (next ∷ rest) each = let further = front-last-fit Fits next rest each.1 in ((each.0, further.0), further.1)

call_name : (first : Tok) (rest : List (Tok × Tok)) → NameFits (record { ids = record { first = first; rest = rest } }) → IsCallName first rest
unfolding called_on called_id
call_name first [] fits = record { on_fits = tt; id_fits = fits.0; yields = refl }
call_name first (part ∷ rest) fits =
    let parts = front-last-fit (λ (part : Tok × Tok). IsOp DOT part.0 × IsIdent part.1) part rest fits.1 in
    record {
      on_fits = (record { primary = omega arith; dot_is = parts.1.0 }, (fits.0, parts.0));
      id_fits = parts.1.1;
      yields = ap (λ others. first ∷ others) (front-last (λ (part : Tok × Tok). part.0 ∷ tok_yield part.1) part rest
          ∙ sym (append_assoc (flat_map (λ (part : Tok × Tok). part.0 ∷ tok_yield part.1) (front part rest)) ((last part rest).0 ∷ []) ((last part rest).1 ∷ [])));
    }

-- ---- the forms

module _ (m : ℕ) (p : Parsers) (s : AreSound m p) where
  abbrev IsPrimaryRead : List Tok → ExprTree → List Tok → Type 0
  IsPrimaryRead toks expr rest = Read (Good PRIMARY_LEVEL (suc m)) expr_yield toks expr rest

  super_member-sound : IsSound (Good PRIMARY_LEVEL (suc m)) expr_yield (super_member p)
  unfolding super_member
  super_member-sound toks y h = elim (of_bind (token (is_key SUPER) toks) _ _ h) [
    | bound word word_found found ↦ elim (of_bind (token (is_op DOT) word.1) _ _ found) [
      | bound dot dot_found id_found ↦ elim (of_bind (token is_ident dot.1) _ _ id_found) [
        | bound id id_is list_found ↦ elim (of_bind (optional (args p) id.1) _ _ list_found) [
          | bound list found same ↦
              let first = token_takes (is_key SUPER) toks word word_found in
              let second = token_takes (is_op DOT) word.1 dot dot_found in
              let third = token_takes is_ident dot.1 id id_is in
              let fourth = optional-sound (GoodArgs m) args_yield (args p) (args-sound m p s) id.1 list found in
              let good = super_args-fit m list.0 fourth.fits in
              let shallow : super_args_depth (super_args_tree list.0) ≤ m = good.1 in
              let all : IsPrimaryRead toks (Super word.0 dot.0 id.0 (super_args_tree list.0)) list.1 =
              record {
                fits = record {
                  fits = (record { word_is = is_key-IsKey SUPER word.0 first.is; dot_is = is_op-IsOp DOT dot.0 second.is; id_is = is_ident-IsIdent id.0 third.is }, good.0);
                  binds = omega arith;
                  shallow = omega arith;
                };
                takes = first.takes ∙ ap (λ others. word.0 ∷ others) (second.takes ∙ ap (λ others. dot.0 ∷ others) (third.takes ∙ ap (λ others. id.0 ∷ others) (fourth.takes ∙ ap (λ front. front ++ list.1) (super_args_yield-tree list.0))));
              } in
              by_some (λ z. IsPrimaryRead toks z.0 z.1) (Super word.0 dot.0 id.0 (super_args_tree list.0), list.1) y same all
        ]
      ]
    ]
  ]

  -- What stands behind `new`: of the reader, what it makes, and the tokens behind the base.
  new_class-sound : (word : Tok) (base : TypeBaseTree) (toks whole : List Tok) (y : ExprTree × List Tok) → IsKey NEW word → BaseFits base → whole ≡ word ∷ (base_yield base ++ toks) → new_class p word base toks ≡ Some y → IsPrimaryRead whole y.0 y.1
  unfolding new_class
  new_class-sound word (Prim tok) toks whole y is fits takes h = cc
  new_class-sound word (Named class) toks whole y is fits takes h = elim (of_bind (args p toks) _ _ h) [
    | bound list found same ↦
        let part = args-sound m p s toks list found in
        let shallow : args_depth list.0 ≤ m = part.fits.shallow in
        let all : IsPrimaryRead whole (New word class list.0) list.1 =
        record {
          fits = record { fits = (is, fits, part.fits.fits); binds = omega arith; shallow = omega arith };
          takes = takes ∙ ap (λ others. word ∷ others) (ap (λ others. name_yield class ++ others) part.takes ∙ sym (append_assoc (name_yield class) (args_yield list.0) list.1));
        } in
        by_some (λ z. IsPrimaryRead whole z.0 z.1) (New word class list.0, list.1) y same all
  ]

  new_filled-sound : (word : Tok) (base : TypeBaseTree) (toks whole : List Tok) (y : ExprTree × List Tok) → IsKey NEW word → BaseFits base → whole ≡ word ∷ (base_yield base ++ toks) → new_filled p word base toks ≡ Some y → IsPrimaryRead whole y.0 y.1
  unfolding new_filled
  new_filled-sound word base toks whole y is fits takes h = elim (of_bind (dims toks) _ _ h) [
    | bound bracket_pairs ends_found found ↦ elim (of_bind (when (has_brackets bracket_pairs.0) (braces p bracket_pairs.1)) _ _ found) [
      | bound items items_found same ↦ elim (of_when (has_brackets bracket_pairs.0) (braces p bracket_pairs.1) items items_found) [
        | passed some braces_found ↦
            let first = dims-sound toks bracket_pairs ends_found in
            let second = braces-sound m p s bracket_pairs.1 items braces_found in
            let shallow : braces_depth items.0 ≤ m = second.fits.shallow in
            let all : IsPrimaryRead whole (NewInit word base bracket_pairs.0 items.0) items.1 =
            record {
              fits = record { fits = (is, fits, has_brackets-HasBrackets bracket_pairs.0 some, first.fits, second.fits.fits); binds = omega arith; shallow = omega arith };
              takes = takes ∙ ap (λ others. word ∷ others) (three_parts (base_yield base) toks (dims_yield bracket_pairs.0) bracket_pairs.1 (braces_yield items.0) items.1 first.takes second.takes);
            } in
            by_some (λ z. IsPrimaryRead whole z.0 z.1) (NewInit word base bracket_pairs.0 items.0, items.1) y same all
      ]
    ]
  ]

  new_array-sound : (word : Tok) (base : TypeBaseTree) (sizes : List (Tok × ExprTree × Tok)) (toks whole : List Tok) (y : ExprTree × List Tok) → IsKey NEW word → BaseFits base → EachFits (GoodSize m) sizes
      → whole ≡ word ∷ (base_yield base ++ (flat_map size_yield sizes ++ toks)) → new_array p word base sizes toks ≡ Some y → IsPrimaryRead whole y.0 y.1
  unfolding new_array
  new_array-sound word base [] toks whole y is fits each takes h = new_filled-sound word base toks whole y is fits takes h
  new_array-sound word base (size ∷ sizes) toks whole y is fits each takes h = elim (of_bind (dims toks) _ _ h) [
    | bound bracket_pairs found same ↦
        let first = dims-sound toks bracket_pairs found in
        let shallow : sizes_depth (sizes_tree (size ∷ sizes)) ≤ m = sizes-shallow m (size ∷ sizes) each in
        let all : IsPrimaryRead whole (NewArray word base (sizes_tree (size ∷ sizes)) bracket_pairs.0) bracket_pairs.1 =
        record {
          fits = record { fits = (is, fits, tt, sizes-fit m (size ∷ sizes) each, first.fits); binds = omega arith; shallow = omega arith };
          takes = takes ∙ ap (λ others. word ∷ others) (three_parts (base_yield base) (flat_map size_yield (size ∷ sizes) ++ toks) (sizes_yield (sizes_tree (size ∷ sizes))) toks (dims_yield bracket_pairs.0) bracket_pairs.1
              (ap (λ front. front ++ toks) (sizes_yield-tree (size ∷ sizes))) first.takes);
        } in
        by_some (λ z. IsPrimaryRead whole z.0 z.1) (NewArray word base (sizes_tree (size ∷ sizes)) bracket_pairs.0, bracket_pairs.1) y same all
  ]

  pub creation-sound : IsSound (Good PRIMARY_LEVEL (suc m)) expr_yield (creation p)
  unfolding creation
  creation-sound toks y h = elim (of_bind (token (is_key NEW) toks) _ _ h) [
    | bound word word_found found ↦ elim (of_bind (type_base word.1) _ _ found) [
      | bound base base_found rest_found ↦
          let first = token_takes (is_key NEW) toks word word_found in
          let second = type_base-sound word.1 base base_found in
          let is = is_key-IsKey NEW word.0 first.is in
          let takes : toks ≡ word.0 ∷ (base_yield base.0 ++ base.1) = first.takes ∙ ap (λ others. word.0 ∷ others) second.takes in
          elim (of_if _ _ _ _ rest_found) [
            | where_true begins_paren class_found ↦ new_class-sound word.0 base.0 base.1 toks y is second.fits takes class_found
            | where_false not array_found ↦ elim (of_bind (many (sized p) base.1) _ _ array_found) [
              | bound sizes sizes_found array ↦
                  let third = many-sound (GoodSize m) size_yield (sized p) (sized-sound m p s) base.1 sizes sizes_found in
                  new_array-sound word.0 base.0 sizes.0 sizes.1 toks y is second.fits third.fits (takes ∙ ap (λ others. word.0 ∷ (base_yield base.0 ++ others)) third.takes) array
            ]
          ]
    ]
  ]

  named_call-sound : (found : NameTree) (toks whole : List Tok) (y : ExprTree × List Tok) → NameFits found → whole ≡ name_yield found ++ toks → named_call m p found toks ≡ Some y → IsPrimaryRead whole y.0 y.1
  unfolding named_call
  named_call-sound found toks whole y fits takes h = elim (of_when _ _ y h) [
    | passed room call_found ↦ elim (of_bind (args p toks) _ _ call_found) [
      | bound list found_list same ↦
          let part = args-sound m p s toks list found_list in
          let parts = call_name found.ids.first found.ids.rest fits in
          let on_shallow : on_depth (called_on found.ids.first found.ids.rest) ≤ m = leb-true (on_depth (called_on found.ids.first found.ids.rest)) m room in
          let shallow : args_depth list.0 ≤ m = part.fits.shallow in
          let all : IsPrimaryRead whole (Call (called_on found.ids.first found.ids.rest) (called_id found.ids.first found.ids.rest) list.0) list.1 =
          record {
            fits = record { fits = (parts.on_fits, parts.id_fits, part.fits.fits); binds = omega arith; shallow = omega arith };
            takes = takes ∙ ap (λ front. front ++ toks) parts.yields
                ∙ call_takes (on_yield (called_on found.ids.first found.ids.rest)) (called_id found.ids.first found.ids.rest) toks (args_yield list.0) list.1 part.takes;
          } in
          by_some (λ z. IsPrimaryRead whole z.0 z.1) (Call (called_on found.ids.first found.ids.rest) (called_id found.ids.first found.ids.rest) list.0, list.1) y same all
    ]
  ]

  named-sound : IsSound (Good PRIMARY_LEVEL (suc m)) expr_yield (named m p)
  unfolding named
  named-sound toks y h = elim (of_bind (name toks) _ _ h) [
    | bound found name_found rest_found ↦
        let part = name-sound toks found name_found in
        elim (of_else _ _ _ rest_found) [
          | by_first call_found ↦ named_call-sound found.0 found.1 toks y part.fits part.takes call_found
          | by_other none same ↦
              let all : IsPrimaryRead toks (Name found.0) found.1 = record { fits = record { fits = part.fits; binds = omega arith; shallow = omega arith }; takes = part.takes } in
              by_some (λ z. IsPrimaryRead toks z.0 z.1) (Name found.0, found.1) y same all
        ]
  ]

  first_part-sound : IsSound (Good PRIMARY_LEVEL (suc m)) expr_yield (first_part m p)
  unfolding first_part
  first_part-sound toks y =
      either_way (begins is_literal toks) _ _ y (literal-sound m toks y)
      (either_way (begins (is_key THIS) toks) _ _ y (this_word-sound m toks y)
      (either_way (begins (is_op LEFT_PAREN) toks) _ _ y (paren-sound m p s toks y)
      (either_way (begins (is_key SUPER) toks) _ _ y (super_member-sound toks y)
      (either_way (begins (is_key NEW) toks) _ _ y (creation-sound toks y)
      (named-sound toks y)))))

  -- What follows an expression in hand, of which this much is known.
  member-sound : (whole : List Tok) (on : ExprTree) (toks : List Tok) (y : ExprTree × List Tok) → IsPrimaryRead whole on toks → expr_depth on ≤ m → member p on toks ≡ Some y → IsPrimaryRead whole y.0 y.1
  unfolding member member_call field
  member-sound whole on toks y known room h = elim (of_bind (token (is_op DOT) toks) _ _ h) [
    | bound dot dot_found id_found ↦ elim (of_bind (token is_ident dot.1) _ _ id_found) [
      | bound id id_is rest_found ↦
          let first = token_takes (is_op DOT) toks dot dot_found in
          let second = token_takes is_ident dot.1 id id_is in
          let dot_is = is_op-IsOp DOT dot.0 first.is in
          let ident = is_ident-IsIdent id.0 second.is in
          let takes : whole ≡ expr_yield on ++ dot.0 ∷ id.0 ∷ id.1 = known.takes ∙ ap (λ others. expr_yield on ++ others) (first.takes ∙ ap (λ others. dot.0 ∷ others) second.takes) in
          elim (of_else _ _ _ rest_found) [
            | by_first call_found ↦ elim (of_bind (args p id.1) _ _ call_found) [
              | bound list found same ↦
                  let part = args-sound m p s id.1 list found in
                  let shallow : args_depth list.0 ≤ m = part.fits.shallow in
                  let all : IsPrimaryRead whole (Call (On on dot.0) id.0 list.0) list.1 =
                  record {
                    fits = record { fits = ((record { primary = known.fits.binds; dot_is = dot_is }, known.fits.fits), ident, part.fits.fits); binds = omega arith; shallow = omega arith };
                    takes = takes ∙ sym (append_assoc (expr_yield on) (dot.0 ∷ []) (id.0 ∷ id.1)) ∙ sym (append_assoc (expr_yield on ++ dot.0 ∷ []) (id.0 ∷ []) id.1)
                        ∙ call_takes (expr_yield on ++ dot.0 ∷ []) id.0 id.1 (args_yield list.0) list.1 part.takes;
                  } in
                  by_some (λ z. IsPrimaryRead whole z.0 z.1) (Call (On on dot.0) id.0 list.0, list.1) y same all
            ]
            | by_other none field_found ↦ elim (of_when (is_no_name on) _ y field_found) [
              | passed no_name same ↦
                  let all : IsPrimaryRead whole (Field on dot.0 id.0) id.1 =
                  record {
                    fits = record { fits = (record { primary = known.fits.binds; no_name = is_no_name-IsNoName on no_name; dot_is = dot_is; id_is = ident }, known.fits.fits); binds = omega arith; shallow = omega arith };
                    takes = takes ∙ sym (append_assoc (expr_yield on) (dot.0 ∷ id.0 ∷ []) id.1);
                  } in
                  by_some (λ z. IsPrimaryRead whole z.0 z.1) (Field on dot.0 id.0, id.1) y same all
            ]
          ]
    ]
  ]

  item-sound : (whole : List Tok) (on : ExprTree) (toks : List Tok) (y : ExprTree × List Tok) → IsPrimaryRead whole on toks → expr_depth on ≤ m → item p on toks ≡ Some y → IsPrimaryRead whole y.0 y.1
  unfolding item
  item-sound whole on toks y known room h = elim (of_bind (when (is_no_new_array on) (sized p toks)) _ _ h) [
    | bound index index_found same ↦ elim (of_when (is_no_new_array on) (sized p toks) index index_found) [
      | passed no_new_array sized_found ↦
          let part = sized-sound m p s toks index sized_found in
          let shallow : expr_depth index.0.1 ≤ m = part.fits.good.shallow in
          let all : IsPrimaryRead whole (Index on index.0.0 index.0.1 index.0.2) index.1 =
          record {
            fits = record { fits = (record { primary = known.fits.binds; no_new_array = is_no_new_array-IsNoNewArray on no_new_array; brackets = part.fits.are_brackets }, known.fits.fits, part.fits.good.fits); binds = omega arith; shallow = omega arith };
            takes = known.takes ∙ ap (λ others. expr_yield on ++ others) part.takes ∙ sym (append_assoc (expr_yield on) (size_yield index.0) index.1);
          } in
          by_some (λ z. IsPrimaryRead whole z.0 z.1) (Index on index.0.0 index.0.1 index.0.2, index.1) y same all
    ]
  ]

  suffix-sound : (whole : List Tok) (on : ExprTree) (toks : List Tok) (y : ExprTree × List Tok) → IsPrimaryRead whole on toks → suffix m p on toks ≡ Some y → IsPrimaryRead whole y.0 y.1
  unfolding suffix
  suffix-sound whole on toks y known h = elim (of_when (nat_le (expr_depth on) m) _ y h) [
    | passed room found ↦
        let room_left : expr_depth on ≤ m = leb-true (expr_depth on) m room in
        either_way (begins (is_op DOT) toks) _ _ y (member-sound whole on toks y known room_left) (item-sound whole on toks y known room_left) found
  ]

  pub primary-sound : IsSound (Good PRIMARY_LEVEL (suc m)) expr_yield (primary m p)
  unfolding primary
  primary-sound toks y h = elim (of_bind (first_part m p toks) _ _ h) [
    | bound first found rest_found ↦
        chain-keeps (IsPrimaryRead toks) (suffix m p) (λ on others next known turn. suffix-sound toks on others next known turn) (suc m) first.0 first.1 y (first_part-sound toks first found) rest_found
  ]
