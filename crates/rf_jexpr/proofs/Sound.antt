-- What the readers of expressions read fits, binds at their level, and is no deeper than the room, in each room.
use Rattle.std.proofs.Common.{◌≡◌, ℕ, zero, suc, ◌+◌, ◌≤◌, List, [], ◌∷◌, ◌++◌, Some, Bool, true, false, ◌&&◌, cond, IsTrue, nat_le, ◌==◌, refl, ap, ◌∙◌, sym, subst, append_assoc, arith, leb-true}
use Rattle.rf_jtree.specs.declared.operators.Op.{Op}
use Rattle.rf_jtree.specs.declared.tokens.Tok.{Tok}
use Rattle.rf_jtree.specs.declared.tokens.TokKind.{TokKind}
use Rattle.rf_jtree.specs.declared.tokens.TokKind.TheVariants as kind
use Rattle.rf_jtree.specs.declared.levels.TheConstants.{ASSIGNMENT_LEVEL, CONDITIONAL_LEVEL, OR_OR_LEVEL, AND_AND_LEVEL, OR_LEVEL, XOR_LEVEL, AND_LEVEL, EQUALITY_LEVEL, COMPARISON_LEVEL, SHIFT_LEVEL, ADDITIVE_LEVEL, MULTIPLICATIVE_LEVEL, UNARY_LEVEL, POSTFIX_LEVEL, PRIMARY_LEVEL}
use Rattle.rf_jtree.specs.declared.operator_names.TheConstants.{OR_OR, AND_AND, OR, XOR, AND, EQUALITIES, COMPARISONS, SHIFTS, ADDITIVES, MULTIPLICATIVES, LEFT_PAREN, RIGHT_PAREN, LEFT_BRACE, QUESTION, COLON, ASSIGNMENTS, PREFIXES, SUFFIXES}
use Rattle.rf_jtree.specs.declared.keyword_names.TheConstants.{INSTANCEOF}
use Rattle.rf_jtree.specs.ExprFits.{IsLeftSide, CastTakes, BeginsOperand, begins_operand}
use Rattle.rf_jfit.specs.ExprFirst.{expr_first}
use Rattle.rf_jtree.specs.ExprTrees.{ExprTree, Assign, Cond, Binary, Instance, Unary, Cast, Postfix, Name, Field, Super, Index, NoArgs, Expression, Braced, expr_yield, init_yield, braces_yield, expr_depth, braces_depth}
use Rattle.rf_jtree.specs.Kinds.{is_op_of, has_op}
use Rattle.rf_jtree.specs.Levels.{binary_level, op_level, expr_level}
use Rattle.rf_jtree.specs.NameTrees.{TypeBaseTree, Prim, Named, TypeUseTree, type_yield}
use Rattle.rf_jfit.proofs.ExprFirstLemmas.{expr_begins}
use Rattle.rf_jexpr.specs.Descent.{step, postfix, prefixed, is_primitive, casts, cast, unary, takes_left, operation, instance, operator, binary, choice, conditional, is_left_side, assignment, expr, init, nothing, with_room, parsers}
use Rattle.rf_jexpr.specs.NameReads.{type_use}
use Rattle.rf_jexpr.specs.PartReads.{Parsers, braces}
use Rattle.rf_jexpr.specs.PrimaryReads.{primary}
use Rattle.rf_jexpr.specs.Reads.{when, is_op, is_key, begins, token}
use Rattle.rf_jexpr.proofs.LoopLemmas.{Read, IsSound, chain-keeps}
use Rattle.rf_jexpr.proofs.SoundNames.{made-sound, type_use-sound}
use Rattle.rf_jexpr.proofs.SoundParts.{Good, GoodInit, AreSound, GoodBraces, braces-sound}
use Rattle.rf_jexpr.proofs.SoundPrimary.{primary-sound}
use Rattle.rf_jexpr.proofs.Tools.{bound, of_bind, by_first, by_other, of_else, passed, of_when, either_way, both, token_takes, is_op-IsOp, is_key-IsKey, by_some}

-- what binds at a tighter level binds at a looser one
looser : (least level room : ℕ) (expr : ExprTree) → least ≤ level → Good level room expr → Good least room expr
looser least level room expr h good = let binds : level ≤ expr_level expr = good.binds in record { fits = good.fits; binds = omega arith; shallow = good.shallow }

looser_read : (least level room : ℕ) (toks : List Tok) (expr : ExprTree) (rest : List Tok) → least ≤ level → Read (Good level room) expr_yield toks expr rest → Read (Good least room) expr_yield toks expr rest
looser_read least level room toks expr rest h known = record { fits = looser least level room expr h known.fits; takes = known.takes }

-- an operator is no tighter than a product's
one_of : (test : Bool) (one other n : ℕ) → one ≤ n → other ≤ n → cond test one other ≤ n
one_of true one other n h k = h
one_of false one other n h k = k

op_level_small : (op : Op) → op_level op ≤ MULTIPLICATIVE_LEVEL
op_level_small op =
    one_of (op.0 == OR_OR.0) OR_OR_LEVEL _ MULTIPLICATIVE_LEVEL (omega arith)
    (one_of (op.0 == AND_AND.0) AND_AND_LEVEL _ MULTIPLICATIVE_LEVEL (omega arith)
    (one_of (op.0 == OR.0) OR_LEVEL _ MULTIPLICATIVE_LEVEL (omega arith)
    (one_of (op.0 == XOR.0) XOR_LEVEL _ MULTIPLICATIVE_LEVEL (omega arith)
    (one_of (op.0 == AND.0) AND_LEVEL _ MULTIPLICATIVE_LEVEL (omega arith)
    (one_of (has_op EQUALITIES op) EQUALITY_LEVEL _ MULTIPLICATIVE_LEVEL (omega arith)
    (one_of (has_op COMPARISONS op) COMPARISON_LEVEL _ MULTIPLICATIVE_LEVEL (omega arith)
    (one_of (has_op SHIFTS op) SHIFT_LEVEL _ MULTIPLICATIVE_LEVEL (omega arith)
    (one_of (has_op ADDITIVES op) ADDITIVE_LEVEL _ MULTIPLICATIVE_LEVEL (omega arith)
    (one_of (has_op MULTIPLICATIVES op) MULTIPLICATIVE_LEVEL ASSIGNMENT_LEVEL MULTIPLICATIVE_LEVEL (omega arith) (omega arith))))))))))

kind_small : (tok : Tok) (k : TokKind) → tok.kind ≡ k → binary_level tok ≤ MULTIPLICATIVE_LEVEL
kind_small tok (kind.Op op) e = rw e (op_level_small op)
kind_small tok other e = rw e (omega arith)

pub binary_level_small : (tok : Tok) → binary_level tok ≤ MULTIPLICATIVE_LEVEL
binary_level_small tok = kind_small tok tok.kind refl

-- ---- tests

is_left_side-IsLeftSide : (left : ExprTree) → IsTrue (is_left_side left) → IsLeftSide left
unfolding is_left_side
is_left_side-IsLeftSide (Name found) h = tt
is_left_side-IsLeftSide (Field operand dot id) h = tt
is_left_side-IsLeftSide (Super word dot id NoArgs) h = tt
is_left_side-IsLeftSide (Index operand left index right) h = tt
is_left_side-IsLeftSide expr h = absurd (cc)

-- what an expression begins with doesn't depend on what follows it
begins_in_front : (tok : Tok) (more toks rest : List Tok) → toks ≡ tok ∷ more → IsTrue (begins begins_operand (toks ++ rest)) → BeginsOperand toks
unfolding begins
begins_in_front tok more [] rest e h = cc
begins_in_front tok more (first ∷ others) rest e h = h

begins_before : (expr : ExprTree) (rest : List Tok) → IsTrue (begins begins_operand (expr_yield expr ++ rest)) → BeginsOperand (expr_yield expr)
begins_before expr rest h = let first = expr_begins expr in begins_in_front (expr_first expr) first.rest (expr_yield expr) rest first.parts h

casts_by : (base : TypeBaseTree) (pairs : List (Tok × Tok)) (operand : ExprTree) (rest : List Tok) → IsTrue (casts (record { base = base; dims = record { list = pairs } }) (expr_yield operand ++ rest)) → CastTakes base pairs (expr_yield operand)
unfolding casts is_primitive
casts_by (Prim word) [] operand rest h = tt
casts_by (Prim word) (pair ∷ pairs) operand rest h = begins_before operand rest h
casts_by (Named class) pairs operand rest h = begins_before operand rest h

casts-CastTakes : (used_type : TypeUseTree) (operand : ExprTree) (rest : List Tok) → IsTrue (casts used_type (expr_yield operand ++ rest)) → CastTakes used_type.base used_type.dims.list (expr_yield operand)
casts-CastTakes used_type operand rest h = casts_by used_type.base used_type.dims.list operand rest h

-- ---- one room from the room below it

module _ (m : ℕ) (p : Parsers) (s : AreSound m p) where
  abbrev IsReadAt : ℕ → List Tok → ExprTree → List Tok → Type 0
  IsReadAt level toks expr rest = Read (Good level (suc m)) expr_yield toks expr rest

  step-sound : (whole : List Tok) (operand : ExprTree) (toks : List Tok) (y : ExprTree × List Tok) → IsReadAt POSTFIX_LEVEL whole operand toks → step m operand toks ≡ Some y → IsReadAt POSTFIX_LEVEL whole y.0 y.1
  unfolding step
  step-sound whole operand toks y known h = elim (of_when (nat_le (expr_depth operand) m) _ y h) [
    | passed room found ↦ elim (of_bind (token (is_op_of SUFFIXES) toks) _ _ found) [
      | bound op op_found same ↦
          let took = token_takes (is_op_of SUFFIXES) toks op op_found in
          let shallow : expr_depth operand ≤ m = leb-true (expr_depth operand) m room in
          let all : IsReadAt POSTFIX_LEVEL whole (Postfix operand op.0) op.1 =
          record {
            fits = record { fits = (record { operand_binds = known.fits.binds; op_is = took.is }, known.fits.fits); binds = omega arith; shallow = omega arith };
            takes = known.takes ∙ ap (λ others. expr_yield operand ++ others) took.takes ∙ sym (append_assoc (expr_yield operand) (op.0 ∷ []) op.1);
          } in
          by_some (λ z. IsReadAt POSTFIX_LEVEL whole z.0 z.1) (Postfix operand op.0, op.1) y same all
    ]
  ]

  postfix-sound : IsSound (Good POSTFIX_LEVEL (suc m)) expr_yield (postfix m p)
  unfolding postfix
  postfix-sound toks y h = elim (of_bind (primary m p toks) _ _ h) [
    | bound operand found rest_found ↦
        chain-keeps (IsReadAt POSTFIX_LEVEL toks) (step m) (λ on others next known turn. step-sound toks on others next known turn) (suc m) operand.0 operand.1 y
        (looser_read POSTFIX_LEVEL PRIMARY_LEVEL (suc m) toks operand.0 operand.1 (omega arith) (primary-sound m p s toks operand found)) rest_found
  ]

  prefixed-sound : IsSound (Good UNARY_LEVEL (suc m)) expr_yield (prefixed p)
  unfolding prefixed
  prefixed-sound toks y h = elim (of_bind (token (is_op_of PREFIXES) toks) _ _ h) [
    | bound op op_found operand_found ↦ elim (of_bind (p.unary op.1) _ _ operand_found) [
      | bound operand found same ↦
          let took = token_takes (is_op_of PREFIXES) toks op op_found in
          let part = s.unary op.1 operand found in
          let shallow : expr_depth operand.0 ≤ m = part.fits.shallow in
          let all : IsReadAt UNARY_LEVEL toks (Unary op.0 operand.0) operand.1 =
          record {
            fits = record { fits = (record { op_is = took.is; operand_binds = part.fits.binds }, part.fits.fits); binds = omega arith; shallow = omega arith };
            takes = took.takes ∙ ap (λ others. op.0 ∷ others) part.takes;
          } in
          by_some (λ z. IsReadAt UNARY_LEVEL toks z.0 z.1) (Unary op.0 operand.0, operand.1) y same all
    ]
  ]

  cast-sound : IsSound (Good UNARY_LEVEL (suc m)) expr_yield (cast p)
  unfolding cast
  cast-sound toks y h = elim (of_bind (token (is_op LEFT_PAREN) toks) _ _ h) [
    | bound left left_found used_type_found ↦ elim (of_bind (type_use left.1) _ _ used_type_found) [
      | bound used_type sort_is right_found ↦ elim (of_bind (token (is_op RIGHT_PAREN) used_type.1) _ _ right_found) [
        | bound right right_is operand_found ↦ elim (of_bind (when (casts used_type.0 right.1) (p.unary right.1)) _ _ operand_found) [
          | bound operand operand_is same ↦ elim (of_when (casts used_type.0 right.1) (p.unary right.1) operand operand_is) [
            | passed taken found ↦
                let first = token_takes (is_op LEFT_PAREN) toks left left_found in
                let second = type_use-sound left.1 used_type sort_is in
                let third = token_takes (is_op RIGHT_PAREN) used_type.1 right right_is in
                let part = s.unary right.1 operand found in
                let shallow : expr_depth operand.0 ≤ m = part.fits.shallow in
                let takes_operand = casts-CastTakes used_type.0 operand.0 operand.1 (subst (λ (others : List Tok). IsTrue (casts used_type.0 others)) part.takes taken) in
                let all : IsReadAt UNARY_LEVEL toks (Cast left.0 used_type.0 right.0 operand.0) operand.1 =
                record {
                  fits = record {
                    fits = (record { parens = (is_op-IsOp LEFT_PAREN left.0 first.is, is_op-IsOp RIGHT_PAREN right.0 third.is); operand_binds = part.fits.binds; takes = takes_operand }, second.fits, part.fits.fits);
                    binds = omega arith;
                    shallow = omega arith;
                  };
                  takes = first.takes ∙ ap (λ others. left.0 ∷ others) (second.takes ∙ ap (λ others. type_yield used_type.0 ++ others) (third.takes ∙ ap (λ others. right.0 ∷ others) part.takes)
                      ∙ sym (append_assoc (type_yield used_type.0) (right.0 ∷ expr_yield operand.0) operand.1));
                } in
                by_some (λ z. IsReadAt UNARY_LEVEL toks z.0 z.1) (Cast left.0 used_type.0 right.0 operand.0, operand.1) y same all
          ]
        ]
      ]
    ]
  ]

  unary-sound : IsSound (Good UNARY_LEVEL (suc m)) expr_yield (unary m p)
  unfolding unary
  unary-sound toks y = either_way (begins (is_op_of PREFIXES) toks) _ _ y (prefixed-sound toks y) (λ h. elim (of_else (cast p toks) (postfix m p toks) y h) [
    | by_first found ↦ cast-sound toks y found
    | by_other none found ↦ looser_read UNARY_LEVEL POSTFIX_LEVEL (suc m) toks y.0 y.1 (omega arith) (postfix-sound toks y found)
  ])

  operation-sound : (least : ℕ) → OR_OR_LEVEL ≤ least → (whole : List Tok) (left : ExprTree) (toks : List Tok) (y : ExprTree × List Tok) → IsReadAt least whole left toks → expr_depth left ≤ m → operation p least left toks ≡ Some y → IsReadAt least whole y.0 y.1
  unfolding operation takes_left
  operation-sound least loose whole left toks y known room h = elim (of_bind (token (takes_left least left) toks) _ _ h) [
    | bound op op_found right_found ↦ elim (of_bind (p.binary (binary_level op.0 + 1) op.1) _ _ right_found) [
      | bound right found same ↦
          let took = token_takes (takes_left least left) toks op op_found in
          let tests = both (nat_le least (binary_level op.0)) (nat_le (binary_level op.0) (expr_level left)) took.is in
          let tight : least ≤ binary_level op.0 = leb-true least (binary_level op.0) tests.0 in
          let left_binds : binary_level op.0 ≤ expr_level left = leb-true (binary_level op.0) (expr_level left) tests.1 in
          let small : binary_level op.0 ≤ MULTIPLICATIVE_LEVEL = binary_level_small op.0 in
          let part = s.binary (binary_level op.0 + 1) (omega arith) (omega arith) op.1 right found in
          let shallow : expr_depth right.0 ≤ m = part.fits.shallow in
          let all : IsReadAt least whole (Binary left op.0 right.0) right.1 =
          record {
            fits = record { fits = (record { op_is = omega arith; left_binds = left_binds; right_binds = part.fits.binds }, known.fits.fits, part.fits.fits); binds = tight; shallow = omega arith };
            takes = known.takes ∙ ap (λ others. expr_yield left ++ others) (took.takes ∙ ap (λ others. op.0 ∷ others) part.takes) ∙ sym (append_assoc (expr_yield left) (op.0 ∷ expr_yield right.0) right.1);
          } in
          by_some (λ z. IsReadAt least whole z.0 z.1) (Binary left op.0 right.0, right.1) y same all
    ]
  ]

  instance-sound : (least : ℕ) (whole : List Tok) (operand : ExprTree) (toks : List Tok) (y : ExprTree × List Tok) → IsReadAt least whole operand toks → expr_depth operand ≤ m → instance least operand toks ≡ Some y → IsReadAt least whole y.0 y.1
  unfolding instance
  instance-sound least whole operand toks y known room h = elim (of_bind (when (nat_le least COMPARISON_LEVEL && nat_le COMPARISON_LEVEL (expr_level operand)) (token (is_key INSTANCEOF) toks)) _ _ h) [
    | bound word word_found used_type_found ↦ elim (of_when (nat_le least COMPARISON_LEVEL && nat_le COMPARISON_LEVEL (expr_level operand)) (token (is_key INSTANCEOF) toks) word word_found) [
      | passed binds word_is ↦ elim (of_bind (type_use word.1) _ _ used_type_found) [
        | bound used_type found same ↦
            let took = token_takes (is_key INSTANCEOF) toks word word_is in
            let tests = both (nat_le least COMPARISON_LEVEL) (nat_le COMPARISON_LEVEL (expr_level operand)) binds in
            let tight : least ≤ COMPARISON_LEVEL = leb-true least COMPARISON_LEVEL tests.0 in
            let operand_binds : COMPARISON_LEVEL ≤ expr_level operand = leb-true COMPARISON_LEVEL (expr_level operand) tests.1 in
            let part = type_use-sound word.1 used_type found in
            let all : IsReadAt least whole (Instance operand word.0 used_type.0) used_type.1 =
            record {
              fits = record { fits = (record { operand_binds = operand_binds; word_is = is_key-IsKey INSTANCEOF word.0 took.is }, known.fits.fits, part.fits); binds = tight; shallow = omega arith };
              takes = known.takes ∙ ap (λ others. expr_yield operand ++ others) (took.takes ∙ ap (λ others. word.0 ∷ others) part.takes) ∙ sym (append_assoc (expr_yield operand) (word.0 ∷ type_yield used_type.0) used_type.1);
            } in
            by_some (λ z. IsReadAt least whole z.0 z.1) (Instance operand word.0 used_type.0, used_type.1) y same all
      ]
    ]
  ]

  operator-sound : (least : ℕ) → OR_OR_LEVEL ≤ least → (whole : List Tok) (left : ExprTree) (toks : List Tok) (y : ExprTree × List Tok) → IsReadAt least whole left toks → operator m p least left toks ≡ Some y → IsReadAt least whole y.0 y.1
  unfolding operator
  operator-sound least loose whole left toks y known h = elim (of_when (nat_le (expr_depth left) m) _ y h) [
    | passed room found ↦
        let room_left : expr_depth left ≤ m = leb-true (expr_depth left) m room in
        either_way (begins (is_key INSTANCEOF) toks) _ _ y (instance-sound least whole left toks y known room_left) (operation-sound least loose whole left toks y known room_left) found
  ]

  binary-sound : (least : ℕ) → OR_OR_LEVEL ≤ least → least ≤ UNARY_LEVEL → IsSound (Good least (suc m)) expr_yield (binary m p least)
  unfolding binary
  binary-sound least loose tight toks y h = elim (of_bind (unary m p toks) _ _ h) [
    | bound first found rest_found ↦
        chain-keeps (IsReadAt least toks) (operator m p least) (λ left others next known turn. operator-sound least loose toks left others next known turn) (suc m) first.0 first.1 y
        (looser_read least UNARY_LEVEL (suc m) toks first.0 first.1 tight (unary-sound toks first found)) rest_found
  ]

  choice-sound : (whole : List Tok) (test : ExprTree) (toks : List Tok) (y : ExprTree × List Tok) → IsReadAt OR_OR_LEVEL whole test toks → choice m p test toks ≡ Some y → IsReadAt CONDITIONAL_LEVEL whole y.0 y.1
  unfolding choice
  choice-sound whole test toks y known h = elim (of_bind (when (nat_le (expr_depth test) m) (token (is_op QUESTION) toks)) _ _ h) [
    | bound mark mark_found first_found ↦ elim (of_when (nat_le (expr_depth test) m) (token (is_op QUESTION) toks) mark mark_found) [
      | passed room mark_is ↦ elim (of_bind (p.expr mark.1) _ _ first_found) [
        | bound first first_is colon_found ↦ elim (of_bind (token (is_op COLON) first.1) _ _ colon_found) [
          | bound colon colon_is other_found ↦ elim (of_bind (p.conditional colon.1) _ _ other_found) [
            | bound other found same ↦
                let one = token_takes (is_op QUESTION) toks mark mark_is in
                let two = s.expr mark.1 first first_is in
                let three = token_takes (is_op COLON) first.1 colon colon_is in
                let four = s.conditional colon.1 other found in
                let test_shallow : expr_depth test ≤ m = leb-true (expr_depth test) m room in
                let first_shallow : expr_depth first.0 ≤ m = two.fits.shallow in
                let other_shallow : expr_depth other.0 ≤ m = four.fits.shallow in
                let behind : first.1 ≡ colon.0 ∷ (expr_yield other.0 ++ other.1) = three.takes ∙ ap (λ others. colon.0 ∷ others) four.takes in
                let inner : mark.1 ≡ (expr_yield first.0 ++ colon.0 ∷ expr_yield other.0) ++ other.1 =
                two.takes ∙ ap (λ others. expr_yield first.0 ++ others) behind ∙ sym (append_assoc (expr_yield first.0) (colon.0 ∷ expr_yield other.0) other.1) in
                let all : IsReadAt CONDITIONAL_LEVEL whole (Cond test mark.0 first.0 colon.0 other.0) other.1 =
                record {
                  fits = record {
                    fits = (record { test_binds = known.fits.binds; mark_is = is_op-IsOp QUESTION mark.0 one.is; colon_is = is_op-IsOp COLON colon.0 three.is; no_assignment = four.fits.binds }, known.fits.fits, two.fits.fits, four.fits.fits);
                    binds = omega arith;
                    shallow = omega arith;
                  };
                  takes = known.takes ∙ ap (λ others. expr_yield test ++ others) (one.takes ∙ ap (λ others. mark.0 ∷ others) inner)
                      ∙ sym (append_assoc (expr_yield test) (mark.0 ∷ (expr_yield first.0 ++ colon.0 ∷ expr_yield other.0)) other.1);
                } in
                by_some (λ z. IsReadAt CONDITIONAL_LEVEL whole z.0 z.1) (Cond test mark.0 first.0 colon.0 other.0, other.1) y same all
          ]
        ]
      ]
    ]
  ]

  conditional-sound : IsSound (Good CONDITIONAL_LEVEL (suc m)) expr_yield (conditional m p)
  unfolding conditional
  conditional-sound toks y h = elim (of_bind (binary m p OR_OR_LEVEL toks) _ _ h) [
    | bound test test_found found ↦
        let known = binary-sound OR_OR_LEVEL (omega arith) (omega arith) toks test test_found in
        elim (of_else _ _ _ found) [
          | by_first choice_found ↦ choice-sound toks test.0 test.1 y known choice_found
          | by_other none same ↦
              by_some (λ z. IsReadAt CONDITIONAL_LEVEL toks z.0 z.1) test y same (looser_read CONDITIONAL_LEVEL OR_OR_LEVEL (suc m) toks test.0 test.1 (omega arith) known)
        ]
  ]

  assignment-sound : (whole : List Tok) (left : ExprTree) (toks : List Tok) (y : ExprTree × List Tok) → IsReadAt CONDITIONAL_LEVEL whole left toks → assignment m p left toks ≡ Some y → IsReadAt ASSIGNMENT_LEVEL whole y.0 y.1
  unfolding assignment
  assignment-sound whole left toks y known h = elim (of_bind (when (is_left_side left && nat_le (expr_depth left) m) (token (is_op_of ASSIGNMENTS) toks)) _ _ h) [
    | bound op op_found operand_found ↦ elim (of_when (is_left_side left && nat_le (expr_depth left) m) (token (is_op_of ASSIGNMENTS) toks) op op_found) [
      | passed may op_is ↦ elim (of_bind (p.expr op.1) _ _ operand_found) [
        | bound operand found same ↦
            let took = token_takes (is_op_of ASSIGNMENTS) toks op op_is in
            let part = s.expr op.1 operand found in
            let tests = both (is_left_side left) (nat_le (expr_depth left) m) may in
            let left_shallow : expr_depth left ≤ m = leb-true (expr_depth left) m tests.1 in
            let shallow : expr_depth operand.0 ≤ m = part.fits.shallow in
            let all : IsReadAt ASSIGNMENT_LEVEL whole (Assign left op.0 operand.0) operand.1 =
            record {
              fits = record { fits = (record { left_side = is_left_side-IsLeftSide left tests.0; op_is = took.is }, known.fits.fits, part.fits.fits); binds = omega arith; shallow = omega arith };
              takes = known.takes ∙ ap (λ others. expr_yield left ++ others) (took.takes ∙ ap (λ others. op.0 ∷ others) part.takes) ∙ sym (append_assoc (expr_yield left) (op.0 ∷ expr_yield operand.0) operand.1);
            } in
            by_some (λ z. IsReadAt ASSIGNMENT_LEVEL whole z.0 z.1) (Assign left op.0 operand.0, operand.1) y same all
      ]
    ]
  ]

  expr-sound : IsSound (Good ASSIGNMENT_LEVEL (suc m)) expr_yield (expr m p)
  unfolding expr
  expr-sound toks y h = elim (of_bind (conditional m p toks) _ _ h) [
    | bound left left_found found ↦
        let known = conditional-sound toks left left_found in
        elim (of_else _ _ _ found) [
          | by_first assigned ↦ assignment-sound toks left.0 left.1 y known assigned
          | by_other none same ↦
              by_some (λ z. IsReadAt ASSIGNMENT_LEVEL toks z.0 z.1) left y same (looser_read ASSIGNMENT_LEVEL CONDITIONAL_LEVEL (suc m) toks left.0 left.1 (omega arith) known)
        ]
  ]

  init-sound : IsSound (GoodInit (suc m)) init_yield (init m p)
  unfolding init
  init-sound toks y = either_way (begins (is_op LEFT_BRACE) toks) _ _ y
      (made-sound (GoodBraces m) braces_yield (braces p) (GoodInit (suc m)) init_yield Braced (braces-sound m p s) (λ items good. let shallow : braces_depth items ≤ m = good.shallow in record { fits = good.fits; shallow = omega arith }) (λ items. refl) toks y)
      (made-sound (Good ASSIGNMENT_LEVEL (suc m)) expr_yield (expr m p) (GoodInit (suc m)) init_yield Expression expr-sound (λ operand good. record { fits = good.fits; shallow = good.shallow }) (λ operand. refl) toks y)

  with_room-sound : AreSound (suc m) (with_room m p)
  unfolding with_room
  with_room-sound = record { expr = expr-sound; conditional = conditional-sound; binary = binary-sound; unary = unary-sound; init = init-sound }

-- in each room
pub parsers-sound : (m : ℕ) → AreSound m (parsers m)
unfolding parsers nothing
parsers-sound zero = record { expr = λ toks y h. cc; conditional = λ toks y h. cc; binary = λ least loose tight toks y h. cc; unary = λ toks y h. cc; init = λ toks y h. cc }
parsers-sound (suc m) = with_room-sound m (parsers m) (parsers-sound m)
