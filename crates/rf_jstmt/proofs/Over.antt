-- Which tokens go on with a statement, and which don't.
use Rattle.std.proofs.Common.{◌≡◌, List, [], ◌∷◌, Bool, true, false, ◌||◌, IsTrue, inl, inr, refl}
use Rattle.rf_jtree.specs.declared.tokens.Tok.{Tok}
use Rattle.rf_jtree.specs.declared.operator_names.TheConstants.{RIGHT_BRACE}
use Rattle.rf_jtree.specs.declared.keyword_names.TheConstants.{CASE, CATCH, DEFAULT, ELSE, FINALLY}
use Rattle.rf_jtree.specs.Kinds.{IsOp, IsKey}
use Rattle.rf_jtree.specs.StmtFits.{EndsOpen, ends_open, other_ends_open}
use Rattle.rf_jtree.specs.StmtTrees.{StmtTree, Label, If, While, For, Each, Try, OtherTree, NoOther, Other, LastTree, NoLast, Last}
use Rattle.rf_jexpr.specs.Reads.{is_op, is_key, begins}
use Rattle.rf_jexpr.proofs.StopLemmas.{or_false, false_or}
use Rattle.rf_jexpr.proofs.Tools.{is_op-IsOp, is_key-IsKey}
use Rattle.rf_jstmt.specs.StmtStops.{last_goes_on, goes_on, other_goes_on, Over, may_go_on, ends_stmts, EndsStmts}
use Rattle.rf_jmods.proofs.ModTestLemmas.{or_true}

-- No other words go on with a statement.
last_calm : (last : LastTree) (tok : Tok) → may_go_on tok ≡ false → last_goes_on last tok ≡ false
unfolding last_goes_on may_go_on
last_calm NoLast tok h = (or_false (is_key ELSE tok) (is_key CATCH tok || is_key FINALLY tok) h).1
last_calm (Last word body) tok h = refl

mutual
  unfolding may_go_on

  goes_on_calm : (stmt : StmtTree) (tok : Tok) → may_go_on tok ≡ false → goes_on stmt tok ≡ false
  goes_on_calm (Label id colon body) tok h = goes_on_calm body tok h
  goes_on_calm (If word left test right first other) tok h = other_calm other (goes_on first tok) tok h (goes_on_calm first tok h)
  goes_on_calm (While word left test right body) tok h = goes_on_calm body tok h
  goes_on_calm (For word left first semi1 test semi2 last right body) tok h = goes_on_calm body tok h
  goes_on_calm (Each word left mods used_type id colon over right body) tok h = goes_on_calm body tok h
  goes_on_calm (Try word body parts last) tok h = last_calm last tok h
  goes_on_calm stmt tok h = refl

  other_calm : (other : OtherTree) (first : Bool) (tok : Tok) → may_go_on tok ≡ false → first ≡ false → other_goes_on other first tok ≡ false
  other_calm NoOther first tok h k = false_or (is_key ELSE tok) first (or_false (is_key ELSE tok) (is_key CATCH tok || is_key FINALLY tok) h).0 k
  other_calm (Other word stmt) first tok h k = goes_on_calm stmt tok h

pub over_calm : (stmt : StmtTree) (toks : List Tok) → begins may_go_on toks ≡ false → Over stmt toks
unfolding begins
over_calm stmt [] h = refl
over_calm stmt (tok ∷ toks) h = goes_on_calm stmt tok h

-- An `else` goes on with no statement but one that ends open.
last_no_else : (last : LastTree) (tok : Tok) → IsKey ELSE tok → last_goes_on last tok ≡ false
unfolding last_goes_on is_key
last_no_else NoLast tok h = rw h refl
last_no_else (Last word body) tok h = refl

mutual
  closed_no_else : (stmt : StmtTree) (tok : Tok) → ends_open stmt ≡ false → IsKey ELSE tok → goes_on stmt tok ≡ false
  closed_no_else (Label id colon body) tok h is = closed_no_else body tok h is
  closed_no_else (If word left test right first other) tok h is = other_no_else other (goes_on first tok) tok h is
  closed_no_else (While word left test right body) tok h is = closed_no_else body tok h is
  closed_no_else (For word left first semi1 test semi2 last right body) tok h is = closed_no_else body tok h is
  closed_no_else (Each word left mods used_type id colon over right body) tok h is = closed_no_else body tok h is
  closed_no_else (Try word body parts last) tok h is = last_no_else last tok is
  closed_no_else stmt tok h is = refl

  other_no_else : (other : OtherTree) (first : Bool) (tok : Tok) → other_ends_open other ≡ false → IsKey ELSE tok → other_goes_on other first tok ≡ false
  other_no_else NoOther first tok h is = absurd (cc)
  other_no_else (Other word stmt) first tok h is = closed_no_else stmt tok h is

pub over_else : (stmt : StmtTree) (tok : Tok) (toks : List Tok) → ¬ (EndsOpen stmt) → IsKey ELSE tok → Over stmt (tok ∷ toks)
unfolding begins
over_else stmt tok toks h is = closed_no_else stmt tok (closed (ends_open stmt) h) is
  where
    closed : (test : Bool) → ¬ (IsTrue test) → test ≡ false
    closed true h = absurd (h refl)
    closed false h = refl

-- The tokens that end statements don't go on with one.
pub data EndsWith (tok : Tok) : Type 0 where
  by_brace : IsOp RIGHT_BRACE tok → EndsWith tok
  by_case : IsKey CASE tok → EndsWith tok
  by_default : IsKey DEFAULT tok → EndsWith tok

pub ends_with : (tok : Tok) → IsTrue (ends_stmts tok) → EndsWith tok
unfolding ends_stmts
ends_with tok h = elim (or_true (is_op RIGHT_BRACE tok) (is_key CASE tok || is_key DEFAULT tok) h) [
  | inl one ↦ by_brace (is_op-IsOp RIGHT_BRACE tok one)
  | inr more ↦ elim (or_true (is_key CASE tok) (is_key DEFAULT tok) more) [ inl one ↦ by_case (is_key-IsKey CASE tok one) | inr other ↦ by_default (is_key-IsKey DEFAULT tok other) ]
]

pub ends_calm : (toks : List Tok) → EndsStmts toks → begins may_go_on toks ≡ false
unfolding begins may_go_on is_key
ends_calm [] h = refl
ends_calm (tok ∷ toks) h = elim (ends_with tok h) [ by_brace is ↦ rw is refl | by_case is ↦ rw is refl | by_default is ↦ rw is refl ]

pub brace_ends : (tok : Tok) (toks : List Tok) → IsOp RIGHT_BRACE tok → EndsStmts (tok ∷ toks)
unfolding begins ends_stmts is_op
brace_ends tok toks h = rw h refl

pub case_ends : (tok : Tok) (toks : List Tok) → IsKey CASE tok → EndsStmts (tok ∷ toks)
unfolding begins ends_stmts is_op is_key
case_ends tok toks h = rw h refl

pub default_ends : (tok : Tok) (toks : List Tok) → IsKey DEFAULT tok → EndsStmts (tok ∷ toks)
unfolding begins ends_stmts is_op is_key
default_ends tok toks h = rw h refl

-- one of two tests
pub begins_neither : (one other : Tok → Bool) (toks : List Tok) → begins (λ tok. one tok || other tok) toks ≡ false → (begins one toks ≡ false) × (begins other toks ≡ false)
unfolding begins
begins_neither one other [] h = (refl, refl)
begins_neither one other (tok ∷ toks) h = or_false (one tok) (other tok) h
