-- Which tokens go on with an expression, and which don't.
use Rattle.std.proofs.Common.{◌≡◌, ℕ, ◌≤◌, ◌<◌, List, [], ◌∷◌, Bool, true, false, not, ◌&&◌, ◌||◌, IsTrue, nat_le, ◌==◌, refl, ap, ◌∙◌, sym, subst, arith, eqb-true, ◌⊎◌, inl, inr}
use Rattle.std.specs.List.{list_all}
use Rattle.std.proofs.lemmas.Bool.{leb-true, le-leb, lt-leb}
use Rattle.rf_jtree.specs.declared.operators.Op.{Op}
use Rattle.rf_jtree.specs.declared.tokens.Tok.{Tok}
use Rattle.rf_jtree.specs.declared.tokens.TokKind.{TokKind}
use Rattle.rf_jtree.specs.declared.tokens.TokKind.TheVariants as kind
use Rattle.rf_jtree.specs.declared.levels.TheConstants.{ASSIGNMENT_LEVEL, CONDITIONAL_LEVEL, OR_OR_LEVEL, COMPARISON_LEVEL, SHIFT_LEVEL}
use Rattle.rf_jtree.specs.declared.operator_names.TheConstants.{SEMICOLON, RIGHT_PAREN, LEFT_BRACKET, RIGHT_BRACKET, RIGHT_BRACE, DOT, COMMA, COLON, QUESTION, ASSIGNMENTS, SUFFIXES, OPERAND_OPERATORS}
use Rattle.rf_jtree.specs.declared.keyword_names.TheConstants.{INSTANCEOF}
use Rattle.rf_jtree.specs.declared.words.Kw.{Kw}
use Rattle.rf_jtree.specs.ExprFits.{begins_operand}
use Rattle.rf_jtree.specs.Kinds.{IsOp, IsKey, is_op_of, has_op}
use Rattle.rf_jtree.specs.Levels.{binary_level, op_level}
use Rattle.rf_jexpr.specs.Reads.{is_op, is_key, begins}
use Rattle.rf_jexpr.proofs.Tools.{both, and_true, is_op-IsOp}
use Rattle.rf_jexpr.specs.Stops.{joins, tests_used_type, asks, assigns, goes_on, stops, Stops}

-- ---- tests

pub or_false : (one other : Bool) → (one || other) ≡ false → (one ≡ false) × (other ≡ false)
or_false false false h = (refl, refl)
or_false false true h = cc
or_false true other h = cc

pub false_or : (one other : Bool) → one ≡ false → other ≡ false → (one || other) ≡ false
false_or false false h k = refl
false_or false true h k = cc
false_or true other h k = cc

pub false_and : (one other : Bool) → one ≡ false → (one && other) ≡ false
false_and false other h = refl
false_and true other h = cc

pub not_true : (one : Bool) → IsTrue (not one) → one ≡ false
not_true true h = cc
not_true false h = refl

pub not_false : (one : Bool) → one ≡ false → IsTrue (not one)
not_false true h = cc
not_false false h = refl

-- one test fails wherever a weaker one does
pub weaker : (one other : Bool) → (IsTrue one → IsTrue other) → other ≡ false → one ≡ false
weaker true other implies h = absurd (cc (implies refl))
weaker false other implies h = refl

or_true : (one other : Bool) → IsTrue (one || other) → IsTrue one ⊎ IsTrue other
or_true true other h = inl refl
or_true false other h = inr h

-- An operator of a list fails a test that each of the list fails.
pub apart : (test : Op → Bool) (ops : List Op) → IsTrue (list_all (λ op. not (test op)) ops) → (op : Op) → IsTrue (has_op ops op) → test op ≡ false
apart test [] each op h = cc
apart test (other ∷ ops) each op h =
    let parts = both (not (test other)) (list_all (λ (op : Op). not (test op)) ops) each in
    elim (or_true (other.0 == op.0) (has_op ops op) h) [
      | inl same ↦ subst (λ (n : ℕ). test (record { 0 = n }) ≡ false) (eqb-true other.0 op.0 same) (not_true (test other) parts.0)
      | inr there ↦ apart test ops parts.1 op there
    ]

-- So does a token with such an operator, where the test looks at its kind.
pub apart_tok : (test : TokKind → Bool) (ops : List Op) → IsTrue (list_all (λ op. not (test (kind.Op op))) ops) → (tok : Tok) → IsTrue (is_op_of ops tok) → test tok.kind ≡ false
apart_tok test ops each tok h = by_kind tok.kind refl
  where
    by_kind : (k : TokKind) → tok.kind ≡ k → test tok.kind ≡ false
    by_kind (kind.Op op) e = rw e (apart (λ (o : Op). test (kind.Op o)) ops each op (rw e at h))
    by_kind other e = absurd (cc (rw e at h))

-- ---- what follows

-- With these tokens behind it, an expression of this level is over, test by test.
pub record Stopped (level : ℕ) (toks : List Tok) : Type 0 where
  pub dot : begins (is_op DOT) toks ≡ false
  pub bracket : begins (is_op LEFT_BRACKET) toks ≡ false
  pub suffix : begins (is_op_of SUFFIXES) toks ≡ false
  pub operand : begins begins_operand toks ≡ false
  pub operator : begins (joins level) toks ≡ false
  pub instance : begins (tests_used_type level) toks ≡ false
  pub question : begins (asks level) toks ≡ false
  pub assignment : begins (assigns level) toks ≡ false

pub stopped : (level : ℕ) (toks : List Tok) → Stops level toks → Stopped level toks
unfolding stops begins goes_on
stopped level [] h = record { dot = refl; bracket = refl; suffix = refl; operand = refl; operator = refl; instance = refl; question = refl; assignment = refl }
stopped level (tok ∷ toks) h =
    let a = or_false _ _ (not_true _ h) in
    let b = or_false _ _ a.1 in
    let c = or_false _ _ b.1 in
    let d = or_false _ _ c.1 in
    let e = or_false _ _ d.1 in
    let f = or_false _ _ e.1 in
    let g = or_false _ _ f.1 in
    record { dot = a.0; bracket = b.0; suffix = c.0; operand = d.0; operator = e.0; instance = f.0; question = g.0; assignment = g.1 }

pub stops_of : (level : ℕ) (toks : List Tok) → Stopped level toks → Stops level toks
unfolding stops begins goes_on
stops_of level [] s = refl
stops_of level (tok ∷ toks) s =
    not_false _ (false_or _ _ s.dot (false_or _ _ s.bracket (false_or _ _ s.suffix (false_or _ _ s.operand (false_or _ _ s.operator (false_or _ _ s.instance (false_or _ _ s.question s.assignment)))))))

-- What stops an expression stops a tighter one.
le_weaker : (level tighter n : ℕ) → level ≤ tighter → IsTrue (nat_le tighter n) → IsTrue (nat_le level n)
le_weaker level tighter n h k = le-leb level n (omega (arith, leb-true tighter n k))

and_weaker : (one other third : Bool) → (IsTrue one → IsTrue other) → IsTrue (one && third) → IsTrue (other && third)
and_weaker one other third implies h = let parts = both one third h in and_true other third (implies parts.0) parts.1

pub begins_weaker : (test weak : Tok → Bool) → ((tok : Tok) → IsTrue (test tok) → IsTrue (weak tok)) → (toks : List Tok) → begins weak toks ≡ false → begins test toks ≡ false
unfolding begins
begins_weaker test weak implies [] h = refl
begins_weaker test weak implies (tok ∷ toks) h = weaker (test tok) (weak tok) (implies tok) h

pub stops_tighter : (level tighter : ℕ) → level ≤ tighter → (toks : List Tok) → Stops level toks → Stops tighter toks
unfolding joins tests_used_type asks assigns
stops_tighter level tighter h toks k =
    let s = stopped level toks k in
    stops_of tighter toks (record {
      dot = s.dot;
      bracket = s.bracket;
      suffix = s.suffix;
      operand = s.operand;
      operator = begins_weaker (joins tighter) (joins level) (λ tok. and_weaker _ _ _ (le_weaker level tighter (binary_level tok) h)) toks s.operator;
      instance = begins_weaker (tests_used_type tighter) (tests_used_type level) (λ tok. and_weaker _ _ _ (le_weaker level tighter COMPARISON_LEVEL h)) toks s.instance;
      question = begins_weaker (asks tighter) (asks level) (λ tok. and_weaker _ _ _ (le_weaker level tighter CONDITIONAL_LEVEL h)) toks s.question;
      assignment = begins_weaker (assigns tighter) (assigns level) (λ tok. and_weaker _ _ _ (le_weaker level tighter ASSIGNMENT_LEVEL h)) toks s.assignment;
    })

-- The end stops each expression, and so do the tokens that end a part.
pub stops_end : (level : ℕ) → Stops level []
unfolding stops begins
stops_end level = refl

pub stops_comma : (tok : Tok) (toks : List Tok) → IsOp COMMA tok → Stops ASSIGNMENT_LEVEL (tok ∷ toks)
unfolding stops begins goes_on joins tests_used_type asks assigns is_op is_key
stops_comma tok toks h = rw h refl

pub stops_semicolon : (tok : Tok) (toks : List Tok) → IsOp SEMICOLON tok → Stops ASSIGNMENT_LEVEL (tok ∷ toks)
unfolding stops begins goes_on joins tests_used_type asks assigns is_op is_key
stops_semicolon tok toks h = rw h refl

pub stops_colon : (tok : Tok) (toks : List Tok) → IsOp COLON tok → Stops ASSIGNMENT_LEVEL (tok ∷ toks)
unfolding stops begins goes_on joins tests_used_type asks assigns is_op is_key
stops_colon tok toks h = rw h refl

pub stops_paren : (tok : Tok) (toks : List Tok) → IsOp RIGHT_PAREN tok → Stops ASSIGNMENT_LEVEL (tok ∷ toks)
unfolding stops begins goes_on joins tests_used_type asks assigns is_op is_key
stops_paren tok toks h = rw h refl

pub stops_bracket : (tok : Tok) (toks : List Tok) → IsOp RIGHT_BRACKET tok → Stops ASSIGNMENT_LEVEL (tok ∷ toks)
unfolding stops begins goes_on joins tests_used_type asks assigns is_op is_key
stops_bracket tok toks h = rw h refl

pub stops_brace : (tok : Tok) (toks : List Tok) → IsOp RIGHT_BRACE tok → Stops ASSIGNMENT_LEVEL (tok ∷ toks)
unfolding stops begins goes_on joins tests_used_type asks assigns is_op is_key
stops_brace tok toks h = rw h refl

-- A `?` stops what is tighter than a conditional, an assignment operator what is no assignment, and so on.
pub stops_question : (tok : Tok) (toks : List Tok) → IsOp QUESTION tok → Stops OR_OR_LEVEL (tok ∷ toks)
unfolding stops begins goes_on joins tests_used_type asks assigns is_op is_key
stops_question tok toks h = rw h refl

pub stops_instanceof : (tok : Tok) (toks : List Tok) → IsKey INSTANCEOF tok → Stops SHIFT_LEVEL (tok ∷ toks)
unfolding stops begins goes_on joins tests_used_type asks assigns is_op is_key
stops_instanceof tok toks h = rw h refl

unfoldable pub of_kind : TokKind → Tok
of_kind k = record { kind = k; lead = []; text = [] }

pub stops_assigns : (tok : Tok) (toks : List Tok) → IsTrue (is_op_of ASSIGNMENTS tok) → Stops CONDITIONAL_LEVEL (tok ∷ toks)
unfolding stops begins goes_on joins tests_used_type asks assigns is_op is_key of_kind
stops_assigns tok toks h = not_false _ (apart_tok (λ k. goes_on CONDITIONAL_LEVEL (of_kind k)) ASSIGNMENTS refl tok h)

-- a binary operator is none of these
no_operator : (ops : List Op) → IsTrue (list_all (λ op. not (nat_le OR_OR_LEVEL (op_level op))) ops) → (tok : Tok) → OR_OR_LEVEL ≤ binary_level tok → is_op_of ops tok ≡ false
unfolding of_kind
no_operator ops each tok h = weaker (is_op_of ops tok) false (λ is. sym (apart_tok (λ k. nat_le OR_OR_LEVEL (binary_level (of_kind k))) ops each tok is) ∙ le-leb OR_OR_LEVEL (binary_level tok) h) refl

pub no_op : (op : Op) → op_level op ≡ 0 → (tok : Tok) → OR_OR_LEVEL ≤ binary_level tok → is_op op tok ≡ false
no_op op none tok h = weaker (is_op op tok) false (λ is. absurd (no (is_op-IsOp op tok is))) refl
  where
    no : IsOp op tok → ⊥
    no is = let same : binary_level tok ≡ 0 = rw is none in omega arith

-- it is an operator
pub data IsOperator (tok : Tok) : Type 0 where
  an_op : (op : Op) → tok.kind ≡ kind.Op op → IsOperator tok

pub binary_is_op : (tok : Tok) → OR_OR_LEVEL ≤ binary_level tok → IsOperator tok
binary_is_op tok h = by_kind tok.kind refl
  where
    by_kind : (k : TokKind) → tok.kind ≡ k → IsOperator tok
    by_kind (kind.Op op) e = an_op op e
    by_kind other e = let same : binary_level tok ≡ 0 = rw e refl in absurd (omega arith)

no_operand : (tok : Tok) → OR_OR_LEVEL ≤ binary_level tok → begins_operand tok ≡ false
no_operand tok h = elim (binary_is_op tok h) [ an_op op e ↦ rw e (rw e at (no_operator OPERAND_OPERATORS refl tok h)) ]

pub no_word : (word : Kw) (tok : Tok) → OR_OR_LEVEL ≤ binary_level tok → is_key word tok ≡ false
unfolding is_key
no_word word tok h = elim (binary_is_op tok h) [ an_op op e ↦ rw e refl ]

and_false : (one : Bool) → (one && false) ≡ false
and_false true = refl
and_false false = refl

-- A binary operator stops what is tighter.
pub stops_operator : (level : ℕ) (tok : Tok) (toks : List Tok) → OR_OR_LEVEL ≤ binary_level tok → binary_level tok < level → Stops level (tok ∷ toks)
unfolding begins joins tests_used_type asks assigns
stops_operator level tok toks h k = stops_of level (tok ∷ toks) (record {
  dot = no_op DOT refl tok h;
  bracket = no_op LEFT_BRACKET refl tok h;
  suffix = no_operator SUFFIXES refl tok h;
  operand = no_operand tok h;
  operator = false_and _ _ (lt-leb level (binary_level tok) k);
  instance = ap (λ b. nat_le level COMPARISON_LEVEL && b) (no_word INSTANCEOF tok h) ∙ and_false (nat_le level COMPARISON_LEVEL);
  question = ap (λ b. nat_le level CONDITIONAL_LEVEL && b) (no_op QUESTION refl tok h) ∙ and_false (nat_le level CONDITIONAL_LEVEL);
  assignment = ap (λ b. nat_le level ASSIGNMENT_LEVEL && b) (no_operator ASSIGNMENTS refl tok h) ∙ and_false (nat_le level ASSIGNMENT_LEVEL);
})
