-- Whole expressions are read where they stand, in each room.
use Rattle.std.proofs.Common.{◌≡◌, ℕ, suc, ◌≤◌, List, ◌∷◌, ◌++◌, Option, Some, None, IsTrue, length, refl, ap, ◌∙◌, arith, append_assoc, le_refl}
use Rattle.std.proofs.lemmas.Bool.{le-leb}
use Rattle.rf_jtree.specs.declared.tokens.Tok.{Tok}
use Rattle.rf_jtree.specs.declared.levels.TheConstants.{ASSIGNMENT_LEVEL, CONDITIONAL_LEVEL, OR_OR_LEVEL}
use Rattle.rf_jtree.specs.declared.operator_names.TheConstants.{QUESTION, COLON, ASSIGNMENTS}
use Rattle.rf_jtree.specs.ExprFits.{ExprFits, IsLeftSide}
use Rattle.rf_jtree.specs.ExprTrees.{ExprTree, Assign, Cond, Binary, Name, Field, Super, Index, NoArgs, SuperArgs, expr_yield, expr_depth}
use Rattle.rf_jtree.specs.Kinds.{IsOp, is_op_of}
use Rattle.rf_jtree.specs.Levels.{BindsAt, binary_level}
use Rattle.rf_jexpr.specs.Descent.{choice, conditional, is_left_side, assignment, expr}
use Rattle.rf_jexpr.specs.PartReads.{Parsers}
use Rattle.rf_jexpr.specs.Reads.{◌>>=◌, or_else, is_op}
use Rattle.rf_jexpr.specs.Stops.{asks, assigns, Stops}
use Rattle.rf_jexpr.proofs.Bounded.{choice-bounded, assignment-bounded}
use Rattle.rf_jexpr.proofs.CompleteBinary.{binary-exact, binary-far}
use Rattle.rf_jexpr.proofs.CompleteFirst.{when-None}
use Rattle.rf_jexpr.proofs.CompleteParts.{AreComplete, reads-same}
use Rattle.rf_jexpr.proofs.SoundParts.{Good}
use Rattle.rf_jexpr.proofs.StopLemmas.{stopped, stops_tighter, stops_question, stops_colon, stops_assigns, begins_weaker}
use Rattle.rf_jexpr.proofs.Tools.{and_true, bind-Some, bind-None, else-Some, else-None, when-true, token-at, token-other, IsOp-is_op}
use Rattle.rf_jexpr.proofs.Within.{Reaches, reaches-Some, reaches-bind, reaches-else}

module _ (m : ℕ) (p : Parsers) (c : AreComplete m p) where
  -- ---- `?:`

  good_at : (level room : ℕ) (expr : ExprTree) → ExprFits expr → BindsAt level expr → expr_depth expr ≤ room → Good level room expr
  good_at level room expr fit binds shallow = record { fits = fit; binds = binds; shallow = shallow }

  no_choice : (test : ExprTree) (rest : List Tok) → Stops CONDITIONAL_LEVEL rest → choice m p test rest ≡ None
  unfolding choice asks
  no_choice test rest stops = bind-None _ _ (when-None _ _ (token-other (is_op QUESTION) rest (begins_weaker (is_op QUESTION) (asks CONDITIONAL_LEVEL) (λ tok h. h) rest (stopped CONDITIONAL_LEVEL rest stops).question)))

  -- up to the third part
  choice_read : (test : ExprTree) (mark : Tok) (first : ExprTree) (colon : Tok) (toks : List Tok) → expr_depth test ≤ m → IsOp QUESTION mark → Good ASSIGNMENT_LEVEL m first → IsOp COLON colon → (z : Option (ExprTree × List Tok))
      → (p.conditional toks >>= λ other. Some (Cond test mark first colon other.0, other.1)) ≡ z → choice m p test (mark ∷ (expr_yield first ++ colon ∷ toks)) ≡ z
  unfolding choice
  choice_read test mark first colon toks shallow mark_is good colon_is z h =
      bind-Some _ _ _ _ (when-true _ _ (le-leb (expr_depth test) m shallow) ∙ token-at (is_op QUESTION) mark _ (IsOp-is_op QUESTION mark mark_is))
      (bind-Some _ _ _ _ (c.expr.exact first (colon ∷ toks) good (stops_colon colon toks colon_is))
      (bind-Some _ _ _ _ (token-at (is_op COLON) colon toks (IsOp-is_op COLON colon colon_is)) h))

  choice_tokens : (test : ExprTree) (mark : Tok) (first : ExprTree) (colon : Tok) (other : ExprTree) (rest : List Tok) → expr_yield (Cond test mark first colon other) ++ rest ≡ expr_yield test ++ mark ∷ (expr_yield first ++ colon ∷ (expr_yield other ++ rest))
  choice_tokens test mark first colon other rest =
      append_assoc (expr_yield test) (mark ∷ (expr_yield first ++ colon ∷ expr_yield other)) rest ∙ ap (λ others. expr_yield test ++ mark ∷ others) (append_assoc (expr_yield first) (colon ∷ expr_yield other) rest)

  test_read : (test : ExprTree) (mark : Tok) (toks : List Tok) → Good OR_OR_LEVEL (suc m) test → IsOp QUESTION mark → (z : Option (ExprTree × List Tok)) → or_else (choice m p test (mark ∷ toks)) (Some (test, mark ∷ toks)) ≡ z → conditional m p (expr_yield test ++ mark ∷ toks) ≡ z
  unfolding conditional
  test_read test mark toks good is z h = bind-Some _ _ _ _ (binary-exact m p c OR_OR_LEVEL (le_refl OR_OR_LEVEL) test (mark ∷ toks) good (stops_question mark toks is)) h

  abbrev IsNoChoice : ExprTree → Type 0
  IsNoChoice (Cond test mark first colon other) = ⊥
  IsNoChoice expr = Unit {0}

  or_level : (expr : ExprTree) → IsNoChoice expr → ExprFits expr → BindsAt CONDITIONAL_LEVEL expr → BindsAt OR_OR_LEVEL expr
  or_level (Cond test mark first colon other) no_choice fit binds = absurd no_choice
  or_level (Binary left op right) no_choice fit binds = fit.0.op_is
  or_level expr no_choice fit binds = omega arith

  test_alone : (expr : ExprTree) (rest : List Tok) → Good OR_OR_LEVEL (suc m) expr → Stops CONDITIONAL_LEVEL rest → conditional m p (expr_yield expr ++ rest) ≡ Some (expr, rest)
  unfolding conditional
  test_alone expr rest good stops =
      bind-Some _ _ _ _ (binary-exact m p c OR_OR_LEVEL (le_refl OR_OR_LEVEL) expr rest good (stops_tighter CONDITIONAL_LEVEL OR_OR_LEVEL (omega arith) rest stops)) (else-None _ _ (no_choice expr rest stops))

  pub conditional_read : (expr : ExprTree) (rest : List Tok) → ExprFits expr → BindsAt CONDITIONAL_LEVEL expr → expr_depth expr ≤ suc m → Stops CONDITIONAL_LEVEL rest → conditional m p (expr_yield expr ++ rest) ≡ Some (expr, rest)
  conditional_read (Cond test mark first colon other) rest fit binds shallow stops =
      reads-same (conditional m p) (choice_tokens test mark first colon other rest)
      (test_read test mark _ (good_at OR_OR_LEVEL (suc m) test fit.1 fit.0.test_binds (omega arith)) fit.0.mark_is _
      (else-Some _ _ _ (choice_read test mark first colon _ (omega arith) fit.0.mark_is (good_at ASSIGNMENT_LEVEL m first fit.2 (omega arith) (omega arith)) fit.0.colon_is _
      (bind-Some _ _ _ _ (c.conditional.exact other rest (good_at CONDITIONAL_LEVEL m other fit.3 fit.0.no_assignment (omega arith)) stops) refl))))
  conditional_read expr rest fit binds shallow stops = test_alone expr rest (good_at OR_OR_LEVEL (suc m) expr fit (or_level expr tt fit binds) shallow) stops

  test_reach : (expr : ExprTree) (rest : List Tok) → Good OR_OR_LEVEL (suc m) expr → Reaches (length rest) (conditional m p (expr_yield expr ++ rest))
  unfolding conditional
  test_reach expr rest good =
      let n = length rest in
      reaches-bind n _ _ (binary-far m p c OR_OR_LEVEL (le_refl OR_OR_LEVEL) expr rest good) (λ test k. reaches-else n _ _ (choice-bounded p c.bounded m test.0 n test.1 k) (reaches-Some n _ _ refl k))

  choice_reach : (test : ExprTree) (mark : Tok) (first : ExprTree) (colon : Tok) (other : ExprTree) (rest : List Tok) → Good OR_OR_LEVEL (suc m) test → expr_depth test ≤ m → IsOp QUESTION mark → Good ASSIGNMENT_LEVEL m first → IsOp COLON colon
      → Reaches (length rest) (p.conditional (expr_yield other ++ rest)) → Reaches (length rest) (conditional m p (expr_yield (Cond test mark first colon other) ++ rest))
  choice_reach test mark first colon other rest good shallow mark_is first_good colon_is far =
      reaches-Some (length rest) _ (Cond test mark first colon far.to.0, far.to.1) (reads-same (conditional m p) (choice_tokens test mark first colon other rest)
      (test_read test mark _ good mark_is _ (else-Some _ _ _ (choice_read test mark first colon _ shallow mark_is first_good colon_is _ (bind-Some _ _ _ _ far.reads refl))))) far.left

  pub conditional_reach : (expr : ExprTree) (rest : List Tok) → ExprFits expr → BindsAt CONDITIONAL_LEVEL expr → expr_depth expr ≤ suc m → Reaches (length rest) (conditional m p (expr_yield expr ++ rest))
  conditional_reach (Cond test mark first colon other) rest fit binds shallow = choice_reach test mark first colon other rest (good_at OR_OR_LEVEL (suc m) test fit.1 fit.0.test_binds (omega arith)) (omega arith) fit.0.mark_is
      (good_at ASSIGNMENT_LEVEL m first fit.2 (omega arith) (omega arith)) fit.0.colon_is (c.conditional.far other rest (good_at CONDITIONAL_LEVEL m other fit.3 fit.0.no_assignment (omega arith)))
  conditional_reach expr rest fit binds shallow = test_reach expr rest (good_at OR_OR_LEVEL (suc m) expr fit (or_level expr tt fit binds) shallow)

  -- ---- assignments

  left_side_test : (left : ExprTree) → IsLeftSide left → IsTrue (is_left_side left)
  unfolding is_left_side
  left_side_test (Name found) h = refl
  left_side_test (Field operand dot id) h = refl
  left_side_test (Super word dot id NoArgs) h = refl
  left_side_test (Super word dot id (SuperArgs list)) h = absurd h
  left_side_test (Index operand left index right) h = refl
  left_side_test expr h = absurd h

  left_side_level : (left : ExprTree) → IsLeftSide left → BindsAt CONDITIONAL_LEVEL left
  left_side_level (Name found) h = omega arith
  left_side_level (Field operand dot id) h = omega arith
  left_side_level (Super word dot id list) h = omega arith
  left_side_level (Index operand left index right) h = omega arith
  left_side_level expr h = absurd h

  no_assignment : (left : ExprTree) (rest : List Tok) → Stops ASSIGNMENT_LEVEL rest → assignment m p left rest ≡ None
  unfolding assignment assigns
  no_assignment left rest stops =
      bind-None _ _ (when-None _ _ (token-other (is_op_of ASSIGNMENTS) rest (begins_weaker (is_op_of ASSIGNMENTS) (assigns ASSIGNMENT_LEVEL) (λ tok h. h) rest (stopped ASSIGNMENT_LEVEL rest stops).assignment)))

  assign_read : (left : ExprTree) (op : Tok) (toks : List Tok) → ExprFits left → IsLeftSide left → expr_depth left ≤ m → IsTrue (is_op_of ASSIGNMENTS op) → (z : ExprTree × List Tok)
      → (p.expr toks >>= λ operand. Some (Assign left op operand.0, operand.1)) ≡ Some z → expr m p (expr_yield left ++ op ∷ toks) ≡ Some z
  unfolding expr assignment
  assign_read left op toks fit side shallow is z h =
      bind-Some _ _ _ _ (conditional_read left (op ∷ toks) fit (left_side_level left side) (omega arith) (stops_assigns op toks is))
      (else-Some _ _ _ (bind-Some _ _ _ _ (when-true _ _ (and_true _ _ (left_side_test left side) (le-leb (expr_depth left) m shallow)) ∙ token-at (is_op_of ASSIGNMENTS) op toks is) h))

  abbrev IsNoAssign : ExprTree → Type 0
  IsNoAssign (Assign left op operand) = ⊥
  IsNoAssign expr = Unit {0}

  conditional_level : (expr : ExprTree) → IsNoAssign expr → ExprFits expr → BindsAt CONDITIONAL_LEVEL expr
  conditional_level (Assign left op operand) no_assign fit = absurd no_assign
  conditional_level (Binary left op right) no_assign fit = let is : OR_OR_LEVEL ≤ binary_level op = fit.0.op_is in omega arith
  conditional_level expr no_assign fit = omega arith

  conditional_alone : (tree : ExprTree) (rest : List Tok) → ExprFits tree → BindsAt CONDITIONAL_LEVEL tree → expr_depth tree ≤ suc m → Stops ASSIGNMENT_LEVEL rest → expr m p (expr_yield tree ++ rest) ≡ Some (tree, rest)
  unfolding expr
  conditional_alone tree rest fit binds shallow stops =
      bind-Some _ _ _ _ (conditional_read tree rest fit binds shallow (stops_tighter ASSIGNMENT_LEVEL CONDITIONAL_LEVEL (omega arith) rest stops)) (else-None _ _ (no_assignment tree rest stops))

  pub expr_read : (tree : ExprTree) (rest : List Tok) → ExprFits tree → expr_depth tree ≤ suc m → Stops ASSIGNMENT_LEVEL rest → expr m p (expr_yield tree ++ rest) ≡ Some (tree, rest)
  expr_read (Assign left op operand) rest fit shallow stops =
      reads-same (expr m p) (append_assoc (expr_yield left) (op ∷ expr_yield operand) rest)
      (assign_read left op _ fit.1 fit.0.left_side (omega arith) fit.0.op_is _ (bind-Some _ _ _ _ (c.expr.exact operand rest (good_at ASSIGNMENT_LEVEL m operand fit.2 (omega arith) (omega arith)) stops) refl))
  expr_read tree rest fit shallow stops = conditional_alone tree rest fit (conditional_level tree tt fit) shallow stops

  conditional_far : (tree : ExprTree) (rest : List Tok) → ExprFits tree → BindsAt CONDITIONAL_LEVEL tree → expr_depth tree ≤ suc m → Reaches (length rest) (expr m p (expr_yield tree ++ rest))
  unfolding expr
  conditional_far tree rest fit binds shallow =
      let n = length rest in
      reaches-bind n _ _ (conditional_reach tree rest fit binds shallow) (λ left k. reaches-else n _ _ (assignment-bounded p c.bounded m left.0 n left.1 k) (reaches-Some n _ _ refl k))

  assign_reach : (left : ExprTree) (op : Tok) (operand : ExprTree) (rest : List Tok) → ExprFits left → IsLeftSide left → expr_depth left ≤ m → IsTrue (is_op_of ASSIGNMENTS op)
      → Reaches (length rest) (p.expr (expr_yield operand ++ rest)) → Reaches (length rest) (expr m p (expr_yield (Assign left op operand) ++ rest))
  assign_reach left op operand rest fit side shallow is far =
      reaches-Some (length rest) _ (Assign left op far.to.0, far.to.1) (reads-same (expr m p) (append_assoc (expr_yield left) (op ∷ expr_yield operand) rest)
      (assign_read left op _ fit side shallow is _ (bind-Some _ _ _ _ far.reads refl))) far.left

  pub expr_reach : (tree : ExprTree) (rest : List Tok) → ExprFits tree → expr_depth tree ≤ suc m → Reaches (length rest) (expr m p (expr_yield tree ++ rest))
  expr_reach (Assign left op operand) rest fit shallow =
      assign_reach left op operand rest fit.1 fit.0.left_side (omega arith) fit.0.op_is (c.expr.far operand rest (good_at ASSIGNMENT_LEVEL m operand fit.2 (omega arith) (omega arith)))
  expr_reach tree rest fit shallow = conditional_far tree rest fit (conditional_level tree tt fit) shallow
