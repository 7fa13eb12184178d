-- Binary operators and `instanceof` are read where they stand, at each level.
use Rattle.std.proofs.Common.{◌≡◌, ℕ, suc, ◌+◌, ◌≤◌, List, [], ◌∷◌, ◌++◌, Option, Some, None, false, IsTrue, ◌&&◌, nat_le, length, refl, ◌∙◌, arith, append_assoc}
use Rattle.std.proofs.lemmas.Bool.{le-leb, lt-leb, leb-true}
use Rattle.rf_jtree.specs.declared.tokens.Tok.{Tok}
use Rattle.rf_jtree.specs.declared.levels.TheConstants.{OR_OR_LEVEL, COMPARISON_LEVEL, SHIFT_LEVEL, UNARY_LEVEL}
use Rattle.rf_jtree.specs.declared.keyword_names.TheConstants.{INSTANCEOF}
use Rattle.rf_jtree.specs.ExprFits.{ExprFits}
use Rattle.rf_jtree.specs.ExprTrees.{ExprTree, Assign, Cond, Binary, Instance, expr_yield, expr_depth}
use Rattle.rf_jtree.specs.Kinds.{IsKey}
use Rattle.rf_jtree.specs.Levels.{BindsAt, binary_level, expr_level}
use Rattle.rf_jtree.specs.NameFits.{TypeFits}
use Rattle.rf_jtree.specs.NameTrees.{TypeUseTree, type_yield}
use Rattle.rf_jexpr.specs.Descent.{takes_left, operation, instance, operator, binary}
use Rattle.rf_jexpr.specs.NameReads.{type_use}
use Rattle.rf_jexpr.specs.PartReads.{Parsers}
use Rattle.rf_jexpr.specs.Reads.{◌>>=◌, is_key, begins}
use Rattle.rf_jexpr.specs.Stops.{joins, tests_used_type, asks, assigns, Stops}
use Rattle.rf_jexpr.proofs.Bounded.{operator-bounded}
use Rattle.rf_jexpr.proofs.CompleteFirst.{when-None}
use Rattle.rf_jexpr.proofs.CompleteNames.{no_brackets, type_use-exact, type_use-far}
use Rattle.rf_jexpr.proofs.CompleteParts.{AreComplete}
use Rattle.rf_jexpr.proofs.CompleteUnary.{unary-exact, unary-far}
use Rattle.rf_jexpr.proofs.First.{binary_level_less}
use Rattle.rf_jexpr.proofs.SoundParts.{Good}
use Rattle.rf_jexpr.proofs.Standing.{Stands, stands_first, stands_turn, stands_over, stands_turn_far}
use Rattle.rf_jexpr.proofs.StopLemmas.{stopped, stops_of, stops_tighter, stops_operator, stops_instanceof, begins_weaker, no_word, false_and, weaker}
use Rattle.rf_jexpr.proofs.Tools.{holds, fails, whether, both, and_true, bind-Some, bind-None, when-true, when-false, if-true, if-false, token-at, token-other, IsKey-is_key}
use Rattle.rf_jexpr.proofs.Within.{Reaches, reaches-Some, reaches-bind, reaches-chain}

-- ---- what stops an expression of some level stops an operand

no_joins : (rest : List Tok) → begins (joins UNARY_LEVEL) rest ≡ false
unfolding begins joins
no_joins [] = refl
no_joins (tok ∷ rest) = false_and _ _ (lt-leb UNARY_LEVEL (binary_level tok) (binary_level_less tok))

no_tests : (rest : List Tok) → begins (tests_used_type UNARY_LEVEL) rest ≡ false
unfolding begins tests_used_type
no_tests [] = refl
no_tests (tok ∷ rest) = refl

no_asks : (rest : List Tok) → begins (asks UNARY_LEVEL) rest ≡ false
unfolding begins asks
no_asks [] = refl
no_asks (tok ∷ rest) = refl

no_assigns : (rest : List Tok) → begins (assigns UNARY_LEVEL) rest ≡ false
unfolding begins assigns
no_assigns [] = refl
no_assigns (tok ∷ rest) = refl

pub stops_unary : (level : ℕ) (rest : List Tok) → Stops level rest → Stops UNARY_LEVEL rest
stops_unary level rest stops =
    let s = stopped level rest stops in
    stops_of UNARY_LEVEL rest (record {
      dot = s.dot;
      bracket = s.bracket;
      suffix = s.suffix;
      operand = s.operand;
      operator = no_joins rest;
      instance = no_tests rest;
      question = no_asks rest;
      assignment = no_assigns rest;
    })

-- ---- levels

abbrev IsNoOperation : ExprTree → Type 0
IsNoOperation (Binary left op right) = ⊥
IsNoOperation (Instance operand word used_type) = ⊥
IsNoOperation expr = Unit {0}

unary_level : (expr : ExprTree) → IsNoOperation expr → OR_OR_LEVEL ≤ expr_level expr → BindsAt UNARY_LEVEL expr
unary_level (Binary left op right) other binds = absurd other
unary_level (Instance operand word used_type) other binds = absurd other
unary_level expr other binds = omega arith

level_left : (least : ℕ) (op : Tok) (left : ExprTree) → BindsAt (binary_level op) left → least ≤ binary_level op → least ≤ expr_level left
level_left least op left h k = omega arith

level_operand : (least : ℕ) (operand : ExprTree) → BindsAt COMPARISON_LEVEL operand → least ≤ COMPARISON_LEVEL → least ≤ expr_level operand
level_operand least operand h k = omega arith

-- An operator stops its left operand.
before_operator : (left : ExprTree) (op : Tok) (toks : List Tok) → OR_OR_LEVEL ≤ binary_level op → BindsAt (binary_level op) left → Stops (suc (expr_level left)) (op ∷ toks)
before_operator left op toks is binds = stops_operator (suc (expr_level left)) op toks is (omega arith)

before_instanceof : (operand : ExprTree) (word : Tok) (toks : List Tok) → IsKey INSTANCEOF word → BindsAt COMPARISON_LEVEL operand → Stops (suc (expr_level operand)) (word ∷ toks)
before_instanceof operand word toks is binds = stops_tighter SHIFT_LEVEL (suc (expr_level operand)) (omega arith) (word ∷ toks) (stops_instanceof word toks is)

module _ (m : ℕ) (p : Parsers) (c : AreComplete m p) (least : ℕ) (some : OR_OR_LEVEL ≤ least) where
  -- ---- a turn

  operation_read : (left : ExprTree) (op : Tok) (toks : List Tok) → expr_depth left ≤ m → least ≤ binary_level op → binary_level op ≤ expr_level left → (z : Option (ExprTree × List Tok))
      → (p.binary (binary_level op + 1) toks >>= λ right. Some (Binary left op right.0, right.1)) ≡ z → operator m p least left (op ∷ toks) ≡ z
  unfolding operator operation takes_left begins
  operation_read left op toks shallow enough binds z h =
      when-true _ _ (le-leb (expr_depth left) m shallow) ∙ if-false _ _ _ (no_word INSTANCEOF op (omega arith)) ∙
      bind-Some _ _ _ _ (token-at (takes_left least left) op toks (and_true _ _ (le-leb least (binary_level op) enough) (le-leb (binary_level op) (expr_level left) binds))) h

  instance_read : (operand : ExprTree) (word : Tok) (toks : List Tok) → expr_depth operand ≤ m → least ≤ COMPARISON_LEVEL → COMPARISON_LEVEL ≤ expr_level operand → IsKey INSTANCEOF word → (z : Option (ExprTree × List Tok))
      → (type_use toks >>= λ used_type. Some (Instance operand word used_type.0, used_type.1)) ≡ z → operator m p least operand (word ∷ toks) ≡ z
  unfolding operator instance begins
  instance_read operand word toks shallow enough binds is z h =
      when-true _ _ (le-leb (expr_depth operand) m shallow) ∙ if-true _ _ _ (IsKey-is_key INSTANCEOF word is) ∙
      bind-Some _ _ _ _ (when-true _ _ (and_true _ _ (le-leb least COMPARISON_LEVEL enough) (le-leb COMPARISON_LEVEL (expr_level operand) binds)) ∙ token-at (is_key INSTANCEOF) word toks (IsKey-is_key INSTANCEOF word is)) h

  -- and none
  no_instance : (rest : List Tok) → begins (tests_used_type least) rest ≡ false → IsTrue (begins (is_key INSTANCEOF) rest) → nat_le least COMPARISON_LEVEL ≡ false
  unfolding begins tests_used_type
  no_instance [] none is = absurd (cc)
  no_instance (tok ∷ rest) none is = weaker (nat_le least COMPARISON_LEVEL) (nat_le least COMPARISON_LEVEL && is_key INSTANCEOF tok) (λ enough. and_true _ _ enough is) none

  takes_joins : (left : ExprTree) (tok : Tok) → IsTrue (takes_left least left tok) → IsTrue (joins least tok)
  unfolding takes_left joins
  takes_joins left tok h =
      let enough = (both _ _ h).0 in
      let order : least ≤ binary_level tok = leb-true least (binary_level tok) enough in
      and_true _ _ enough (le-leb OR_OR_LEVEL (binary_level tok) (omega arith))

  no_operator : (left : ExprTree) (rest : List Tok) → Stops least rest → operator m p least left rest ≡ None
  unfolding operator instance operation
  no_operator left rest stops =
      let s = stopped least rest stops in
      when-None _ _ (elim (whether (begins (is_key INSTANCEOF) rest)) [
        | holds is ↦ if-true _ _ _ is ∙ bind-None _ _ (when-false _ _ (false_and _ _ (no_instance rest s.instance is)))
        | fails not_is ↦ if-false _ _ _ not_is ∙ bind-None _ _ (token-other _ rest (begins_weaker (takes_left least left) (joins least) (takes_joins left) rest s.operator))
      ])

  -- ---- the loop

  abbrev StandsAt : ExprTree → List Tok → Type 0
  StandsAt = Stands m (binary m p least) (operator m p least)

  at_unary : (expr : ExprTree) (rest : List Tok) → ExprFits expr → BindsAt UNARY_LEVEL expr → expr_depth expr ≤ suc m → Stops UNARY_LEVEL rest → StandsAt expr rest
  unfolding binary
  at_unary expr rest fit binds shallow stops = stands_first m (binary m p least) (operator m p least) expr rest (bind-Some _ _ _ _ (unary-exact m p c expr rest fit binds shallow stops) refl)

  right_exact : (op : Tok) (right : ExprTree) (rest : List Tok) → OR_OR_LEVEL ≤ binary_level op → ExprFits right → BindsAt (binary_level op + 1) right → expr_depth right ≤ m → Stops (suc (binary_level op)) rest
      → p.binary (binary_level op + 1) (expr_yield right ++ rest) ≡ Some (right, rest)
  right_exact op right rest is fit binds shallow stops =
      (c.binary (binary_level op + 1) (omega arith)).exact right rest (record { fits = fit; binds = binds; shallow = shallow }) (stops_tighter (suc (binary_level op)) (binary_level op + 1) (omega arith) rest stops)

  stands : (expr : ExprTree) (rest : List Tok) → ExprFits expr → least ≤ expr_level expr → expr_depth expr ≤ suc m → Stops (suc (expr_level expr)) rest → StandsAt expr rest
  stands (Binary left op right) rest fit binds shallow stops =
      stands_turn m (binary m p least) (operator m p least) left (Binary left op right) (op ∷ (expr_yield right ++ rest)) rest
      (stands left (op ∷ (expr_yield right ++ rest)) fit.1 (level_left least op left fit.0.left_binds binds) (omega arith) (before_operator left op _ fit.0.op_is fit.0.left_binds)) (omega arith) (omega arith)
      (append_assoc (expr_yield left) (op ∷ expr_yield right) rest)
      (operation_read left op _ (omega arith) binds fit.0.left_binds _ (bind-Some _ _ _ _ (right_exact op right rest fit.0.op_is fit.2 fit.0.right_binds (omega arith) stops) refl))
  stands (Instance operand word used_type) rest fit binds shallow stops =
      let s = stopped SHIFT_LEVEL rest stops in
      stands_turn m (binary m p least) (operator m p least) operand (Instance operand word used_type) (word ∷ (type_yield used_type ++ rest)) rest
      (stands operand (word ∷ (type_yield used_type ++ rest)) fit.1 (level_operand least operand fit.0.operand_binds binds) (omega arith) (before_instanceof operand word _ fit.0.word_is fit.0.operand_binds)) (omega arith) (omega arith)
      (append_assoc (expr_yield operand) (word ∷ type_yield used_type) rest)
      (instance_read operand word _ (omega arith) binds fit.0.operand_binds fit.0.word_is _ (bind-Some _ _ _ _ (type_use-exact used_type rest fit.2 (s.dot, no_brackets rest s.bracket)) refl))
  stands (Assign left op operand) rest fit binds shallow stops = absurd (omega arith)
  stands (Cond test mark first colon other) rest fit binds shallow stops = absurd (omega arith)
  stands expr rest fit binds shallow stops = at_unary expr rest fit (unary_level expr tt (omega arith)) shallow (stops_unary (suc (expr_level expr)) rest stops)

  -- ---- the reader

  pub binary-exact : (expr : ExprTree) (rest : List Tok) → Good least (suc m) expr → Stops least rest → binary m p least (expr_yield expr ++ rest) ≡ Some (expr, rest)
  binary-exact expr rest good stops =
      let binds : least ≤ expr_level expr = good.binds in
      stands_over m (binary m p least) (operator m p least) expr rest
      (stands expr rest good.fits binds good.shallow (stops_tighter least (suc (expr_level expr)) (omega arith) rest stops)) (no_operator expr rest stops)

  turn_far : (operand expr : ExprTree) (between rest : List Tok) → StandsAt operand between → expr_depth operand ≤ m
      → expr_yield expr ++ rest ≡ expr_yield operand ++ between → Reaches (length rest) (operator m p least operand between) → Reaches (length rest) (binary m p least (expr_yield expr ++ rest))
  turn_far = stands_turn_far m (binary m p least) (operator m p least) (operator-bounded p c.bounded m least)

  unary_reach : (expr : ExprTree) (rest : List Tok) → ExprFits expr → BindsAt UNARY_LEVEL expr → expr_depth expr ≤ suc m → Reaches (length rest) (binary m p least (expr_yield expr ++ rest))
  unfolding binary
  unary_reach expr rest fit binds shallow =
      reaches-bind (length rest) _ _ (unary-far m p c expr rest fit binds shallow) (λ first k. reaches-chain (operator m p least) (operator-bounded p c.bounded m least) (suc m) (length rest) first.0 first.1 k)

  operation_far : (left : ExprTree) (op : Tok) (right : ExprTree) (rest : List Tok) → expr_depth left ≤ m → least ≤ binary_level op → BindsAt (binary_level op) left → ExprFits right → BindsAt (binary_level op + 1) right → expr_depth right ≤ m
      → Reaches (length rest) (operator m p least left (op ∷ (expr_yield right ++ rest)))
  operation_far left op right rest shallow enough binds fit right_binds right_shallow =
      let far = (c.binary (binary_level op + 1) (omega arith)).far right rest (record { fits = fit; binds = right_binds; shallow = right_shallow }) in
      reaches-Some (length rest) _ (Binary left op far.to.0, far.to.1) (operation_read left op _ shallow enough binds _ (bind-Some _ _ _ _ far.reads refl)) far.left

  instance_far : (operand : ExprTree) (word : Tok) (used_type : TypeUseTree) (rest : List Tok) → expr_depth operand ≤ m → least ≤ COMPARISON_LEVEL → BindsAt COMPARISON_LEVEL operand → IsKey INSTANCEOF word → TypeFits used_type
      → Reaches (length rest) (operator m p least operand (word ∷ (type_yield used_type ++ rest)))
  instance_far operand word used_type rest shallow enough binds is fit =
      let far = type_use-far used_type rest fit in
      reaches-Some (length rest) _ (Instance operand word far.to.0, far.to.1) (instance_read operand word _ shallow enough binds is _ (bind-Some _ _ _ _ far.reads refl)) far.left

  pub binary-far : (expr : ExprTree) (rest : List Tok) → Good least (suc m) expr → Reaches (length rest) (binary m p least (expr_yield expr ++ rest))
  binary-far expr rest good = by_form expr rest good.fits good.binds good.shallow
    where
      by_form : (expr : ExprTree) (rest : List Tok) → ExprFits expr → least ≤ expr_level expr → expr_depth expr ≤ suc m → Reaches (length rest) (binary m p least (expr_yield expr ++ rest))
      by_form (Binary left op right) rest fit binds shallow =
          turn_far left (Binary left op right) (op ∷ (expr_yield right ++ rest)) rest
          (stands left (op ∷ (expr_yield right ++ rest)) fit.1 (level_left least op left fit.0.left_binds binds) (omega arith) (before_operator left op _ fit.0.op_is fit.0.left_binds)) (omega arith)
          (append_assoc (expr_yield left) (op ∷ expr_yield right) rest) (operation_far left op right rest (omega arith) binds fit.0.left_binds fit.2 fit.0.right_binds (omega arith))
      by_form (Instance operand word used_type) rest fit binds shallow =
          turn_far operand (Instance operand word used_type) (word ∷ (type_yield used_type ++ rest)) rest
          (stands operand (word ∷ (type_yield used_type ++ rest)) fit.1 (level_operand least operand fit.0.operand_binds binds) (omega arith) (before_instanceof operand word _ fit.0.word_is fit.0.operand_binds)) (omega arith)
          (append_assoc (expr_yield operand) (word ∷ type_yield used_type) rest) (instance_far operand word used_type rest (omega arith) binds fit.0.operand_binds fit.0.word_is fit.2)
      by_form (Assign left op operand) rest fit binds shallow = absurd (omega arith)
      by_form (Cond test mark first colon other) rest fit binds shallow = absurd (omega arith)
      by_form expr rest fit binds shallow = unary_reach expr rest fit (unary_level expr tt (omega arith)) shallow
