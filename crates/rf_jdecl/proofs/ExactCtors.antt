-- Constructors are read where they stand, where statements are.
use Rattle.std.proofs.Common.{◌≡◌, ℕ, ◌≤◌, max, List, [], ◌∷◌, ◌++◌, Option, Some, None, false, IfSome, refl, ◌∙◌, subst, arith, append_assoc}
use Rattle.rf_jtree.specs.declared.tokens.Tok.{Tok}
use Rattle.rf_jtree.specs.declared.operator_names.TheConstants.{LEFT_PAREN, LEFT_BRACE, RIGHT_BRACE, SEMICOLON}
use Rattle.rf_jtree.specs.declared.keyword_names.TheConstants.{THROWS}
use Rattle.rf_jtree.specs.DeclFits.{CtorCallFits, CtorModsFit, IsCtor}
use Rattle.rf_jtree.specs.DeclTrees.{CtorCallTree, Ctor, ParamsTree, names_yield, params_yield, ctor_call_yield}
use Rattle.rf_jtree.specs.ExprTrees.{args_yield, args_depth}
use Rattle.rf_jtree.specs.Kinds.{IsOp}
use Rattle.rf_jtree.specs.NameTrees.{ManyTree, NameTree, ModTree, option_yield, option_depth}
use Rattle.rf_jtree.specs.StmtFits.{StmtsFit}
use Rattle.rf_jtree.specs.StmtTrees.{StmtsTree, stmts_yield, stmts_depth}
use Rattle.rf_jtree.specs.StmtShown.{stmts_tree}
use Rattle.rf_jexpr.specs.Descent.{parsers}
use Rattle.rf_jexpr.specs.PartReads.{args}
use Rattle.rf_jexpr.specs.Reads.{is_op, is_key, is_ident, begins, optional}
use Rattle.rf_jexpr.proofs.CompleteNames.{Anything}
use Rattle.rf_jexpr.proofs.CompleteParts.{reads-same, args-exact}
use Rattle.rf_jexpr.proofs.CompleteRooms.{parsers-complete}
use Rattle.rf_jexpr.proofs.LoopLemmas.{IsExact, many-none}
use Rattle.rf_jexpr.proofs.Tools.{holds, fails, whether, bind-Some, bind-None, when-true, token-at, token-other, optional-Some, optional-None, IsOp-is_op, IsIdent-is_ident, is_op-IsOp}
use Rattle.rf_jstmt.specs.StmtParts.{stmts}
use Rattle.rf_jstmt.specs.StmtReads.{stmt_parsers}
use Rattle.rf_jstmt.proofs.ExactParts.{AreExactStmts, stmts-exact}
use Rattle.rf_jstmt.proofs.Over.{brace_ends}
use Rattle.rf_jstmt.proofs.SoundParts.{GoodStmts}
use Rattle.rf_jdecl.specs.MemberReads.{calls_ctor, ctor_call, ctor, body}
use Rattle.rf_jdecl.proofs.DeclTestLemmas.{calls_ctor-Is, Is-calls_ctor, Fit-ctor_mods}
use Rattle.rf_jdecl.proofs.ExactHeads.{EndsNames, optional_names-exact, params-exact}
use Rattle.rf_jdecl.proofs.NoCalls.{no_stmt}
use Rattle.rf_jdecl.proofs.SoundMembers.{GoodCall}

-- ---- what stands behind heads

pub brace_ends_names : (tok : Tok) (rest : List Tok) → IsOp LEFT_BRACE tok → EndsNames (tok ∷ rest)
unfolding begins is_op
brace_ends_names tok rest h = record { no_dot = rw h refl; no_comma = rw h refl }

pub brace_no_throws : (tok : Tok) (rest : List Tok) → IsOp LEFT_BRACE tok → begins (is_key THROWS) (tok ∷ rest) ≡ false
unfolding begins is_key
brace_no_throws tok rest h = rw h refl

-- `}` is neither `this` nor `super`
brace_no_call : (tok : Tok) → IsOp RIGHT_BRACE tok → calls_ctor tok ≡ false
unfolding calls_ctor is_key
brace_no_call tok h = rw h refl

module _ (m : ℕ) (e : AreExactStmts m (stmt_parsers m)) where
  -- ---- a call of a constructor

  ctor_call-exact : IsExact (GoodCall m) Anything ctor_call_yield (ctor_call m)
  unfolding ctor_call
  ctor_call-exact found rest good stop =
      let tokens : ctor_call_yield found ++ rest ≡ found.word ∷ (args_yield found.args ++ found.semi ∷ rest) = simp append_assoc in
      reads-same (ctor_call m) tokens
      (bind-Some _ _ _ _ (token-at calls_ctor found.word _ (Is-calls_ctor found.word good.fits.0))
      (bind-Some _ _ _ _ (args-exact m (parsers m) (parsers-complete m) found.args (found.semi ∷ rest) (record { fits = good.fits.1; shallow = good.shallow }) tt)
      (bind-Some _ _ _ _ (token-at (is_op SEMICOLON) found.semi rest (IsOp-is_op SEMICOLON found.semi good.fits.2)) refl)))

  -- where statements stand, none is read
  no_args : (toks : List Tok) → begins (is_op LEFT_PAREN) toks ≡ false → args (parsers m) toks ≡ None
  unfolding args
  no_args toks h = bind-None _ _ (token-other (is_op LEFT_PAREN) toks h)

  nothing_read : (toks : List Tok) → (stmt_parsers m).block_stmt toks ≡ None → (read : StmtsTree × List Tok) → stmts (stmt_parsers m) toks ≡ Some read → read.1 ≡ toks
  unfolding stmts
  nothing_read toks none read h = let nothing : stmts (stmt_parsers m) toks ≡ Some (stmts_tree [], toks) = bind-Some _ _ _ _ (many-none (stmt_parsers m).block_stmt toks none) refl in cc

  no_call_at : (toks : List Tok) (list : StmtsTree) (right : Tok) (rest : List Tok) → IsOp RIGHT_BRACE right → stmts (stmt_parsers m) toks ≡ Some (list, right ∷ rest) → ctor_call m toks ≡ None
  unfolding ctor_call begins
  no_call_at [] list right rest is h = bind-None _ _ (token-other calls_ctor [] refl)
  no_call_at (word ∷ []) list right rest is h = elim (whether (calls_ctor word)) [
    | fails differs ↦ bind-None _ _ (token-other calls_ctor (word ∷ []) differs)
    | holds calls ↦ bind-Some _ _ _ _ (token-at calls_ctor word [] calls) (bind-None _ _ (no_args [] refl))
  ]
  no_call_at (word ∷ left ∷ more) list right rest is h = elim (whether (calls_ctor word)) [
    | fails differs ↦ bind-None _ _ (token-other calls_ctor (word ∷ left ∷ more) differs)
    | holds calls ↦ elim (whether (is_op LEFT_PAREN left)) [
      | fails differs ↦ bind-Some _ _ _ _ (token-at calls_ctor word (left ∷ more) calls) (bind-None _ _ (no_args (left ∷ more) differs))
      | holds opens ↦
          let same = nothing_read (word ∷ left ∷ more) (no_stmt m word left more (is_op-IsOp LEFT_PAREN left opens) (calls_ctor-Is word calls)) (list, right ∷ rest) h in
          let here : right ≡ word = cc in
          let differs : calls_ctor word ≡ false = subst (λ tok. calls_ctor tok ≡ false) here (brace_no_call right is) in
          absurd (cc)
    ]
  ]

  call-exact : (call : Option CtorCallTree) (list : StmtsTree) (right : Tok) (rest : List Tok) → IfSome call (GoodCall m) → GoodStmts m list → IsOp RIGHT_BRACE right
      → optional (ctor_call m) (option_yield ctor_call_yield call ++ (stmts_yield list ++ right ∷ rest)) ≡ Some (call, stmts_yield list ++ right ∷ rest)
  call-exact None list right rest good good_list is = optional-None _ _ (no_call_at _ list right rest is (stmts-exact m (stmt_parsers m) e list (right ∷ rest) good_list (brace_ends right rest is)))
  call-exact (Some call) list right rest good good_list is = optional-Some _ _ call _ (ctor_call-exact call (stmts_yield list ++ right ∷ rest) good tt)

  -- ---- a constructor

  call_good : (call : Option CtorCallTree) → IfSome call CtorCallFits → option_depth (λ (call : CtorCallTree). args_depth call.args) call ≤ m → IfSome call (GoodCall m)
  call_good None fit shallow = tt
  call_good (Some call) fit shallow = record { fits = fit; shallow = shallow }

  -- behind its modifiers
  pub ctor-exact : (mods : List ModTree) (id : Tok) (list : ParamsTree) (throws : Option (Tok × ManyTree NameTree)) (left : Tok) (call : Option CtorCallTree) (body : StmtsTree) (right : Tok) (rest : List Tok)
      → CtorModsFit mods → IsCtor id list throws left call right → StmtsFit body → max (option_depth (λ (call : CtorCallTree). args_depth call.args) call) (stmts_depth body) ≤ m
      → ctor m mods (id ∷ (params_yield list ++ (names_yield throws ++ left ∷ (option_yield ctor_call_yield call ++ (stmts_yield body ++ right ∷ rest))))) ≡ Some (Ctor mods id list throws left call body right, rest)
  unfolding ctor
  ctor-exact mods id list throws left call body right rest mods_fit fit body_fit shallow =
      let good_call = call_good call fit.call_fits (omega arith) in
      let good_body : GoodStmts m body = record { fits = body_fit; shallow = omega arith } in
      let head = fit.callable in
      let braces = fit.braces in
      bind-Some _ _ _ _ (when-true _ _ (Fit-ctor_mods mods mods_fit) ∙ token-at is_ident id _ (IsIdent-is_ident id head.id_is))
      (bind-Some _ _ _ _ (params-exact list _ head.params_fit tt)
      (bind-Some _ _ _ _ (optional_names-exact THROWS throws _ head.throws_fit (brace_ends_names left _ braces.0) (brace_no_throws left _ braces.0))
      (bind-Some _ _ _ _ (token-at (is_op LEFT_BRACE) left _ (IsOp-is_op LEFT_BRACE left braces.0))
      (bind-Some _ _ _ _ (call-exact call body right rest good_call good_body braces.1)
      (bind-Some _ _ _ _ (stmts-exact m (stmt_parsers m) e body (right ∷ rest) good_body (brace_ends right rest braces.1))
      (bind-Some _ _ _ _ (token-at (is_op RIGHT_BRACE) right rest (IsOp-is_op RIGHT_BRACE right braces.1)) refl))))))
