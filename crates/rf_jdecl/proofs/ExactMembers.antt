-- Members are read where they stand, where statements are.
use Rattle.std.proofs.Common.{◌≡◌, ℕ, ◌≤◌, List, [], ◌∷◌, ◌++◌, Option, Some, None, false, IsTrue, IfSome, length, length-append, refl, ◌∙◌, arith, append_assoc}
use Rattle.std.specs.List.{flat_map}
use Rattle.rf_jtree.specs.declared.tokens.Tok.{Tok}
use Rattle.rf_jtree.specs.declared.operator_names.TheConstants.{RIGHT_BRACE, SEMICOLON, COMMA, AT}
use Rattle.rf_jtree.specs.declared.keyword_names.TheConstants.{STATIC, THROWS, VOID, MODIFIERS}
use Rattle.rf_jtree.specs.DeclFits.{RetFits, BodyFits, IsCallable}
use Rattle.rf_jtree.specs.DeclTrees.{RetTree, Void, Typed, BodyTree, Block, MemberTree, Init, Ctor, Method, Field, ParamsTree, names_yield, params_yield, ctor_call_yield, ret_yield, body_yield, member_yield}
use Rattle.rf_jtree.specs.Kinds.{IsOp, IsKey, is_key_of}
use Rattle.rf_jtree.specs.NameFits.{EachFits, ManyFit, ModsFit, TypeFits}
use Rattle.rf_jtree.specs.NameTrees.{ManyTree, NameTree, ModTree, TypeUseTree, mods_yield, many_yield, type_yield, option_yield, tok_yield, many_depth}
use Rattle.rf_jtree.specs.StmtFits.{BlockFits, VarFits}
use Rattle.rf_jtree.specs.StmtTrees.{BlockTree, Braces, VarTree, block_yield, stmts_yield, var_yield, var_depth}
use Rattle.rf_jexpr.specs.Descent.{parsers}
use Rattle.rf_jexpr.specs.NameReads.{type_use}
use Rattle.rf_jexpr.specs.Reads.{is_op, is_key, is_ident, begins, token, optional, behind}
use Rattle.rf_jexpr.proofs.CompleteNames.{Anything}
use Rattle.rf_jexpr.proofs.CompleteParts.{reads-same}
use Rattle.rf_jexpr.proofs.CompleteRooms.{parsers-complete}
use Rattle.rf_jexpr.proofs.LoopLemmas.{IsExact, many-exact}
use Rattle.rf_jexpr.proofs.Tools.{bind-Some, bind-None, if-true, if-false, token-at, token-other, optional-Some, optional-None, IsOp-is_op, IsKey-is_key, IsIdent-is_ident}
use Rattle.rf_jmods.specs.ModReads.{goes_on_with, modifier, word}
use Rattle.rf_jstmt.specs.StmtParts.{block}
use Rattle.rf_jstmt.specs.StmtReads.{stmt_parsers}
use Rattle.rf_jstmt.specs.VarReads.{var}
use Rattle.rf_jmods.proofs.ExactMods.{NoMod}
use Rattle.rf_jstmt.proofs.ExactParts.{AreExactStmts, block-exact}
use Rattle.rf_jstmt.proofs.ExactVars.{AreExact, semi_ends, vars_good, vars-exact}
use Rattle.rf_jdecl.specs.HeadReads.{begins_callable}
use Rattle.rf_jdecl.specs.MemberReads.{stray, begins_initializer, initializer, block_body, no_body, body, method, void_method, field, typed, behind_mods, modified, member, members}
use Rattle.rf_jdecl.proofs.ExactCtors.{brace_ends_names, brace_no_throws, ctor-exact}
use Rattle.rf_jdecl.proofs.ExactHeads.{EndsNames, fitting_mods-exact, optional_names-exact, type_before_id, no_type, params-exact}
use Rattle.rf_jdecl.proofs.Firsts.{BeginsSo, ident_begins, void_begins, type_begins, mods_no_op, no_initializer, callable, void_not_callable, type_not_callable, vars_not_callable, type_no_void}
use Rattle.rf_jdecl.proofs.SoundMembers.{GoodBody, GoodMember}

-- ---- what stands behind heads

semi_ends_names : (tok : Tok) (rest : List Tok) → IsOp SEMICOLON tok → EndsNames (tok ∷ rest)
unfolding begins is_op
semi_ends_names tok rest h = record { no_dot = rw h refl; no_comma = rw h refl }

semi_no_throws : (tok : Tok) (rest : List Tok) → IsOp SEMICOLON tok → begins (is_key THROWS) (tok ∷ rest) ≡ false
unfolding begins is_key
semi_no_throws tok rest h = rw h refl

body_ends_names : (body : BodyTree) (rest : List Tok) → BodyFits body → EndsNames (body_yield body ++ rest)
body_ends_names (Block (Braces left list right)) rest fit = brace_ends_names left _ fit.0.0
body_ends_names (BodyTree.Semi semi) rest fit = semi_ends_names semi rest fit

body_no_throws : (body : BodyTree) (rest : List Tok) → BodyFits body → begins (is_key THROWS) (body_yield body ++ rest) ≡ false
body_no_throws (Block (Braces left list right)) rest fit = brace_no_throws left _ fit.0.0
body_no_throws (BodyTree.Semi semi) rest fit = semi_no_throws semi rest fit

brace_no_semi : (block : BlockTree) (rest : List Tok) → BlockFits block → begins (is_op SEMICOLON) (block_yield block ++ rest) ≡ false
unfolding begins is_op
brace_no_semi (Braces left list right) rest fit = rw fit.0.0 refl

semi_no_comma : (tok : Tok) (rest : List Tok) → IsOp SEMICOLON tok → begins (is_op COMMA) (tok ∷ rest) ≡ false
unfolding begins is_op
semi_no_comma tok rest h = rw h refl

-- ---- initializers

initializer_no_semi : (found : Option Tok) (block : BlockTree) (rest : List Tok) → IfSome found (IsKey STATIC) → BlockFits block → begins (is_op SEMICOLON) (option_yield tok_yield found ++ (block_yield block ++ rest)) ≡ false
unfolding begins is_op
initializer_no_semi None block rest fit block_fit = brace_no_semi block rest block_fit
initializer_no_semi (Some tok) block rest fit block_fit = rw fit refl

initializer_begins : (found : Option Tok) (block : BlockTree) (rest : List Tok) → IfSome found (IsKey STATIC) → BlockFits block → IsTrue (begins_initializer (option_yield tok_yield found ++ (block_yield block ++ rest)))
unfolding begins_initializer begins goes_on_with is_op is_key
initializer_begins None (Braces left list right) rest fit block_fit = rw block_fit.0.0 refl
initializer_begins (Some tok) (Braces left list right) rest fit block_fit = rw (fit, block_fit.0.0) refl

no_static : (block : BlockTree) (rest : List Tok) → BlockFits block → begins (is_key STATIC) (block_yield block ++ rest) ≡ false
unfolding begins is_key
no_static (Braces left list right) rest fit = rw fit.0.0 refl

static-exact : (found : Option Tok) (block : BlockTree) (rest : List Tok) → IfSome found (IsKey STATIC) → BlockFits block → optional (token (is_key STATIC)) (option_yield tok_yield found ++ (block_yield block ++ rest)) ≡ Some (found, block_yield block ++ rest)
static-exact None block rest fit block_fit = optional-None _ _ (token-other (is_key STATIC) _ (no_static block rest block_fit))
static-exact (Some tok) block rest fit block_fit = optional-Some _ _ tok _ (token-at (is_key STATIC) tok _ (IsKey-is_key STATIC tok fit))

-- ---- where no member stands

brace_no_mod : (tok : Tok) (rest : List Tok) → IsOp RIGHT_BRACE tok → NoMod (tok ∷ rest)
unfolding begins is_op modifier word
brace_no_mod tok rest h =
    let no_at : begins (is_op AT) (tok ∷ rest) ≡ false = rw h refl in
    let no_word : begins (is_key_of MODIFIERS) (tok ∷ rest) ≡ false = rw h refl in
    record { no_paren = rw h refl; none = if-false _ _ _ no_at ∙ bind-None _ _ (token-other (is_key_of MODIFIERS) (tok ∷ rest) no_word) }

-- `}` begins no member, by each test
record BeginsNone (toks : List Tok) : Type 0 where
  no_semi : begins (is_op SEMICOLON) toks ≡ false
  no_init : begins_initializer toks ≡ false
  no_name : begins_callable toks ≡ false
  no_void : begins (is_key VOID) toks ≡ false

brace_begins_none : (tok : Tok) (rest : List Tok) → IsOp RIGHT_BRACE tok → BeginsNone (tok ∷ rest)
unfolding begins begins_initializer begins_callable is_op is_key is_ident
brace_begins_none tok rest h = record { no_semi = rw h refl; no_init = rw h refl; no_name = rw h refl; no_void = rw h refl }

brace_no_type : (tok : Tok) (rest : List Tok) → IsOp RIGHT_BRACE tok → type_use (tok ∷ rest) ≡ None
unfolding is_ident
brace_no_type tok rest h = no_type tok rest (rw h refl) (rw h refl)

no_member : (m : ℕ) (tok : Tok) (rest : List Tok) → IsOp RIGHT_BRACE tok → member m (tok ∷ rest) ≡ None
unfolding member modified behind_mods typed
no_member m tok rest h =
    let none = brace_begins_none tok rest h in
    let nothing = fitting_mods-exact [] (tok ∷ rest) (record { each = tt; none_twice = tt; one_access = tt }) (brace_no_mod tok rest h) in
    if-false _ _ _ none.no_semi ∙ if-false _ _ _ none.no_init ∙ bind-Some _ _ _ _ nothing (if-false _ _ _ none.no_name ∙ if-false _ _ _ none.no_void ∙ bind-None _ _ (brace_no_type tok rest h))

-- expressions are read where they stand
pub exprs_exact : (room : ℕ) → AreExact room (parsers room)
exprs_exact room = let c = parsers-complete room in record { expr = c.expr.exact; init = c.init.exact }

module _ (m : ℕ) (e : AreExactStmts m (stmt_parsers m)) where
  -- ---- methods and fields

  body-exact : IsExact (GoodBody m) Anything body_yield (body m)
  unfolding body no_body block_body begins
  body-exact (Block found) rest good stop = if-false _ _ _ (brace_no_semi found rest good.fits) ∙ bind-Some _ _ _ _ (block-exact m (stmt_parsers m) e found rest (record { fits = good.fits; shallow = good.shallow }) tt) refl
  body-exact (BodyTree.Semi semi) rest good stop =
      if-true _ _ _ (IsOp-is_op SEMICOLON semi good.fits) ∙ bind-Some _ _ _ _ (token-at (is_op SEMICOLON) semi rest (IsOp-is_op SEMICOLON semi good.fits)) refl

  method-exact : (mods : List ModTree) (ret : RetTree) (id : Tok) (list : ParamsTree) (throws : Option (Tok × ManyTree NameTree)) (end : BodyTree) (rest : List Tok) → IsCallable id list throws → GoodBody m end
      → method m mods ret (id ∷ (params_yield list ++ (names_yield throws ++ (body_yield end ++ rest)))) ≡ Some (Method mods ret id list throws end, rest)
  unfolding method
  method-exact mods ret id list throws end rest fit good =
      bind-Some _ _ _ _ (token-at is_ident id _ (IsIdent-is_ident id fit.id_is))
      (bind-Some _ _ _ _ (params-exact list _ fit.params_fit tt)
      (bind-Some _ _ _ _ (optional_names-exact THROWS throws _ fit.throws_fit (body_ends_names end rest good.fits) (body_no_throws end rest good.fits))
      (bind-Some _ _ _ _ (body-exact end rest good tt) refl)))

  field-exact : (mods : List ModTree) (used_type : TypeUseTree) (vars : ManyTree VarTree) (semi : Tok) (rest : List Tok) → ManyFit VarFits COMMA vars → many_depth var_depth vars ≤ m → IsOp SEMICOLON semi
      → field m mods used_type (many_yield var_yield vars ++ semi ∷ rest) ≡ Some (Field mods used_type vars semi, rest)
  unfolding field behind
  field-exact mods used_type vars semi rest fit shallow is =
      let none : behind (is_op COMMA) (var (parsers m)) (semi ∷ rest) ≡ None = bind-None _ _ (token-other (is_op COMMA) (semi ∷ rest) (semi_no_comma semi rest is)) in
      bind-Some _ _ _ _ (vars-exact m (parsers m) (exprs_exact m) vars (semi ∷ rest) (vars_good m vars fit shallow) (semi_ends semi rest is, none))
      (bind-Some _ _ _ _ (token-at (is_op SEMICOLON) semi rest (IsOp-is_op SEMICOLON semi is)) refl)

  -- ---- behind modifiers

  method-read : (mods : List ModTree) (ret : RetTree) (id : Tok) (list : ParamsTree) (throws : Option (Tok × ManyTree NameTree)) (end : BodyTree) (rest : List Tok) → RetFits ret → IsCallable id list throws → GoodBody m end
      → behind_mods m mods (ret_yield ret ++ id ∷ (params_yield list ++ (names_yield throws ++ (body_yield end ++ rest)))) ≡ Some (Method mods ret id list throws end, rest)
  unfolding behind_mods void_method typed begins
  method-read mods (Void tok) id list throws end rest ret_fit fit good =
      if-false _ _ _ (void_not_callable tok _ ret_fit) ∙ if-true _ _ _ (IsKey-is_key VOID tok ret_fit) ∙
      bind-Some _ _ _ _ (token-at (is_key VOID) tok _ (IsKey-is_key VOID tok ret_fit)) (method-exact mods (Void tok) id list throws end rest fit good)
  method-read mods (Typed used_type) id list throws end rest ret_fit fit good =
      if-false _ _ _ (type_not_callable used_type id _ ret_fit fit.id_is) ∙ if-false _ _ _ (type_no_void used_type _ ret_fit) ∙
      bind-Some _ _ _ _ (type_before_id used_type id _ ret_fit fit.id_is) (if-true _ _ _ (callable id list _ fit.id_is fit.params_fit) ∙ method-exact mods (Typed used_type) id list throws end rest fit good)

  field-read : (mods : List ModTree) (used_type : TypeUseTree) (vars : ManyTree VarTree) (semi : Tok) (rest : List Tok) → TypeFits used_type → ManyFit VarFits COMMA vars → many_depth var_depth vars ≤ m → IsOp SEMICOLON semi
      → behind_mods m mods (type_yield used_type ++ (many_yield var_yield vars ++ semi ∷ rest)) ≡ Some (Field mods used_type vars semi, rest)
  unfolding behind_mods typed
  field-read mods used_type vars semi rest used_type_fit fit shallow is =
      if-false _ _ _ (type_not_callable used_type vars.first.id _ used_type_fit fit.0.id_is) ∙ if-false _ _ _ (type_no_void used_type _ used_type_fit) ∙
      bind-Some _ _ _ _ (type_before_id used_type vars.first.id _ used_type_fit fit.0.id_is) (if-false _ _ _ (vars_not_callable vars semi rest fit is) ∙ field-exact mods used_type vars semi rest fit shallow is)

  -- ---- all of them

  -- modifiers, and what stands behind them
  modified-read : (mods : List ModTree) (toks : List Tok) (found : MemberTree) (rest : List Tok) → ModsFit mods → BeginsSo toks → behind_mods m mods toks ≡ Some (found, rest) → member m (mods_yield mods ++ toks) ≡ Some (found, rest)
  unfolding member modified
  modified-read mods toks found rest fit so h =
      if-false _ _ _ (mods_no_op SEMICOLON refl mods toks fit.each so.no_semi) ∙ if-false _ _ _ (no_initializer mods toks fit.each so) ∙ bind-Some _ _ _ _ (fitting_mods-exact mods toks fit so.no_mod) h

  ret_begins : (ret : RetTree) (rest : List Tok) → RetFits ret → BeginsSo (ret_yield ret ++ rest)
  ret_begins (Void tok) rest fit = void_begins tok rest fit
  ret_begins (Typed used_type) rest fit = type_begins used_type rest fit

  pub member-exact : IsExact (GoodMember m) Anything member_yield (member m)
  unfolding member stray initializer behind_mods begins
  member-exact (MemberTree.Semi semi) rest good stop =
      if-true _ _ _ (IsOp-is_op SEMICOLON semi good.fits) ∙ bind-Some _ _ _ _ (token-at (is_op SEMICOLON) semi rest (IsOp-is_op SEMICOLON semi good.fits)) refl
  member-exact (Init found body) rest good stop =
      let tokens : member_yield (Init found body) ++ rest ≡ option_yield tok_yield found ++ (block_yield body ++ rest) = append_assoc (option_yield tok_yield found) (block_yield body) rest in
      reads-same (member m) tokens
      (if-false _ _ _ (initializer_no_semi found body rest good.fits.0 good.fits.1) ∙ if-true _ _ _ (initializer_begins found body rest good.fits.0 good.fits.1) ∙
      bind-Some _ _ _ _ (static-exact found body rest good.fits.0 good.fits.1) (bind-Some _ _ _ _ (block-exact m (stmt_parsers m) e body rest (record { fits = good.fits.1; shallow = good.shallow }) tt) refl))
  member-exact (Ctor mods id list throws left call body right) rest good stop =
      let fit = good.fits in
      let behind_head : List Tok = names_yield throws ++ left ∷ (option_yield ctor_call_yield call ++ (stmts_yield body ++ right ∷ rest)) in
      let tokens : member_yield (Ctor mods id list throws left call body right) ++ rest ≡ mods_yield mods ++ id ∷ (params_yield list ++ behind_head) = simp append_assoc in
      reads-same (member m) tokens
      (modified-read mods _ _ rest fit.0.fit (ident_begins id _ fit.1.callable.id_is)
      (if-true _ _ _ (callable id list behind_head fit.1.callable.id_is fit.1.callable.params_fit) ∙ ctor-exact m e mods id list throws left call body right rest fit.0 fit.1 fit.2 good.shallow))
  member-exact (Method mods ret id list throws end) rest good stop =
      let fit = good.fits in
      let tokens : member_yield (Method mods ret id list throws end) ++ rest ≡ mods_yield mods ++ (ret_yield ret ++ id ∷ (params_yield list ++ (names_yield throws ++ (body_yield end ++ rest)))) = simp append_assoc in
      reads-same (member m) tokens
      (modified-read mods _ _ rest fit.0 (ret_begins ret _ fit.1) (method-read mods ret id list throws end rest fit.1 fit.2 (record { fits = fit.3; shallow = good.shallow })))
  member-exact (Field mods used_type vars semi) rest good stop =
      let fit = good.fits in
      let tokens : member_yield (Field mods used_type vars semi) ++ rest ≡ mods_yield mods ++ (type_yield used_type ++ (many_yield var_yield vars ++ semi ∷ rest)) = simp append_assoc in
      reads-same (member m) tokens
      (modified-read mods _ _ rest fit.0 (type_begins used_type _ fit.1) (field-read mods used_type vars semi rest fit.1 fit.2 good.shallow fit.3))

  -- ---- as many as stand there

  -- each has a token at least
  some_of : (front behind : List Tok) (tok : Tok) → 1 ≤ length (front ++ tok ∷ behind)
  some_of front behind tok = omega (arith, length-append front (tok ∷ behind))

  some_block : (front : List Tok) (block : BlockTree) → 1 ≤ length (front ++ block_yield block)
  some_block front (Braces left list right) = some_of front _ left

  some_ret : (front : List Tok) (ret : RetTree) (tok : Tok) (behind : List Tok) → 1 ≤ length (front ++ (ret_yield ret ++ tok ∷ behind))
  some_ret front ret tok behind = let some = some_of (ret_yield ret) behind tok in omega (arith, length-append front (ret_yield ret ++ tok ∷ behind))

  pub member_some : (found : MemberTree) → GoodMember m found → 1 ≤ length (member_yield found)
  member_some (MemberTree.Semi semi) good = omega arith
  member_some (Init found body) good = some_block (option_yield tok_yield found) body
  member_some (Ctor mods id list throws left call body right) good = some_of (mods_yield mods) _ id
  member_some (Method mods ret id list throws end) good = some_ret (mods_yield mods) ret id _
  member_some (Field mods used_type vars semi) good =
      let some = some_of (many_yield var_yield vars) [] semi in
      let more = length-append (type_yield used_type) (many_yield var_yield vars ++ semi ∷ []) in
      omega (arith, length-append (mods_yield mods) (type_yield used_type ++ (many_yield var_yield vars ++ semi ∷ [])))

  pub members-exact : (list : List MemberTree) (right : Tok) (rest : List Tok) → EachFits (GoodMember m) list → IsOp RIGHT_BRACE right → members m (flat_map member_yield list ++ right ∷ rest) ≡ Some (list, right ∷ rest)
  unfolding members
  members-exact list right rest good is =
      many-exact (GoodMember m) Anything member_yield (member m) member-exact (λ found others fit. tt) member_some list (right ∷ rest) good (tt, no_member m right rest is)
