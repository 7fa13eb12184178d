-- The tokens that statements begin with.
use Rattle.std.proofs.Common.{◌≡◌, ◌≤◌, ◌==◌, List, [], ◌∷◌, ◌++◌, false, ◌||◌, IsTrue, inl, inr, length, refl, ap, ◌∙◌, sym, subst, arith, append_assoc, length-append}
use Rattle.rf_jtree.specs.declared.tokens.Tok.{Tok}
use Rattle.rf_jtree.specs.declared.tokens.TokKind.{TokKind}
use Rattle.rf_jtree.specs.declared.tokens.TokKind.TheVariants as kind
use Rattle.rf_jtree.specs.declared.keyword_names.TheConstants.{CATCH, ELSE, FINALLY, PRIMITIVES}
use Rattle.rf_jfit.specs.ExprFirst.{expr_first}
use Rattle.rf_jtree.specs.ExprFits.{ExprFits}
use Rattle.rf_jtree.specs.ExprTrees.{ExprTree, expr_yield}
use Rattle.rf_jtree.specs.Kinds.{IsKey, is_key_of}
use Rattle.rf_jtree.specs.NameFits.{ModFits, BaseFits, TypeFits}
use Rattle.rf_jtree.specs.NameTrees.{ModTree, Word, Mark, Suppress, TypeBaseTree, Prim, Named, TypeUseTree, mod_yield, mods_yield, base_yield, dims_yield, type_yield, many_yield}
use Rattle.rf_jtree.specs.StmtFits.{IsFinalOrAnnotation, VariableModsFit, LocalFits, StmtFits}
use Rattle.rf_jtree.specs.StmtTrees.{LocalTree, local_yield, var_yield, StmtTree, Block, Empty, Label, Expression, If, While, Do, For, Each, Switch, Jump, Return, Throw, Sync, Assert, Try, Braces, stmt_yield}
use Rattle.rf_jexpr.specs.Reads.{is_key, begins}
use Rattle.rf_jexpr.specs.Stops.{begins_expr}
use Rattle.rf_jexpr.proofs.First.{begins_first, expr_first-begins}
use Rattle.rf_jexpr.proofs.StopLemmas.{weaker, false_or}
use Rattle.rf_jexpr.proofs.Tools.{is_key-IsKey}
use Rattle.rf_jstmt.specs.StmtStops.{may_go_on}
use Rattle.rf_jmods.proofs.ExactMods.{apart_key}

-- ---- expressions

-- the tokens of an expression begin as expressions do
pub begins_with_expr : (expr : ExprTree) (rest : List Tok) → ExprFits expr → IsTrue (begins begins_expr (expr_yield expr ++ rest))
begins_with_expr expr rest fit = begins_first begins_expr expr rest ∙ expr_first-begins expr fit

-- and so with none of the words that go on with a statement
else_no_expr : (tok : Tok) → IsKey ELSE tok → begins_expr tok ≡ false
unfolding begins_expr
else_no_expr tok h = rw h refl

catch_no_expr : (tok : Tok) → IsKey CATCH tok → begins_expr tok ≡ false
unfolding begins_expr
catch_no_expr tok h = rw h refl

finally_no_expr : (tok : Tok) → IsKey FINALLY tok → begins_expr tok ≡ false
unfolding begins_expr
finally_no_expr tok h = rw h refl

expr_calm : (tok : Tok) → IsTrue (begins_expr tok) → may_go_on tok ≡ false
unfolding may_go_on
expr_calm tok h =
    false_or (is_key ELSE tok) _ (weaker (is_key ELSE tok) false (λ is. sym (else_no_expr tok (is_key-IsKey ELSE tok is)) ∙ h) refl)
    (false_or (is_key CATCH tok) _ (weaker (is_key CATCH tok) false (λ is. sym (catch_no_expr tok (is_key-IsKey CATCH tok is)) ∙ h) refl)
    (weaker (is_key FINALLY tok) false (λ is. sym (finally_no_expr tok (is_key-IsKey FINALLY tok is)) ∙ h) refl))

-- ---- declarations

mod_calm : (one : ModTree) (rest : List Tok) → ModFits one → IsFinalOrAnnotation one → begins may_go_on (mod_yield one ++ rest) ≡ false
unfolding begins may_go_on is_key
mod_calm (Word tok) rest fit is = rw is refl
mod_calm (Mark at id pair) rest fit is = rw fit.0 refl
mod_calm (Suppress at id left list right) rest fit is = rw fit.0.at_is refl

primitive_calm : (tok : Tok) → IsTrue (is_key_of PRIMITIVES tok) → may_go_on tok ≡ false
unfolding may_go_on is_key
primitive_calm tok h = by_kind tok.kind refl
  where
    by_kind : (k : TokKind) → tok.kind ≡ k → may_go_on tok ≡ false
    by_kind (kind.Key found) e = rw e (apart_key (λ word. (word.0 == ELSE.0) || ((word.0 == CATCH.0) || (word.0 == FINALLY.0))) PRIMITIVES refl found (rw e at h))
    by_kind other e = absurd (cc (rw e at h))

base_calm : (base : TypeBaseTree) (rest : List Tok) → BaseFits base → begins may_go_on (base_yield base ++ rest) ≡ false
unfolding begins may_go_on is_key
base_calm (Prim tok) rest fit = primitive_calm tok fit
base_calm (Named found) rest fit = rw fit.0 refl

declaration_calm : (mods : List ModTree) (used_type : TypeUseTree) (rest : List Tok) → VariableModsFit mods → TypeFits used_type → begins may_go_on (mods_yield mods ++ (type_yield used_type ++ rest)) ≡ false
declaration_calm [] used_type rest fit used_type_fits = subst (λ toks. begins may_go_on toks ≡ false) (sym (append_assoc (base_yield used_type.base) (dims_yield used_type.dims) rest)) (base_calm used_type.base _ used_type_fits.0)
declaration_calm (one ∷ mods) used_type rest fit used_type_fits =
    subst (λ toks. begins may_go_on toks ≡ false) (sym (append_assoc (mod_yield one) (mods_yield mods) (type_yield used_type ++ rest))) (mod_calm one _ fit.fit.each.0 fit.each.0)

pub local_tokens : (local : LocalTree) (rest : List Tok) → local_yield local ++ rest ≡ mods_yield local.mods ++ (type_yield local.used_type ++ (many_yield var_yield local.vars ++ rest))
local_tokens local rest =
    append_assoc (mods_yield local.mods) (type_yield local.used_type ++ many_yield var_yield local.vars) rest ∙ ap (λ others. mods_yield local.mods ++ others) (append_assoc (type_yield local.used_type) (many_yield var_yield local.vars) rest)

local_calm : (local : LocalTree) (rest : List Tok) → LocalFits local → begins may_go_on (local_yield local ++ rest) ≡ false
local_calm local rest fit = subst (λ toks. begins may_go_on toks ≡ false) (sym (local_tokens local rest)) (declaration_calm local.mods local.used_type _ fit.mods_fit fit.used_type_fits)

-- ---- statements

pub stmt_calm : (stmt : StmtTree) (rest : List Tok) → StmtFits stmt → begins may_go_on (stmt_yield stmt ++ rest) ≡ false
unfolding begins may_go_on is_key
stmt_calm (Block (Braces left list right)) rest fit = rw fit.0.0 refl
stmt_calm (Empty semi) rest fit = rw fit refl
stmt_calm (StmtTree.Local local semi) rest fit = subst (λ toks. begins may_go_on toks ≡ false) (sym (append_assoc (local_yield local) (semi ∷ []) rest)) (local_calm local (semi ∷ rest) fit.0)
stmt_calm (Label id colon body) rest fit = rw fit.0.id_is refl
stmt_calm (Expression expression semi) rest fit =
    subst (λ toks. begins may_go_on toks ≡ false) (sym (append_assoc (expr_yield expression) (semi ∷ []) rest)) (begins_first may_go_on expression (semi ∷ rest) ∙ expr_calm (expr_first expression) (expr_first-begins expression fit.1))
stmt_calm (If word left test right first other) rest fit = rw fit.0.head.word_is refl
stmt_calm (While word left test right body) rest fit = rw fit.0.head.word_is refl
stmt_calm (Do word body until left test right semi) rest fit = rw fit.0.word_is refl
stmt_calm (For word left first semi1 test semi2 last right body) rest fit = rw fit.0.head.word_is refl
stmt_calm (Each word left mods used_type id colon over right body) rest fit = rw fit.0.head.word_is refl
stmt_calm (Switch word left on right brace parts end) rest fit = rw fit.0.head.word_is refl
stmt_calm (Jump word label semi) rest fit = elim fit.word_is [ inl one ↦ rw one refl | inr other ↦ rw other refl ]
stmt_calm (Return word expression semi) rest fit = rw fit.0.word_is refl
stmt_calm (Throw word expression semi) rest fit = rw fit.0.word_is refl
stmt_calm (Sync word left on right body) rest fit = rw fit.0.word_is refl
stmt_calm (Assert word test message semi) rest fit = rw fit.0.word_is refl
stmt_calm (Try word body parts last) rest fit = rw fit.0.word_is refl

-- each has a token at least
pub stmt_some : (stmt : StmtTree) → 1 ≤ length (stmt_yield stmt)
stmt_some (Block (Braces left list right)) = omega arith
stmt_some (StmtTree.Local local semi) = omega (arith, length-append (local_yield local) (semi ∷ []))
stmt_some (Expression expression semi) = omega (arith, length-append (expr_yield expression) (semi ∷ []))
stmt_some stmt = omega arith
