-- What members and types begin with, and how that tells them apart.
use Rattle.std.proofs.Common.{◌≡◌, ◌==◌, List, [], ◌∷◌, ◌++◌, Option, Some, None, Bool, true, false, ◌&&◌, IsTrue, IfSome, refl, ap, ◌∙◌, sym, subst, append_assoc}
use Rattle.std.specs.List.{flat_map}
use Rattle.rf_jtree.specs.declared.operators.Op.{Op}
use Rattle.rf_jtree.specs.declared.tokens.Tok.{Tok}
use Rattle.rf_jtree.specs.declared.tokens.TokKind.{TokKind}
use Rattle.rf_jtree.specs.declared.tokens.TokKind.TheVariants as kind
use Rattle.rf_jtree.specs.declared.words.Kw.{Kw}
use Rattle.rf_jtree.specs.declared.operator_names.TheConstants.{LEFT_PAREN, LEFT_BRACE, SEMICOLON, COMMA, DOT, AT}
use Rattle.rf_jtree.specs.declared.keyword_names.TheConstants.{PRIMITIVES, MODIFIERS, STATIC, VOID}
use Rattle.rf_jtree.specs.DeclFits.{ParamsFit}
use Rattle.rf_jtree.specs.DeclTrees.{ParamsTree, params_yield}
use Rattle.rf_jtree.specs.ExprTrees.{InitTree, init_yield}
use Rattle.rf_jtree.specs.Kinds.{IsOp, IsKey, IsIdent, is_key_of, has_key}
use Rattle.rf_jtree.specs.NameFits.{EachFits, ManyFit, BracketsFit, BaseFits, TypeFits, ModFits}
use Rattle.rf_jtree.specs.NameTrees.{ManyTree, ModTree, Word, Mark, Suppress, TypeBaseTree, Prim, Named, TypeUseTree, base_yield, type_yield, dims_yield, pair_yield, tok_yield, mod_yield, mods_yield, option_yield, many_yield, behind_yield}
use Rattle.rf_jtree.specs.StmtFits.{BeginningFits, VarFits}
use Rattle.rf_jtree.specs.StmtTrees.{VarTree, var_yield}
use Rattle.rf_jexpr.specs.Reads.{is_op, is_key, is_ident, begins}
use Rattle.rf_jexpr.proofs.StopLemmas.{false_or, false_and}
use Rattle.rf_jexpr.proofs.Tools.{holds, fails, whether, and_true, bind-None, if-false, token-other, is_key-IsKey, IsOp-is_op, IsIdent-is_ident}
use Rattle.rf_jmods.specs.ModReads.{goes_on_with, modifier, word}
use Rattle.rf_jmods.proofs.ExactMods.{NoParen, NoMod, ident_no_mod, type_no_mod}
use Rattle.rf_jdecl.specs.HeadReads.{begins_callable}
use Rattle.rf_jdecl.specs.MemberReads.{begins_initializer}

-- ---- keywords of a list

-- a keyword of a list is none that the list lacks
pub other_key : (words : List Kw) (key : Kw) → has_key words key ≡ false → (tok : Tok) → IsTrue (is_key_of words tok) → is_key key tok ≡ false
other_key words key none tok is = elim (whether (is_key key tok)) [
  | fails differs ↦ differs
  | holds same ↦
      let here : IsKey key tok = is_key-IsKey key tok same in
      let there : has_key words key ≡ true = rw here at is in
      absurd (cc)
]

-- and no operator and no identifier
pub key_no_op : (words : List Kw) (op : Op) (tok : Tok) → IsTrue (is_key_of words tok) → is_op op tok ≡ false
unfolding is_op
key_no_op words op tok h = by_kind tok.kind refl
  where
    by_kind : (k : TokKind) → tok.kind ≡ k → is_op op tok ≡ false
    by_kind (kind.Key found) e = rw e refl
    by_kind other e = absurd (cc (rw e at h))

pub key_no_ident : (words : List Kw) (tok : Tok) → IsTrue (is_key_of words tok) → is_ident tok ≡ false
unfolding is_ident
key_no_ident words tok h = by_kind tok.kind refl
  where
    by_kind : (k : TokKind) → tok.kind ≡ k → is_ident tok ≡ false
    by_kind (kind.Key found) e = rw e refl
    by_kind other e = absurd (cc (rw e at h))

-- ---- what stands behind the modifiers of a member

pub record BeginsSo (toks : List Tok) : Type 0 where
  pub no_mod : NoMod toks
  pub no_brace : begins (is_op LEFT_BRACE) toks ≡ false
  pub no_semi : begins (is_op SEMICOLON) toks ≡ false
  pub no_static : begins (is_key STATIC) toks ≡ false

-- a keyword that is no modifier
pub key_no_mod : (key : Kw) → has_key MODIFIERS key ≡ false → (tok : Tok) (rest : List Tok) → IsKey key tok → NoMod (tok ∷ rest)
unfolding begins is_op modifier word
key_no_mod key none tok rest h =
    let no_at : begins (is_op AT) (tok ∷ rest) ≡ false = rw h refl in
    let no_word : begins (is_key_of MODIFIERS) (tok ∷ rest) ≡ false = rw h none in
    record { no_paren = rw h refl; none = if-false _ _ _ no_at ∙ bind-None _ _ (token-other (is_key_of MODIFIERS) (tok ∷ rest) no_word) }

pub ident_begins : (tok : Tok) (rest : List Tok) → IsIdent tok → BeginsSo (tok ∷ rest)
unfolding begins is_op is_key
ident_begins tok rest h = record { no_mod = ident_no_mod tok rest h; no_brace = rw h refl; no_semi = rw h refl; no_static = rw h refl }

pub void_begins : (tok : Tok) (rest : List Tok) → IsKey VOID tok → BeginsSo (tok ∷ rest)
unfolding begins is_op is_key
void_begins tok rest h = record { no_mod = key_no_mod VOID refl tok rest h; no_brace = rw h refl; no_semi = rw h refl; no_static = rw h refl }

base_no_brace : (base : TypeBaseTree) (rest : List Tok) → BaseFits base → (begins (is_op LEFT_BRACE) (base_yield base ++ rest) ≡ false) × (begins (is_op SEMICOLON) (base_yield base ++ rest) ≡ false) × (begins (is_key STATIC) (base_yield base ++ rest) ≡ false)
unfolding begins
base_no_brace (Prim tok) rest fit = (key_no_op PRIMITIVES LEFT_BRACE tok fit, key_no_op PRIMITIVES SEMICOLON tok fit, other_key PRIMITIVES STATIC refl tok fit)
base_no_brace (Named found) rest fit = let first = ident_begins found.ids.first rest fit.0 in (first.no_brace, first.no_semi, first.no_static)

pub type_begins : (used_type : TypeUseTree) (rest : List Tok) → TypeFits used_type → BeginsSo (type_yield used_type ++ rest)
type_begins used_type rest fit =
    let parts = base_no_brace used_type.base (dims_yield used_type.dims ++ rest) fit.0 in
    let tokens : (type_yield used_type ++ rest) ≡ base_yield used_type.base ++ (dims_yield used_type.dims ++ rest) = append_assoc (base_yield used_type.base) (dims_yield used_type.dims) rest in
    record { no_mod = type_no_mod used_type rest fit; no_brace = rw tokens parts.0; no_semi = rw tokens parts.1; no_static = rw tokens parts.2 }

-- ---- modifiers before them

mod_no_op : (op : Op) → (AT.0 == op.0) ≡ false → (one : ModTree) (rest : List Tok) → ModFits one → begins (is_op op) (mod_yield one ++ rest) ≡ false
unfolding begins is_op
mod_no_op op other (Word tok) rest fit = key_no_op MODIFIERS op tok fit
mod_no_op op other (Mark at id pair) rest fit = rw fit.0 other
mod_no_op op other (Suppress at id left list right) rest fit = rw fit.0.at_is other

pub mods_no_op : (op : Op) → (AT.0 == op.0) ≡ false → (mods : List ModTree) (rest : List Tok) → EachFits ModFits mods → begins (is_op op) rest ≡ false → begins (is_op op) (mods_yield mods ++ rest) ≡ false
mods_no_op op other [] rest fit h = h
mods_no_op op other (one ∷ mods) rest fit h = subst (λ toks. begins (is_op op) toks ≡ false) (sym (append_assoc (mod_yield one) (mods_yield mods) rest)) (mod_no_op op other one (mods_yield mods ++ rest) fit.0)

and_false : (one : Bool) → (one && false) ≡ false
and_false true = refl
and_false false = refl

static_then : (mods : List ModTree) (rest : List Tok) → EachFits ModFits mods → BeginsSo rest → (begins (is_key STATIC) (mods_yield mods ++ rest) && goes_on_with (is_op LEFT_BRACE) (mods_yield mods ++ rest)) ≡ false
unfolding begins is_key goes_on_with
static_then [] rest fit so = false_and _ _ so.no_static
static_then (Word tok ∷ mods) rest fit so =
    let second : begins (is_op LEFT_BRACE) (mods_yield mods ++ rest) ≡ false = mods_no_op LEFT_BRACE refl mods rest fit.1 so.no_brace in
    ap (λ b. is_key STATIC tok && b) second ∙ and_false (is_key STATIC tok)
static_then (Mark at id pair ∷ mods) rest fit so = rw fit.0.0 refl
static_then (Suppress at id left list right ∷ mods) rest fit so = rw fit.0.0.at_is refl

pub no_initializer : (mods : List ModTree) (rest : List Tok) → EachFits ModFits mods → BeginsSo rest → begins_initializer (mods_yield mods ++ rest) ≡ false
unfolding begins_initializer
no_initializer mods rest fit so = false_or _ _ (mods_no_op LEFT_BRACE refl mods rest fit so.no_brace) (static_then mods rest fit so)

-- ---- a name with `(` behind it

pub callable : (id : Tok) (params : ParamsTree) (rest : List Tok) → IsIdent id → ParamsFit params → IsTrue (begins_callable (id ∷ (params_yield params ++ rest)))
unfolding begins_callable begins goes_on_with
callable id params rest id_is fit = and_true _ _ (IsIdent-is_ident id id_is) (IsOp-is_op LEFT_PAREN params.left fit.0.0)

-- where the second token is no `(`
not_callable : (tok : Tok) (rest : List Tok) → NoParen rest → begins_callable (tok ∷ rest) ≡ false
unfolding begins_callable begins goes_on_with
not_callable tok rest h = ap (λ b. is_ident tok && b) h ∙ and_false (is_ident tok)

pub void_not_callable : (tok : Tok) (rest : List Tok) → IsKey VOID tok → begins_callable (tok ∷ rest) ≡ false
unfolding begins_callable begins is_ident
void_not_callable tok rest h = rw h refl

dims_no_paren : (pairs : List (Tok × Tok)) (rest : List Tok) → EachFits BracketsFit pairs → NoParen rest → NoParen (flat_map pair_yield pairs ++ rest)
unfolding begins is_op
dims_no_paren [] rest fit h = h
dims_no_paren (pair ∷ pairs) rest fit h = rw fit.0.0 refl

dots_no_paren : (more : List (Tok × Tok)) (rest : List Tok) → EachFits (λ (part : Tok × Tok). IsOp DOT part.0 × IsIdent part.1) more → NoParen rest → NoParen (flat_map (λ (part : Tok × Tok). part.0 ∷ tok_yield part.1) more ++ rest)
unfolding begins is_op
dots_no_paren [] rest fit h = h
dots_no_paren (part ∷ more) rest fit h = rw fit.0.0 refl

ident_no_paren : (tok : Tok) (rest : List Tok) → IsIdent tok → NoParen (tok ∷ rest)
unfolding begins is_op
ident_no_paren tok rest h = rw h refl

primitive_not_callable : (tok : Tok) (rest : List Tok) → IsTrue (is_key_of PRIMITIVES tok) → begins_callable (tok ∷ rest) ≡ false
unfolding begins_callable begins
primitive_not_callable tok rest h = false_and _ _ (key_no_ident PRIMITIVES tok h)

type_not_by_base : (base : TypeBaseTree) (pairs : List (Tok × Tok)) (id : Tok) (rest : List Tok) → BaseFits base → EachFits BracketsFit pairs → IsIdent id → begins_callable (base_yield base ++ (flat_map pair_yield pairs ++ id ∷ rest)) ≡ false
type_not_by_base (Prim tok) pairs id rest fit each is = primitive_not_callable tok _ fit
type_not_by_base (Named found) pairs id rest fit each is = not_callable found.ids.first _ (dots_no_paren found.ids.rest _ fit.1 (dims_no_paren pairs _ each (ident_no_paren id rest is)))

pub type_not_callable : (used_type : TypeUseTree) (id : Tok) (rest : List Tok) → TypeFits used_type → IsIdent id → begins_callable (type_yield used_type ++ id ∷ rest) ≡ false
type_not_callable used_type id rest fit is =
    subst (λ toks. begins_callable toks ≡ false) (sym (append_assoc (base_yield used_type.base) (dims_yield used_type.dims) (id ∷ rest))) (type_not_by_base used_type.base used_type.dims.list id rest fit.0 fit.1 is)

beginning_no_paren : (found : Option (Tok × InitTree)) (rest : List Tok) → IfSome found BeginningFits → NoParen rest → NoParen (option_yield (behind_yield init_yield) found ++ rest)
unfolding begins is_op
beginning_no_paren None rest fit h = h
beginning_no_paren (Some beginning) rest fit h = rw fit.0 refl

more_no_paren : (more : List (Tok × VarTree)) (rest : List Tok) → EachFits (λ (part : Tok × VarTree). IsOp COMMA part.0 × VarFits part.1) more → NoParen rest → NoParen (flat_map (λ (part : Tok × VarTree). part.0 ∷ var_yield part.1) more ++ rest)
unfolding begins is_op
more_no_paren [] rest fit h = h
more_no_paren (part ∷ more) rest fit h = rw fit.0.0 refl

semi_no_paren : (tok : Tok) (rest : List Tok) → IsOp SEMICOLON tok → NoParen (tok ∷ rest)
unfolding begins is_op
semi_no_paren tok rest h = rw h refl

pub vars_not_callable : (vars : ManyTree VarTree) (semi : Tok) (rest : List Tok) → ManyFit VarFits COMMA vars → IsOp SEMICOLON semi → begins_callable (many_yield var_yield vars ++ semi ∷ rest) ≡ false
vars_not_callable vars semi rest fit is =
    let second : NoParen (dims_yield vars.first.dims ++ (option_yield (behind_yield init_yield) vars.first.init ++ (flat_map (λ (part : Tok × VarTree). part.0 ∷ var_yield part.1) vars.rest ++ semi ∷ rest))) =
    dims_no_paren vars.first.dims.list _ fit.0.dims_fit (beginning_no_paren vars.first.init _ fit.0.beginning_fits (more_no_paren vars.rest _ fit.1 (semi_no_paren semi rest is))) in
    not_callable vars.first.id _ (simp append_assoc second)

-- ---- a type is not `void`

base_no_void : (base : TypeBaseTree) (rest : List Tok) → BaseFits base → begins (is_key VOID) (base_yield base ++ rest) ≡ false
unfolding begins is_key
base_no_void (Prim tok) rest fit = other_key PRIMITIVES VOID refl tok fit
base_no_void (Named found) rest fit = rw fit.0 refl

pub type_no_void : (used_type : TypeUseTree) (rest : List Tok) → TypeFits used_type → begins (is_key VOID) (type_yield used_type ++ rest) ≡ false
type_no_void used_type rest fit = subst (λ toks. begins (is_key VOID) toks ≡ false) (sym (append_assoc (base_yield used_type.base) (dims_yield used_type.dims) rest)) (base_no_void used_type.base (dims_yield used_type.dims ++ rest) fit.0)
