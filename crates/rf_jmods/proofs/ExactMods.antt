-- Modifiers are read where they stand.
use Rattle.std.proofs.Common.{◌≡◌, ℕ, ◌≤◌, ◌==◌, eqb-true, List, [], ◌∷◌, ◌++◌, Option, Some, None, Bool, false, not, IsTrue, IfSome, length, inl, inr, refl, ◌∙◌, sym, subst, arith, append_assoc}
use Rattle.std.specs.List.{list_all}
use Rattle.rf_jtree.specs.declared.tokens.Tok.{Tok}
use Rattle.rf_jtree.specs.declared.tokens.TokKind.{TokKind}
use Rattle.rf_jtree.specs.declared.tokens.TokKind.TheVariants as kind
use Rattle.rf_jtree.specs.declared.words.Kw.{Kw}
use Rattle.rf_jtree.specs.declared.operator_names.TheConstants.{LEFT_PAREN, RIGHT_PAREN, LEFT_BRACE, RIGHT_BRACE, COMMA, AT}
use Rattle.rf_jtree.specs.declared.keyword_names.TheConstants.{MODIFIERS, PRIMITIVES}
use Rattle.rf_jtree.specs.Kinds.{IsOp, IsIdent, IsStr, is_key_of, has_key}
use Rattle.rf_jtree.specs.NameFits.{EachFits, ManyFit, ParensFit, StrsFit, ModFits, IsMarkName, TypeFits, BaseFits}
use Rattle.rf_jtree.specs.NameTrees.{ManyTree, One, Braced, ModTree, Word, Mark, Suppress, TypeBaseTree, Prim, Named, TypeUseTree, tok_yield, pair_yield, option_yield, many_yield, strs_yield, mod_yield, mods_yield, base_yield, type_yield, dims_yield}
use Rattle.rf_jtree.specs.StmtFits.{VariableModsFit}
use Rattle.rf_jexpr.specs.Reads.{is_op, is_ident, begins, token, optional, behind, separated}
use Rattle.rf_jexpr.proofs.CompleteNames.{Anything}
use Rattle.rf_jexpr.proofs.LoopLemmas.{IsExact, many-exact, separated-exact}
use Rattle.rf_jexpr.proofs.Tools.{both, bind-Some, bind-None, if-true, if-false, when-true, token-at, token-other, optional-Some, optional-None, IsOp-is_op}
use Rattle.rf_jmods.specs.ModReads.{is_str, is_mark_name, is_suppress_name, parens, one_str, braced_strs, strs, suppress, mark, goes_on_with, word, modifier, mods}
use Rattle.rf_jmods.specs.ModTests.{variable_mods_fit}
use Rattle.rf_jmods.specs.ModReads.{variable_mods}
use Rattle.rf_jfit.proofs.EachLemmas.{not-false}
use Rattle.rf_jmods.proofs.ModTestLemmas.{IsStr-is_str, Is-is_mark_name, Is-is_suppress_name, Fit-variable_mods_fit, or_true}

-- ---- strings

str-exact : IsExact IsStr Anything tok_yield (token is_str)
str-exact tok rest fit stop = token-at is_str tok rest (IsStr-is_str tok fit)

str_list-exact : (list : Option (ManyTree Tok)) (right : Tok) (rest : List Tok) → IfSome list (ManyFit IsStr COMMA) → IsOp RIGHT_BRACE right → optional (separated COMMA (token is_str)) (option_yield (many_yield tok_yield) list ++ right ∷ rest) ≡ Some (list, right ∷ rest)
unfolding separated behind begins is_str is_op
str_list-exact None right rest fit is = optional-None _ (right ∷ rest) (bind-None _ _ (token-other is_str (right ∷ rest) (rw is refl)))
str_list-exact (Some list) right rest fit is =
    let no_more : behind (is_op COMMA) (token is_str) (right ∷ rest) ≡ None = bind-None _ _ (token-other (is_op COMMA) (right ∷ rest) (rw is refl)) in
    optional-Some _ _ list (right ∷ rest) (separated-exact IsStr Anything tok_yield COMMA (token is_str) str-exact (λ tok others comma. tt) list (right ∷ rest) fit (tt, no_more))

str_no_brace : (tok : Tok) → IsStr tok → is_op LEFT_BRACE tok ≡ false
unfolding is_op
str_no_brace tok h = rw h refl

strs-exact : IsExact StrsFit Anything strs_yield strs
unfolding strs one_str braced_strs begins
strs-exact (One tok) rest fit stop = if-false _ _ _ (str_no_brace tok fit) ∙ bind-Some _ _ _ _ (token-at is_str tok rest (IsStr-is_str tok fit)) refl
strs-exact (Braced left list right) rest fit stop =
    rw append_assoc (if-true _ _ _ (IsOp-is_op LEFT_BRACE left fit.0.0) ∙ bind-Some _ _ _ _ (token-at (is_op LEFT_BRACE) left _ (IsOp-is_op LEFT_BRACE left fit.0.0))
    (bind-Some _ _ _ _ (str_list-exact list right rest fit.1 fit.0.1) (bind-Some _ _ _ _ (token-at (is_op RIGHT_BRACE) right rest (IsOp-is_op RIGHT_BRACE right fit.0.1)) refl)))

-- ---- a modifier

-- what a modifier is followed by
abbrev pub NoParen : List Tok → Type 0
NoParen rest = begins (is_op LEFT_PAREN) rest ≡ false

no_parens : (rest : List Tok) → NoParen rest → parens rest ≡ None
unfolding parens
no_parens rest h = bind-None _ _ (token-other (is_op LEFT_PAREN) rest h)

pair-exact : (pair : Option (Tok × Tok)) (rest : List Tok) → IfSome pair ParensFit → NoParen rest → optional parens (option_yield pair_yield pair ++ rest) ≡ Some (pair, rest)
unfolding parens
pair-exact None rest fit stop = optional-None parens rest (no_parens rest stop)
pair-exact (Some pair) rest fit stop =
    optional-Some parens _ pair rest (bind-Some _ _ _ _ (token-at (is_op LEFT_PAREN) pair.0 (pair.1 ∷ rest) (IsOp-is_op LEFT_PAREN pair.0 fit.0)) (bind-Some _ _ _ _ (token-at (is_op RIGHT_PAREN) pair.1 rest (IsOp-is_op RIGHT_PAREN pair.1 fit.1)) refl))

mark_no_suppress : (id : Tok) → IsMarkName id → is_suppress_name id ≡ false
unfolding is_suppress_name is_ident
mark_no_suppress id h = elim h.1 [ inl one ↦ rw (h.0, one) refl | inr other ↦ rw (h.0, other) refl ]

word_no_op : (tok : Tok) → IsTrue (is_key_of MODIFIERS tok) → (is_op AT tok ≡ false) × (is_op LEFT_PAREN tok ≡ false)
unfolding is_op
word_no_op tok h = by_kind tok.kind refl
  where
    by_kind : (k : TokKind) → tok.kind ≡ k → (is_op AT tok ≡ false) × (is_op LEFT_PAREN tok ≡ false)
    by_kind (kind.Key word) e = (rw e refl, rw e refl)
    by_kind other e = absurd (cc (rw e at h))

pub modifier-exact : IsExact ModFits NoParen mod_yield modifier
unfolding modifier word mark suppress begins goes_on_with
modifier-exact (Word tok) rest fit stop = if-false _ _ _ (word_no_op tok fit).0 ∙ bind-Some _ _ _ _ (token-at (is_key_of MODIFIERS) tok rest fit) refl
modifier-exact (Mark at id pair) rest fit stop =
    if-true _ _ _ (IsOp-is_op AT at fit.0) ∙ if-false _ _ _ (mark_no_suppress id fit.1) ∙ bind-Some _ _ _ _ (token-at (is_op AT) at _ (IsOp-is_op AT at fit.0))
    (bind-Some _ _ _ _ (token-at is_mark_name id _ (Is-is_mark_name id fit.1)) (bind-Some _ _ _ _ (pair-exact pair rest fit.2 stop) refl))
modifier-exact (Suppress at id left list right) rest fit stop =
    rw append_assoc (if-true _ _ _ (IsOp-is_op AT at fit.0.at_is) ∙ if-true _ _ _ (Is-is_suppress_name id fit.0.id_is) ∙ bind-Some _ _ _ _ (token-at (is_op AT) at _ (IsOp-is_op AT at fit.0.at_is))
    (bind-Some _ _ _ _ (token-at is_suppress_name id _ (Is-is_suppress_name id fit.0.id_is)) (bind-Some _ _ _ _ (token-at (is_op LEFT_PAREN) left _ (IsOp-is_op LEFT_PAREN left fit.0.parens.0))
    (bind-Some _ _ _ _ (strs-exact list (right ∷ rest) fit.1 tt) (bind-Some _ _ _ _ (token-at (is_op RIGHT_PAREN) right rest (IsOp-is_op RIGHT_PAREN right fit.0.parens.1)) refl)))))

-- ---- modifiers

pub mod_no_paren : (one : ModTree) (rest : List Tok) → ModFits one → NoParen (mod_yield one ++ rest)
unfolding begins is_op
mod_no_paren (Word tok) rest fit = (word_no_op tok fit).1
mod_no_paren (Mark at id pair) rest fit = rw fit.0 refl
mod_no_paren (Suppress at id left list right) rest fit = rw fit.0.at_is refl

mod_some : (one : ModTree) → ModFits one → 1 ≤ length (mod_yield one)
mod_some (Word tok) fit = omega arith
mod_some (Mark at id pair) fit = omega arith
mod_some (Suppress at id left list right) fit = omega arith

-- no modifier begins so
pub record NoMod (rest : List Tok) : Type 0 where
  pub no_paren : NoParen rest
  pub none : modifier rest ≡ None

pub mods-exact : IsExact (EachFits ModFits) NoMod mods_yield mods
unfolding mods
mods-exact found rest fit stop = many-exact ModFits NoParen mod_yield modifier modifier-exact mod_no_paren mod_some found rest fit (stop.no_paren, stop.none)

pub variable_mods-exact : IsExact VariableModsFit NoMod mods_yield variable_mods
unfolding variable_mods
variable_mods-exact found rest fit stop = bind-Some _ _ _ _ (mods-exact found rest fit.fit.each stop) (when-true (variable_mods_fit found) _ (Fit-variable_mods_fit found fit))

pub no_mod_word : (tok : Tok) (rest : List Tok) → is_op LEFT_PAREN tok ≡ false → is_op AT tok ≡ false → is_key_of MODIFIERS tok ≡ false → NoMod (tok ∷ rest)
unfolding modifier word begins
no_mod_word tok rest no_paren no_at no_word = record {
  no_paren = no_paren;
  none = if-false _ _ _ no_at ∙ bind-None _ _ (token-other (is_key_of MODIFIERS) (tok ∷ rest) no_word);
}

pub ident_no_mod : (tok : Tok) (rest : List Tok) → IsIdent tok → NoMod (tok ∷ rest)
unfolding is_op
ident_no_mod tok rest h = no_mod_word tok rest (rw h refl) (rw h refl) (rw h refl)

-- A keyword of a list fails a test that each of the list fails.
pub apart_key : (test : Kw → Bool) (words : List Kw) → IsTrue (list_all (λ word. not (test word)) words) → (word : Kw) → IsTrue (has_key words word) → test word ≡ false
apart_key test [] each word h = cc
apart_key test (other ∷ words) each word h =
    let parts = both (not (test other)) (list_all (λ (w : Kw). not (test w)) words) each in
    elim (or_true (other.0 == word.0) (has_key words word) h) [
      | inl same ↦ subst (λ (n : ℕ). test (record { 0 = n }) ≡ false) (eqb-true other.0 word.0 same) (not-false (test other) parts.0)
      | inr there ↦ apart_key test words parts.1 word there
    ]

primitive_no_mod : (tok : Tok) (rest : List Tok) → IsTrue (is_key_of PRIMITIVES tok) → NoMod (tok ∷ rest)
unfolding is_op
primitive_no_mod tok rest h = by_kind tok.kind refl
  where
    by_kind : (k : TokKind) → tok.kind ≡ k → NoMod (tok ∷ rest)
    by_kind (kind.Key found) e = no_mod_word tok rest (rw e refl) (rw e refl) (rw e (apart_key (has_key MODIFIERS) PRIMITIVES refl found (rw e at h)))
    by_kind other e = absurd (cc (rw e at h))

base_no_mod : (base : TypeBaseTree) (rest : List Tok) → BaseFits base → NoMod (base_yield base ++ rest)
base_no_mod (Prim tok) rest fit = primitive_no_mod tok rest fit
base_no_mod (Named found) rest fit = ident_no_mod found.ids.first _ fit.0

pub type_no_mod : (used_type : TypeUseTree) (rest : List Tok) → TypeFits used_type → NoMod (type_yield used_type ++ rest)
type_no_mod used_type rest fit = subst NoMod (sym (append_assoc (base_yield used_type.base) (dims_yield used_type.dims) rest)) (base_no_mod used_type.base (dims_yield used_type.dims ++ rest) fit.0)
