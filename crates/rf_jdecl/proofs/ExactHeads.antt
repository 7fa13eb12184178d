-- Modifiers, names behind a keyword and parameters are read where they stand.
use Rattle.std.proofs.Common.{◌≡◌, List, [], ◌∷◌, ◌++◌, Option, Some, None, false, IfSome, refl, ◌∙◌, append_assoc}
use Rattle.rf_jtree.specs.declared.tokens.Tok.{Tok}
use Rattle.rf_jtree.specs.declared.words.Kw.{Kw}
use Rattle.rf_jtree.specs.declared.operator_names.TheConstants.{LEFT_PAREN, RIGHT_PAREN, LEFT_BRACKET, COMMA, DOT, AT}
use Rattle.rf_jtree.specs.declared.keyword_names.TheConstants.{PRIMITIVES, MODIFIERS}
use Rattle.rf_jtree.specs.DeclFits.{NamesFit, ParamFits, ParamsFit}
use Rattle.rf_jtree.specs.DeclTrees.{ParamTree, names_yield, param_yield, params_yield}
use Rattle.rf_jtree.specs.Kinds.{IsOp, IsIdent, is_key_of}
use Rattle.rf_jtree.specs.NameFits.{ManyFit, NameFits, TypeFits, ModsFit}
use Rattle.rf_jtree.specs.NameTrees.{ManyTree, NameTree, TypeUseTree, name_yield, type_yield, dims_yield, mods_yield, many_yield, option_yield}
use Rattle.rf_jexpr.specs.NameReads.{name, named_type, type_base, type_use}
use Rattle.rf_jexpr.specs.Reads.{is_op, is_key, is_ident, begins, optional, behind, separated}
use Rattle.rf_jexpr.proofs.CompleteNames.{Anything, name-exact, dims-exact, type_use-exact, no_brackets}
use Rattle.rf_jexpr.proofs.CompleteParts.{reads-same}
use Rattle.rf_jexpr.proofs.LoopLemmas.{IsExact, separated-exact}
use Rattle.rf_jexpr.proofs.Tools.{bind-Some, bind-None, if-false, when-true, token-at, token-other, optional-Some, optional-None, IsOp-is_op, IsKey-is_key, IsIdent-is_ident}
use Rattle.rf_jmods.specs.ModReads.{word, modifier}
use Rattle.rf_jmods.specs.ModTests.{mods_fit}
use Rattle.rf_jmods.proofs.ExactMods.{NoMod, mods-exact, variable_mods-exact, type_no_mod}
use Rattle.rf_jmods.proofs.ModTestLemmas.{Fit-mods_fit}
use Rattle.rf_jdecl.specs.HeadReads.{fitting_mods, names_behind, param, params}

pub fitting_mods-exact : IsExact ModsFit NoMod mods_yield fitting_mods
unfolding fitting_mods
fitting_mods-exact found rest fit stop = bind-Some _ _ _ _ (mods-exact found rest fit.each stop) (when-true (mods_fit found) _ (Fit-mods_fit found fit))

-- ---- names behind a keyword

-- what ends them
pub record EndsNames (rest : List Tok) : Type 0 where
  pub no_dot : begins (is_op DOT) rest ≡ false
  pub no_comma : begins (is_op COMMA) rest ≡ false

comma_no_dot : (tok : Tok) (rest : List Tok) → IsOp COMMA tok → begins (is_op DOT) (tok ∷ rest) ≡ false
unfolding begins is_op
comma_no_dot tok rest h = rw h refl

pub names_behind-exact : (key : Kw) (found : Tok × ManyTree NameTree) (rest : List Tok) → NamesFit key found → EndsNames rest → names_behind key (found.0 ∷ (many_yield name_yield found.1 ++ rest)) ≡ Some (found, rest)
unfolding names_behind behind
names_behind-exact key found rest fit stops =
    let no_more : behind (is_op COMMA) name rest ≡ None = bind-None _ _ (token-other (is_op COMMA) rest stops.no_comma) in
    bind-Some _ _ _ _ (token-at (is_key key) found.0 _ (IsKey-is_key key found.0 fit.0))
    (bind-Some _ _ _ _ (separated-exact NameFits (λ rest. begins (is_op DOT) rest ≡ false) name_yield COMMA name name-exact comma_no_dot found.1 rest fit.1 (stops.no_dot, no_more)) refl)

pub optional_names-exact : (key : Kw) (found : Option (Tok × ManyTree NameTree)) (rest : List Tok) → IfSome found (NamesFit key) → EndsNames rest → begins (is_key key) rest ≡ false → optional (names_behind key) (names_yield found ++ rest) ≡ Some (found, rest)
unfolding names_behind behind
optional_names-exact key None rest fit stops none = optional-None _ rest (bind-None _ _ (token-other (is_key key) rest none))
optional_names-exact key (Some found) rest fit stops none = optional-Some _ _ found rest (names_behind-exact key found rest fit stops)

-- ---- parameters

-- a type before an identifier
ident_no_op : (tok : Tok) (rest : List Tok) → IsIdent tok → (begins (is_op DOT) (tok ∷ rest) ≡ false) × (begins (is_op LEFT_BRACKET) (tok ∷ rest) ≡ false)
unfolding begins is_op
ident_no_op tok rest h = (rw h refl, rw h refl)

pub type_before_id : (used_type : TypeUseTree) (id : Tok) (rest : List Tok) → TypeFits used_type → IsIdent id → type_use (type_yield used_type ++ id ∷ rest) ≡ Some (used_type, id ∷ rest)
type_before_id used_type id rest fit is = let stops = ident_no_op id rest is in type_use-exact used_type (id ∷ rest) fit (stops.0, no_brackets (id ∷ rest) stops.1)

-- where no type begins, none is read
pub no_type : (tok : Tok) (rest : List Tok) → is_key_of PRIMITIVES tok ≡ false → is_ident tok ≡ false → type_use (tok ∷ rest) ≡ None
unfolding type_use type_base named_type name separated begins
no_type tok rest no_word no_id = bind-None _ _ (if-false _ _ _ no_word ∙ bind-None _ _ (bind-None _ _ (bind-None _ _ (token-other is_ident (tok ∷ rest) no_id))))

abbrev pub NoBracket : List Tok → Type 0
NoBracket rest = begins (is_op LEFT_BRACKET) rest ≡ false

pub param-exact : IsExact ParamFits NoBracket param_yield param
unfolding param
param-exact found rest fit stops =
    let tokens : param_yield found ++ rest ≡ mods_yield found.mods ++ (type_yield found.used_type ++ found.id ∷ (dims_yield found.dims ++ rest)) = simp append_assoc in
    reads-same param tokens
    (bind-Some _ _ _ _ (variable_mods-exact found.mods _ fit.mods_fit (type_no_mod found.used_type _ fit.used_type_fits))
    (bind-Some _ _ _ _ (type_before_id found.used_type found.id _ fit.used_type_fits fit.id_is)
    (bind-Some _ _ _ _ (token-at is_ident found.id _ (IsIdent-is_ident found.id fit.id_is))
    (bind-Some _ _ _ _ (dims-exact found.dims rest fit.dims_fit (no_brackets rest stops)) refl))))

comma_no_bracket : (tok : Tok) (rest : List Tok) → IsOp COMMA tok → NoBracket (tok ∷ rest)
unfolding begins is_op
comma_no_bracket tok rest h = rw h refl

paren_no_bracket : (tok : Tok) (rest : List Tok) → IsOp RIGHT_PAREN tok → NoBracket (tok ∷ rest)
unfolding begins is_op
paren_no_bracket tok rest h = rw h refl

paren_no_comma : (tok : Tok) (rest : List Tok) → IsOp RIGHT_PAREN tok → begins (is_op COMMA) (tok ∷ rest) ≡ false
unfolding begins is_op
paren_no_comma tok rest h = rw h refl

paren_no_mod : (tok : Tok) (rest : List Tok) → IsOp RIGHT_PAREN tok → NoMod (tok ∷ rest)
unfolding begins is_op modifier word
paren_no_mod tok rest h =
    let no_at : begins (is_op AT) (tok ∷ rest) ≡ false = rw h refl in
    let no_word : begins (is_key_of MODIFIERS) (tok ∷ rest) ≡ false = rw h refl in
    record { no_paren = rw h refl; none = if-false _ _ _ no_at ∙ bind-None _ _ (token-other (is_key_of MODIFIERS) (tok ∷ rest) no_word) }

paren_no_type : (tok : Tok) (rest : List Tok) → IsOp RIGHT_PAREN tok → type_use (tok ∷ rest) ≡ None
unfolding is_ident
paren_no_type tok rest h = no_type tok rest (rw h refl) (rw h refl)

-- where no parameter stands before `)`, none is read
no_param : (tok : Tok) (rest : List Tok) → IsOp RIGHT_PAREN tok → param (tok ∷ rest) ≡ None
unfolding param
no_param tok rest h =
    let nothing = variable_mods-exact [] (tok ∷ rest) (record { fit = record { each = tt; none_twice = tt; one_access = tt }; each = tt }) (paren_no_mod tok rest h) in
    bind-Some _ _ _ _ nothing (bind-None _ _ (paren_no_type tok rest h))

param_list-exact : (list : Option (ManyTree ParamTree)) (right : Tok) (rest : List Tok) → IfSome list (ManyFit ParamFits COMMA) → IsOp RIGHT_PAREN right → optional (separated COMMA param) (option_yield (many_yield param_yield) list ++ right ∷ rest) ≡ Some (list, right ∷ rest)
unfolding separated behind
param_list-exact None right rest fit is = optional-None _ (right ∷ rest) (bind-None _ _ (no_param right rest is))
param_list-exact (Some list) right rest fit is =
    let no_more : behind (is_op COMMA) param (right ∷ rest) ≡ None = bind-None _ _ (token-other (is_op COMMA) (right ∷ rest) (paren_no_comma right rest is)) in
    optional-Some _ _ list (right ∷ rest) (separated-exact ParamFits NoBracket param_yield COMMA param param-exact comma_no_bracket list (right ∷ rest) fit (paren_no_bracket right rest is, no_more))

pub params-exact : IsExact ParamsFit Anything params_yield params
unfolding params
params-exact found rest fit stop =
    let tokens : params_yield found ++ rest ≡ found.left ∷ (option_yield (many_yield param_yield) found.list ++ found.right ∷ rest) = simp append_assoc in
    reads-same params tokens
    (bind-Some _ _ _ _ (token-at (is_op LEFT_PAREN) found.left _ (IsOp-is_op LEFT_PAREN found.left fit.0.0))
    (bind-Some _ _ _ _ (param_list-exact found.list found.right rest fit.1 fit.0.1)
    (bind-Some _ _ _ _ (token-at (is_op RIGHT_PAREN) found.right rest (IsOp-is_op RIGHT_PAREN found.right fit.0.1)) refl)))
