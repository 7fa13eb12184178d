-- What the first token tells.
use Rattle.std.proofs.Common.{◌≡◌, List, [], ◌∷◌, Bool, true, false, ◌||◌, ◌∙◌, refl, sym, ap}
use Rattle.rf_jtree.specs.declared.tokens.Tok.{Tok}
use Rattle.rf_jexpr.specs.Reads.{begins, is_key}
use Rattle.rf_jtree.specs.declared.keyword_names.TheConstants.{CLASS, INTERFACE}
use Rattle.rf_jdecl.specs.UnitReads.{begins_type}

type_parts : (toks : List Tok) → begins (is_key CLASS) toks || begins (is_key INTERFACE) toks ≡ begins begins_type toks
unfolding begins begins_type
type_parts [] = refl
type_parts (tok ∷ toks) = refl

pub type-class : (toks : List Tok) → begins (is_key CLASS) toks ≡ true → true ≡ begins begins_type toks
type-class toks class = sym (ap (λ one. one || begins (is_key INTERFACE) toks) class) ∙ type_parts toks

pub type-other : (toks : List Tok) (interface : Bool) → begins (is_key CLASS) toks ≡ false → interface ≡ begins (is_key INTERFACE) toks → interface ≡ begins begins_type toks
type-other toks interface class is = is ∙ sym (ap (λ one. one || begins (is_key INTERFACE) toks) class) ∙ type_parts toks
