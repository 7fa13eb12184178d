-- What the first tokens tell.
use Rattle.std.proofs.Common.{◌≡◌, List, [], ◌∷◌, Some, None, Bool, true, false, ◌&&◌, ◌||◌, ◌∙◌, drop, refl, sym, ap}
use Rattle.rf_jtree.specs.declared.tokens.Tok.{Tok}
use Rattle.rf_jexpr.specs.Reads.{begins, is_ident, is_key, is_op, token, when}
use Rattle.rf_jexpr.proofs.Tools.{token_takes, holds, fails, whether}
use Rattle.rf_jtree.specs.Kinds.{is_key_of}
use Rattle.rf_jtree.specs.declared.keyword_names.TheConstants.{FINAL, PRIMITIVES}
use Rattle.rf_jtree.specs.declared.operator_names.TheConstants.{COLON, AT}
use Rattle.rf_jstmt.specs.VarReads.{begins_label, marks_local}

label_parts : (toks : List Tok) → begins is_ident toks && begins (is_op COLON) (drop 1 toks) ≡ begins_label toks
unfolding begins begins_label
label_parts [] = refl
label_parts (tok ∷ toks) = refl

-- an identifier and `:`
pub label-both : (toks : List Tok) (colon : Bool) → begins is_ident toks ≡ true → colon ≡ begins (is_op COLON) (drop 1 toks) → colon ≡ begins_label toks
label-both toks colon first second = second ∙ sym (ap (λ one. one && begins (is_op COLON) (drop 1 toks)) first) ∙ label_parts toks

-- and where no identifier stands
pub label-none : (toks : List Tok) → begins is_ident toks ≡ false → false ≡ begins_label toks
label-none toks first = sym (ap (λ one. one && begins (is_op COLON) (drop 1 toks)) first) ∙ label_parts toks

-- ---- at a place

pub label-token : (toks rest : List Tok) (id : Tok) → token is_ident toks ≡ Some (id, rest) → begins (is_op COLON) rest ≡ begins_label toks
unfolding begins_label
label-token toks rest id h = let took = token_takes is_ident toks (id, rest) h in rw (took.takes, took.is) refl

pub label-missing : (toks : List Tok) → token is_ident toks ≡ None → false ≡ begins_label toks
unfolding token when begins_label
label-missing [] h = refl
label-missing (tok ∷ toks) h = elim (whether (is_ident tok)) [
  | holds is ↦ absurd (cc (rw is at h))
  | fails other ↦ rw other refl
]

-- the tests of which one marks a local declaration
pub marks-each : (toks : List Tok) → begins marks_local toks ≡ (begins (is_key FINAL) toks || (begins (is_op AT) toks || begins (is_key_of PRIMITIVES) toks))
unfolding begins marks_local
marks-each [] = refl
marks-each (tok ∷ toks) = refl

pub ruleset marks = (marks-each)
