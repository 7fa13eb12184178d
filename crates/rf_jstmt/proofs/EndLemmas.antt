-- Where what a reader reads ends, told of the places where its parts end.
use Rattle.std.proofs.Common.{◌≡◌, ℕ, ◌+◌, ◌<◌, List, Option, Some, None, Bool, true, false, length, drop, refl, sym, ◌∙◌, arith}
use Rattle.std.specs.List.{slice_get}
use Rattle.rf_jtree.specs.declared.tokens.Tok.{Tok}
use Rattle.rf_jtree.specs.declared.operator_names.TheConstants.{DOT}
use Rattle.rf_jtree.specs.declared.keyword_names.TheConstants.{PRIMITIVES}
use Rattle.rf_jtree.specs.Kinds.{is_key_of}
use Rattle.rf_jtree.specs.NameTrees.{Prim, Named}
use Rattle.rf_jexpr.specs.NameReads.{name, brackets, dims, primitive, named_type, type_base, type_use}
use Rattle.rf_jexpr.specs.Reads.{and_then, begins, is_op, is_ident, token, many, behind, separated}
use Rattle.rf_jexpr.proofs.CursorLemmas.{begins-Some, token-Some}
use Rattle.rf_jstmt.specs.StmtMade.{IsEnd, IsEndOf, pair_of}
use Rattle.rf_jstmt.specs.VarReads.{ends_before}

pub token-end : (test : Tok → Bool) (toks : List Tok) (at : ℕ) (tok : Tok) → Some tok ≡ slice_get toks at → at < length toks → begins test (drop at toks) ≡ true → IsEndOf toks at (token test (drop at toks)) (at + 1)
token-end test toks at tok h within is =
    record { item = tok; is = token-Some test toks at tok h (sym (begins-Some test toks at tok h) ∙ is); forth = omega arith; within = omega arith }

pub pair-end : (first second : Tok → Bool) (toks : List Tok) (at next : ℕ) (found : Option ℕ) → IsEndOf toks at (token first (drop at toks)) next → IsEnd toks next (token second (drop next toks)) found
    → IsEnd toks at (pair_of first second (drop at toks)) found
unfolding and_then
pair-end first second toks at next None one other = rw (one.is, other) refl
pair-end first second toks at next (Some end) one other =
    record { item = (one.item, other.item); is = rw (one.is, other.is) refl; forth = omega (arith, one.forth, other.forth); within = other.within }

pub pair-missing : (first second : Tok → Bool) (toks : List Tok) → token first toks ≡ None → pair_of first second toks ≡ None
unfolding and_then
pair-missing first second toks h = rw h refl

pub name-end : (toks : List Tok) (at first end : ℕ) → IsEndOf toks at (token is_ident (drop at toks)) first → IsEndOf toks first (many (behind (is_op DOT) (token is_ident)) (drop first toks)) end → IsEndOf toks at (name (drop at toks)) end
unfolding name separated and_then
name-end toks at first end id rest =
    record { item = record { ids = record { first = id.item; rest = rest.item } }; is = rw (id.is, rest.is) refl; forth = omega (arith, id.forth, rest.forth); within = rest.within }

pub name-missing : (toks : List Tok) → token is_ident toks ≡ None → name toks ≡ None
unfolding name separated and_then
name-missing toks h = rw h refl

pub base-primitive : (toks : List Tok) (at : ℕ) (found : Option ℕ) → begins (is_key_of PRIMITIVES) (drop at toks) ≡ true → IsEnd toks at (token (is_key_of PRIMITIVES) (drop at toks)) found → IsEnd toks at (type_base (drop at toks)) found
unfolding type_base primitive and_then
base-primitive toks at None h word = rw (h, word) refl
base-primitive toks at (Some end) h word = record { item = Prim word.item; is = rw (h, word.is) refl; forth = word.forth; within = word.within }

pub base-named : (toks : List Tok) (at : ℕ) (found : Option ℕ) → begins (is_key_of PRIMITIVES) (drop at toks) ≡ false → IsEnd toks at (name (drop at toks)) found → IsEnd toks at (type_base (drop at toks)) found
unfolding type_base named_type and_then
base-named toks at None h named = rw (h, named) refl
base-named toks at (Some end) h named = record { item = Named named.item; is = rw (h, named.is) refl; forth = named.forth; within = named.within }

pub type-end : (toks : List Tok) (at base end : ℕ) → IsEndOf toks at (type_base (drop at toks)) base → IsEndOf toks base (many brackets (drop base toks)) end → IsEndOf toks at (type_use (drop at toks)) end
unfolding type_use dims and_then
type-end toks at base end used_type bracket_pairs =
    record { item = record { base = used_type.item; dims = record { list = bracket_pairs.item } }; is = rw (used_type.is, bracket_pairs.is) refl; forth = omega (arith, used_type.forth, bracket_pairs.forth); within = bracket_pairs.within }

pub type-missing : (toks : List Tok) → type_base toks ≡ None → type_use toks ≡ None
unfolding type_use and_then
type-missing toks h = rw h refl

-- whether an identifier stands behind
pub variable-there : (toks : List Tok) (at end : ℕ) → IsEndOf toks at (type_use (drop at toks)) end → begins is_ident (drop end toks) ≡ ends_before is_ident (type_use (drop at toks))
unfolding ends_before
variable-there toks at end used_type = rw used_type.is refl

pub variable-missing : (toks : List Tok) → type_use toks ≡ None → false ≡ ends_before is_ident (type_use toks)
unfolding ends_before
variable-missing toks h = rw h refl
