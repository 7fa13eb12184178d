-- Tests of tokens and of modifiers, and what is read of a token that passes a further test.
use Rattle.std.proofs.Common.{◌≡◌, ℕ, ◌+◌, List, [], ◌∷◌, Some, None, Bool, true, false, IsTrue, ◌↔◌, refl, sym, ◌∙◌, drop}
use Rattle.std.specs.List.{slice_get}
use Rattle.rf_jtree.specs.declared.tokens.Tok.{Tok}
use Rattle.rf_jtree.specs.declared.tokens.TokKind.{TokKind}
use Rattle.rf_jtree.specs.declared.tokens.TokKind.TheVariants as kind
use Rattle.rf_jtree.specs.declared.words.Kw.{Kw}
use Rattle.rf_jtree.specs.declared.keyword_names.TheConstants.{MODIFIERS}
use Rattle.rf_jtree.specs.Kinds.{IsStr, is_literal, is_key_of}
use Rattle.rf_jtree.specs.NameFits.{IsMarkName, IsSuppressName, NoneStandsTwice, HasOneAccessAtMost}
use Rattle.rf_jtree.specs.NameTrees.{ModTree}
use Rattle.rf_jtree.specs.StmtFits.{IsFinalOrAnnotation}
use Rattle.rf_jexpr.specs.Reads.{and_then, when, is_ident, is_key, begins, token}
use Rattle.rf_jexpr.proofs.CursorLemmas.{same_tests, begins-Some, begins-None, token-Some}
use Rattle.rf_jexpr.proofs.Tools.{holds, fails, whether, both, token_takes, IsKey-is_key}
use Rattle.rf_jmods.specs.ModReads.{is_str, is_mark_name, is_suppress_name, goes_on_with}
use Rattle.rf_jmods.specs.ModTests.{none_twice, one_access, is_variable_mod}
use Rattle.rf_jmods.proofs.ModTestLemmas.{is_str-IsStr, IsStr-is_str, is_mark_name-Is, Is-is_mark_name, is_suppress_name-Is, Is-is_suppress_name, none_twice-Stands, Stands-none_twice, one_access-Has, Has-one_access, is_variable_mod-Is, Is-is_variable_mod}

pub str_exact : (found : Bool) (tok : Tok) → (IsTrue found ↔ IsStr tok) → found ≡ is_str tok
str_exact found tok h = same_tests found (is_str tok) (λ r. IsStr-is_str tok (h.0 r)) (λ r. h.1 (is_str-IsStr tok r))

pub mark_exact : (found : Bool) (tok : Tok) → (IsTrue found ↔ IsMarkName tok) → found ≡ is_mark_name tok
mark_exact found tok h = same_tests found (is_mark_name tok) (λ r. Is-is_mark_name tok (h.0 r)) (λ r. h.1 (is_mark_name-Is tok r))

pub suppress_exact : (found : Bool) (tok : Tok) → (IsTrue found ↔ IsSuppressName tok) → found ≡ is_suppress_name tok
suppress_exact found tok h = same_tests found (is_suppress_name tok) (λ r. Is-is_suppress_name tok (h.0 r)) (λ r. h.1 (is_suppress_name-Is tok r))

pub twice_exact : (found : Bool) (mods : List ModTree) → (IsTrue found ↔ NoneStandsTwice mods) → found ≡ none_twice mods
twice_exact found mods h = same_tests found (none_twice mods) (λ r. Stands-none_twice mods (h.0 r)) (λ r. h.1 (none_twice-Stands mods r))

pub access_exact : (found : Bool) (mods : List ModTree) → (IsTrue found ↔ HasOneAccessAtMost mods) → found ≡ one_access mods
access_exact found mods h = same_tests found (one_access mods) (λ r. Has-one_access mods (h.0 r)) (λ r. h.1 (one_access-Has mods r))

pub variable_exact : (found : Bool) (one : ModTree) → (IsTrue found ↔ IsFinalOrAnnotation one) → found ≡ is_variable_mod one
variable_exact found one h = same_tests found (is_variable_mod one) (λ r. Is-is_variable_mod one (h.0 r)) (λ r. h.1 (is_variable_mod-Is one r))

-- a token that passes a test is one of those that pass a wider one, and passes the test
pub narrow : (test other : Tok → Bool) → ((tok : Tok) → IsTrue (test tok) → IsTrue (other tok)) → (toks : List Tok) → token test toks ≡ and_then (token other toks) (λ x. when (test x.0) (Some x))
unfolding token when and_then
narrow test other wider [] = refl
narrow test other wider (tok ∷ toks) = elim (whether (other tok)) [
  | holds passes ↦ rw passes refl
  | fails refuses ↦ elim (whether (test tok)) [
    | holds is ↦ let also : other tok ≡ true = wider tok is in absurd (cc)
    | fails out ↦ rw (refuses, out) refl
  ]
]

str_wide : (tok : Tok) (k : TokKind) → tok.kind ≡ k → IsTrue (is_str tok) → IsTrue (is_literal tok)
unfolding is_str
str_wide tok kind.Str e h = rw e refl
str_wide tok other e h = absurd (cc (rw e at h))

pub str_narrow : (toks : List Tok) → token is_str toks ≡ and_then (token is_literal toks) (λ x. when (is_str x.0) (Some x))
str_narrow toks = narrow is_str is_literal (λ tok h. str_wide tok tok.kind refl h) toks

pub mark_narrow : (toks : List Tok) → token is_mark_name toks ≡ and_then (token is_ident toks) (λ x. when (is_mark_name x.0) (Some x))
unfolding is_mark_name
mark_narrow toks = narrow is_mark_name is_ident (λ tok h. (both _ _ h).0) toks

pub suppress_narrow : (toks : List Tok) → token is_suppress_name toks ≡ and_then (token is_ident toks) (λ x. when (is_suppress_name x.0) (Some x))
unfolding is_suppress_name
suppress_narrow toks = narrow is_suppress_name is_ident (λ tok h. (both _ _ h).0) toks

pub ruleset narrows = (str_narrow, mark_narrow, suppress_narrow)

-- ---- a word, and the second token

pub word-same : (toks : List Tok) (at : ℕ) (tok : Tok) (found : Kw) → Some tok ≡ slice_get toks at → tok.kind ≡ kind.Key found → is_key_of MODIFIERS tok ≡ true → token (is_key_of MODIFIERS) (drop at toks) ≡ token (is_key found) (drop at toks)
word-same toks at tok found h key is = token-Some (is_key_of MODIFIERS) toks at tok h is ∙ sym (token-Some (is_key found) toks at tok h (IsKey-is_key found tok key))

abbrev any : Tok → Bool
any tok = true

at-first : (toks : List Tok) (at : ℕ) (tok : Tok) → Some tok ≡ slice_get toks at → drop at toks ≡ tok ∷ drop (at + 1) toks
at-first toks at tok h = (token_takes any (drop at toks) (tok, drop (at + 1) toks) (token-Some any toks at tok h refl)).takes

none-first : (toks : List Tok) → begins any toks ≡ false → toks ≡ []
unfolding begins
none-first [] h = refl
none-first (tok ∷ toks) h = absurd (cc)

pub second-there : (test : Tok → Bool) (toks : List Tok) (at : ℕ) (tok other : Tok) → Some tok ≡ slice_get toks at → Some other ≡ slice_get toks (at + 1) → test other ≡ goes_on_with test (drop at toks)
unfolding goes_on_with
second-there test toks at tok other h next = rw (at-first toks at tok h) (sym (begins-Some test toks (at + 1) other next))

pub second-missing : (test : Tok → Bool) (toks : List Tok) (at : ℕ) (tok : Tok) → Some tok ≡ slice_get toks at → None ≡ slice_get toks (at + 1) → false ≡ goes_on_with test (drop at toks)
unfolding goes_on_with
second-missing test toks at tok h next = rw (at-first toks at tok h) (sym (begins-None test toks (at + 1) next))

pub first-missing : (test : Tok → Bool) (toks : List Tok) (at : ℕ) → None ≡ slice_get toks at → false ≡ goes_on_with test (drop at toks)
unfolding goes_on_with
first-missing test toks at h = rw (none-first (drop at toks) (begins-None any toks at h)) refl
