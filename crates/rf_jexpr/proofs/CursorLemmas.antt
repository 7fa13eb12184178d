-- Tests of tokens, and what stands at a place of a token list.
use Rattle.std.proofs.Common.{◌≡◌, ℕ, zero, suc, ◌+◌, List, [], ◌∷◌, Some, None, Bool, true, false, IsTrue, ◌↔◌, refl, sym, drop, add-one}
use Rattle.std.specs.List.{slice_get}
use Rattle.rf_jtree.specs.declared.operators.Op.{Op}
use Rattle.rf_jtree.specs.declared.tokens.Tok.{Tok}
use Rattle.rf_jtree.specs.declared.words.Kw.{Kw}
use Rattle.rf_jtree.specs.Kinds.{IsOp, IsKey, IsIdent}
use Rattle.rf_jexpr.specs.Reads.{is_op, is_key, is_ident, begins, token, when}
use Rattle.rf_jexpr.proofs.Tools.{is_op-IsOp, IsOp-is_op, is_key-IsKey, IsKey-is_key, is_ident-IsIdent, IsIdent-is_ident}

-- two tests of which each holds where the other does
pub same_tests : (one other : Bool) → (IsTrue one → IsTrue other) → (IsTrue other → IsTrue one) → one ≡ other
same_tests true true h k = refl
same_tests true false h k = sym (h refl)
same_tests false true h k = k refl
same_tests false false h k = refl

pub op_exact : (found : Bool) (op : Op) (tok : Tok) → (IsTrue found ↔ IsOp op tok) → found ≡ is_op op tok
op_exact found op tok h = same_tests found (is_op op tok) (λ r. IsOp-is_op op tok (h.0 r)) (λ r. h.1 (is_op-IsOp op tok r))

pub key_exact : (found : Bool) (word : Kw) (tok : Tok) → (IsTrue found ↔ IsKey word tok) → found ≡ is_key word tok
key_exact found word tok h = same_tests found (is_key word tok) (λ r. IsKey-is_key word tok (h.0 r)) (λ r. h.1 (is_key-IsKey word tok r))

pub ident_exact : (found : Bool) (tok : Tok) → (IsTrue found ↔ IsIdent tok) → found ≡ is_ident tok
ident_exact found tok h = same_tests found (is_ident tok) (λ r. IsIdent-is_ident tok (h.0 r)) (λ r. h.1 (is_ident-IsIdent tok r))

-- the tokens from a place on begin with the one at the place
dropped-Some : (toks : List Tok) (at : ℕ) (tok : Tok) → Some tok ≡ slice_get toks at → drop at toks ≡ tok ∷ drop (suc at) toks
dropped-Some [] zero tok h = cc
dropped-Some [] (suc at) tok h = cc
dropped-Some (first ∷ toks) zero tok h = cc
dropped-Some (first ∷ toks) (suc at) tok h = dropped-Some toks at tok h

dropped-None : (toks : List Tok) (at : ℕ) → None ≡ slice_get toks at → drop at toks ≡ []
dropped-None [] zero h = refl
dropped-None [] (suc at) h = refl
dropped-None (first ∷ toks) zero h = cc
dropped-None (first ∷ toks) (suc at) h = dropped-None toks at h

pub begins-Some : (test : Tok → Bool) (toks : List Tok) (at : ℕ) (tok : Tok) → Some tok ≡ slice_get toks at → begins test (drop at toks) ≡ test tok
unfolding begins
begins-Some test toks at tok h = rw (dropped-Some toks at tok h) refl

pub begins-None : (test : Tok → Bool) (toks : List Tok) (at : ℕ) → None ≡ slice_get toks at → begins test (drop at toks) ≡ false
unfolding begins
begins-None test toks at h = rw (dropped-None toks at h) refl

pub token-Some : (test : Tok → Bool) (toks : List Tok) (at : ℕ) (tok : Tok) → Some tok ≡ slice_get toks at → test tok ≡ true → token test (drop at toks) ≡ Some (tok, drop (at + 1) toks)
unfolding token when
token-Some test toks at tok h passes = rw (dropped-Some toks at tok h, passes, add-one) refl

pub token-refused : (test : Tok → Bool) (toks : List Tok) (at : ℕ) (tok : Tok) → Some tok ≡ slice_get toks at → test tok ≡ false → token test (drop at toks) ≡ None
unfolding token when
token-refused test toks at tok h refused = rw (dropped-Some toks at tok h, refused) refl

pub token-None : (test : Tok → Bool) (toks : List Tok) (at : ℕ) → None ≡ slice_get toks at → token test (drop at toks) ≡ None
unfolding token
token-None test toks at h = rw (dropped-None toks at h) refl

pub ruleset places = (begins-Some, begins-None, token-Some, token-refused, token-None)
