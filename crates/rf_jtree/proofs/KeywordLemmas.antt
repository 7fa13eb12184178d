-- A keyword is a token of its kind: it is spelled in small letters of ASCII, which a word may have at every place.
use Rattle.std.proofs.Common.{◌≡◌, ℕ, zero, suc, ◌<◌, Bool, true, false, ◌&&◌, List, [], ◌∷◌, ◌++◌, Some, None, All, refl, sym, ap, ◌∙◌, arith, slice_get}
use Rattle.std.specs.Char.{IsScalar, is_ascii_lowercase}
use Rattle.std.specs.List.{list_all, AllPass}
use Rattle.std.specs.Str.{encode_utf8_all}
use Rattle.std.proofs.Math.Utf8.{low_scalar}
use Rattle.std.proofs.lemmas.Bool.{and_parts, or_left, or_right}
use Rattle.std.proofs.lemmas.Bool.Decides.{nat_tests}
use Rattle.std.proofs.lemmas.List.Elements.{All-nil, All-cons}
use Rattle.std.proofs.lemmas.Str.{encode_ascii}
use Rattle.unicode_ident.specs.Ident.{is_xid_start}
use Rattle.unicode_ident.proofs.IdentLemmas.{is_xid_start-ascii, is_xid_start-is_xid_continue}
use Rattle.rf_jtree.specs.declared.tokens.TokKind.TheVariants as kind
use Rattle.rf_jtree.specs.declared.words.Kw.{Kw}
use Rattle.rf_jtree.specs.Identifiers.{is_letter, is_letter_or_digit, IsWord}
use Rattle.rf_jtree.specs.Tokens.{IsToken}
use Rattle.rf_jtree.specs.Words.{KEYWORDS, keyword_of}
use Rattle.rf_jtree.proofs.WordLemmas.{slice_get-keyword}

is_small : List ℕ → Bool
is_small [] = false
is_small (byte ∷ bytes) = is_ascii_lowercase byte && list_all is_ascii_lowercase bytes

small_is_low : (byte : ℕ) → is_ascii_lowercase byte ≡ true → byte < 128
small_is_low byte small = grind (arith, nat_tests)

small_starts : (byte : ℕ) → is_ascii_lowercase byte ≡ true → is_xid_start byte ≡ true
small_starts byte small = is_xid_start-ascii byte (small_is_low byte small) ∙ or_right _ _ small

small_is_letter : (byte : ℕ) → is_ascii_lowercase byte ≡ true → is_letter byte ≡ true
small_is_letter byte small = or_left _ _ (small_starts byte small)

small_goes_on : (byte : ℕ) → is_ascii_lowercase byte ≡ true → is_letter_or_digit byte ≡ true
small_goes_on byte small = or_left _ _ (is_xid_start-is_xid_continue byte (small_starts byte small))

-- small letters are their own bytes, each a character that a word may go on with
spelled : (bytes : List ℕ) → list_all is_ascii_lowercase bytes ≡ true → bytes ≡ encode_utf8_all bytes
spelled [] small = refl
spelled (byte ∷ bytes) small =
    let parts = and_parts _ _ small in
    ap (λ more. byte ∷ more) (spelled bytes parts.1)
    ∙ ap (λ front. front ++ encode_utf8_all bytes) (sym (encode_ascii byte (small_is_low byte parts.0)))

small_scalars : (bytes : List ℕ) → list_all is_ascii_lowercase bytes ≡ true → All IsScalar bytes
small_scalars [] small = All-nil IsScalar
small_scalars (byte ∷ bytes) small =
    let parts = and_parts _ _ small in
    let low = small_is_low byte parts.0 in
    All-cons IsScalar byte bytes (low_scalar byte (omega arith)) (small_scalars bytes parts.1)

small_go_on : (bytes : List ℕ) → list_all is_ascii_lowercase bytes ≡ true → AllPass is_letter_or_digit bytes
small_go_on [] small = All-nil (λ byte. is_letter_or_digit byte ≡ true)
small_go_on (byte ∷ bytes) small =
    let parts = and_parts _ _ small in
    All-cons (λ byte. is_letter_or_digit byte ≡ true) byte bytes (small_goes_on byte parts.0) (small_go_on bytes parts.1)

small_is_word : (bytes : List ℕ) → is_small bytes ≡ true → IsWord bytes
unfolding is_small
small_is_word [] small = let h : false ≡ true = small in absurd cc
small_is_word (byte ∷ bytes) small = record {
  characters = byte ∷ bytes;
  parts = spelled (byte ∷ bytes) small;
  scalars = small_scalars (byte ∷ bytes) small;
  begins = small_is_letter byte (and_parts _ _ small).0;
  goes_on = small_go_on (byte ∷ bytes) small;
}

-- all keywords are of small letters
small_at : (words : List (List ℕ)) (n : ℕ) (word : List ℕ) → list_all is_small words ≡ true → slice_get words n ≡ Some word → is_small word ≡ true
small_at [] n word all at = let h : None ≡ Some word = at in absurd cc
small_at (first ∷ words) zero word all at = let h : Some first ≡ Some word = at in let same : first ≡ word = cc in ap is_small (sym same) ∙ (and_parts _ _ all).0
small_at (first ∷ words) (suc n) word all at = small_at words n word (and_parts _ _ all).1 at

keywords_are_small : list_all is_small KEYWORDS ≡ true
unfolding is_small KEYWORDS
keywords_are_small = refl

pub keyword_is_token : (bytes : List ℕ) (word : Kw) → keyword_of bytes ≡ Some word → IsToken (kind.Key word) bytes
keyword_is_token bytes word is = (
  small_is_word bytes (small_at KEYWORDS word.0 bytes keywords_are_small (slice_get-keyword word.0 bytes is)),
  rw (is) refl,
)
