-- What stays true over a run of bytes that pass a test: the front that is skipped, and the word that is begun.
use Rattle.std.proofs.Common.{◌≡◌, ℕ, zero, suc, ◌+◌, ◌<◌, ◌≤◌, Bool, true, ◌||◌, ◌==◌, List, ◌∷◌, ◌++◌, ⊎_elim, get_or, length, take, drop, refl, sym, ap, ◌∙◌, subst, arith, length-drop}
use Rattle.std.specs.Char.{is_ascii_alphanumeric}
use Rattle.std.specs.List.{take_while, prefix_len}
use Rattle.std.proofs.lemmas.Bool.{or_left, or_right, or_cases, eqb-true}
use Rattle.std.proofs.lemmas.Bool.Decides.{nat_tests}
use Rattle.std.proofs.lemmas.List.{drop_more, get_or-drop}
use Rattle.std.proofs.lemmas.List.Folds.{length-prefix_len}
use Rattle.std.proofs.lemmas.List.Sums.{prefix_len_passes, prefix_len-le-length}
use Rattle.std.proofs.Math.Utf8.{low_scalar}
use Rattle.std.proofs.lemmas.Str.{encode_ascii}
use Rattle.unicode_ident.specs.Ident.{is_xid_continue}
use Rattle.unicode_ident.proofs.IdentLemmas.{is_xid_continue-ascii}
use Rattle.rf_jtree.specs.declared.tokens.TokKind.{TokKind}
use Rattle.rf_jtree.specs.Identifiers.{is_letter_or_digit}
use Rattle.rf_jtree.specs.Tokens.{Skips}
use Rattle.rf_jlex.specs.declared.classes.Class.TheVariants as class
use Rattle.rf_jlex.specs.declared.pieces.Sort.TheVariants.{WhiteSpace, Token}
use Rattle.rf_jlex.specs.Classes.{is_white, class_of, class_at}
use Rattle.rf_jlex.specs.Letters.{BeginsWithPassing, is_ascii_letter_or_digit}
use Rattle.rf_jlex.proofs.LexLemmas.{Skips-piece}
use Rattle.rf_jlex.proofs.PieceLemmas.{white_given}
use Rattle.rf_jlex.proofs.WordFrontLemmas.{BeginsWithWord, longer_word}

-- what each byte that passes carries on holds behind the run
module _ (P : ℕ → Type 0) (test : ℕ → Bool) (text : List ℕ) (step : (k : ℕ) → k < length text → test (get_or text k 0) ≡ true → P k → P (k + 1)) where
  counted : (at n : ℕ) → at + n ≤ length text → ((k : ℕ) → k < n → test (get_or text (at + k) 0) ≡ true) → P at → P (at + n)
  counted at zero within passes here = subst P (omega arith) here
  counted at (suc n) within passes here =
      let before : P (at + n) = counted at n (omega arith) (λ k below. passes k (omega arith)) here in
      subst P (omega arith) (step (at + n) (omega arith) (passes n (omega arith)) before)

  pub over_run : (at n : ℕ) → at ≤ length text → n ≡ length (take_while test (drop at text)) → P at → P (at + n)
  over_run at n within run here =
      let is : n ≡ prefix_len test (drop at text) = run ∙ length-prefix_len test (drop at text) in
      let fits : prefix_len test (drop at text) ≤ length (drop at text) = prefix_len-le-length test (drop at text) in
      let left = length-drop at text in
      counted at n (omega arith) (λ k below. ap test (sym (get_or-drop at text k 0)) ∙ prefix_len_passes test (drop at text) k 0 (omega arith)) here

-- a byte of white space is a piece of trivia
white_class : (byte : ℕ) → is_white byte ≡ true → class_of byte ≡ class.WhiteSpace
white_class byte white =
    ⊎_elim (λ is. ap class_of (eqb-true byte 32 is))
    (λ more. ⊎_elim (λ is. ap class_of (eqb-true byte 9 is))
    (λ more2. ⊎_elim (λ is. ap class_of (eqb-true byte 12 is))
    (λ more3. ⊎_elim (λ is. ap class_of (eqb-true byte 13 is)) (λ is. ap class_of (eqb-true byte 10 is)) (or_cases (byte == 13) (byte == 10) more3))
    (or_cases (byte == 12) _ more2))
    (or_cases (byte == 9) _ more))
    (or_cases (byte == 32) _ white)

white_is_no_token : (kind : TokKind) → WhiteSpace ≡ Token kind → ⊥
white_is_no_token kind same = cc

white_step : (text : List ℕ) (k : ℕ) → k < length text → is_white (get_or text k 0) ≡ true → Skips text (take k text) (drop k text) → Skips text (take (k + 1) text) (drop (k + 1) text)
white_step text k within white skips =
    let here : class_at (drop k text) ≡ class.WhiteSpace = ap class_at (drop_more text k 0 within) ∙ white_class (get_or text k 0) white in
    Skips-piece text (drop k text) k WhiteSpace 1 refl skips white_is_no_token (white_given (drop k text) here)

pub Skips-white : (text : List ℕ) (at n : ℕ) → at ≤ length text → n ≡ length (take_while is_white (drop at text)) → Skips text (take at text) (drop at text) → Skips text (take (at + n) text) (drop (at + n) text)
Skips-white text at n within run skips = over_run (λ k. Skips text (take k text) (drop k text)) is_white text (white_step text) at n within run skips

-- a letter or digit of ASCII is one of a word
ascii_is_low : (byte : ℕ) → is_ascii_letter_or_digit byte ≡ true → byte < 128
ascii_is_low byte passes = grind (arith, nat_tests)

ascii_passes : (byte : ℕ) → is_ascii_letter_or_digit byte ≡ true → is_letter_or_digit byte ≡ true
ascii_passes byte passes =
    let table : is_xid_continue byte ≡ (is_ascii_alphanumeric byte || (byte == 95)) = is_xid_continue-ascii byte (ascii_is_low byte passes) in
    ⊎_elim
    (λ letter. or_left _ _ (table ∙ or_left _ _ letter))
    (λ other. ⊎_elim (λ underscore. or_left _ _ (table ∙ or_right _ _ underscore)) (λ dollar. or_right _ _ dollar) (or_cases (byte == 95) (byte == 36) other))
    (or_cases (is_ascii_alphanumeric byte) ((byte == 95) || (byte == 36)) passes)

ascii_begins : (byte : ℕ) (rest : List ℕ) → is_ascii_letter_or_digit byte ≡ true → BeginsWithPassing is_letter_or_digit (byte ∷ rest) rest
ascii_begins byte rest passes =
    let low : byte < 128 = ascii_is_low byte passes in
    record {
      character = byte;
      begins = record { scalar = low_scalar byte (omega arith); parts = ap (λ bytes. bytes ++ rest) (sym (encode_ascii byte low)) };
      passes = ascii_passes byte passes;
    }

word_step : (whole text : List ℕ) (k : ℕ) → k < length text → is_ascii_letter_or_digit (get_or text k 0) ≡ true → BeginsWithWord whole (drop k text) → BeginsWithWord whole (drop (k + 1) text)
word_step whole text k within passes word =
    let letter : BeginsWithPassing is_letter_or_digit (drop k text) (drop (k + 1) text) =
    subst (λ bytes. BeginsWithPassing is_letter_or_digit bytes (drop (k + 1) text)) (sym (drop_more text k 0 within)) (ascii_begins (get_or text k 0) (drop (k + 1) text) passes) in
    longer_word whole (drop k text) (drop (k + 1) text) word letter

pub word_goes_on : (whole text : List ℕ) → BeginsWithWord whole text → BeginsWithWord whole (drop (length (take_while is_ascii_letter_or_digit text)) text)
word_goes_on whole text word =
    let n : ℕ = length (take_while is_ascii_letter_or_digit text) in
    let all : BeginsWithWord whole (drop (0 + n) text) = over_run (λ k. BeginsWithWord whole (drop k text)) is_ascii_letter_or_digit text (word_step whole text) 0 n (omega arith) refl word in
    let from_0 : 0 + n ≡ n = omega arith in
    subst (λ k. BeginsWithWord whole (drop k text)) from_0 all
