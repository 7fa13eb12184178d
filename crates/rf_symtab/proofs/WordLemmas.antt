-- No identifier is empty or has a point in it.
use Rattle.std.proofs.Common.{◌≡◌, ℕ, suc, ◌+◌, ◌<◌, Bool, true, false, ◌||◌, ◌==◌, List, [], ◌∷◌, ◌++◌, length, get_or, sym, ap, ◌∙◌, subst, arith, lit<, append-nil, length-append}
use Rattle.std.specs.Char.{encode_utf8}
use Rattle.std.specs.List.{AllPass}
use Rattle.std.specs.Str.{encode_utf8_all}
use Rattle.std.proofs.lemmas.List.Elements.{All-head, All-tail}
use Rattle.std.proofs.lemmas.Str.{inside_one, length-encode, len_utf8_bounds}
use Rattle.unicode_ident.proofs.IdentLemmas.{is_xid_continue-ascii}
use Rattle.rf_jtree.specs.Identifiers.{is_letter_or_digit, BeginsWithLetter, IsWord}
use Rattle.rf_symtab.proofs.PointLemmas.{NoPoint, IsPlain}

not-both : true ≡ false → ⊥
not-both same = cc

point-is-none : is_letter_or_digit 46 ≡ false
point-is-none = ap (λ (test : Bool). test || (46 == 36)) (is_xid_continue-ascii 46 (lit< tt))

from-places : (text : List ℕ) → ((k : ℕ) → k < length text → get_or text k 0 ≡ 46 → ⊥) → NoPoint text
from-places [] none = tt
from-places (byte ∷ text) none = (none 0 (omega arith), from-places text (λ k below is. none (suc k) (omega (arith, below)) is))

both-no-point : (one other : List ℕ) → NoPoint one → NoPoint other → NoPoint (one ++ other)
both-no-point [] other none other-none = other-none
both-no-point (byte ∷ one) other none other-none = (none.0, both-no-point one other none.1 other-none)

-- the bytes of a letter or digit
letter-no-point : (character : ℕ) → is_letter_or_digit character ≡ true → NoPoint (encode_utf8 character)
letter-no-point character passes = from-places (encode_utf8 character) none
  where
    none : (k : ℕ) → k < length (encode_utf8 character) → get_or (encode_utf8 character) k 0 ≡ 46 → ⊥
    none k below is =
        let low : get_or (encode_utf8 character) k 0 < 128 = omega (arith, is) in
        let same : character ≡ 46 = inside_one character [] (encode_utf8 character) k (sym (append-nil (encode_utf8 character))) below low ∙ is in
        not-both (sym passes ∙ ap is_letter_or_digit same ∙ point-is-none)

letters-no-point : (characters : List ℕ) → AllPass is_letter_or_digit characters → NoPoint (encode_utf8_all characters)
letters-no-point [] each = tt
letters-no-point (character ∷ characters) each =
    both-no-point (encode_utf8 character) (encode_utf8_all characters)
    (letter-no-point character (All-head (λ one. is_letter_or_digit one ≡ true) character characters each))
    (letters-no-point characters (All-tail (λ one. is_letter_or_digit one ≡ true) character characters each))

letters-not-empty : (characters : List ℕ) → BeginsWithLetter characters → encode_utf8_all characters ≡ [] → ⊥
letters-not-empty [] begins same = begins
letters-not-empty (character ∷ characters) begins same =
    let some = (len_utf8_bounds character).0 in
    let long = length-encode character in
    let whole = length-append (encode_utf8 character) (encode_utf8_all characters) in
    let none : length (encode_utf8 character ++ encode_utf8_all characters) ≡ 0 = ap (λ (text : List ℕ). length text) same in
    absurd (omega (arith, some, long, whole, none))

pub word-plain : (text : List ℕ) → IsWord text → IsPlain text
word-plain text word = (
  (λ empty. letters-not-empty word.characters word.begins (sym word.parts ∙ empty)),
  subst NoPoint (sym word.parts) (letters-no-point word.characters word.goes_on),
)
