-- The escapes of a comment, offset by offset.
use Rattle.std.proofs.Common.{◌≡◌, ℕ, ◌+◌, ◌%◌, ◌<◌, Bool, true, false, cond, not, ◌&&◌, ◌==◌, List, [], ◌∷◌, ◌++◌, length, get_or, take, drop, Option, Some, None, is_some, Decides, refl, ap, sym, ◌∙◌, subst, arith, length-append}
use Rattle.std.proofs.Math.Bool.{and-false}
use Rattle.std.proofs.Math.Nat.{add-mod-mod}
use Rattle.std.proofs.lemmas.Bool.{false≢true, ne_eqb}
use Rattle.std.proofs.lemmas.List.{take_at, drop_at, take-append-drop, take_more, drop_more, reverse-append}
use Rattle.rf_jtree.specs.Trivia.{REFUSED_IN_COMMENTS, BeginsWithEscape, EscapesAreAllowed, trailing_backslashes}
use Rattle.rf_jtree.specs.Escapes.{IsUnicodeEscape}
use Rattle.rf_jlex.specs.Comments.{AllowsEscape}
use Rattle.rf_jlex.specs.EscapeFronts.{GivesOnlyFront}

-- what `EscapesAreAllowed` asks of one offset
abbrev pub EscapeMayStandAt : List ℕ → ℕ → Type 0
EscapeMayStandAt comment at = trailing_backslashes (take at comment) % 2 ≡ 0 → AllowsEscape (drop at comment)

-- one more byte behind a text
trailing-push : (text : List ℕ) (byte : ℕ) → trailing_backslashes (text ++ byte ∷ []) ≡ cond (byte == 92) (1 + trailing_backslashes text) 0
trailing-push text byte = rw (reverse-append text (byte ∷ [])) refl

one_is_not_zero : (n : ℕ) → n ≡ 1 → n ≡ 0 → ⊥
one_is_not_zero n one none = omega arith

odd_then_even : (n : ℕ) → n % 2 ≡ 1 → (1 + n) % 2 ≡ 0
odd_then_even n odd = sym (add-mod-mod 1 n 2) ∙ ap (λ m. (1 + m) % 2) odd

even_then_odd : (n : ℕ) → n % 2 ≡ 0 → (1 + n) % 2 ≡ 1
even_then_odd n even = sym (add-mod-mod 1 n 2) ∙ ap (λ m. (1 + m) % 2) even

-- so a backslash that no other escapes makes an odd number of backslashes, and all else an even one
parity-push : (is_backslash is_escaped : Bool) (n : ℕ) → n % 2 ≡ cond is_escaped 1 0 → cond is_backslash (1 + n) 0 % 2 ≡ cond (is_backslash && not is_escaped) 1 0
parity-push true true n odd = odd_then_even n odd
parity-push true false n even = even_then_odd n even
parity-push false is_escaped n is = refl

pub parity_more : (comment : List ℕ) (at : ℕ) (is_escaped : Bool) → at < length comment → trailing_backslashes (take at comment) % 2 ≡ cond is_escaped 1 0 → trailing_backslashes (take (at + 1) comment) % 2 ≡ cond ((get_or comment at 0 == 92) && not is_escaped) 1 0
parity_more comment at is_escaped within is =
    ap (λ text. trailing_backslashes text % 2) (take_more comment at 0 within) ∙ ap (λ n. n % 2) (trailing-push (take at comment) (get_or comment at 0)) ∙ parity-push (get_or comment at 0 == 92) is_escaped (trailing_backslashes (take at comment)) is

-- the escapes are allowed where each offset may stand
pub allowed_everywhere : (comment : List ℕ) → ((at : ℕ) → at < length comment → EscapeMayStandAt comment at) → EscapesAreAllowed comment
allowed_everywhere comment each front rest parts even =
    let tail : List ℕ = 92 ∷ 117 ∷ rest in
    let before : take (length front) comment ≡ front = ap (take (length front)) parts ∙ take_at front tail (length front) refl in
    let behind : drop (length front) comment ≡ tail = ap (drop (length front)) parts ∙ drop_at front tail (length front) refl in
    let total : length comment ≡ length front + length tail = ap (λ text. length text) parts ∙ length-append front tail in
    let within : length front < length comment = omega arith in
    let even_there : trailing_backslashes (take (length front) comment) % 2 ≡ 0 = ap (λ text. trailing_backslashes text % 2) before ∙ even in
    subst (BeginsWithEscape REFUSED_IN_COMMENTS) behind (each (length front) within even_there rest behind)

allowed_at : (comment : List ℕ) → EscapesAreAllowed comment → (at : ℕ) → EscapeMayStandAt comment at
allowed_at comment allowed at even rest parts =
    let whole : comment ≡ take at comment ++ (92 ∷ 117 ∷ rest) = sym (take-append-drop at comment) ∙ ap (λ tail. take at comment ++ tail) parts in
    subst (BeginsWithEscape REFUSED_IN_COMMENTS) (sym parts) (allowed (take at comment) rest whole even)

-- whether an escape begins at a byte, as the scan finds it
pub begins_at_backslash : (byte : ℕ) (is_escaped begins : Bool) → byte ≡ 92 → begins ≡ not is_escaped → begins ≡ (byte == 92) && not is_escaped
begins_at_backslash byte is_escaped begins backslash is = rw backslash is

pub begins_nowhere_else : (byte : ℕ) (is_escaped begins : Bool) → ¬ (byte ≡ 92) → begins ≡ (byte == 92) → begins ≡ (byte == 92) && not is_escaped
begins_nowhere_else byte is_escaped begins other is =
    let differs : (byte == 92) ≡ false = ne_eqb byte 92 other in
    rw differs (is ∙ differs)

-- an offset may stand where no escape begins, or the escape is allowed
pub may_stand : (comment : List ℕ) (at : ℕ) (is_escaped begins : Bool) → at < length comment → trailing_backslashes (take at comment) % 2 ≡ cond is_escaped 1 0 → begins ≡ (get_or comment at 0 == 92) && not is_escaped → (begins ≡ true → AllowsEscape (drop at comment)) → EscapeMayStandAt comment at
may_stand comment at true begins within odd is allows even rest parts = absurd (one_is_not_zero (trailing_backslashes (take at comment) % 2) odd even)
may_stand comment at false begins within none is allows even rest parts =
    let first : get_or comment at 0 ∷ drop (at + 1) comment ≡ 92 ∷ 117 ∷ rest = sym (drop_more comment at 0 within) ∙ parts in
    let backslash : get_or comment at 0 ≡ 92 = ap (λ text. get_or text 0 0) first in
    allows (is ∙ ap (λ byte. (byte == 92) && true) backslash) rest parts

-- and it may not where one begins that isn't allowed
pub must_be_allowed : (comment : List ℕ) (at : ℕ) (is_escaped : Bool) → trailing_backslashes (take at comment) % 2 ≡ cond is_escaped 1 0 → true ≡ (get_or comment at 0 == 92) && not is_escaped → EscapesAreAllowed comment → AllowsEscape (drop at comment)
must_be_allowed comment at true odd begins allowed = absurd (false≢true (sym (begins ∙ and-false (get_or comment at 0 == 92))))
must_be_allowed comment at false even begins allowed = allowed_at comment allowed at even

-- the one front that is an escape tells whether the text begins with one
pub escape_found : (text : List ℕ) (found : Option ℕ) → GivesOnlyFront (IsUnicodeEscape REFUSED_IN_COMMENTS) text found → Decides (is_some found) (BeginsWithEscape REFUSED_IN_COMMENTS text)
escape_found text (Some n) gives = (
  λ is. record { escape = take n text; rest = drop n text; parts = sym (take-append-drop n text); is_escape = gives.0.is_such },
  λ begins. refl,
)
escape_found text None gives = (
  λ is. absurd (false≢true is),
  λ begins.
      let n = length begins.escape in
      let total : length text ≡ length begins.escape + length begins.rest = ap (λ bytes. length bytes) begins.parts ∙ length-append begins.escape begins.rest in
      let shown : take n text ≡ begins.escape = ap (take n) begins.parts ∙ take_at begins.escape begins.rest n refl in
      absurd (gives n (record { within = omega arith; is_such = subst (IsUnicodeEscape REFUSED_IN_COMMENTS) (sym shown) begins.is_escape })),
)
