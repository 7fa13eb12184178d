-- Words that are numbers in plain decimal.
use Rattle.std.proofs.Common.{◌≡◌, ◌≢◌, ◌∙◌, ap, sym, refl, subst, ℕ, zero, suc, ◌<◌, ◌^◌, ◌==◌, ◌||◌, Bool, true, false, not, List, [], ◌∷◌, length, get_or, decimal, arith, eq-eqb, true≢false}
use Rattle.std.specs.Str.Parse.{digits_value, without_leading_plus, IsNumeral}
use Rattle.std.specs.Str.{IsUtf8}
use Rattle.std.proofs.lemmas.Fmt.{decimal_digit, decimal-digits_value, decimal_is_IsNumeral, first_decimal, IsAscii-decimal}
use Rattle.std.proofs.lemmas.Str.{IsUtf8-from_ascii}
use Rattle.std.proofs.lemmas.Str.Parse.{numerals_by_value, tells_digits, without_leading_plus_none}
use Rattle.rf_request.specs.Numbers.{is_plain}

not_true : (b : Bool) → not b ≡ true → b ≡ false
not_true true e = sym e
not_true false e = refl

differs : (a b : ℕ) → (a == b) ≡ false → a ≢ b
differs a b e same = true≢false (sym (eq-eqb a b same) ∙ e)

either : (a b : Bool) → (a || b) ≡ false → (a ≡ false) × (b ≡ false)
either true b e = absurd (true≢false e)
either false b e = (refl, e)

-- no sign stands in front of a plain text
plain_sign : (text : List ℕ) → is_plain text ≡ true → get_or text 0 0 ≢ 43
plain_sign [] plain = λ e. absurd (omega (arith, e))
plain_sign (byte ∷ []) plain = differs byte 43 (not_true (byte == 43) plain)
plain_sign (byte ∷ next ∷ bytes) plain = differs byte 43 (either (byte == 48) (byte == 43) (not_true _ plain)).1

-- nor 0 in front of other digits
plain_zero : (text : List ℕ) → is_plain text ≡ true → get_or text 0 0 ≡ 48 → length text ≡ 1
plain_zero [] plain zero_first = absurd (omega (arith, zero_first))
plain_zero (byte ∷ []) plain zero_first = refl
plain_zero (byte ∷ next ∷ bytes) plain zero_first = absurd (differs byte 48 (either (byte == 48) (byte == 43) (not_true _ plain)).0 zero_first)

pub parsed : (text : List ℕ) (number : ℕ) → is_plain text ≡ true → (IsNumeral 10 (without_leading_plus text) × (digits_value 10 (without_leading_plus text) < 2 ^ 64)) × (number ≡ digits_value 10 (without_leading_plus text)) → text ≡ decimal number
parsed text number plain read =
    let bare : without_leading_plus text ≡ text = without_leading_plus_none text (plain_sign text plain) in
    let is_numeral : IsNumeral 10 text = subst (IsNumeral 10) bare read.0.0 in
    let value : number ≡ digits_value 10 text = read.1 ∙ ap (digits_value 10) bare in
    let small : digits_value 10 text < 2 ^ 64 = subst (λ t. digits_value 10 t < 2 ^ 64) bare read.0.1 in
    sym (ap decimal value ∙ decimal-digits_value (numerals_by_value _ tells_digits) text is_numeral.1 is_numeral.0 (plain_zero text plain) small)

plain_is : (text : List ℕ) → 48 < get_or text 0 0 → is_plain text ≡ true
plain_is [] high = absurd (omega arith)
plain_is (byte ∷ []) high = grind arith
plain_is (byte ∷ next ∷ bytes) high = grind arith

-- what is written is plain
pub decimal_is_plain : (number : ℕ) → number < 2 ^ 64 → is_plain (decimal number) ≡ true
decimal_is_plain zero small = ap is_plain (decimal_digit 0 (omega arith))
decimal_is_plain (suc number) small = plain_is (decimal (suc number)) (first_decimal (suc number) (omega arith) small)

-- a text that isn't read as a number is none
pub unparsed : (text : List ℕ) (number : ℕ) → number < 2 ^ 64 → ((IsNumeral 10 (without_leading_plus text) × (digits_value 10 (without_leading_plus text) < 2 ^ 64)) → ⊥) → text ≡ decimal number → ⊥
unparsed text number small read is =
    let plain : is_plain text ≡ true = ap is_plain is ∙ decimal_is_plain number small in
    let bare : without_leading_plus text ≡ text = without_leading_plus_none text (plain_sign text plain) in
    let numeral = decimal_is_IsNumeral number small in
    read (subst (λ t. IsNumeral 10 t × (digits_value 10 t < 2 ^ 64)) (sym (bare ∙ is)) (numeral.0, subst (λ n. n < 2 ^ 64) (sym numeral.1) small))

pub same_number : (number other : ℕ) → number < 2 ^ 64 → other < 2 ^ 64 → decimal number ≡ decimal other → number ≡ other
same_number number other small other_small same =
    sym (decimal_is_IsNumeral number small).1 ∙ ap (digits_value 10) same ∙ (decimal_is_IsNumeral other other_small).1

pub number_is_utf8 : (text : List ℕ) (number : ℕ) → number < 2 ^ 64 → text ≡ decimal number → IsUtf8 text
number_is_utf8 text number small is = subst IsUtf8 (sym is) (IsUtf8-from_ascii (decimal number) (IsAscii-decimal number small))
