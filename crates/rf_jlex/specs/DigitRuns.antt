-- How far digits go at the front of a text.
use Rattle.std.specs.Prelude.{ℕ, ◌+◌, Bool, ◌==◌, if◌then◌else◌, List, [], ◌∷◌}
use Rattle.rf_jtree.specs.Digits.{is_digit, is_octal_digit, is_binary_digit, is_hex_digit}
use Rattle.rf_jlex.specs.declared.digits.Radix.{Radix}
use Rattle.rf_jlex.specs.declared.digits.Radix.TheVariants as radix

-- the digits of a base
abbrev pub test_of : Radix → ℕ → Bool
test_of radix.Binary = is_binary_digit
test_of radix.Octal = is_octal_digit
test_of radix.Decimal = is_digit
test_of radix.Hexadecimal = is_hex_digit

-- one more, unless it is none
unfoldable pub one_more : ℕ → ℕ
one_more n = if n == 0 then 0 else 1 + n

-- how far the last digit is in the front of digits and underscores
unfoldable pub run_length : (ℕ → Bool) → List ℕ → ℕ
run_length p [] = 0
run_length p (byte ∷ bytes) = if p byte then 1 + run_length p bytes else (if byte == 95 then one_more (run_length p bytes) else 0)

-- and where it begins with a digit, the length of the longest front that is digits
unfoldable pub digits_length : (ℕ → Bool) → List ℕ → ℕ
digits_length p [] = 0
digits_length p (byte ∷ bytes) = if p byte then run_length p (byte ∷ bytes) else 0
