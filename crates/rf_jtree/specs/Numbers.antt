-- The numbers of Java (JLS 3.10.1, 3.10.2), but for hexadecimal floating-point literals.
use Rattle.std.specs.Prelude.{◌≡◌, ◌≢◌, ℕ, Bool, ◌||◌, ◌==◌, true, List, [], ◌∷◌, ◌++◌, ◌⊎◌, codes}
use Rattle.std.specs.List.{AllPass}
use Rattle.rf_jtree.specs.Digits.{is_digit, is_nonzero_digit, is_octal_digit, is_binary_digit, is_hex_digit, or_underscore, BeginsWith, EndsWith, IsDigits}

-- a letter in either case
abbrev pub is_x : ℕ → Bool
is_x byte = (byte == 120) || (byte == 88)

abbrev pub is_b : ℕ → Bool
is_b byte = (byte == 98) || (byte == 66)

abbrev pub is_l : ℕ → Bool
is_l byte = (byte == 108) || (byte == 76)

abbrev pub is_e : ℕ → Bool
is_e byte = (byte == 101) || (byte == 69)

abbrev pub is_f : ℕ → Bool
is_f byte = (byte == 102) || (byte == 70)

abbrev pub is_d : ℕ → Bool
is_d byte = (byte == 100) || (byte == 68)

abbrev pub is_sign : ℕ → Bool
is_sign byte = (byte == 43) || (byte == 45)

-- an integer without a suffix, in one of the five forms (JLS 3.10.1)
pub data IsInteger (text : List ℕ) : Type 0 where
  zero_alone : text ≡ codes "0" → IsInteger text
  decimal : BeginsWith is_nonzero_digit text → IsDigits is_digit text → IsInteger text
  octal : (digits : List ℕ) → text ≡ 48 ∷ digits → AllPass (or_underscore is_octal_digit) digits → EndsWith is_octal_digit digits → IsInteger text
  hexadecimal : (x : ℕ) (digits : List ℕ) → text ≡ 48 ∷ x ∷ digits → is_x x ≡ true → IsDigits is_hex_digit digits → IsInteger text
  binary : (b : ℕ) (digits : List ℕ) → text ≡ 48 ∷ b ∷ digits → is_b b ≡ true → IsDigits is_binary_digit digits → IsInteger text

-- an integer of type long ends in `l` or `L` (JLS 3.10.1)
pub record IsLongInteger (text : List ℕ) : Type 0 where
  pub integer : List ℕ
  pub suffix : ℕ
  pub parts : text ≡ integer ++ suffix ∷ []
  pub is_integer : IsInteger integer
  pub is_suffix : is_l suffix ≡ true

-- there may be such a part, or nothing
abbrev pub Maybe : (List ℕ → Type 0) → List ℕ → Type 0
Maybe P text = (text ≡ []) ⊎ P text

-- `e` or `E`, a sign if there is one, and digits (JLS 3.10.2)
pub record IsExponent (text : List ℕ) : Type 0 where
  pub letter : ℕ
  pub sign : List ℕ
  pub digits : List ℕ
  pub parts : text ≡ letter ∷ (sign ++ digits)
  pub is_letter : is_e letter ≡ true
  pub is_sign : (sign ≡ []) ⊎ ((byte : ℕ) × (sign ≡ byte ∷ []) × (is_sign byte ≡ true))
  pub is_digits : IsDigits is_digit digits

-- a floating-point literal with this suffix, which may be empty, in one of the four forms (JLS 3.10.2)
pub data IsFloating (suffix text : List ℕ) : Type 0 where
  point : (whole fraction exponent : List ℕ) → text ≡ whole ++ (46 ∷ (fraction ++ (exponent ++ suffix)))
      → IsDigits is_digit whole → Maybe (IsDigits is_digit) fraction → Maybe IsExponent exponent → IsFloating suffix text
  fraction_alone : (fraction exponent : List ℕ) → text ≡ 46 ∷ (fraction ++ (exponent ++ suffix))
      → IsDigits is_digit fraction → Maybe IsExponent exponent → IsFloating suffix text
  exponent_alone : (whole exponent : List ℕ) → text ≡ whole ++ (exponent ++ suffix)
      → IsDigits is_digit whole → IsExponent exponent → IsFloating suffix text
  suffix_alone : (whole : List ℕ) → text ≡ whole ++ suffix
      → IsDigits is_digit whole → suffix ≢ [] → IsFloating suffix text

-- it is of type float where its suffix is `f` or `F`
pub record IsFloat (text : List ℕ) : Type 0 where
  pub suffix : ℕ
  pub is_suffix : is_f suffix ≡ true
  pub floating : IsFloating (suffix ∷ []) text

-- and of type double where it is `d` or `D` or where there is none
pub record IsDouble (text : List ℕ) : Type 0 where
  pub suffix : List ℕ
  pub is_suffix : (suffix ≡ []) ⊎ ((byte : ℕ) × (suffix ≡ byte ∷ []) × (is_d byte ≡ true))
  pub floating : IsFloating suffix text
