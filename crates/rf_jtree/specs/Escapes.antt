-- Escapes (JLS 3.3, 3.10.6).
use Rattle.std.specs.Prelude.{◌≡◌, ◌≢◌, ℕ, ◌+◌, ◌*◌, ◌≤◌, ◌==◌, List, [], ◌∷◌, ◌++◌, ◌⊎◌, Contains, length}
use Rattle.std.specs.Char.{digit_value}
use Rattle.std.specs.List.{AllPass}
use Rattle.rf_jtree.specs.Digits.{is_octal_digit, is_hex_digit}

-- the code that four hexadecimal digits stand for
abbrev pub code_of : ℕ → ℕ → ℕ → ℕ → ℕ
code_of a b c d = ((digit_value a * 16 + digit_value b) * 16 + digit_value c) * 16 + digit_value d

-- `\`, one `u` or more, and four hexadecimal digits whose code is none of the refused ones (JLS 3.3)
pub record IsUnicodeEscape (refused text : List ℕ) : Type 0 where
  pub us : List ℕ
  pub a : ℕ
  pub b : ℕ
  pub c : ℕ
  pub d : ℕ
  pub parts : text ≡ 92 ∷ (us ++ (a ∷ b ∷ c ∷ d ∷ []))
  pub some_u : us ≢ []
  pub all_u : AllPass (λ byte. byte == 117) us
  pub hex : AllPass is_hex_digit (a ∷ b ∷ c ∷ d ∷ [])
  pub allowed : ¬ Contains refused (code_of a b c d)

-- the bytes that stand behind `\` for themselves or for a control character: b t n f r " ' \
abbrev pub SIMPLE_ESCAPES : List ℕ
SIMPLE_ESCAPES = 98 ∷ 116 ∷ 110 ∷ 102 ∷ 114 ∷ 34 ∷ 39 ∷ 92 ∷ []

-- an octal escape has one to three digits, three only where the first is 0 to 3
pub record IsOctalEscape (text : List ℕ) : Type 0 where
  pub digits : List ℕ
  pub parts : text ≡ 92 ∷ digits
  pub octal : AllPass is_octal_digit digits
  pub some : digits ≢ []
  pub short : (length digits ≤ 2) ⊎ ((length digits ≡ 3) × ((digit : ℕ) (rest : List ℕ) → digits ≡ digit ∷ rest → digit ≤ 51))

-- an escape in a character or string literal (JLS 3.10.6)
pub data IsEscape (refused text : List ℕ) : Type 0 where
  simple : (byte : ℕ) → text ≡ 92 ∷ byte ∷ [] → Contains SIMPLE_ESCAPES byte → IsEscape refused text
  octal : IsOctalEscape text → IsEscape refused text
  unicode : IsUnicodeEscape refused text → IsEscape refused text
