-- Digits, and runs of digits with underscores between them (JLS 3.10.1).
use Rattle.std.specs.Prelude.{◌≡◌, ℕ, Bool, true, ◌||◌, ◌&&◌, ◌==◌, nat_le, List, [], ◌∷◌, ◌++◌}
use Rattle.std.specs.List.{AllPass}

abbrev pub is_digit : ℕ → Bool
is_digit byte = nat_le 48 byte && nat_le byte 57

abbrev pub is_nonzero_digit : ℕ → Bool
is_nonzero_digit byte = nat_le 49 byte && nat_le byte 57

abbrev pub is_octal_digit : ℕ → Bool
is_octal_digit byte = nat_le 48 byte && nat_le byte 55

abbrev pub is_binary_digit : ℕ → Bool
is_binary_digit byte = nat_le 48 byte && nat_le byte 49

abbrev pub is_hex_digit : ℕ → Bool
is_hex_digit byte = is_digit byte || ((nat_le 97 byte && nat_le byte 102) || (nat_le 65 byte && nat_le byte 70))

-- one of the digits, or an underscore
abbrev pub or_underscore : (ℕ → Bool) → ℕ → Bool
or_underscore p byte = p byte || (byte == 95)

-- the first byte passes the test, and there is one
abbrev pub BeginsWith : (ℕ → Bool) → List ℕ → Type 0
BeginsWith p [] = ⊥
BeginsWith p (byte ∷ bytes) = p byte ≡ true

-- and so of the last byte
pub record EndsWith (p : ℕ → Bool) (text : List ℕ) : Type 0 where
  pub front : List ℕ
  pub last : ℕ
  pub parts : text ≡ front ++ last ∷ []
  pub passes : p last ≡ true

-- one digit or more, with any number of underscores between the first and the last
pub record IsDigits (p : ℕ → Bool) (text : List ℕ) : Type 0 where
  pub begins : BeginsWith p text
  pub all : AllPass (or_underscore p) text
  pub ends : EndsWith p text
