-- The classes of first bytes: what they tell of the pieces that a text may begin with.
use Rattle.std.specs.Prelude.{ℕ, Bool, ◌||◌, ◌&&◌, ◌==◌, nat_le, if◌then◌else◌, List, [], ◌∷◌}
use Rattle.rf_jtree.specs.Digits.{is_digit}
use Rattle.rf_jlex.specs.declared.classes.Class.{Class}
use Rattle.rf_jlex.specs.declared.classes.Class.TheVariants.{End, WhiteSpace, Slash, Digit, Point, Quote, DoubleQuote, Letter, Other}

-- a letter of ASCII, `_` or `$`
abbrev pub is_ascii_letter : ℕ → Bool
is_ascii_letter byte = (nat_le 65 byte && nat_le byte 90) || ((nat_le 97 byte && nat_le byte 122) || ((byte == 95) || (byte == 36)))

-- space, tab, form feed, CR or LF
abbrev pub is_white : ℕ → Bool
is_white byte = (byte == 32) || ((byte == 9) || ((byte == 12) || ((byte == 13) || (byte == 10))))

abbrev pub class_of : ℕ → Class
class_of byte =
    if nat_le 128 byte then Letter
    else (if is_ascii_letter byte then Letter
    else (if is_white byte then WhiteSpace
    else (if is_digit byte then Digit
    else (if byte == 47 then Slash
    else (if byte == 46 then Point
    else (if byte == 39 then Quote
    else (if byte == 34 then DoubleQuote
    else Other)))))))

abbrev pub class_at : List ℕ → Class
class_at [] = End
class_at (byte ∷ bytes) = class_of byte
