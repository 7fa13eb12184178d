-- How long the longest number at the front of a text is, part by part.
use Rattle.std.specs.Prelude.{ℕ, ◌+◌, ◌==◌, nat_lt, if◌then◌else◌, List, [], ◌∷◌, drop, Option, Some, None, option_map}
use Rattle.rf_jtree.specs.declared.tokens.TokKind.TheVariants as kind
use Rattle.rf_jtree.specs.Digits.{is_digit, is_octal_digit, is_binary_digit, is_hex_digit}
use Rattle.rf_jtree.specs.Numbers.{is_x, is_b, is_l, is_e, is_f, is_d, is_sign}
use Rattle.rf_jlex.specs.declared.numbers.Number.{Number}
use Rattle.rf_jlex.specs.DigitRuns.{one_more, run_length, digits_length}

-- the number with so many bytes before it
abbrev pub behind : ℕ → Number → Number
behind count number = record { kind = number.kind; length = count + number.length }

-- the number, unless there is none
abbrev pub unless_empty : Number → Option Number
unless_empty number = if number.length == 0 then None else Some number

-- how far an integer goes on behind its first byte, a zero
unfoldable pub after_zero_length : List ℕ → ℕ
after_zero_length [] = 0
after_zero_length (byte ∷ bytes) =
    if is_x byte then one_more (digits_length is_hex_digit bytes)
    else (if is_b byte then one_more (digits_length is_binary_digit bytes)
    else run_length is_octal_digit (byte ∷ bytes))

-- the longest integer without a suffix
unfoldable pub integer_length : List ℕ → ℕ
integer_length [] = 0
integer_length (byte ∷ bytes) = if byte == 48 then 1 + after_zero_length bytes else digits_length is_digit (byte ∷ bytes)

-- its suffix, if it has one
unfoldable pub integer_suffix : List ℕ → Number
integer_suffix [] = record { kind = kind.Int; length = 0 }
integer_suffix (byte ∷ bytes) =
    if is_l byte then record { kind = kind.Long; length = 1 } else record { kind = kind.Int; length = 0 }

-- the longest integer
unfoldable pub integer_of : List ℕ → Option Number
integer_of text =
    if integer_length text == 0 then None
    else Some (behind (integer_length text) (integer_suffix (drop (integer_length text) text)))

-- digits behind a sign, or alone
unfoldable pub signed_length : List ℕ → ℕ
signed_length [] = 0
signed_length (byte ∷ bytes) = if is_sign byte then one_more (digits_length is_digit bytes) else digits_length is_digit (byte ∷ bytes)

-- the longest exponent
unfoldable pub exponent_length : List ℕ → ℕ
exponent_length [] = 0
exponent_length (byte ∷ bytes) = if is_e byte then one_more (signed_length bytes) else 0

-- the suffix of a floating-point literal, if it has one
unfoldable pub suffix_of : List ℕ → Number
suffix_of [] = record { kind = kind.Double; length = 0 }
suffix_of (byte ∷ bytes) =
    if is_f byte then record { kind = kind.Float; length = 1 }
    else (if is_d byte then record { kind = kind.Double; length = 1 } else record { kind = kind.Double; length = 0 })

-- the exponent and the suffix, or what there is of them
unfoldable pub ending_of : List ℕ → Number
ending_of text = behind (exponent_length text) (suffix_of (drop (exponent_length text) text))

-- what follows the point
unfoldable pub after_point : List ℕ → Number
after_point text = behind (digits_length is_digit text) (ending_of (drop (digits_length is_digit text) text))

-- what follows the whole part
unfoldable pub after_whole : List ℕ → Option Number
after_whole [] = None
after_whole (byte ∷ bytes) = if byte == 46 then Some (behind 1 (after_point bytes)) else unless_empty (ending_of (byte ∷ bytes))

-- the longest literal without a whole part, from what follows its point
unfoldable pub fraction_of : List ℕ → Option Number
fraction_of text = if digits_length is_digit text == 0 then None else Some (behind 1 (after_point text))

-- the longest literal with a whole part
unfoldable pub whole_literal_of : List ℕ → Option Number
whole_literal_of text =
    if digits_length is_digit text == 0 then None
    else option_map (behind (digits_length is_digit text)) (after_whole (drop (digits_length is_digit text) text))

-- the longest floating-point literal
unfoldable pub floating_of : List ℕ → Option Number
floating_of [] = None
floating_of (byte ∷ bytes) = if byte == 46 then fraction_of bytes else whole_literal_of (byte ∷ bytes)

-- the longer of two, and the first where they are as long
unfoldable pub longer : Option Number → Option Number → Option Number
longer None other = other
longer (Some number) None = Some number
longer (Some number) (Some other) = if nat_lt number.length other.length then Some other else Some number
