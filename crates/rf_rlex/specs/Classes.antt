-- The characters of rule files.
use Rattle.std.specs.Prelude.{ℕ, Bool, ◌||◌, ◌&&◌, ◌==◌, not, nat_le, if◌then◌else◌}
use Rattle.rf_rlex.specs.declared.classes.Class.{Class}
use Rattle.rf_rlex.specs.declared.classes.Class.TheVariants.{Blank, LineFeed, Comment, Quote, Letter, Other}

-- `a` to `z`
abbrev pub is_letter : ℕ → Bool
is_letter byte = nat_le 97 byte && nat_le byte 122

abbrev pub is_digit : ℕ → Bool
is_digit byte = nat_le 48 byte && nat_le byte 57

-- a name goes on with letters, digits and `_`
abbrev pub is_in_name : ℕ → Bool
is_in_name byte = is_letter byte || (is_digit byte || (byte == 95))

-- space, tab and CR
abbrev pub is_blank : ℕ → Bool
is_blank byte = (byte == 32) || ((byte == 9) || (byte == 13))

-- a comment goes on to the end of its line
abbrev pub is_in_comment : ℕ → Bool
is_in_comment byte = not (byte == 10)

-- any byte but `"`, CR and LF
abbrev pub is_in_text : ℕ → Bool
is_in_text byte = not (byte == 34) && (not (byte == 13) && not (byte == 10))

abbrev pub class_of : ℕ → Class
class_of byte =
    if is_blank byte then Blank
    else (if byte == 10 then LineFeed
    else (if byte == 35 then Comment
    else (if byte == 34 then Quote
    else (if is_letter byte then Letter
    else Other))))
