-- What a text begins with where no piece of it is under way.
use Rattle.std.specs.Prelude.{ℕ, ◌≤◌, ◌+◌, List, [], ◌∷◌, Bool, false, ◌==◌, take, drop, if◌then◌else◌}
use Rattle.std.specs.List.{prefix_len}
use Rattle.rf_rlex.specs.declared.classes.Class.{Class}
use Rattle.rf_rlex.specs.declared.classes.Class.TheVariants as class
use Rattle.rf_rlex.specs.declared.fronts.Front.{Front}
use Rattle.rf_rlex.specs.declared.fronts.Front.TheVariants.{Skip, Token, Nothing}
use Rattle.rf_rlex.specs.declared.tokens.Tok.{Tok}
use Rattle.rf_rlex.specs.declared.tokens.Tok.TheVariants as t
use Rattle.rf_rlex.specs.Classes.{class_of, is_in_name, is_in_comment, is_in_text}
use Rattle.rf_rlex.specs.Words.{word_token}

abbrev pub begins_with_equal : List ℕ → Bool
begins_with_equal [] = false
begins_with_equal (byte ∷ bytes) = byte == 61

abbrev pub begins_with_quote : List ℕ → Bool
begins_with_quote [] = false
begins_with_quote (byte ∷ bytes) = byte == 34

-- a sign of two characters, of which the second is `=`
abbrev pub with_equal : Tok → List ℕ → Front
with_equal tok more = if begins_with_equal more then Token tok 1 else Nothing

abbrev pub sign : ℕ → List ℕ → Front
sign byte more =
    if byte == 44 then Token t.Comma 0
    else (if byte == 58 then Token t.Colon 0
    else (if byte == 46 then Token t.Dot 0
    else (if byte == 40 then Token t.Left 0
    else (if byte == 41 then Token t.Right 0
    else (if byte == 61 then Token t.Equal 0
    else (if byte == 33 then with_equal t.Unequal more
    else (if byte == 60 then with_equal t.AtMost more
    else Nothing)))))))

-- a text, of so many characters behind its first quote, if a quote follows them
abbrev pub closed : ℕ → List ℕ → Front
closed n more =
    if begins_with_quote (drop n more) then Token (t.Text (take n more)) (n + 1) else Nothing

abbrev pub quoted : List ℕ → Front
quoted more = closed (prefix_len is_in_text more) more

-- a word goes on as long as it can
abbrev pub word : List ℕ → Front
word text = Token (word_token (take (1 + prefix_len is_in_name (drop 1 text)) text))
    (prefix_len is_in_name (drop 1 text))

abbrev pub front_of : Class → ℕ → List ℕ → Front
front_of class.Blank byte more = Skip 0
front_of class.LineFeed byte more = Skip 0
front_of class.Comment byte more = Skip (prefix_len is_in_comment more)
front_of class.Quote byte more = quoted more
front_of class.Letter byte more = word (byte ∷ more)
front_of class.Other byte more = sign byte more

abbrev pub front : List ℕ → Front
front [] = Nothing
front (byte ∷ more) = front_of (class_of byte) byte more

-- what stands behind the first byte is at most so many bytes
abbrev pub IsWithin : ℕ → Front → Type 0
IsWithin most (Skip n) = n ≤ most
IsWithin most (Token tok n) = n ≤ most
IsWithin most Nothing = Unit {0}
