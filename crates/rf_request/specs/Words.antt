-- The words of a line.
use Rattle.std.specs.Prelude.{ℕ, List, [], ◌∷◌, Bool, true, false, ◌||◌, ◌==◌, not, filter}
use Rattle.std.specs.List.{slice_split}
use Rattle.std.specs.Str.Lines.{strip_carriage_return}

-- a line goes on to LF
abbrev pub is_in_line : ℕ → Bool
is_in_line byte = not (byte == 10)

abbrev pub without_return : List ℕ → List ℕ
without_return line = strip_carriage_return line

-- space and tab part words
abbrev pub is_blank : ℕ → Bool
is_blank byte = (byte == 32) || (byte == 9)

abbrev pub is_in_word : ℕ → Bool
is_in_word byte = not (is_blank byte)

abbrev pub is_word : List ℕ → Bool
is_word [] = false
is_word (byte ∷ bytes) = true

-- the words of a line: its parts between blanks, but for the empty ones
unfoldable pub words_of : List ℕ → List (List ℕ)
words_of line = filter is_word (slice_split is_blank line)
