-- How a text is looked up in a table: by a hash that tells its texts apart.
use Rattle.std.specs.Prelude.{ℕ, ◌+◌, ◌*◌, ◌%◌, List, Option, Some, None, Bool, false, length, get_or, slice_get}
use Rattle.std.specs.Str.{bytes_eq}
use Rattle.rf_jtree.specs.declared.words.TheConstants.{PLACES as KEYWORD_PLACES}
use Rattle.rf_jtree.specs.declared.operators.TheConstants.{PLACES as OPERATOR_PLACES}

-- a byte of a text, 0 behind its end
abbrev pub byte_at : List ℕ → ℕ → ℕ
byte_at text at = get_or text at 0

-- where a text stands among the keywords, if it is one
unfoldable pub keyword_guess : List ℕ → ℕ
keyword_guess text = get_or KEYWORD_PLACES ((byte_at text 0 + 10 * byte_at text 1 + 6 * (length text % 256)) % 256) 0

-- where a text stands among the separators and operators, if it is one
unfoldable pub operator_guess : List ℕ → ℕ
operator_guess text = get_or OPERATOR_PLACES ((byte_at text 0 + 2 * byte_at text 1 + byte_at text 2 + byte_at text 3) % 256) 0

abbrev pub is_found : Option (List ℕ) → List ℕ → Bool
is_found (Some found) text = bytes_eq found text
is_found None text = false

-- whether a text is the one at this place of a table
unfoldable pub stands_at : List (List ℕ) → ℕ → List ℕ → Bool
stands_at table place text = is_found (slice_get table place) text
