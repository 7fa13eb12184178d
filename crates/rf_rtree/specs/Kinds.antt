-- Which kind is part of which.
use Rattle.std.specs.Prelude.{ℕ, List, [], Bool, ◌||◌, Option, Some, None, is_some}
use Rattle.std.specs.List.{find, list_any}
use Rattle.std.specs.Str.{bytes_eq}
use Rattle.rf_rtree.specs.Tables.{Entry, KINDS}

abbrev pub is_among : List ℕ → List (List ℕ) → Bool
is_among text texts = list_any (λ other. bytes_eq other text) texts

abbrev pub entry_named : List ℕ → List Entry → Option Entry
entry_named text entries = find (λ entry. bytes_eq entry.name text) entries

abbrev pub is_kind : List ℕ → Bool
is_kind text = is_some (entry_named text KINDS)

abbrev pub kinds_of : Option Entry → List (List ℕ)
kinds_of None = []
kinds_of (Some entry) = entry.kinds

-- a kind is the wanted one or part of it
abbrev pub is_part : List ℕ → List ℕ → Bool
is_part kind wanted = bytes_eq wanted kind || is_among kind (kinds_of (entry_named wanted KINDS))
