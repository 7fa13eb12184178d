-- What it means to have read a request to rename a field of a class.
use Rattle.std.specs.Prelude.{◌≡◌, ℕ, List, [], ◌++◌, ◌⊎◌, codes}
use Rattle.rf_engine.specs.FirstForm.{line_end}
use Rattle.rf_engine.specs.Words.{IsName}

-- `rename field C.`, and what follows
abbrev pub renames_field_of : List ℕ → List ℕ → List ℕ
renames_field_of class rest = codes "rename field " ++ (class ++ (codes "." ++ rest))

-- `f to g`
abbrev pub old_to_new : List ℕ → List ℕ → List ℕ
old_to_new old new = old ++ (codes " to " ++ new)

-- a line ends by a line feed or with the text
abbrev pub IsLineEnd : List ℕ → Type 0
IsLineEnd text = (text ≡ []) ⊎ (text ≡ line_end)

-- the text is `f to g`, and then the line ends
pub record AreNames (text old new : List ℕ) : Type 0 where
  pub old_name : IsName old
  pub new_name : IsName new
  pub ending : List ℕ
  pub ends : IsLineEnd ending
  pub whole : text ≡ old_to_new old (new ++ ending)

-- the text is of these two names, and of no others
pub record AreOnlyNames (text old new : List ℕ) : Type 0 where
  pub are_names : AreNames text old new
  pub only : (other_old other_new : List ℕ) → AreNames text other_old other_new → (other_old ≡ old) × (other_new ≡ new)

-- the request is the line that renames old to new
pub record IsRequest (request class old new : List ℕ) : Type 0 where
  pub old_name : IsName old
  pub new_name : IsName new
  pub line : (request ≡ renames_field_of class (old_to_new old new)) ⊎ (request ≡ renames_field_of class (old_to_new old new) ++ line_end)

-- the request renames old to new, and nothing else
pub record IsOnlyRequest (request class old new : List ℕ) : Type 0 where
  pub is_request : IsRequest request class old new
  pub only : (other_old other_new : List ℕ) → IsRequest request class other_old other_new → (other_old ≡ old) × (other_new ≡ new)
