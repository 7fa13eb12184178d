-- What a kind fault tells, and which of several is the first in the order of the text.
use Rattle.std.specs.Prelude.{ℕ, List, [], ◌∷◌, Bool, true, false, Option, Some, None}

-- the line of the faulty word, what is found there and what was wanted
pub record Told : Type 0 where
  pub line : ℕ
  pub found : List ℕ
  pub wanted : List ℕ

abbrev pub told : ℕ → List ℕ → List ℕ → Told
told line found wanted = record { line = line; found = found; wanted = wanted }

-- the first fault of two parts of a text, where the second part follows the first
abbrev pub or_later : {X : Type 0} → Option X → Option X → Option X
or_later (Some fault) later = Some fault
or_later None later = later

-- the first fault of the items of a list
abbrev pub first_of : {X Y : Type 0} → (X → Option Y) → List X → Option Y
first_of fault [] = None
first_of fault (x ∷ xs) = or_later (fault x) (first_of fault xs)

-- a fault where the test fails
abbrev pub unless : Bool → Told → Option Told
unless true fault = None
unless false fault = Some fault
