-- The tokens of a rule file. Names, access words, texts and `old` carry their line, since the trees have it.
use Rattle.std.specs.Prelude.{ℕ, List}

pub data Tok : Type 0 where
  Rule : Tok
  Derive : Tok
  For : Tok
  If : Tok
  Then : Tok
  Means : Tok
  End : Tok
  Implies : Tok
  Or : Tok
  And : Tok
  Not : Tok
  All : Tok
  Some : Tok
  True : Tok
  False : Tok
  Comma : Tok
  Colon : Tok
  Dot : Tok
  Left : Tok
  Right : Tok
  Equal : Tok
  Unequal : Tok
  AtMost : Tok
  -- `old`
  Old : ℕ → Tok
  Name : List ℕ → ℕ → Tok
  -- one of the four access words
  Access : List ℕ → ℕ → Tok
  -- the characters between two quotes
  Text : List ℕ → ℕ → Tok
  -- a place at which no token begins
  Bad : Tok
