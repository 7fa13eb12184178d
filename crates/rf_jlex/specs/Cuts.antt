-- What follows the trivia at the front of a text.
use Rattle.std.specs.Prelude.{ℕ, ◌≤◌, List, length, take, drop}
use Rattle.rf_jtree.specs.Tokens as tokens
use Rattle.rf_jtree.specs.Tokens.{IsLongest, HasNoPiece}
use Rattle.rf_jlex.specs.declared.lexer.Next.{Next}
use Rattle.rf_jlex.specs.declared.lexer.Next.TheVariants.{Token, Nothing}

-- a token that longest match cuts off, or no piece at all
abbrev pub IsNext : List ℕ → Next → Type 0
IsNext text (Token kind len) = (len ≤ length text) × IsLongest text (tokens.Token kind) (take len text) (drop len text)
IsNext text Nothing = HasNoPiece text
