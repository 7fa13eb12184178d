-- What the lexer answers.
use Rattle.std.specs.Prelude.{ℕ, List, Result, Ok, Err}
use Rattle.rf_jtree.specs.declared.tokens.Toks.{Toks}
use Rattle.rf_jtree.specs.Tokens.{AreTokens, IsFault}
use Rattle.rf_jlex.specs.declared.lexer.LexErr.{LexErr}
use Rattle.rf_jlex.specs.declared.lexer.LexErr.TheVariants.{Fault, Memory}

-- the bytes have no token list
abbrev pub HasNoTokens : List ℕ → Type 0
HasNoTokens bytes = (toks : Toks) → AreTokens bytes toks → ⊥

-- the token list; or the bytes have none, and the offset is that of the fault; or want of memory
abbrev pub IsLexed : List ℕ → Result Toks LexErr → Type 0
IsLexed bytes (Ok toks) = AreTokens bytes toks
IsLexed bytes (Err (Fault offset)) = HasNoTokens bytes × IsFault bytes offset
IsLexed bytes (Err Memory) = Unit {0}
