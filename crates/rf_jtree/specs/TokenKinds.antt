-- The kinds of tokens by what they are spelled as, and what may stand right behind a number.
use Rattle.std.specs.Prelude.{Bool, true, false, ◌==◌}
use Rattle.rf_jtree.specs.declared.tokens.TokKind.{TokKind}
use Rattle.rf_jtree.specs.declared.tokens.TokKind.TheVariants as kind
use Rattle.rf_jtree.specs.declared.keyword_names.TheConstants.{INSTANCEOF}

-- a literal of a number (JLS 3.10.1, 3.10.2)
abbrev pub is_number : TokKind → Bool
is_number kind.Int = true
is_number kind.Long = true
is_number kind.Float = true
is_number kind.Double = true
is_number kind = false

-- a word: an identifier, a keyword, `true`, `false` or `null` (JLS 3.8, 3.9, 3.10.3, 3.10.7)
abbrev pub is_word_kind : TokKind → Bool
is_word_kind kind.Ident = true
is_word_kind (kind.Key word) = true
is_word_kind kind.True = true
is_word_kind kind.False = true
is_word_kind kind.Null = true
is_word_kind kind = false

-- what may stand right behind a number, with nothing between them, in a file that fits: a separator, an operator, or
-- `instanceof`. So no other word is ever read as the end of the number before it.
abbrev pub may_follow_number : TokKind → Bool
may_follow_number (kind.Op op) = true
may_follow_number (kind.Key word) = word.0 == INSTANCEOF.0
may_follow_number kind = false
