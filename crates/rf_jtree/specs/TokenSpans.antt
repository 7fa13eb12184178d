-- Where a token stands in the bytes of its file.
use Rattle.std.specs.Prelude.{ℕ, ◌+◌, List, Option, length, take, slice_get, option_map}
use Rattle.std.specs.List.{flat_map}
use Rattle.rf_text.specs.declared.span.Span.{Span}
use Rattle.rf_jtree.specs.declared.tokens.Tok.{Tok}
use Rattle.rf_jtree.specs.Tokens.{tok_bytes}

-- so many bytes of a file from this offset on
abbrev pub span_at : ℕ → ℕ → ℕ → Span
span_at file from size = record { file = file; from = from; to = from + size }

-- where the text of a token begins: behind the tokens before it, each with its lead, and behind its own lead
abbrev pub text_start : List Tok → Tok → ℕ
text_start before tok = length (flat_map tok_bytes before) + length tok.lead

-- the span of the text of token n, if there are so many
abbrev pub span_of : ℕ → List Tok → ℕ → Option Span
span_of file toks n = option_map (λ tok. span_at file (text_start (take n toks) tok) (length tok.text)) (slice_get toks n)
