-- The lines of a text that aren't skipped, from its first line on.
use Rattle.std.proofs.Common.{◌≡◌, ◌∙◌, ap, ℕ, ◌+◌, Bool, true, false, List, [], ◌∷◌, if◌then◌else◌}
use Rattle.std.specs.Str.Lines.{lines}
use Rattle.rf_request.specs.Requests.{is_read, read_from, lines_from}
use Rattle.rf_request.specs.Words.{words_of}

one_line : (number : ℕ) (text line rest : List ℕ) (read : Bool) → lines text ≡ line ∷ lines rest → is_read (words_of line) ≡ read →
    lines_from number text ≡ (if read then (number, words_of line) ∷ lines_from (number + 1) rest else lines_from (number + 1) rest)
unfolding lines_from
one_line number text line rest read is test =
    ap (read_from number) is
    ∙ ap (λ (b : Bool). if b then (number, words_of line) ∷ read_from (number + 1) (lines rest) else read_from (number + 1) (lines rest)) test

pub line_read : (number : ℕ) (text line rest : List ℕ) → lines text ≡ line ∷ lines rest → is_read (words_of line) ≡ true →
    lines_from number text ≡ (number, words_of line) ∷ lines_from (number + 1) rest
line_read number text line rest is test = one_line number text line rest true is test

pub line_skipped : (number : ℕ) (text line rest : List ℕ) → lines text ≡ line ∷ lines rest → is_read (words_of line) ≡ false →
    lines_from number text ≡ lines_from (number + 1) rest
line_skipped number text line rest is test = one_line number text line rest false is test

pub no_lines : (number : ℕ) (text : List ℕ) → text ≡ [] → lines_from number text ≡ []
unfolding lines_from
no_lines number text none = ap (λ (t : List ℕ). read_from number (lines t)) none
