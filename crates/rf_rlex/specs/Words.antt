-- The reserved words, the access words and names.
use Rattle.std.specs.Prelude.{ℕ, List, Bool, ◌||◌, Option, Some, None, codes, if◌then◌else◌}
use Rattle.std.specs.Str.{bytes_eq}
use Rattle.rf_rlex.specs.declared.tokens.Tok.{Tok}
use Rattle.rf_rlex.specs.declared.tokens.Tok.TheVariants as t

unfoldable pub item_word : List ℕ → Option Tok
item_word text =
    if bytes_eq text (codes "rule") then Some t.Rule
    else (if bytes_eq text (codes "derive") then Some t.Derive
    else (if bytes_eq text (codes "for") then Some t.For
    else (if bytes_eq text (codes "if") then Some t.If
    else (if bytes_eq text (codes "then") then Some t.Then
    else (if bytes_eq text (codes "means") then Some t.Means
    else (if bytes_eq text (codes "end") then Some t.End
    else None))))))

unfoldable pub form_word : List ℕ → Option Tok
form_word text =
    if bytes_eq text (codes "implies") then Some t.Implies
    else (if bytes_eq text (codes "or") then Some t.Or
    else (if bytes_eq text (codes "and") then Some t.And
    else (if bytes_eq text (codes "not") then Some t.Not
    else (if bytes_eq text (codes "all") then Some t.All
    else (if bytes_eq text (codes "some") then Some t.Some
    else (if bytes_eq text (codes "true") then Some t.True
    else (if bytes_eq text (codes "false") then Some t.False
    else (if bytes_eq text (codes "old") then Some t.Old
    else None))))))))

unfoldable pub is_access : List ℕ → Bool
is_access text = bytes_eq text (codes "private") || (bytes_eq text (codes "package") ||
    (bytes_eq text (codes "protected") || bytes_eq text (codes "public")))

abbrev pub other_word : List ℕ → Tok
other_word text = if is_access text then t.Access text else t.Name text

abbrev pub word_or : Option Tok → Tok → Tok
word_or (Some tok) other = tok
word_or None other = other

-- a reserved word, an access word, or else a name
abbrev pub word_token : List ℕ → Tok
word_token text = word_or (item_word text) (word_or (form_word text) (other_word text))
