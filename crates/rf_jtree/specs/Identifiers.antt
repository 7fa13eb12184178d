-- Words: identifiers, keywords and the literals that are words (JLS 3.8, 3.9, 3.10.3, 3.10.7).
use Rattle.std.specs.Prelude.{◌≡◌, ℕ, Bool, true, ◌||◌, ◌==◌, List, [], ◌∷◌, All, Option, Some, None, if◌then◌else◌, codes}
use Rattle.std.specs.Char.{IsScalar}
use Rattle.std.specs.List.{AllPass}
use Rattle.std.specs.Str.{bytes_eq, encode_utf8_all}
use Rattle.unicode_ident.specs.Ident.{is_xid_start, is_xid_continue}
use Rattle.rf_jtree.specs.declared.tokens.TokKind.{TokKind}
use Rattle.rf_jtree.specs.declared.tokens.TokKind.TheVariants as kind
use Rattle.rf_jtree.specs.declared.words.Kw.{Kw}
use Rattle.rf_jtree.specs.Words.{keyword_of}

-- a character that a word may begin with: one of XID_Start, `_` or `$` (JLS 3.8)
abbrev pub is_letter : ℕ → Bool
is_letter character = is_xid_start character || ((character == 95) || (character == 36))

-- and one that it may go on with: one of XID_Continue or `$`
abbrev pub is_letter_or_digit : ℕ → Bool
is_letter_or_digit character = is_xid_continue character || (character == 36)

abbrev pub BeginsWithLetter : List ℕ → Type 0
BeginsWithLetter [] = ⊥
BeginsWithLetter (character ∷ characters) = is_letter character ≡ true

-- a word: letters and digits, the first of them a letter
pub record IsWord (text : List ℕ) : Type 0 where
  pub characters : List ℕ
  pub parts : text ≡ encode_utf8_all characters
  pub scalars : All IsScalar characters
  pub begins : BeginsWithLetter characters
  pub goes_on : AllPass is_letter_or_digit characters

-- what a word is: a keyword, `true`, `false` or `null`, or else an identifier
abbrev kind_by : Option Kw → List ℕ → TokKind
kind_by (Some word) text = kind.Key word
kind_by None text =
    if bytes_eq text (codes "true") then kind.True
    else (if bytes_eq text (codes "false") then kind.False
    else (if bytes_eq text (codes "null") then kind.Null else kind.Ident))

abbrev pub word_kind : List ℕ → TokKind
word_kind text = kind_by (keyword_of text) text
