-- The longest piece at the front of a text, by the class of its first byte.
use Rattle.std.proofs.Common.{◌≡◌, ℕ, zero, suc, ◌<◌, ◌≤◌, Bool, true, false, nat_le, nat_eq, if◌then◌else◌, bytes_eq, take-append-drop, List, [], ◌∷◌, inl, inr, ⊎_elim, Option, Some, None, Contains, length, take, drop, sym, refl, ap, ◌∙◌, subst, arith, codes, eqb-true, ne_eqb, get_or}
use Rattle.std.specs.List.{starts_with}
use Rattle.std.proofs.lemmas.Bool.Decides.{Decides-eqb}
use Rattle.std.proofs.lemmas.Slice.Eq.{starts_is}
use Rattle.std.proofs.lemmas.Bool.{agree_below_at, le-leb, cases_lt}
use Rattle.rf_jtree.specs.declared.tokens.TokKind.{TokKind}
use Rattle.rf_jtree.specs.declared.tokens.TokKind.TheVariants as kind
use Rattle.rf_jtree.specs.declared.words.Kw.{Kw}
use Rattle.rf_jtree.specs.Identifiers.{IsWord, word_kind}
use Rattle.rf_jtree.specs.Trivia.{WHITE_SPACE}
use Rattle.rf_jtree.specs.Words.{keyword_of}
use Rattle.rf_jtree.specs.Tokens as tokens
use Rattle.rf_jtree.specs.Tokens.{IsLongest, HasNoPiece, begins_comment, IsToken, IsPiece, MayStand}
use Rattle.rf_jlex.specs.declared.classes.Class.TheVariants.{End, WhiteSpace, Slash, Digit, Point, Quote, DoubleQuote, Letter, Other}
use Rattle.rf_jlex.specs.declared.numbers.Number.{Number}
use Rattle.rf_jlex.specs.declared.operators.FrontOperator.{FrontOperator}
use Rattle.rf_jlex.specs.Classes.{class_of, class_at, is_white}
use Rattle.rf_jlex.specs.Fronts.{IsFront, HasNoFront, GivesOnly, GivesNumber, GivesWord, GivesOperator}
use Rattle.rf_jlex.specs.Pieces.{HasOnlyOperators}
use Rattle.rf_jlex.proofs.ClassLemmas.{is_class, or_cases}
use Rattle.rf_jlex.proofs.FrontLemmas.{HasNoPiece-fronts, IsLongest-fronts, OpensWith, fits, fits_at}

-- what `GivesPiece` says of a piece
abbrev IsPieceAt : List ℕ → tokens.Sort → ℕ → Type 0
IsPieceAt text sort n = (n ≤ length text) × IsLongest text sort (take n text) (drop n text)

IsPieceAt-fronts : (text : List ℕ) (sort : tokens.Sort) (n : ℕ) → IsFront sort text n → ((other : tokens.Sort) (m : ℕ) → IsFront other text m → m ≤ n) → IsPieceAt text sort n
IsPieceAt-fronts text sort n front longest = (front.within, IsLongest-fronts text sort n front longest)

-- no piece is empty
stands_nowhere : (sort : tokens.Sort) → MayStand sort [] []
stands_nowhere tokens.WhiteSpace = tt
stands_nowhere tokens.LineComment = tt
stands_nowhere tokens.BlockComment = tt
stands_nowhere (tokens.Token kind) = refl

pub length-piece : (sort : tokens.Sort) (piece : List ℕ) → IsPiece sort piece → 0 < length piece
length-piece sort [] is = absurd (fits [] sort 0 record { within = omega arith; matches = record { parts = refl; is_piece = is; may_stand = stands_nowhere sort } })
length-piece sort (byte ∷ bytes) is = omega arith

IsFront-some : (text : List ℕ) (sort : tokens.Sort) (n : ℕ) → IsFront sort text n → 0 < n
IsFront-some text sort zero front = absurd (omega (arith, length-piece sort [] front.matches.is_piece))
IsFront-some text sort (suc n) front = omega arith

-- where all fronts are of one sort
abbrev HasOnly : tokens.Sort → List ℕ → Type 0
HasOnly sort text = (other : tokens.Sort) (n : ℕ) → IsFront other text n → other ≡ sort

one_sort : (text : List ℕ) (sort : tokens.Sort) (n : ℕ) → HasOnly sort text → GivesOnly sort text (Some n) → IsPieceAt text sort n
one_sort text sort n only given = IsPieceAt-fronts text sort n given.0 (λ other m front.
    let same : m ≡ n = given.1 m (subst (λ s. IsFront s text m) (only other m front) front) in omega arith)

no_sort : (text : List ℕ) (sort : tokens.Sort) → HasOnly sort text → HasNoFront sort text → HasNoPiece text
no_sort text sort only none = HasNoPiece-fronts text (λ other m front. none m (subst (λ s. IsFront s text m) (only other m front) front))

-- literals
pub character_given : (text : List ℕ) (n : ℕ) → class_at text ≡ Quote → GivesOnly (tokens.Token kind.Char) text (Some n) → IsPieceAt text (tokens.Token kind.Char) n
character_given text n at = one_sort text (tokens.Token kind.Char) n (λ other m front. fits_at text other m Quote at front)

pub no_character : (text : List ℕ) → class_at text ≡ Quote → HasNoFront (tokens.Token kind.Char) text → HasNoPiece text
no_character text at = no_sort text (tokens.Token kind.Char) (λ other m front. fits_at text other m Quote at front)

pub string_given : (text : List ℕ) (n : ℕ) → class_at text ≡ DoubleQuote → GivesOnly (tokens.Token kind.Str) text (Some n) → IsPieceAt text (tokens.Token kind.Str) n
string_given text n at = one_sort text (tokens.Token kind.Str) n (λ other m front. fits_at text other m DoubleQuote at front)

pub no_string : (text : List ℕ) → class_at text ≡ DoubleQuote → HasNoFront (tokens.Token kind.Str) text → HasNoPiece text
no_string text at = no_sort text (tokens.Token kind.Str) (λ other m front. fits_at text other m DoubleQuote at front)

-- comments
pub opens_if : (text : List ℕ) (byte : ℕ) (test : Bool) → test ≡ starts_with nat_eq text (47 ∷ byte ∷ []) → test ≡ true → OpensWith byte text
opens_if text byte test value is = (drop 2 text, (starts_is Decides-eqb text (47 ∷ byte ∷ []) test value).0 is)

pub opens_not_if : (text : List ℕ) (byte : ℕ) (test : Bool) → test ≡ starts_with nat_eq text (47 ∷ byte ∷ []) → test ≡ false → OpensWith byte text → ⊥
opens_not_if text byte test value isnt opens = let is : test ≡ true = (starts_is Decides-eqb text (47 ∷ byte ∷ []) test value).1 opens.0 opens.1 in absurd cc

pub not_both : (text : List ℕ) → OpensWith 47 text → OpensWith 42 text → ⊥
not_both text line block = absurd (omega (arith, ap (λ t. get_or t 1 0) (sym line.1 ∙ block.1)))

pub line_begins : (text : List ℕ) → OpensWith 47 text → begins_comment text ≡ true
line_begins text line = ap begins_comment line.1

pub block_begins : (text : List ℕ) → OpensWith 42 text → begins_comment text ≡ true
block_begins text block = ap begins_comment block.1

only_line : (text : List ℕ) → class_at text ≡ Slash → OpensWith 47 text → HasOnly tokens.LineComment text
only_line text at line other m front =
    elim (fits_at text other m Slash at front) [
      | inl is ↦ is.0
      | inr more ↦ elim more [ inl block ↦ absurd (not_both text line block.1) | inr op ↦ let b = line_begins text line in let f = op.1 in absurd cc ]
    ]

only_block : (text : List ℕ) → class_at text ≡ Slash → OpensWith 42 text → HasOnly tokens.BlockComment text
only_block text at block other m front =
    elim (fits_at text other m Slash at front) [
      | inl line ↦ absurd (not_both text line.1 block)
      | inr more ↦ elim more [ inl is ↦ is.0 | inr op ↦ let b = block_begins text block in let f = op.1 in absurd cc ]
    ]

pub line_given : (text : List ℕ) (n : ℕ) → class_at text ≡ Slash → OpensWith 47 text → GivesOnly tokens.LineComment text (Some n) → IsPieceAt text tokens.LineComment n
line_given text n at line = one_sort text tokens.LineComment n (only_line text at line)

pub no_line : (text : List ℕ) → class_at text ≡ Slash → OpensWith 47 text → HasNoFront tokens.LineComment text → HasNoPiece text
no_line text at line = no_sort text tokens.LineComment (only_line text at line)

pub block_given : (text : List ℕ) (n : ℕ) → class_at text ≡ Slash → OpensWith 42 text → GivesOnly tokens.BlockComment text (Some n) → IsPieceAt text tokens.BlockComment n
block_given text n at block = one_sort text tokens.BlockComment n (only_block text at block)

pub no_block : (text : List ℕ) → class_at text ≡ Slash → OpensWith 42 text → HasNoFront tokens.BlockComment text → HasNoPiece text
no_block text at block = no_sort text tokens.BlockComment (only_block text at block)

pub only_operators_at_slash : (text : List ℕ) → class_at text ≡ Slash → (OpensWith 47 text → ⊥) → (OpensWith 42 text → ⊥) → HasOnlyOperators text
only_operators_at_slash text at no_line no_block other m front =
    elim (fits_at text other m Slash at front) [
      | inl line ↦ absurd (no_line line.1)
      | inr more ↦ elim more [ inl block ↦ absurd (no_block block.1) | inr op ↦ op.0 ]
    ]

-- numbers
pub number_given : (text : List ℕ) (number : Number) → class_at text ≡ Digit → GivesNumber text (Some number) → IsPieceAt text (tokens.Token number.kind) number.length
number_given text number at given = IsPieceAt-fronts text (tokens.Token number.kind) number.length given.1 (λ other m front.
    let is = fits_at text other m Digit at front in
    given.2 is.0 m is.1 (subst (λ s. IsFront s text m) is.2 front))

pub no_number : (text : List ℕ) → class_at text ≡ Digit → GivesNumber text None → HasNoPiece text
no_number text at none = HasNoPiece-fronts text (λ other m front.
    let is = fits_at text other m Digit at front in
    none is.0 is.1 m (subst (λ s. IsFront s text m) is.2 front))

pub number_given_at_point : (text : List ℕ) (number : Number) → class_at text ≡ Point → GivesNumber text (Some number) → IsPieceAt text (tokens.Token number.kind) number.length
number_given_at_point text number at given = IsPieceAt-fronts text (tokens.Token number.kind) number.length given.1 (λ other m front.
    elim (fits_at text other m Point at front) [
      | inl is ↦ given.2 is.0.0 m is.0.1 (subst (λ s. IsFront s text m) is.0.2 front)
      | inr op ↦
          let some : 0 < number.length = IsFront-some text (tokens.Token number.kind) number.length given.1 in
          let one : m ≡ 1 = op.1 in
          omega arith
    ])

pub only_operators_at_point : (text : List ℕ) → class_at text ≡ Point → GivesNumber text None → HasOnlyOperators text
only_operators_at_point text at none other m front =
    elim (fits_at text other m Point at front) [
      | inl is ↦ absurd (none is.0.0 is.0.1 m (subst (λ s. IsFront s text m) is.0.2 front))
      | inr op ↦ op.0
    ]

-- operators
pub operator_given : (text : List ℕ) (found : FrontOperator) → HasOnlyOperators text → GivesOperator text (Some found) → IsPieceAt text (tokens.Token (kind.Op found.op)) found.length
operator_given text found only given = IsPieceAt-fronts text (tokens.Token (kind.Op found.op)) found.length given.0 (λ other m front.
    let is = only other m front in
    given.1 is.0 m (subst (λ s. IsFront s text m) is.1 front))

pub no_operator : (text : List ℕ) → HasOnlyOperators text → GivesOperator text None → HasNoPiece text
no_operator text only none = HasNoPiece-fronts text (λ other m front.
    let is = only other m front in
    none is.0 m (subst (λ s. IsFront s text m) is.1 front))

pub only_operators : (text : List ℕ) → class_at text ≡ Other → HasOnlyOperators text
only_operators text at other m front = fits_at text other m Other at front

-- words
abbrev kind_by : Option Kw → List ℕ → TokKind
kind_by (Some word) text = kind.Key word
kind_by None text =
    if bytes_eq text (codes "true") then kind.True
    else (if bytes_eq text (codes "false") then kind.False
    else (if bytes_eq text (codes "null") then kind.Null else kind.Ident))

by_if : (P : TokKind → Type 0) (test : Bool) (one other : TokKind) → P one → P other → P (if test then one else other)
by_if P true one other at_one at_other = at_one
by_if P false one other at_one at_other = at_other

by_word : (P : TokKind → Type 0) → ((word : Kw) → P (kind.Key word)) → P kind.True → P kind.False → P kind.Null → P kind.Ident → (found : Option Kw) (text : List ℕ) → P (kind_by found text)
by_word P at_key at_true at_false at_null at_ident (Some word) text = at_key word
by_word P at_key at_true at_false at_null at_ident None text =
    by_if P (bytes_eq text (codes "true")) _ _ at_true
    (by_if P (bytes_eq text (codes "false")) _ _ at_false
    (by_if P (bytes_eq text (codes "null")) _ _ at_null at_ident))

IsToken-word : (text : List ℕ) → IsWord text → IsToken (word_kind text) text
IsToken-word text is =
    let P : TokKind → Type 0 = λ k. word_kind text ≡ k → IsToken k text in
    by_word P (λ word e. (is, e)) (λ e. (is, e)) (λ e. (is, e)) (λ e. (is, e)) (λ e. (is, e)) (keyword_of text) text refl

begins_no_comment : (text : List ℕ) → class_at text ≡ Letter → begins_comment text ≡ false
begins_no_comment [] at = absurd cc
begins_no_comment (byte ∷ bytes) at =
    let other : nat_eq 47 byte ≡ false = ne_eqb 47 byte (λ e. let slash : class_of byte ≡ Slash = ap class_of (sym e) in cc) in
    rw other refl

IsFront-word : (text : List ℕ) (n : ℕ) → class_at text ≡ Letter → n ≤ length text → IsWord (take n text) → IsFront (tokens.Token (word_kind (take n text))) text n
IsFront-word text n at within is = record {
  within = within;
  matches = record {
    parts = sym (take-append-drop n text);
    is_piece = IsToken-word (take n text) is;
    may_stand = ap begins_comment (take-append-drop n text) ∙ begins_no_comment text at;
  };
}

pub word_given : (text : List ℕ) (n : ℕ) (word : TokKind) → class_at text ≡ Letter → GivesWord text (Some n) → word ≡ word_kind (take n text) → IsPieceAt text (tokens.Token word) n
word_given text n word at given is = subst (λ k. IsPieceAt text (tokens.Token k) n) (sym is)
    (IsPieceAt-fronts text (tokens.Token (word_kind (take n text))) n (IsFront-word text n at given.0 given.1) (λ other m front.
    given.2 m front.within (fits_at text other m Letter at front).1))

pub no_word : (text : List ℕ) → class_at text ≡ Letter → GivesWord text None → HasNoPiece text
no_word text at none = HasNoPiece-fronts text (λ other m front. none m front.within (fits_at text other m Letter at front).1)

-- white space
is_white_low : (byte : ℕ) → byte < 128 → class_of byte ≡ WhiteSpace → is_white byte ≡ true
is_white_low byte low at = agree_below_at is_white (λ b. is_class (class_of b) WhiteSpace) 128 byte refl low ∙ ap (λ c. is_class c WhiteSpace) at

is_low : (byte : ℕ) → class_of byte ≡ WhiteSpace → byte < 128
is_low byte at = ⊎_elim
    (λ low. low)
    (λ high. let e : nat_le 128 byte ≡ true = le-leb 128 byte high in let letter : class_of byte ≡ Letter = rw e refl in absurd cc)
    (cases_lt byte 128)

among_white : (byte : ℕ) → is_white byte ≡ true → Contains WHITE_SPACE byte
among_white byte is = ⊎_elim
    (λ a. (0, omega arith, sym (eqb-true byte 32 a)))
    (λ more. ⊎_elim
    (λ b. (1, omega arith, sym (eqb-true byte 9 b)))
    (λ more. ⊎_elim
    (λ c. (2, omega arith, sym (eqb-true byte 12 c)))
    (λ more. ⊎_elim
    (λ d. (3, omega arith, sym (eqb-true byte 13 d)))
    (λ e. (4, omega arith, sym (eqb-true byte 10 e)))
    (or_cases _ _ more))
    (or_cases _ _ more))
    (or_cases _ _ more))
    (or_cases _ _ is)

IsFront-white : (text : List ℕ) → class_at text ≡ WhiteSpace → IsFront tokens.WhiteSpace text 1
IsFront-white [] at = absurd cc
IsFront-white (byte ∷ bytes) at = record {
  within = omega arith;
  matches = record {
    parts = refl;
    is_piece = record { byte = byte; parts = refl; is_white = among_white byte (is_white_low byte (is_low byte at) at) };
    may_stand = tt;
  };
}

pub white_given : (text : List ℕ) → class_at text ≡ WhiteSpace → IsPieceAt text tokens.WhiteSpace 1
white_given text at = IsPieceAt-fronts text tokens.WhiteSpace 1 (IsFront-white text at) (λ other m front.
    let one : m ≡ 1 = (fits_at text other m WhiteSpace at front).1 in omega arith)

pub no_end : (text : List ℕ) → class_at text ≡ End → HasNoPiece text
no_end text at = HasNoPiece-fronts text (λ other m front. fits_at text other m End at front)
