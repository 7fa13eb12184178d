-- The longest number at the front of a text is the longer of the longest integer and the longest floating-point literal.
use Rattle.std.proofs.Common.{◌≡◌, ◌≢◌, ℕ, ◌<◌, ◌≤◌, ◌⊎◌, inl, inr, Bool, true, false, nat_lt, cond, List, [], ◌∷◌, ◌++◌, length, take, drop, Option, Some, None, refl, ap, sym, ◌∙◌, subst, ne_eqb, arith}
use Rattle.std.proofs.lemmas.Bool.{or_left, or_right, ltb-true, ltb-false, cases_eq}
use Rattle.std.proofs.lemmas.List.{take-append-drop, take_at, length-take-le}
use Rattle.rf_jtree.specs.declared.tokens.TokKind.{TokKind}
use Rattle.rf_jtree.specs.declared.tokens.TokKind.TheVariants as kinds
use Rattle.rf_jtree.specs.Digits.{is_digit, BeginsWith, IsDigits}
use Rattle.rf_jtree.specs.Numbers.{is_l}
use Rattle.rf_jtree.specs.Tokens.{Token, IsToken, begins_comment}
use Rattle.rf_jlex.specs.Fronts.{IsFront, IsNumberKind, int, long, float, double, GivesNumber}
use Rattle.rf_jlex.specs.NumberLengths.{integer_of, floating_of, longer}
use Rattle.rf_jlex.specs.declared.numbers.Number.{Number}
use Rattle.rf_jlex.proofs.LongestLemmas.{either, same, shorter, IsLongestOf, Joined, begins_within, begins_append, behind_begins}
use Rattle.rf_jlex.proofs.IntegerFrontLemmas.{integer_more}
use Rattle.rf_jlex.proofs.IntegerLemmas.{IsIntegerOf, Finds, integer_of_longest, int_from, long_from, integer_is}
use Rattle.rf_jlex.proofs.ExponentLemmas.{IsEnding}
use Rattle.rf_jlex.proofs.FloatingLemmas.{is_point, IsLiteral}
use Rattle.rf_jlex.proofs.LiteralLemmas.{floating_more, floating_longest, literal_is, float_from, double_from, literal_kind}
use Rattle.rf_jlex.proofs.NumberLemmas.{integer_first, number_apart}

-- what a number is, by the two languages
abbrev IsNumberOf : TokKind → List ℕ → Type 0
IsNumberOf kind text = IsIntegerOf kind text ⊎ IsLiteral kind text

record IsNumberToken (kind : TokKind) (text : List ℕ) : Type 0 where
  is_kind : IsNumberKind kind
  is_token : IsToken kind text

-- a number's first byte is a digit or a point
abbrev begins_number : ℕ → Bool
begins_number = either is_digit is_point

token_at : (kind at : TokKind) (text : List ℕ) → kind ≡ at → IsNumberKind at → IsToken at text → IsNumberToken kind text
token_at kind at text is is_kind is_token = subst (λ kind. IsNumberToken kind text) (sym is) (record { is_kind = is_kind; is_token = is_token })

integer_token : (kind : TokKind) (text : List ℕ) → IsIntegerOf kind text → IsNumberToken kind text
integer_token kind text is = elim (integer_is kind text is) [
  | inl whole ↦ token_at kind kinds.Int text whole.0 int whole.1
  | inr suffixed ↦ token_at kind kinds.Long text suffixed.0 long suffixed.1
]

literal_token : (kind : TokKind) (text : List ℕ) → IsLiteral kind text → IsNumberToken kind text
literal_token kind text is = elim (literal_kind kind text (literal_is kind text is)) [
  | inl single ↦ token_at kind kinds.Float text single.0 float single.1
  | inr other ↦ token_at kind kinds.Double text other.0 double other.1
]

number_of : (kind : TokKind) (text : List ℕ) → IsNumberKind kind → IsToken kind text → IsNumberOf kind text
number_of kind text int is = inl (int_from text is)
number_of kind text long is = inl (long_from text is)
number_of kind text float is = inr (float_from text is)
number_of kind text double is = inr (double_from text is)

digits_begin : (text back : List ℕ) (front : List ℕ) → text ≡ front ++ back → IsDigits is_digit front → BeginsWith begins_number text
digits_begin text back front parts digits =
    subst (BeginsWith begins_number) (sym parts)
    (begins_append begins_number front back (begins_within is_digit begins_number front (λ byte. or_left (is_digit byte) (is_point byte)) digits.begins))

number_begins : (kind : TokKind) (text : List ℕ) → IsNumberOf kind text → BeginsWith begins_number text
number_begins kind text is = elim is [
  | inl whole ↦ begins_within is_digit begins_number text (λ byte. or_left (is_digit byte) (is_point byte)) (integer_first kind text whole)
  | inr literal ↦ elim literal [
    | inl fraction ↦
        begins_within is_point begins_number text (λ byte. or_right (is_digit byte) (is_point byte))
        (behind_begins is_point (Joined (IsDigits is_digit) (IsEnding kind)) text fraction)
    | inr whole ↦ digits_begin text whole.back whole.front whole.parts whole.first
  ]
]

-- so no comment begins there
no_slash : (byte : ℕ) → begins_number byte ≡ true → 47 ≢ byte
no_slash byte begins is = let starts : begins_number 47 ≡ true = subst (λ byte. begins_number byte ≡ true) (sym is) begins in cc

no_comment : (piece rest : List ℕ) → BeginsWith begins_number piece → begins_comment (piece ++ rest) ≡ false
no_comment [] rest begins = absurd begins
no_comment (byte ∷ piece) rest begins = rw (ne_eqb 47 byte (no_slash byte begins))

front_is : (kind : TokKind) (text : List ℕ) (n : ℕ) → n ≤ length text → IsNumberOf kind (take n text) → IsToken kind (take n text) → IsFront (Token kind) text n
front_is kind text n within is token = record {
  within = within;
  matches = record {
    parts = sym (take-append-drop n text);
    is_piece = token;
    may_stand = no_comment (take n text) (drop n text) (number_begins kind (take n text) is);
  };
}

-- the longest front of a language is the longest number, where all other numbers are shorter
chosen : (P Q : TokKind → List ℕ → Type 0) (more : ℕ → Bool) (text : List ℕ) (number : Number)
    → ((kind : TokKind) (text : List ℕ) → P kind text → IsNumberOf kind text) → ((kind : TokKind) (text : List ℕ) → P kind text → IsNumberToken kind text)
    → ((kind : TokKind) (text : List ℕ) → IsNumberOf kind text → P kind text ⊎ Q kind text)
    → IsLongestOf TokKind P more text number.kind number.length
    → ((other : TokKind) (front rest : List ℕ) → text ≡ front ++ rest → Q other front → length front < number.length)
    → GivesNumber text (Some number)
chosen P Q more text number is_number is_token splits longest short =
    let token = is_token number.kind (take number.length text) longest.holds in
    let compares : (other : TokKind) (n : ℕ) → IsNumberKind other → IsFront (Token other) text n → (n < number.length) ⊎ ((n ≡ number.length) × (other ≡ number.kind)) =
    λ other n other_kind front.
    let size : length (take n text) ≡ n = length-take-le n text front.within in
    elim (splits other (take n text) (number_of other (take n text) other_kind front.matches.is_piece)) [
      | inl one ↦ elim (longest.compares other (take n text) (drop n text) front.matches.parts one) [
        | same length_is kind_is ↦ inr (sym size ∙ length_is, kind_is)
        | shorter less begins ↦ inl (omega arith)
      ]
      | inr two ↦ let less = short other (take n text) (drop n text) front.matches.parts two in inl (omega arith)
    ] in (
      token.is_kind,
      front_is number.kind text number.length longest.within (is_number number.kind (take number.length text) longest.holds) token.is_token,
      λ other n other_kind front. elim (compares other n other_kind front) [ inl less ↦ omega arith | inr is ↦ omega arith ],
      λ other other_kind front. elim (compares other number.length other_kind front) [ inl less ↦ absurd (omega arith) | inr is ↦ is.1 ],
    )

swapped : (P Q : Type 0) → P ⊎ Q → Q ⊎ P
swapped P Q is = elim is [ inl one ↦ inr one | inr other ↦ inl other ]

integer_chosen : (text : List ℕ) (number : Number) → IsLongestOf TokKind IsIntegerOf (either integer_more is_l) text number.kind number.length
    → ((other : TokKind) (front rest : List ℕ) → text ≡ front ++ rest → IsLiteral other front → length front < number.length) → GivesNumber text (Some number)
integer_chosen text number longest short =
    chosen IsIntegerOf IsLiteral (either integer_more is_l) text number (λ kind text. inl) integer_token (λ kind text is. is) longest short

literal_chosen : (text : List ℕ) (number : Number) → IsLongestOf TokKind IsLiteral floating_more text number.kind number.length
    → ((other : TokKind) (front rest : List ℕ) → text ≡ front ++ rest → IsIntegerOf other front → length front < number.length) → GivesNumber text (Some number)
literal_chosen text number longest short =
    chosen IsLiteral IsIntegerOf floating_more text number (λ kind text. inr) literal_token (λ kind text. swapped (IsIntegerOf kind text) (IsLiteral kind text)) longest short

-- a front is no longer than the longest
no_longer : (P : TokKind → List ℕ → Type 0) (more : ℕ → Bool) (text : List ℕ) (kind : TokKind) (n : ℕ) → IsLongestOf TokKind P more text kind n
    → (other : TokKind) (front rest : List ℕ) → text ≡ front ++ rest → P other front → length front ≤ n
no_longer P more text kind n longest other front rest is has = elim (longest.compares other front rest is has) [
  | same length_is kind_is ↦ omega arith
  | shorter less begins ↦ omega arith
]

-- where the integer is at least as long, it is longer: no text is both
integer_longer : (text : List ℕ) (number literal : Number) → literal.length ≤ number.length
    → IsLongestOf TokKind IsIntegerOf (either integer_more is_l) text number.kind number.length → IsLongestOf TokKind IsLiteral floating_more text literal.kind literal.length
    → (other : TokKind) (front rest : List ℕ) → text ≡ front ++ rest → IsLiteral other front → length front < number.length
integer_longer text number literal below one two other front rest is has =
    let short = no_longer IsLiteral floating_more text literal.kind literal.length two other front rest is has in
    elim (cases_eq (length front) number.length) [
      | inl length_is ↦
          let whole : take number.length text ≡ front = ap (take number.length) is ∙ take_at front rest number.length length_is in
          absurd (number_apart number.kind other front (subst (IsIntegerOf number.kind) whole one.holds) has)
      | inr differs ↦ omega arith
    ]

longer_of_two : (less : Bool) (text : List ℕ) (number literal : Number) → nat_lt number.length literal.length ≡ less
    → IsLongestOf TokKind IsIntegerOf (either integer_more is_l) text number.kind number.length → IsLongestOf TokKind IsLiteral floating_more text literal.kind literal.length
    → GivesNumber text (cond less (Some literal) (Some number))
longer_of_two true text number literal is one two =
    let less = ltb-true number.length literal.length is in
    literal_chosen text literal two
    (λ other front rest parts has. let short = no_longer IsIntegerOf (either integer_more is_l) text number.kind number.length one other front rest parts has in omega arith)
longer_of_two false text number literal is one two =
    integer_chosen text number one (integer_longer text number literal (ltb-false number.length literal.length is) one two)

longer_of : (text : List ℕ) (number literal : Option Number) → Finds IsIntegerOf (either integer_more is_l) text number → Finds IsLiteral floating_more text literal → GivesNumber text (longer number literal)
unfolding longer
longer_of text None None one two = λ other other_kind n front.
    elim (number_of other (take n text) other_kind front.matches.is_piece) [
      | inl whole ↦ one other (take n text) (drop n text) front.matches.parts whole
      | inr literal ↦ two other (take n text) (drop n text) front.matches.parts literal
    ]
longer_of text None (Some literal) one two = literal_chosen text literal two (λ other front rest parts has. absurd (one other front rest parts has))
longer_of text (Some number) None one two = integer_chosen text number one (λ other front rest parts has. absurd (two other front rest parts has))
longer_of text (Some number) (Some literal) one two = longer_of_two (nat_lt number.length literal.length) text number literal refl one two

-- the longest number
pub longest_number_is : (text : List ℕ) → GivesNumber text (longer (integer_of text) (floating_of text))
longest_number_is text = longer_of text (integer_of text) (floating_of text) (integer_of_longest text) (floating_longest text)
