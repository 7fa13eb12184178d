-- The longest number at the front of a text: no text is both an integer and a floating-point literal.
use Rattle.std.proofs.Common.{◌≡◌, ℕ, ◌⊎◌, inl, inr, Bool, true, ◌||◌, List, [], ◌∷◌, ◌++◌, length, get_or, codes, refl, ap, sym, ◌∙◌, subst}
use Rattle.std.specs.List.{AllPass}
use Rattle.std.proofs.lemmas.Bool.{or_left, or_right, or_cases, eqb-true}
use Rattle.std.proofs.lemmas.List.Elements.{All-nil, All-cons, All-head, All-tail}
use Rattle.rf_jtree.specs.declared.tokens.TokKind.{TokKind}
use Rattle.rf_jtree.specs.Digits.{is_digit, is_octal_digit, or_underscore, BeginsWith, EndsWith, IsDigits}
use Rattle.rf_jtree.specs.Numbers.{is_x, is_b, is_l, IsInteger, zero_alone, decimal, octal, hexadecimal, binary}
use Rattle.rf_jlex.specs.DigitRuns.{digits_length}
use Rattle.rf_jlex.proofs.LongestLemmas.{Apart, same, shorter, Joined, of_two, begins_append, cut_behind, behind_begins}
use Rattle.rf_jlex.proofs.DigitFrontLemmas.{ends_cons, ends_alone, digits_full, digits_longest}
use Rattle.rf_jlex.proofs.IntegerFrontLemmas.{octal_digit, underscore_within}
use Rattle.rf_jlex.proofs.IntegerLemmas.{IsIntegerEnd, IsIntegerOf, end_begins}
use Rattle.rf_jlex.proofs.ExponentLemmas.{IsEnding}
use Rattle.rf_jlex.proofs.FloatingLemmas.{is_point, IsLiteral, begins_rest, rest_begins, whole_apart}

begins_both : (p q : ℕ → Bool) (text : List ℕ) → Apart p q → BeginsWith p text → BeginsWith q text → ⊥
begins_both p q [] apart begins also = also
begins_both p q (byte ∷ bytes) apart begins also = apart byte begins also

-- zero, and a letter behind it
record IsLettered (text : List ℕ) : Type 0 where
  letter : ℕ
  back : List ℕ
  parts : text ≡ 48 ∷ letter ∷ back
  passes : (is_x letter || is_b letter) ≡ true

octal_digits : (text digits : List ℕ) → text ≡ 48 ∷ digits → AllPass (or_underscore is_octal_digit) digits → EndsWith is_octal_digit digits → IsDigits is_digit text
octal_digits text digits parts all ends =
    let digits_all : AllPass (or_underscore is_digit) digits = λ k other within. underscore_within is_octal_digit is_digit octal_digit (get_or digits k other) (all k other within) in
    let digits_end : EndsWith is_digit digits = record { front = ends.front; last = ends.last; parts = ends.parts; passes = octal_digit ends.last ends.passes } in
    let whole : IsDigits is_digit (48 ∷ digits) = record {
      begins = refl;
      all = All-cons (λ byte. or_underscore is_digit byte ≡ true) 48 digits refl digits_all;
      ends = ends_cons is_digit 48 digits digits_end;
    } in
    subst (IsDigits is_digit) (sym parts) whole

zero_digits : (text : List ℕ) → text ≡ codes "0" → IsDigits is_digit text
zero_digits text parts =
    let zero_alone : IsDigits is_digit (48 ∷ []) = record {
      begins = refl;
      all = All-cons (λ byte. or_underscore is_digit byte ≡ true) 48 [] refl (All-nil (λ byte. or_underscore is_digit byte ≡ true));
      ends = ends_alone is_digit 48 refl;
    } in
    subst (IsDigits is_digit) (sym parts) zero_alone

-- an integer is decimal digits, or has a letter
integer_cases : (text : List ℕ) → IsInteger text → IsDigits is_digit text ⊎ IsLettered text
integer_cases text is = elim is [
  | zero_alone parts ↦ inl (zero_digits text parts)
  | decimal begins digits ↦ inl digits
  | octal digits parts all ends ↦ inl (octal_digits text digits parts all ends)
  | hexadecimal x digits parts letter hex ↦ inr (record { letter = x; back = digits; parts = parts; passes = or_left (is_x x) (is_b x) letter })
  | binary b digits parts letter bits ↦ inr (record { letter = b; back = digits; parts = parts; passes = or_right (is_x b) (is_b b) letter })
]

integer_begins : (text : List ℕ) → IsInteger text → BeginsWith is_digit text
integer_begins text is = elim (integer_cases text is) [
  | inl digits ↦ digits.begins
  | inr lettered ↦ subst (BeginsWith is_digit) (sym lettered.parts) refl
]

-- a test that neither letter passes
letter_apart : (byte : ℕ) → (is_x byte || is_b byte) ≡ true → (P : ℕ → Type 0) → P 120 → P 88 → P 98 → P 66 → P byte
letter_apart byte is P at_x at_X at_b at_B =
    elim (or_cases (is_x byte) (is_b byte) is) [
      | inl x ↦ of_two 120 88 byte x P at_x at_X
      | inr b ↦ of_two 98 66 byte b P at_b at_B
    ]

digit_no_letter : (byte : ℕ) → (is_x byte || is_b byte) ≡ true → or_underscore is_digit byte ≡ true → ⊥
digit_no_letter byte is digit = letter_apart byte is (λ byte. or_underscore is_digit byte ≡ true → ⊥) (λ is. cc) (λ is. cc) (λ is. cc) (λ is. cc) digit

rest_no_letter : (byte : ℕ) → (is_x byte || is_b byte) ≡ true → begins_rest byte ≡ true → ⊥
rest_no_letter byte is rest = letter_apart byte is (λ byte. begins_rest byte ≡ true → ⊥) (λ is. cc) (λ is. cc) (λ is. cc) (λ is. cc) rest

-- behind a zero and a letter a whole part ends before the letter, and no rest of a literal begins with it
lettered_apart : (letter : ℕ) (back whole rest : List ℕ) → (is_x letter || is_b letter) ≡ true → 48 ∷ letter ∷ back ≡ whole ++ rest → IsDigits is_digit whole → BeginsWith begins_rest rest → ⊥
lettered_apart letter back [] rest is parts digits begins = digits_full is_digit digits
lettered_apart letter back (byte ∷ []) rest is parts digits begins =
    let follows : letter ∷ back ≡ rest = cc in
    rest_no_letter letter is (subst (BeginsWith begins_rest) (sym follows) begins)
lettered_apart letter back (byte ∷ second ∷ whole) rest is parts digits begins =
    let follows : second ≡ letter = cc in
    let P : ℕ → Type 0 = λ byte. or_underscore is_digit byte ≡ true in
    digit_no_letter letter is (subst P follows (All-head P second whole (All-tail P byte (second ∷ whole) digits.all)))

digit_no_suffix : Apart (or_underscore is_digit) is_l
digit_no_suffix byte digit letter = of_two 108 76 byte letter (λ byte. or_underscore is_digit byte ≡ true → ⊥) (λ is. cc) (λ is. cc) digit

rest_no_suffix : Apart begins_rest is_l
rest_no_suffix byte rest letter = of_two 108 76 byte letter (λ byte. begins_rest byte ≡ true → ⊥) (λ is. cc) (λ is. cc) rest

end_no_byte : (p : ℕ → Bool) (kind : TokKind) (text : List ℕ) → Apart p is_l → IsIntegerEnd kind text → BeginsWith p text → ⊥
end_no_byte p kind text apart ends begins = elim (end_begins kind text ends) [
  | inl empty ↦ subst (BeginsWith p) empty begins
  | inr letter ↦ begins_both p is_l text apart begins letter
]

-- a whole part is as long as the integer's digits
whole_length : (text whole rest : List ℕ) → text ≡ whole ++ rest → IsDigits is_digit whole → (BeginsWith (or_underscore is_digit) rest → ⊥) → length whole ≡ digits_length is_digit text
whole_length text whole rest parts digits stops =
    elim ((digits_longest is_digit text).compares tt whole rest parts (inr digits)) [
      | same length_is kind_is ↦ length_is
      | shorter less begins ↦ absurd (stops begins)
    ]

digits_apart : (kind : TokKind) (text integer end whole rest : List ℕ) → text ≡ integer ++ end → IsDigits is_digit integer → IsIntegerEnd kind end
    → text ≡ whole ++ rest → IsDigits is_digit whole → BeginsWith begins_rest rest → ⊥
digits_apart kind text integer end whole rest integer_parts integer_digits ends whole_parts whole_digits begins =
    let n = digits_length is_digit text in
    let integer_is = whole_length text integer end integer_parts integer_digits (end_no_byte (or_underscore is_digit) kind end digit_no_suffix ends) in
    let whole_is = whole_length text whole rest whole_parts whole_digits (λ goes_on. begins_both (or_underscore is_digit) begins_rest rest whole_apart goes_on begins) in
    let rest_is : rest ≡ end = sym (cut_behind text whole rest n whole_parts whole_is) ∙ cut_behind text integer end n integer_parts integer_is in
    end_no_byte begins_rest kind end rest_no_suffix ends (subst (BeginsWith begins_rest) rest_is begins)

-- what begins an integer
pub integer_first : (kind : TokKind) (text : List ℕ) → IsIntegerOf kind text → BeginsWith is_digit text
integer_first kind text is = subst (BeginsWith is_digit) (sym is.parts) (begins_append is_digit is.front is.back (integer_begins is.front is.first))

point_no_digit : Apart is_point is_digit
point_no_digit byte point digit = subst (λ byte. is_digit byte ≡ true → ⊥) (sym (eqb-true byte 46 point)) (λ is. cc) digit

-- no text is both
pub number_apart : (kind other : TokKind) (text : List ℕ) → IsIntegerOf kind text → IsLiteral other text → ⊥
number_apart kind other text is literal = elim literal [
  | inl fraction ↦
      begins_both is_point is_digit text point_no_digit (behind_begins is_point (Joined (IsDigits is_digit) (IsEnding other)) text fraction) (integer_first kind text is)
  | inr whole ↦
      let begins = rest_begins other whole.back whole.second in
      elim (integer_cases is.front is.first) [
        | inl digits ↦ digits_apart kind text is.front is.back whole.front whole.back is.parts digits is.second whole.parts whole.first begins
        | inr lettered ↦
            lettered_apart lettered.letter (lettered.back ++ is.back) whole.front whole.back lettered.passes
            (ap (λ front. front ++ is.back) (sym lettered.parts) ∙ sym is.parts ∙ whole.parts) whole.first begins
      ]
]
