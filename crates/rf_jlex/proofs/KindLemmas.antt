-- A number is of one kind: by its last byte, and by what follows its first digits.
use Rattle.std.proofs.Common.{◌≡◌, ◌≢◌, ℕ, Bool, true, false, ◌||◌, ◌==◌, cond, List, [], ◌∷◌, ◌++◌, ◌⊎◌, inl, inr, ⊎_elim, sym, refl, ap, ◌∙◌, subst, arith, append_assoc, append-nil, eqb-true}
use Rattle.std.specs.List.{AllPass}
use Rattle.std.proofs.lemmas.Bool.{false≢true}
use Rattle.std.proofs.lemmas.Bool.Decides.{nat_tests}
use Rattle.std.proofs.lemmas.List.{same_from_push}
use Rattle.std.proofs.lemmas.List.Elements.{All-head, All-tail, All-weaker}
use Rattle.rf_jtree.specs.declared.tokens.TokKind.{TokKind}
use Rattle.rf_jtree.specs.Digits.{is_digit, is_octal_digit, is_binary_digit, is_hex_digit, or_underscore, EndsWith, IsDigits}
use Rattle.rf_jtree.specs.Numbers.{is_x, is_b, is_l, is_e, is_f, is_d, IsInteger, zero_alone, decimal, octal, hexadecimal, binary, IsLongInteger, IsFloat, IsDouble, IsFloating, point, fraction_alone, exponent_alone, suffix_alone, IsExponent, Maybe}
use Rattle.rf_jtree.specs.Tokens.{IsToken}
use Rattle.rf_jlex.specs.Fronts.{IsNumberKind, int, long, float, double}
use Rattle.rf_jlex.proofs.ClassLemmas.{or_cases}

-- the last byte
data LastPasses (p q : ℕ → Bool) : Type 0 where
  last_passes : (byte : ℕ) → p byte ≡ true → q byte ≡ true → LastPasses p q

both_ends : (p q : ℕ → Bool) (text : List ℕ) → EndsWith p text → EndsWith q text → LastPasses p q
both_ends p q text one other =
    let same = same_from_push one.front other.front one.last other.last (sym one.parts ∙ other.parts) in
    last_passes one.last one.passes (subst (λ b. q b ≡ true) (sym same.1) other.passes)

EndsWith-behind : (p : ℕ → Bool) (text front back : List ℕ) → text ≡ front ++ back → EndsWith p back → EndsWith p text
EndsWith-behind p text front back parts ends = record {
  front = front ++ ends.front;
  last = ends.last;
  parts = parts ∙ ap (λ b. front ++ b) ends.parts ∙ sym (append_assoc front ends.front (ends.last ∷ []));
  passes = ends.passes;
}

EndsWith-weaker : (p q : ℕ → Bool) (text : List ℕ) → ((byte : ℕ) → p byte ≡ true → q byte ≡ true) → EndsWith p text → EndsWith q text
EndsWith-weaker p q text weaker ends = record { front = ends.front; last = ends.last; parts = ends.parts; passes = weaker ends.last ends.passes }

EndsWith-one : (p : ℕ → Bool) (text front : List ℕ) (byte : ℕ) → text ≡ front ++ byte ∷ [] → p byte ≡ true → EndsWith p text
EndsWith-one p text front byte parts passes = record { front = front; last = byte; parts = parts; passes = passes }

-- the last bytes of doubles
abbrev ends_double : ℕ → Bool
ends_double byte = is_digit byte || ((byte == 46) || is_d byte)

hex_from_digit : (byte : ℕ) → is_digit byte ≡ true → is_hex_digit byte ≡ true
hex_from_digit byte is = rw is refl

digit_from_octal : (byte : ℕ) → is_octal_digit byte ≡ true → is_digit byte ≡ true
digit_from_octal byte is = grind (arith, nat_tests)

digit_from_binary : (byte : ℕ) → is_binary_digit byte ≡ true → is_digit byte ≡ true
digit_from_binary byte is = grind (arith, nat_tests)

double_from_digit : (byte : ℕ) → is_digit byte ≡ true → ends_double byte ≡ true
double_from_digit byte is = rw is refl

no_hex_l : (byte : ℕ) → is_hex_digit byte ≡ true → is_l byte ≡ true → ⊥
no_hex_l byte one other = grind (arith, nat_tests)

no_l_f : (byte : ℕ) → is_l byte ≡ true → is_f byte ≡ true → ⊥
no_l_f byte one other = grind (arith, nat_tests)

no_l_double : (byte : ℕ) → is_l byte ≡ true → ends_double byte ≡ true → ⊥
no_l_double byte one other = grind (arith, nat_tests)

no_f_double : (byte : ℕ) → is_f byte ≡ true → ends_double byte ≡ true → ⊥
no_f_double byte one other = grind (arith, nat_tests)

EndsWith-integer : (text : List ℕ) → IsInteger text → EndsWith is_hex_digit text
EndsWith-integer text (zero_alone parts) = EndsWith-one is_hex_digit text [] 48 parts refl
EndsWith-integer text (decimal begins digits) = EndsWith-weaker is_digit is_hex_digit text hex_from_digit digits.ends
EndsWith-integer text (octal digits parts all ends) =
    EndsWith-behind is_hex_digit text (48 ∷ []) digits parts (EndsWith-weaker is_octal_digit is_hex_digit digits (λ b is. hex_from_digit b (digit_from_octal b is)) ends)
EndsWith-integer text (hexadecimal x digits parts is is_digits) = EndsWith-behind is_hex_digit text (48 ∷ x ∷ []) digits parts is_digits.ends
EndsWith-integer text (binary b digits parts is is_digits) =
    EndsWith-behind is_hex_digit text (48 ∷ b ∷ []) digits parts (EndsWith-weaker is_binary_digit is_hex_digit digits (λ b is. hex_from_digit b (digit_from_binary b is)) is_digits.ends)

EndsWith-long : (text : List ℕ) → IsLongInteger text → EndsWith is_l text
EndsWith-long text is = EndsWith-one is_l text is.integer is.suffix is.parts is.is_suffix

-- a floating-point literal ends with its suffix
data EndsIn (suffix text : List ℕ) : Type 0 where
  ends_in : (front : List ℕ) → text ≡ front ++ suffix → EndsIn suffix text

EndsIn-floating : (suffix text : List ℕ) → IsFloating suffix text → EndsIn suffix text
EndsIn-floating suffix text (point whole fraction exponent parts digits some more) = ends_in (whole ++ (46 ∷ (fraction ++ exponent))) (parts ∙ simp append_assoc)
EndsIn-floating suffix text (fraction_alone fraction exponent parts digits more) = ends_in (46 ∷ (fraction ++ exponent)) (parts ∙ simp append_assoc)
EndsIn-floating suffix text (exponent_alone whole exponent parts digits more) = ends_in (whole ++ exponent) (parts ∙ simp append_assoc)
EndsIn-floating suffix text (suffix_alone whole parts digits some) = ends_in whole parts

EndsWith-suffix : (p : ℕ → Bool) (byte : ℕ) (text : List ℕ) → p byte ≡ true → IsFloating (byte ∷ []) text → EndsWith p text
EndsWith-suffix p byte text passes floating = elim (EndsIn-floating (byte ∷ []) text floating) [ ends_in front parts ↦ EndsWith-one p text front byte parts passes ]

EndsWith-float : (text : List ℕ) → IsFloat text → EndsWith is_f text
EndsWith-float text is = EndsWith-suffix is_f is.suffix text is.is_suffix is.floating

-- and without one with a digit or `.`
EndsWith-exponent : (exponent : List ℕ) → IsExponent exponent → EndsWith ends_double exponent
EndsWith-exponent exponent is =
    EndsWith-behind ends_double exponent (is.letter ∷ is.sign) is.digits is.parts (EndsWith-weaker is_digit ends_double is.digits double_from_digit is.is_digits.ends)

EndsWith-digits : (digits : List ℕ) → IsDigits is_digit digits → EndsWith ends_double digits
EndsWith-digits digits is = EndsWith-weaker is_digit ends_double digits double_from_digit is.ends

EndsWith-maybe : (p : ℕ → Bool) (text front part : List ℕ) → text ≡ front ++ part → EndsWith p front → (part ≡ []) ⊎ EndsWith p part → EndsWith p text
EndsWith-maybe p text front part parts ends (inl none) = subst (λ t. EndsWith p t) (sym (parts ∙ ap (λ x. front ++ x) none ∙ append-nil front)) ends
EndsWith-maybe p text front part parts ends (inr some) = EndsWith-behind p text front part parts some

maybe_ends : (P : List ℕ → Type 0) (part : List ℕ) → (P part → EndsWith ends_double part) → Maybe P part → (part ≡ []) ⊎ EndsWith ends_double part
maybe_ends P part ends (inl none) = inl none
maybe_ends P part ends (inr some) = inr (ends some)

EndsWith-plain : (text : List ℕ) → IsFloating [] text → EndsWith ends_double text
EndsWith-plain text (point whole fraction exponent parts digits some more) =
    EndsWith-maybe ends_double text ((whole ++ 46 ∷ []) ++ fraction) exponent (parts ∙ simp (append_assoc, append-nil))
    (EndsWith-maybe ends_double ((whole ++ 46 ∷ []) ++ fraction) (whole ++ 46 ∷ []) fraction refl
    (EndsWith-one ends_double (whole ++ 46 ∷ []) whole 46 refl refl)
    (maybe_ends (IsDigits is_digit) fraction (EndsWith-digits fraction) some))
    (maybe_ends IsExponent exponent (EndsWith-exponent exponent) more)
EndsWith-plain text (fraction_alone fraction exponent parts digits more) =
    EndsWith-maybe ends_double text (46 ∷ fraction) exponent (parts ∙ simp append-nil)
    (EndsWith-behind ends_double (46 ∷ fraction) (46 ∷ []) fraction refl (EndsWith-digits fraction digits))
    (maybe_ends IsExponent exponent (EndsWith-exponent exponent) more)
EndsWith-plain text (exponent_alone whole exponent parts digits more) =
    EndsWith-behind ends_double text whole exponent (parts ∙ simp append-nil) (EndsWith-exponent exponent more)
EndsWith-plain text (suffix_alone whole parts digits some) = absurd (some refl)

EndsWith-double : (text suffix : List ℕ) → (suffix ≡ []) ⊎ ((byte : ℕ) × (suffix ≡ byte ∷ []) × (is_d byte ≡ true)) → IsFloating suffix text → EndsWith ends_double text
EndsWith-double text suffix (inl none) floating = EndsWith-plain text (subst (λ s. IsFloating s text) none floating)
EndsWith-double text suffix (inr some) floating =
    EndsWith-suffix ends_double some.0 text (double_from_d some.0 some.2) (subst (λ s. IsFloating s text) some.1 floating)
  where
    double_from_d : (byte : ℕ) → is_d byte ≡ true → ends_double byte ≡ true
    double_from_d byte is = grind (arith, nat_tests)

-- what follows the first digits
abbrev after_digits : List ℕ → List ℕ
after_digits [] = []
after_digits (byte ∷ bytes) = cond (or_underscore is_digit byte) (after_digits bytes) (byte ∷ bytes)

after_digits-append : (digits rest : List ℕ) → AllPass (or_underscore is_digit) digits → after_digits (digits ++ rest) ≡ after_digits rest
after_digits-append [] rest all = refl
after_digits-append (byte ∷ bytes) rest all =
    let P : ℕ → Type 0 = λ b. or_underscore is_digit b ≡ true in
    let head : or_underscore is_digit byte ≡ true = All-head P byte bytes all in
    rw head (after_digits-append bytes rest (All-tail P byte bytes all))

after_digits-all : (digits : List ℕ) → AllPass (or_underscore is_digit) digits → after_digits digits ≡ []
after_digits-all digits all = ap after_digits (sym (append-nil digits)) ∙ after_digits-append digits [] all

-- nothing, `x` or `b` in an integer, and `.`, `e`, `f` or `d` in a floating-point literal
abbrev goes_on_integer : List ℕ → Bool
goes_on_integer [] = true
goes_on_integer (byte ∷ bytes) = is_x byte || is_b byte

abbrev goes_on_floating : List ℕ → Bool
goes_on_floating [] = false
goes_on_floating (byte ∷ bytes) = (byte == 46) || (is_e byte || (is_f byte || is_d byte))

not_both : (rest : List ℕ) → goes_on_integer rest ≡ true → goes_on_floating rest ≡ true → ⊥
not_both [] one other = false≢true other
not_both (byte ∷ bytes) one other = grind (arith, nat_tests)

-- a byte that is one of two
of_two : (P : ℕ → Type 0) (one other byte : ℕ) → ((byte == one) || (byte == other)) ≡ true → P one → P other → P byte
of_two P one other byte is at_one at_other = ⊎_elim
    (λ e. subst P (sym (eqb-true byte one e)) at_one)
    (λ e. subst P (sym (eqb-true byte other e)) at_other)
    (or_cases _ _ is)

octal_digits : (digits : List ℕ) → AllPass (or_underscore is_octal_digit) digits → AllPass (or_underscore is_digit) digits
octal_digits digits all = All-weaker (λ b. or_underscore is_octal_digit b ≡ true) (λ b. or_underscore is_digit b ≡ true) (λ b is. grind (arith, nat_tests)) digits all

integer_goes_on : (text : List ℕ) → IsInteger text → goes_on_integer (after_digits text) ≡ true
integer_goes_on text (zero_alone parts) = ap (λ t. goes_on_integer (after_digits t)) parts
integer_goes_on text (decimal begins digits) = ap goes_on_integer (after_digits-all text digits.all)
integer_goes_on text (octal digits parts all ends) =
    ap (λ t. goes_on_integer (after_digits t)) parts ∙ ap goes_on_integer (after_digits-all digits (octal_digits digits all))
integer_goes_on text (hexadecimal x digits parts is is_digits) =
    ap (λ t. goes_on_integer (after_digits t)) parts ∙ of_two (λ y. goes_on_integer (after_digits (y ∷ digits)) ≡ true) 120 88 x is refl refl
integer_goes_on text (binary b digits parts is is_digits) =
    ap (λ t. goes_on_integer (after_digits t)) parts ∙ of_two (λ y. goes_on_integer (after_digits (y ∷ digits)) ≡ true) 98 66 b is refl refl

exponent_goes_on : (exponent rest : List ℕ) → IsExponent exponent → goes_on_floating (after_digits (exponent ++ rest)) ≡ true
exponent_goes_on exponent rest is =
    ap (λ e. goes_on_floating (after_digits (e ++ rest))) is.parts
    ∙ of_two (λ y. goes_on_floating (after_digits (y ∷ ((is.sign ++ is.digits) ++ rest))) ≡ true) 101 69 is.letter is.is_letter refl refl

-- a suffix that goes on so
abbrev IsSuffix : List ℕ → Type 0
IsSuffix suffix = suffix ≢ [] → goes_on_floating (after_digits suffix) ≡ true

floating_goes_on : (suffix text : List ℕ) → IsSuffix suffix → IsFloating suffix text → goes_on_floating (after_digits text) ≡ true
floating_goes_on suffix text is (point whole fraction exponent parts digits some more) =
    ap (λ t. goes_on_floating (after_digits t)) parts ∙ ap goes_on_floating (after_digits-append whole (46 ∷ (fraction ++ (exponent ++ suffix))) digits.all)
floating_goes_on suffix text is (fraction_alone fraction exponent parts digits more) = ap (λ t. goes_on_floating (after_digits t)) parts
floating_goes_on suffix text is (exponent_alone whole exponent parts digits more) =
    ap (λ t. goes_on_floating (after_digits t)) parts ∙ ap goes_on_floating (after_digits-append whole (exponent ++ suffix) digits.all) ∙ exponent_goes_on exponent suffix more
floating_goes_on suffix text is (suffix_alone whole parts digits some) =
    ap (λ t. goes_on_floating (after_digits t)) parts ∙ ap goes_on_floating (after_digits-append whole suffix digits.all) ∙ is some

float_suffix : (byte : ℕ) → is_f byte ≡ true → IsSuffix (byte ∷ [])
float_suffix byte is some = of_two (λ y. goes_on_floating (after_digits (y ∷ [])) ≡ true) 102 70 byte is refl refl

double_suffix : (suffix : List ℕ) → (suffix ≡ []) ⊎ ((byte : ℕ) × (suffix ≡ byte ∷ []) × (is_d byte ≡ true)) → IsSuffix suffix
double_suffix suffix (inl none) some = absurd (some none)
double_suffix suffix (inr is) some =
    ap (λ s. goes_on_floating (after_digits s)) is.1 ∙ of_two (λ y. goes_on_floating (after_digits (y ∷ [])) ≡ true) 100 68 is.0 is.2 refl refl

-- no two kinds of number have a text in common
apart : (p q : ℕ → Bool) (text : List ℕ) → ((byte : ℕ) → p byte ≡ true → q byte ≡ true → ⊥) → EndsWith p text → EndsWith q text → ⊥
apart p q text none one other = elim (both_ends p q text one other) [ last_passes byte a b ↦ none byte a b ]

no_int_long : (text : List ℕ) → IsInteger text → IsLongInteger text → ⊥
no_int_long text one other = apart is_hex_digit is_l text no_hex_l (EndsWith-integer text one) (EndsWith-long text other)

no_int_float : (text : List ℕ) → IsInteger text → IsFloat text → ⊥
no_int_float text one other =
    not_both (after_digits text) (integer_goes_on text one) (floating_goes_on (other.suffix ∷ []) text (float_suffix other.suffix other.is_suffix) other.floating)

no_int_double : (text : List ℕ) → IsInteger text → IsDouble text → ⊥
no_int_double text one other =
    not_both (after_digits text) (integer_goes_on text one) (floating_goes_on other.suffix text (double_suffix other.suffix other.is_suffix) other.floating)

no_long_float : (text : List ℕ) → IsLongInteger text → IsFloat text → ⊥
no_long_float text one other = apart is_l is_f text no_l_f (EndsWith-long text one) (EndsWith-float text other)

no_long_double : (text : List ℕ) → IsLongInteger text → IsDouble text → ⊥
no_long_double text one other = apart is_l ends_double text no_l_double (EndsWith-long text one) (EndsWith-double text other.suffix other.is_suffix other.floating)

no_float_double : (text : List ℕ) → IsFloat text → IsDouble text → ⊥
no_float_double text one other = apart is_f ends_double text no_f_double (EndsWith-float text one) (EndsWith-double text other.suffix other.is_suffix other.floating)

pub one_kind : (text : List ℕ) (one other : TokKind) → IsNumberKind one → IsNumberKind other → IsToken one text → IsToken other text → one ≡ other
one_kind text _ _ int int a b = refl
one_kind text _ _ int long a b = absurd (no_int_long text a b)
one_kind text _ _ int float a b = absurd (no_int_float text a b)
one_kind text _ _ int double a b = absurd (no_int_double text a b)
one_kind text _ _ long int a b = absurd (no_int_long text b a)
one_kind text _ _ long long a b = refl
one_kind text _ _ long float a b = absurd (no_long_float text a b)
one_kind text _ _ long double a b = absurd (no_long_double text a b)
one_kind text _ _ float int a b = absurd (no_int_float text b a)
one_kind text _ _ float long a b = absurd (no_long_float text b a)
one_kind text _ _ float float a b = refl
one_kind text _ _ float double a b = absurd (no_float_double text a b)
one_kind text _ _ double int a b = absurd (no_int_double text b a)
one_kind text _ _ double long a b = absurd (no_long_double text b a)
one_kind text _ _ double float a b = absurd (no_float_double text b a)
one_kind text _ _ double double a b = refl
