-- The longest integer at the front of a text (JLS 3.10.1).
use Rattle.std.proofs.Common.{◌≡◌, ◌≢◌, ℕ, zero, suc, ◌+◌, ◌≤◌, ◌⊎◌, inl, inr, Bool, true, false, ◌||◌, ◌&&◌, ◌==◌, nat_le, cond, List, [], ◌∷◌, take, refl, ap, sym, ◌∙◌, subst, arith}
use Rattle.std.proofs.lemmas.Bool.{or_left, or_right, or_cases, and_parts, and_from, leb-true, le-leb, eqb-true, eqb-false}
use Rattle.rf_jtree.specs.Digits.{is_digit, is_nonzero_digit, is_octal_digit, is_binary_digit, is_hex_digit, or_underscore, BeginsWith, IsDigits}
use Rattle.rf_jtree.specs.Numbers.{is_x, is_b, Maybe, IsInteger, zero_alone, decimal, octal, hexadecimal, binary}
use Rattle.rf_jlex.specs.DigitRuns.{one_more, run_length, digits_length}
use Rattle.rf_jlex.specs.NumberLengths.{after_zero_length, integer_length}
use Rattle.rf_jlex.proofs.LongestLemmas.{either, Within, IsLongestIn, HasNone, Behind, of_two, longest_within, longest_none, longest_or, longest_or_right, longest_in_like, longest_maybe, longest_behind, longest_in_behind, begins_none, nil_none, none_either, behind_begins, behind_full}
use Rattle.rf_jlex.proofs.DigitFrontLemmas.{IsRun, run_full, run_longest, run_other_none, digits_full, digits_longest}

-- the bytes with which an integer may go on
abbrev pub integer_more : ℕ → Bool
integer_more = either (or_underscore is_hex_digit) (either is_x is_b)

-- what makes an integer of the zero before it
abbrev pub IsAfterZero : List ℕ → Type 0
IsAfterZero text = (IsRun is_octal_digit text ⊎ Behind is_x (IsDigits is_hex_digit) text) ⊎ Behind is_b (IsDigits is_binary_digit) text

abbrev is_zero : ℕ → Bool
is_zero byte = byte == 48

-- an integer that doesn't begin with zero
pub record IsDecimal (text : List ℕ) : Type 0 where
  pub begins : BeginsWith is_nonzero_digit text
  pub digits : IsDigits is_digit text

-- an integer, by its first byte
abbrev pub IsIntegerByFirst : List ℕ → Type 0
IsIntegerByFirst text = Behind is_zero (Maybe IsAfterZero) text ⊎ IsDecimal text

digit_within : (high : ℕ) (byte : ℕ) → high ≤ 57 → (nat_le 48 byte && nat_le byte high) ≡ true → is_digit byte ≡ true
digit_within high byte below is =
    let parts = and_parts (nat_le 48 byte) (nat_le byte high) is in
    and_from (nat_le 48 byte) (nat_le byte 57) parts.0 (le-leb byte 57 (omega (arith, leb-true byte high parts.1)))

pub octal_digit : Within is_octal_digit is_digit
octal_digit byte is = digit_within 55 byte (omega arith) is

pub binary_digit : Within is_binary_digit is_digit
binary_digit byte is = digit_within 49 byte (omega arith) is

hex_digit : Within is_digit is_hex_digit
hex_digit byte is = or_left (is_digit byte) ((nat_le 97 byte && nat_le byte 102) || (nat_le 65 byte && nat_le byte 70)) is

pub underscore_within : (p q : ℕ → Bool) → Within p q → Within (or_underscore p) (or_underscore q)
underscore_within p q within byte is =
    elim (or_cases (p byte) (byte == 95) is) [
      | inl digit ↦ or_left (q byte) (byte == 95) (within byte digit)
      | inr underscore ↦ or_right (q byte) (byte == 95) underscore
    ]

-- digits of any base are among the bytes with which an integer may go on
digits_more : (p : ℕ → Bool) → Within p is_hex_digit → Within (or_underscore p) integer_more
digits_more p within byte is =
    or_left (or_underscore is_hex_digit byte) (either is_x is_b byte) (underscore_within p is_hex_digit within byte is)

x_more : (p : ℕ → Bool) → Within p is_hex_digit → Within (either is_x (or_underscore p)) integer_more
x_more p within byte is =
    elim (or_cases (is_x byte) (or_underscore p byte) is) [
      | inl letter ↦ or_right (or_underscore is_hex_digit byte) (either is_x is_b byte) (or_left (is_x byte) (is_b byte) letter)
      | inr digit ↦ digits_more p within byte digit
    ]

b_more : (p : ℕ → Bool) → Within p is_hex_digit → Within (either is_b (or_underscore p)) integer_more
b_more p within byte is =
    elim (or_cases (is_b byte) (or_underscore p byte) is) [
      | inl letter ↦ or_right (or_underscore is_hex_digit byte) (either is_x is_b byte) (or_right (is_x byte) (is_b byte) letter)
      | inr digit ↦ digits_more p within byte digit
    ]

x_none : (byte : ℕ) (bytes : List ℕ) → is_x byte ≡ false → HasNone (Unit {0}) (λ kind. Behind is_x (IsDigits is_hex_digit)) (byte ∷ bytes)
x_none byte bytes fails = begins_none (Unit {0}) (λ kind. Behind is_x (IsDigits is_hex_digit)) is_x byte bytes fails (λ kind text. behind_begins is_x (IsDigits is_hex_digit) text)

b_none : (byte : ℕ) (bytes : List ℕ) → is_b byte ≡ false → HasNone (Unit {0}) (λ kind. Behind is_b (IsDigits is_binary_digit)) (byte ∷ bytes)
b_none byte bytes fails = begins_none (Unit {0}) (λ kind. Behind is_b (IsDigits is_binary_digit)) is_b byte bytes fails (λ kind text. behind_begins is_b (IsDigits is_binary_digit) text)

-- behind a zero: hexadecimal digits, binary ones or octal ones
after_zero_x : (byte : ℕ) (bytes : List ℕ) → is_x byte ≡ true → IsLongestIn IsAfterZero integer_more (byte ∷ bytes) (one_more (digits_length is_hex_digit bytes))
after_zero_x byte bytes is =
    let n = one_more (digits_length is_hex_digit bytes) in
    let no_octal : or_underscore is_octal_digit byte ≡ false = of_two 120 88 byte is (λ byte. or_underscore is_octal_digit byte ≡ false) refl refl in
    let no_b : is_b byte ≡ false = of_two 120 88 byte is (λ byte. is_b byte ≡ false) refl refl in
    longest_or (λ text. IsRun is_octal_digit text ⊎ Behind is_x (IsDigits is_hex_digit) text) (Behind is_b (IsDigits is_binary_digit)) integer_more (byte ∷ bytes) n
    (longest_or_right (IsRun is_octal_digit) (Behind is_x (IsDigits is_hex_digit)) integer_more (byte ∷ bytes) n
    (longest_within (Unit {0}) (λ kind. Maybe (Behind is_x (IsDigits is_hex_digit))) (either is_x (or_underscore is_hex_digit)) integer_more (byte ∷ bytes) tt n
    (x_more is_hex_digit (λ byte digit. digit))
    (longest_in_behind (IsDigits is_hex_digit) (or_underscore is_hex_digit) is_x byte bytes (digits_length is_hex_digit bytes) is (digits_full is_hex_digit) (digits_longest is_hex_digit bytes)))
    (λ kind. run_other_none is_octal_digit byte bytes no_octal))
    (b_none byte bytes no_b)

after_zero_b : (byte : ℕ) (bytes : List ℕ) → is_b byte ≡ true → IsLongestIn IsAfterZero integer_more (byte ∷ bytes) (one_more (digits_length is_binary_digit bytes))
after_zero_b byte bytes is =
    let n = one_more (digits_length is_binary_digit bytes) in
    let no_octal : or_underscore is_octal_digit byte ≡ false = of_two 98 66 byte is (λ byte. or_underscore is_octal_digit byte ≡ false) refl refl in
    let no_x : is_x byte ≡ false = of_two 98 66 byte is (λ byte. is_x byte ≡ false) refl refl in
    longest_or_right (λ text. IsRun is_octal_digit text ⊎ Behind is_x (IsDigits is_hex_digit) text) (Behind is_b (IsDigits is_binary_digit)) integer_more (byte ∷ bytes) n
    (longest_within (Unit {0}) (λ kind. Maybe (Behind is_b (IsDigits is_binary_digit))) (either is_b (or_underscore is_binary_digit)) integer_more (byte ∷ bytes) tt n
    (b_more is_binary_digit (λ byte digit. hex_digit byte (binary_digit byte digit)))
    (longest_in_behind (IsDigits is_binary_digit) (or_underscore is_binary_digit) is_b byte bytes (digits_length is_binary_digit bytes) is (digits_full is_binary_digit) (digits_longest is_binary_digit bytes)))
    (none_either (Unit {0}) (λ kind. IsRun is_octal_digit) (λ kind. Behind is_x (IsDigits is_hex_digit)) (byte ∷ bytes)
    (λ kind. run_other_none is_octal_digit byte bytes no_octal) (x_none byte bytes no_x))

after_zero_octal : (byte : ℕ) (bytes : List ℕ) → is_x byte ≡ false → is_b byte ≡ false → IsLongestIn IsAfterZero integer_more (byte ∷ bytes) (run_length is_octal_digit (byte ∷ bytes))
after_zero_octal byte bytes no_x no_b =
    let n = run_length is_octal_digit (byte ∷ bytes) in
    longest_or (λ text. IsRun is_octal_digit text ⊎ Behind is_x (IsDigits is_hex_digit) text) (Behind is_b (IsDigits is_binary_digit)) integer_more (byte ∷ bytes) n
    (longest_or (IsRun is_octal_digit) (Behind is_x (IsDigits is_hex_digit)) integer_more (byte ∷ bytes) n
    (longest_within (Unit {0}) (λ kind. Maybe (IsRun is_octal_digit)) (or_underscore is_octal_digit) integer_more (byte ∷ bytes) tt n
    (digits_more is_octal_digit (λ byte digit. hex_digit byte (octal_digit byte digit)))
    (run_longest is_octal_digit (byte ∷ bytes)))
    (x_none byte bytes no_x))
    (b_none byte bytes no_b)

after_zero_step : (x b : Bool) (byte : ℕ) (bytes : List ℕ) → is_x byte ≡ x → is_b byte ≡ b
    → IsLongestIn IsAfterZero integer_more (byte ∷ bytes) (cond x (one_more (digits_length is_hex_digit bytes)) (cond b (one_more (digits_length is_binary_digit bytes)) (run_length is_octal_digit (byte ∷ bytes))))
after_zero_step true b byte bytes x_is b_is = after_zero_x byte bytes x_is
after_zero_step false true byte bytes x_is b_is = after_zero_b byte bytes b_is
after_zero_step false false byte bytes x_is b_is = after_zero_octal byte bytes x_is b_is

after_zero_full : IsAfterZero [] → ⊥
after_zero_full is = elim is [
  | inl digits ↦ elim digits [
    | inl run ↦ run_full is_octal_digit run
    | inr lettered ↦ behind_full is_x (IsDigits is_hex_digit) lettered
  ]
  | inr lettered ↦ behind_full is_b (IsDigits is_binary_digit) lettered
]

pub after_zero_longest : (text : List ℕ) → IsLongestIn IsAfterZero integer_more text (after_zero_length text)
unfolding after_zero_length
after_zero_longest [] = longest_none IsAfterZero integer_more [] (nil_none (Unit {0}) (λ kind. IsAfterZero) (λ kind. after_zero_full))
after_zero_longest (byte ∷ bytes) = after_zero_step (is_x byte) (is_b byte) byte bytes refl refl

-- an integer that begins with zero
decimal_none : (byte : ℕ) (bytes : List ℕ) → is_zero byte ≡ true → HasNone (Unit {0}) (λ kind. IsDecimal) (byte ∷ bytes)
decimal_none byte bytes is =
    let fails : is_nonzero_digit byte ≡ false = subst (λ byte. is_nonzero_digit byte ≡ false) (sym (eqb-true byte 48 is)) refl in
    begins_none (Unit {0}) (λ kind. IsDecimal) is_nonzero_digit byte bytes fails (λ kind text whole. whole.begins)

zero_more : (byte : ℕ) → is_zero byte ≡ true → integer_more byte ≡ true
zero_more byte is = subst (λ byte. integer_more byte ≡ true) (sym (eqb-true byte 48 is)) refl

zero_longest : (byte : ℕ) (bytes : List ℕ) → is_zero byte ≡ true → IsLongestIn IsIntegerByFirst integer_more (byte ∷ bytes) (1 + after_zero_length bytes)
zero_longest byte bytes is =
    let n = 1 + after_zero_length bytes in
    longest_or (Behind is_zero (Maybe IsAfterZero)) IsDecimal integer_more (byte ∷ bytes) n
    (longest_maybe (Behind is_zero (Maybe IsAfterZero)) integer_more (byte ∷ bytes) n (omega arith) (zero_more byte is)
    (longest_behind (Unit {0}) (λ kind. Maybe IsAfterZero) integer_more is_zero byte bytes tt (after_zero_length bytes) is (after_zero_longest bytes)))
    (decimal_none byte bytes is)

-- an integer that begins with another digit
nonzero : (byte : ℕ) → is_digit byte ≡ true → is_zero byte ≡ false → is_nonzero_digit byte ≡ true
nonzero byte is not_zero =
    let parts = and_parts (nat_le 48 byte) (nat_le byte 57) is in
    let low : 48 ≤ byte = leb-true 48 byte parts.0 in
    let other : byte ≢ 48 = eqb-false byte 48 not_zero in
    and_from (nat_le 49 byte) (nat_le byte 57) (le-leb 49 byte (omega arith)) parts.1

decimal_begins : (byte n : ℕ) (bytes : List ℕ) → is_zero byte ≡ false → IsDigits is_digit (take n (byte ∷ bytes)) → BeginsWith is_nonzero_digit (take n (byte ∷ bytes))
decimal_begins byte zero bytes not_zero digits = absurd (digits_full is_digit digits)
decimal_begins byte (suc n) bytes not_zero digits = nonzero byte digits.begins not_zero

decimal_longest : (byte : ℕ) (bytes : List ℕ) → is_zero byte ≡ false → IsLongestIn IsDecimal integer_more (byte ∷ bytes) (digits_length is_digit (byte ∷ bytes))
decimal_longest byte bytes not_zero =
    let longest = longest_within (Unit {0}) (λ kind. Maybe (IsDigits is_digit)) (or_underscore is_digit) integer_more (byte ∷ bytes) tt (digits_length is_digit (byte ∷ bytes))
    (digits_more is_digit hex_digit) (digits_longest is_digit (byte ∷ bytes)) in
    record {
      within = longest.within;
      holds = elim longest.holds [
        | inl empty ↦ inl empty
        | inr digits ↦ inr (record { begins = decimal_begins byte (digits_length is_digit (byte ∷ bytes)) bytes not_zero digits; digits = digits })
      ];
      compares = λ other front rest is has. elim has [
        | inl empty ↦ longest.compares tt front rest is (inl empty)
        | inr whole ↦ longest.compares tt front rest is (inr whole.digits)
      ];
    }

integer_step : (zeroed : Bool) (byte : ℕ) (bytes : List ℕ) → is_zero byte ≡ zeroed
    → IsLongestIn IsIntegerByFirst integer_more (byte ∷ bytes) (cond zeroed (1 + after_zero_length bytes) (digits_length is_digit (byte ∷ bytes)))
integer_step true byte bytes is = zero_longest byte bytes is
integer_step false byte bytes is =
    longest_or_right (Behind is_zero (Maybe IsAfterZero)) IsDecimal integer_more (byte ∷ bytes) (digits_length is_digit (byte ∷ bytes)) (decimal_longest byte bytes is)
    (begins_none (Unit {0}) (λ kind. Behind is_zero (Maybe IsAfterZero)) is_zero byte bytes is (λ kind text. behind_begins is_zero (Maybe IsAfterZero) text))

integer_full : IsIntegerByFirst [] → ⊥
integer_full is = elim is [
  | inl lettered ↦ behind_full is_zero (Maybe IsAfterZero) lettered
  | inr whole ↦ whole.begins
]

by_first_longest : (text : List ℕ) → IsLongestIn IsIntegerByFirst integer_more text (integer_length text)
unfolding integer_length
by_first_longest [] = longest_none IsIntegerByFirst integer_more [] (nil_none (Unit {0}) (λ kind. IsIntegerByFirst) (λ kind. integer_full))
by_first_longest (byte ∷ bytes) = integer_step (is_zero byte) byte bytes refl

-- the forms of the definition, by the first byte
after_zero_is : (byte : ℕ) (back text : List ℕ) → text ≡ byte ∷ back → byte ≡ 48 → IsAfterZero back → IsInteger text
after_zero_is byte back text parts is after =
    let whole : text ≡ 48 ∷ back = parts ∙ ap (λ byte. byte ∷ back) is in
    elim after [
      | inl digits ↦ elim digits [
        | inl run ↦ octal back whole run.all run.ends
        | inr lettered ↦ hexadecimal lettered.byte lettered.back (whole ∙ ap (λ back. 48 ∷ back) lettered.parts) lettered.passes lettered.second
      ]
      | inr lettered ↦ binary lettered.byte lettered.back (whole ∙ ap (λ back. 48 ∷ back) lettered.parts) lettered.passes lettered.second
    ]

by_first_is : (text : List ℕ) → IsIntegerByFirst text → IsInteger text
by_first_is text is = elim is [
  | inl zeroed ↦
      let is_48 : zeroed.byte ≡ 48 = eqb-true zeroed.byte 48 zeroed.passes in
      elim zeroed.second [
        | inl empty ↦ zero_alone (zeroed.parts ∙ ap (λ byte. byte ∷ zeroed.back) is_48 ∙ ap (λ back. 48 ∷ back) empty)
        | inr after ↦ after_zero_is zeroed.byte zeroed.back text zeroed.parts is_48 after
      ]
  | inr whole ↦ decimal whole.begins whole.digits
]

zeroed_is : (text back : List ℕ) → text ≡ 48 ∷ back → Maybe IsAfterZero back → IsIntegerByFirst text
zeroed_is text back parts after = inl (record { byte = 48; back = back; parts = parts; passes = refl; second = after })

is_by_first : (text : List ℕ) → IsInteger text → IsIntegerByFirst text
is_by_first text is = elim is [
  | zero_alone parts ↦ zeroed_is text [] parts (inl refl)
  | decimal begins digits ↦ inr (record { begins = begins; digits = digits })
  | octal digits parts all ends ↦ zeroed_is text digits parts (inr (inl (inl (record { all = all; ends = ends }))))
  | hexadecimal x digits parts letter hex ↦ zeroed_is text (x ∷ digits) parts (inr (inl (inr (record { byte = x; back = digits; parts = refl; passes = letter; second = hex }))))
  | binary b digits parts letter bits ↦ zeroed_is text (b ∷ digits) parts (inr (inr (record { byte = b; back = digits; parts = refl; passes = letter; second = bits })))
]

-- the longest integer without a suffix
pub integer_longest : (text : List ℕ) → IsLongestIn IsInteger integer_more text (integer_length text)
integer_longest text = longest_in_like IsIntegerByFirst IsInteger integer_more text (integer_length text) by_first_is is_by_first (by_first_longest text)

pub integer_nil : IsInteger [] → ⊥
integer_nil is = integer_full (is_by_first [] is)
