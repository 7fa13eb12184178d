-- The longest exponent and the suffix behind it at the front of a text (JLS 3.10.2).
use Rattle.std.proofs.Common.{◌≡◌, ℕ, ◌⊎◌, inl, inr, Bool, true, false, cond, List, [], ◌∷◌, ◌++◌, length, drop, refl, ap, sym, ◌∙◌, subst, arith}
use Rattle.std.proofs.lemmas.Bool.{or_left, or_right, or_cases, both_ways}
use Rattle.rf_jtree.specs.declared.tokens.TokKind.{TokKind}
use Rattle.rf_jtree.specs.declared.tokens.TokKind.TheVariants as kinds
use Rattle.rf_jtree.specs.Digits.{is_digit, or_underscore, BeginsWith, IsDigits}
use Rattle.rf_jtree.specs.Numbers.{is_e, is_f, is_d, is_sign, Maybe, IsExponent}
use Rattle.rf_jlex.specs.DigitRuns.{one_more, digits_length}
use Rattle.rf_jlex.specs.NumberLengths.{signed_length, exponent_length, suffix_of, ending_of}
use Rattle.rf_jlex.specs.declared.numbers.Number.{Number}
use Rattle.rf_jlex.proofs.LongestLemmas.{either, Apart, Compared, same, shorter, IsLongestOf, IsLongestIn, Joined, Behind, of_two, begins_within, begins_append, longest_within, longest_none, longest_or, longest_or_right, longest_in_like, longest_in_behind, longest_joined, begins_none, nil_none, behind_begins, behind_full}
use Rattle.rf_jlex.proofs.DigitFrontLemmas.{digits_full, digits_none, digits_longest}
use Rattle.rf_jlex.proofs.IntegerLemmas.{one_byte, no_byte}

-- digits behind a sign, or alone
abbrev pub IsSigned : List ℕ → Type 0
IsSigned text = Behind is_sign (IsDigits is_digit) text ⊎ IsDigits is_digit text

abbrev pub signed_more : ℕ → Bool
signed_more = either is_sign (or_underscore is_digit)

-- the bytes with which an exponent may go on
abbrev pub exponent_more : ℕ → Bool
exponent_more = either is_e signed_more

signed_step : (sign : Bool) (byte : ℕ) (bytes : List ℕ) → is_sign byte ≡ sign
    → IsLongestIn IsSigned signed_more (byte ∷ bytes) (cond sign (one_more (digits_length is_digit bytes)) (digits_length is_digit (byte ∷ bytes)))
signed_step true byte bytes is =
    let no_digit : is_digit byte ≡ false = of_two 43 45 byte is (λ byte. is_digit byte ≡ false) refl refl in
    longest_or (Behind is_sign (IsDigits is_digit)) (IsDigits is_digit) signed_more (byte ∷ bytes) (one_more (digits_length is_digit bytes))
    (longest_in_behind (IsDigits is_digit) (or_underscore is_digit) is_sign byte bytes (digits_length is_digit bytes) is (digits_full is_digit) (digits_longest is_digit bytes))
    (digits_none is_digit byte bytes no_digit)
signed_step false byte bytes is =
    longest_or_right (Behind is_sign (IsDigits is_digit)) (IsDigits is_digit) signed_more (byte ∷ bytes) (digits_length is_digit (byte ∷ bytes))
    (longest_within (Unit {0}) (λ kind. Maybe (IsDigits is_digit)) (or_underscore is_digit) signed_more (byte ∷ bytes) tt (digits_length is_digit (byte ∷ bytes))
    (λ byte. or_right (is_sign byte) (or_underscore is_digit byte)) (digits_longest is_digit (byte ∷ bytes)))
    (begins_none (Unit {0}) (λ kind. Behind is_sign (IsDigits is_digit)) is_sign byte bytes is (λ kind text. behind_begins is_sign (IsDigits is_digit) text))

signed_full : IsSigned [] → ⊥
signed_full is = elim is [
  | inl signed ↦ behind_full is_sign (IsDigits is_digit) signed
  | inr digits ↦ digits_full is_digit digits
]

pub signed_longest : (text : List ℕ) → IsLongestIn IsSigned signed_more text (signed_length text)
unfolding signed_length
signed_longest [] = longest_none IsSigned signed_more [] (nil_none (Unit {0}) (λ kind. IsSigned) (λ kind. signed_full))
signed_longest (byte ∷ bytes) = signed_step (is_sign byte) byte bytes refl

exponent_step : (letter : Bool) (byte : ℕ) (bytes : List ℕ) → is_e byte ≡ letter
    → IsLongestIn (Behind is_e IsSigned) exponent_more (byte ∷ bytes) (cond letter (one_more (signed_length bytes)) 0)
exponent_step true byte bytes is = longest_in_behind IsSigned signed_more is_e byte bytes (signed_length bytes) is signed_full (signed_longest bytes)
exponent_step false byte bytes is =
    longest_none (Behind is_e IsSigned) exponent_more (byte ∷ bytes)
    (begins_none (Unit {0}) (λ kind. Behind is_e IsSigned) is_e byte bytes is (λ kind text. behind_begins is_e IsSigned text))

lettered_longest : (text : List ℕ) → IsLongestIn (Behind is_e IsSigned) exponent_more text (exponent_length text)
unfolding exponent_length
lettered_longest [] = longest_none (Behind is_e IsSigned) exponent_more [] (nil_none (Unit {0}) (λ kind. Behind is_e IsSigned) (λ kind. behind_full is_e IsSigned))
lettered_longest (byte ∷ bytes) = exponent_step (is_e byte) byte bytes refl

-- the definition's exponent, by its letter
signed_is : (text back sign digits : List ℕ) → back ≡ sign ++ digits → (sign ≡ []) ⊎ ((byte : ℕ) × (sign ≡ byte ∷ []) × (is_sign byte ≡ true)) → IsDigits is_digit digits → IsSigned back
signed_is text back sign digits parts signs is = elim signs [
  | inl empty ↦
      let whole : back ≡ digits = parts ∙ ap (λ sign. sign ++ digits) empty in
      inr (subst (IsDigits is_digit) (sym whole) is)
  | inr signed ↦
      inl (record { byte = signed.0; back = digits; parts = parts ∙ ap (λ sign. sign ++ digits) signed.1; passes = signed.2; second = is })
]

exponent_lettered : (text : List ℕ) → IsExponent text → Behind is_e IsSigned text
exponent_lettered text is = record {
  byte = is.letter;
  back = is.sign ++ is.digits;
  parts = is.parts;
  passes = is.is_letter;
  second = signed_is text (is.sign ++ is.digits) is.sign is.digits refl is.is_sign is.is_digits;
}

lettered_exponent : (text : List ℕ) → Behind is_e IsSigned text → IsExponent text
lettered_exponent text is = elim is.second [
  | inl signed ↦ record {
    letter = is.byte;
    sign = signed.byte ∷ [];
    digits = signed.back;
    parts = is.parts ∙ ap (λ back. is.byte ∷ back) signed.parts;
    is_letter = is.passes;
    is_sign = inr (signed.byte, refl, signed.passes);
    is_digits = signed.second;
  }
  | inr digits ↦ record {
    letter = is.byte;
    sign = [];
    digits = is.back;
    parts = is.parts;
    is_letter = is.passes;
    is_sign = inl refl;
    is_digits = digits;
  }
]

-- the longest exponent
pub exponent_longest : (text : List ℕ) → IsLongestIn IsExponent exponent_more text (exponent_length text)
exponent_longest text =
    longest_in_like (Behind is_e IsSigned) IsExponent exponent_more text (exponent_length text) lettered_exponent exponent_lettered (lettered_longest text)

pub exponent_begins : (text : List ℕ) → IsExponent text → BeginsWith is_e text
exponent_begins text is = behind_begins is_e IsSigned text (exponent_lettered text is)

-- what ends a floating-point literal of this kind
pub data IsFloatingEnd (kind : TokKind) (text : List ℕ) : Type 0 where
  alone : kind ≡ kinds.Double → text ≡ [] → IsFloatingEnd kind text
  double : (byte : ℕ) → kind ≡ kinds.Double → text ≡ byte ∷ [] → is_d byte ≡ true → IsFloatingEnd kind text
  float : (byte : ℕ) → kind ≡ kinds.Float → text ≡ byte ∷ [] → is_f byte ≡ true → IsFloatingEnd kind text

abbrev pub is_suffix : ℕ → Bool
is_suffix = either is_f is_d

end_nil : IsLongestOf TokKind IsFloatingEnd is_suffix [] kinds.Double 0
end_nil = record {
  within = omega arith;
  holds = alone refl refl;
  compares = λ other front rest is has. elim has [
    | alone kind_is empty ↦ same (ap length empty) kind_is
    | double byte kind_is parts passes ↦ absurd (no_byte byte front rest is parts)
    | float byte kind_is parts passes ↦ absurd (no_byte byte front rest is parts)
  ];
}

empty_compares : (kind other : TokKind) (byte : ℕ) (bytes front rest : List ℕ) → is_suffix byte ≡ true → byte ∷ bytes ≡ front ++ rest → front ≡ []
    → Compared TokKind is_suffix kind other 1 (length front) rest
empty_compares kind other byte bytes front rest passes is empty =
    let none : length front ≡ 0 = ap length empty in
    let follows : byte ∷ bytes ≡ rest = is ∙ ap (λ front. front ++ rest) empty in
    shorter (omega arith) (subst (BeginsWith is_suffix) follows passes)

end_float : (byte : ℕ) (bytes : List ℕ) → is_f byte ≡ true → IsLongestOf TokKind IsFloatingEnd is_suffix (byte ∷ bytes) kinds.Float 1
end_float byte bytes passes =
    let no_d : is_d byte ≡ false = of_two 102 70 byte passes (λ byte. is_d byte ≡ false) refl refl in
    record {
      within = omega arith;
      holds = float byte refl refl passes;
      compares = λ other front rest is has. elim has [
        | alone kind_is empty ↦ empty_compares kinds.Float other byte bytes front rest (or_left (is_f byte) (is_d byte) passes) is empty
        | double first kind_is parts letter ↦
            absurd (both_ways (is_d byte) no_d (subst (λ byte. is_d byte ≡ true) (one_byte byte first bytes front rest is parts) letter))
        | float first kind_is parts letter ↦ same (ap length parts) kind_is
      ];
    }

end_double : (byte : ℕ) (bytes : List ℕ) → is_f byte ≡ false → is_d byte ≡ true → IsLongestOf TokKind IsFloatingEnd is_suffix (byte ∷ bytes) kinds.Double 1
end_double byte bytes no_f passes = record {
  within = omega arith;
  holds = double byte refl refl passes;
  compares = λ other front rest is has. elim has [
    | alone kind_is empty ↦ empty_compares kinds.Double other byte bytes front rest (or_right (is_f byte) (is_d byte) passes) is empty
    | double first kind_is parts letter ↦ same (ap length parts) kind_is
    | float first kind_is parts letter ↦
        absurd (both_ways (is_f byte) no_f (subst (λ byte. is_f byte ≡ true) (one_byte byte first bytes front rest is parts) letter))
  ];
}

end_alone : (byte : ℕ) (bytes : List ℕ) → is_f byte ≡ false → is_d byte ≡ false → IsLongestOf TokKind IsFloatingEnd is_suffix (byte ∷ bytes) kinds.Double 0
end_alone byte bytes no_f no_d = record {
  within = omega arith;
  holds = alone refl refl;
  compares = λ other front rest is has. elim has [
    | alone kind_is empty ↦ same (ap length empty) kind_is
    | double first kind_is parts letter ↦
        absurd (both_ways (is_d byte) no_d (subst (λ byte. is_d byte ≡ true) (one_byte byte first bytes front rest is parts) letter))
    | float first kind_is parts letter ↦
        absurd (both_ways (is_f byte) no_f (subst (λ byte. is_f byte ≡ true) (one_byte byte first bytes front rest is parts) letter))
  ];
}

end_step : (f d : Bool) (byte : ℕ) (bytes : List ℕ) → is_f byte ≡ f → is_d byte ≡ d
    → let number : Number = cond f (record { kind = kinds.Float; length = 1 }) (cond d (record { kind = kinds.Double; length = 1 }) (record { kind = kinds.Double; length = 0 })) in IsLongestOf TokKind IsFloatingEnd is_suffix (byte ∷ bytes) number.kind number.length
end_step true d byte bytes f_is d_is = end_float byte bytes f_is
end_step false true byte bytes f_is d_is = end_double byte bytes f_is d_is
end_step false false byte bytes f_is d_is = end_alone byte bytes f_is d_is

pub suffix_longest : (text : List ℕ) → IsLongestOf TokKind IsFloatingEnd is_suffix text (suffix_of text).kind (suffix_of text).length
unfolding suffix_of
suffix_longest [] = end_nil
suffix_longest (byte ∷ bytes) = end_step (is_f byte) (is_d byte) byte bytes refl refl

pub suffix_begins : (kind : TokKind) (text : List ℕ) → IsFloatingEnd kind text → Maybe (BeginsWith is_suffix) text
suffix_begins kind text has = elim has [
  | alone kind_is empty ↦ inl empty
  | double byte kind_is parts letter ↦ inr (subst (BeginsWith is_suffix) (sym parts) (or_right (is_f byte) (is_d byte) letter))
  | float byte kind_is parts letter ↦ inr (subst (BeginsWith is_suffix) (sym parts) (or_left (is_f byte) (is_d byte) letter))
]

-- a test that no suffix passes
pub suffix_apart : (byte : ℕ) → is_suffix byte ≡ true → (P : ℕ → Type 0) → P 102 → P 70 → P 100 → P 68 → P byte
suffix_apart byte is P at_f at_F at_d at_D =
    elim (or_cases (is_f byte) (is_d byte) is) [
      | inl f ↦ of_two 102 70 byte f P at_f at_F
      | inr d ↦ of_two 100 68 byte d P at_d at_D
    ]

exponent_apart : Apart exponent_more is_suffix
exponent_apart byte goes_on suffix = suffix_apart byte suffix (λ byte. exponent_more byte ≡ true → ⊥) (λ is. cc) (λ is. cc) (λ is. cc) (λ is. cc) goes_on

-- an exponent and what ends a literal of this kind, or what there is of them
abbrev pub IsEnding : TokKind → List ℕ → Type 0
IsEnding kind text = Joined (Maybe IsExponent) (IsFloatingEnd kind) text

abbrev pub ending_more : ℕ → Bool
ending_more = either exponent_more is_suffix

pub ending_longest : (text : List ℕ) → IsLongestOf TokKind IsEnding ending_more text (ending_of text).kind (ending_of text).length
unfolding ending_of
ending_longest text =
    let n = exponent_length text in
    longest_joined TokKind (Maybe IsExponent) IsFloatingEnd is_suffix exponent_more is_suffix text n (suffix_of (drop n text)).kind (suffix_of (drop n text)).length
    (exponent_longest text) (suffix_longest (drop n text)) suffix_begins exponent_apart

-- and the bytes with which it may begin
abbrev pub begins_ending : ℕ → Bool
begins_ending = either is_e is_suffix

pub ending_begins : (kind : TokKind) (text : List ℕ) → IsEnding kind text → Maybe (BeginsWith begins_ending) text
ending_begins kind text is = elim is.first [
  | inl empty ↦
      let whole : text ≡ is.back = is.parts ∙ ap (λ front. front ++ is.back) empty in
      elim (suffix_begins kind is.back is.second) [
        | inl none ↦ inl (whole ∙ none)
        | inr suffix ↦ inr (subst (BeginsWith begins_ending) (sym whole) (begins_within is_suffix begins_ending is.back (λ byte. or_right (is_e byte) (is_suffix byte)) suffix))
      ]
  | inr exponent ↦
      inr (subst (BeginsWith begins_ending) (sym is.parts) (begins_append begins_ending is.front is.back
      (begins_within is_e begins_ending is.front (λ byte. or_left (is_e byte) (is_suffix byte)) (exponent_begins is.front exponent))))
]
