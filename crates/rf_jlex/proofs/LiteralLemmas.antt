-- The longest floating-point literal at the front of a text, and that it is one by the definition (JLS 3.10.2).
use Rattle.std.proofs.Common.{◌≡◌, ◌≢◌, ℕ, ◌+◌, ◌⊎◌, inl, inr, Bool, true, false, ◌==◌, cond, List, [], ◌∷◌, ◌++◌, drop, Option, Some, None, refl, ap, sym, ◌∙◌, subst}
use Rattle.std.specs.Option.{option_map}
use Rattle.std.proofs.lemmas.Bool.{or_right, eqb-true, eqb-false}
use Rattle.rf_jtree.specs.declared.tokens.TokKind.{TokKind}
use Rattle.rf_jtree.specs.declared.tokens.TokKind.TheVariants as kinds
use Rattle.rf_jtree.specs.Digits.{is_digit, or_underscore, IsDigits}
use Rattle.rf_jtree.specs.Numbers.{is_d, Maybe, IsExponent, IsFloating, point, fraction_alone, exponent_alone, suffix_alone, IsFloat, IsDouble}
use Rattle.rf_jlex.specs.DigitRuns.{digits_length}
use Rattle.rf_jlex.specs.NumberLengths.{behind, ending_of, after_point, after_whole, fraction_of, whole_literal_of, floating_of}
use Rattle.rf_jlex.specs.declared.numbers.Number.{Number}
use Rattle.rf_jlex.proofs.LongestLemmas.{either, IsLongestOf, HasNone, Joined, Behind, longest_within, none_longest, some_longest, longest_either, longest_either_right, none_either, longest_behind, longest_joined, front_none, begins_none, nil_none, behind_none, behind_begins, behind_full}
use Rattle.rf_jlex.proofs.DigitFrontLemmas.{digits_full, digits_none, digits_longest}
use Rattle.rf_jlex.proofs.IntegerLemmas.{Finds}
use Rattle.rf_jlex.proofs.ExponentLemmas.{IsFloatingEnd, alone, double, float, IsEnding, begins_ending, ending_more, ending_longest, ending_begins}
use Rattle.rf_jlex.proofs.FloatingLemmas.{is_point, IsAfterPoint, IsAfterWhole, IsFraction, IsWholeLiteral, IsLiteral, literal_more, digits_apart, after_whole_longest, whole_some}

abbrev pub floating_more : ℕ → Bool
floating_more = either (or_underscore is_digit) literal_more

-- a literal that begins with a point
fraction_longest : (byte : ℕ) (bytes : List ℕ) → is_point byte ≡ true → digits_length is_digit bytes ≢ 0 → IsLongestOf TokKind IsFraction literal_more (byte ∷ bytes) (after_point bytes).kind (1 + (after_point bytes).length)
unfolding after_point
fraction_longest byte bytes is some =
    let n = digits_length is_digit bytes in
    let ending = ending_of (drop n bytes) in
    longest_behind TokKind (λ kind. Joined (IsDigits is_digit) (IsEnding kind)) literal_more is_point byte bytes ending.kind (n + ending.length) is
    (longest_joined TokKind (IsDigits is_digit) IsEnding begins_ending (or_underscore is_digit) ending_more bytes n ending.kind ending.length
    (some_longest (IsDigits is_digit) (or_underscore is_digit) bytes n (digits_longest is_digit bytes) some) (ending_longest (drop n bytes)) ending_begins digits_apart)

fraction_none : (byte : ℕ) (bytes : List ℕ) → digits_length is_digit bytes ≡ 0 → HasNone TokKind IsFraction (byte ∷ bytes)
fraction_none byte bytes none =
    behind_none TokKind (λ kind. Joined (IsDigits is_digit) (IsEnding kind)) is_point byte bytes
    (front_none TokKind (IsDigits is_digit) IsEnding bytes
    (none_longest (IsDigits is_digit) (or_underscore is_digit) bytes (digits_length is_digit bytes) (digits_full is_digit) (digits_longest is_digit bytes) none))

no_whole : (byte : ℕ) (bytes : List ℕ) → is_point byte ≡ true → HasNone TokKind IsWholeLiteral (byte ∷ bytes)
no_whole byte bytes is =
    let no_digit : is_digit byte ≡ false = subst (λ byte. is_digit byte ≡ false) (sym (eqb-true byte 46 is)) refl in
    front_none TokKind (IsDigits is_digit) IsAfterWhole (byte ∷ bytes) (digits_none is_digit byte bytes no_digit)

fraction_step : (empty : Bool) (byte : ℕ) (bytes : List ℕ) → is_point byte ≡ true → (digits_length is_digit bytes == 0) ≡ empty
    → Finds IsLiteral floating_more (byte ∷ bytes) (cond empty None (Some (behind 1 (after_point bytes))))
fraction_step true byte bytes is none =
    none_either TokKind IsFraction IsWholeLiteral (byte ∷ bytes) (fraction_none byte bytes (eqb-true (digits_length is_digit bytes) 0 none)) (no_whole byte bytes is)
fraction_step false byte bytes is some =
    longest_either TokKind IsFraction IsWholeLiteral floating_more (byte ∷ bytes) (after_point bytes).kind (1 + (after_point bytes).length)
    (longest_within TokKind IsFraction literal_more floating_more (byte ∷ bytes) (after_point bytes).kind (1 + (after_point bytes).length)
    (λ byte. or_right (or_underscore is_digit byte) (literal_more byte)) (fraction_longest byte bytes is (eqb-false (digits_length is_digit bytes) 0 some)))
    (no_whole byte bytes is)

fraction_of_longest : (byte : ℕ) (bytes : List ℕ) → is_point byte ≡ true → Finds IsLiteral floating_more (byte ∷ bytes) (fraction_of bytes)
unfolding fraction_of
fraction_of_longest byte bytes is = fraction_step (digits_length is_digit bytes == 0) byte bytes is refl

-- a literal that begins with a digit
finds_right : (text : List ℕ) (found : Option Number) → HasNone TokKind IsFraction text → Finds IsWholeLiteral floating_more text found → Finds IsLiteral floating_more text found
finds_right text None no_fraction none = none_either TokKind IsFraction IsWholeLiteral text no_fraction none
finds_right text (Some number) no_fraction longest = longest_either_right TokKind IsFraction IsWholeLiteral floating_more text number.kind number.length longest no_fraction

whole_step : (empty : Bool) (text : List ℕ) → (digits_length is_digit text == 0) ≡ empty
    → Finds IsWholeLiteral floating_more text (cond empty None (option_map (behind (digits_length is_digit text)) (after_whole (drop (digits_length is_digit text) text))))
whole_step true text is =
    front_none TokKind (IsDigits is_digit) IsAfterWhole text
    (none_longest (IsDigits is_digit) (or_underscore is_digit) text (digits_length is_digit text) (digits_full is_digit) (digits_longest is_digit text) (eqb-true (digits_length is_digit text) 0 is))
whole_step false text is =
    let n = digits_length is_digit text in
    whole_some text n (after_whole (drop n text)) (eqb-false n 0 is) (digits_longest is_digit text) (after_whole_longest (drop n text))

whole_literal_longest : (text : List ℕ) → Finds IsWholeLiteral floating_more text (whole_literal_of text)
unfolding whole_literal_of
whole_literal_longest text = whole_step (digits_length is_digit text == 0) text refl

no_point : (byte : ℕ) (bytes : List ℕ) → is_point byte ≡ false → HasNone TokKind IsFraction (byte ∷ bytes)
no_point byte bytes fails =
    begins_none TokKind IsFraction is_point byte bytes fails (λ kind text. behind_begins is_point (Joined (IsDigits is_digit) (IsEnding kind)) text)

floating_step : (pointed : Bool) (byte : ℕ) (bytes : List ℕ) → is_point byte ≡ pointed
    → Finds IsLiteral floating_more (byte ∷ bytes) (cond pointed (fraction_of bytes) (whole_literal_of (byte ∷ bytes)))
floating_step true byte bytes is = fraction_of_longest byte bytes is
floating_step false byte bytes is =
    finds_right (byte ∷ bytes) (whole_literal_of (byte ∷ bytes)) (no_point byte bytes is) (whole_literal_longest (byte ∷ bytes))

literal_full : (kind : TokKind) → IsLiteral kind [] → ⊥
literal_full kind is = elim is [
  | inl fraction ↦ behind_full is_point (Joined (IsDigits is_digit) (IsEnding kind)) fraction
  | inr whole ↦ front_none TokKind (IsDigits is_digit) IsAfterWhole [] (nil_none (Unit {0}) (λ kind. IsDigits is_digit) (λ kind. digits_full is_digit)) kind [] [] refl whole
]

-- the longest floating-point literal
pub floating_longest : (text : List ℕ) → Finds IsLiteral floating_more text (floating_of text)
unfolding floating_of
floating_longest [] = nil_none TokKind IsLiteral literal_full
floating_longest (byte ∷ bytes) = floating_step (is_point byte) byte bytes refl

-- a literal has a suffix by which it is one of the definition
pub record IsFloatingOf (kind : TokKind) (text : List ℕ) : Type 0 where
  pub suffix : List ℕ
  pub ends : IsFloatingEnd kind suffix
  pub floating : IsFloating suffix text

fraction_is : (kind : TokKind) (text : List ℕ) → IsFraction kind text → IsFloatingOf kind text
fraction_is kind text is =
    let ending = is.second.second in
    let back : is.back ≡ is.second.front ++ (ending.front ++ ending.back) = is.second.parts ∙ ap (λ back. is.second.front ++ back) ending.parts in
    record {
      suffix = ending.back;
      ends = ending.second;
      floating = fraction_alone is.second.front ending.front
          (is.parts ∙ ap (λ byte. byte ∷ is.back) (eqb-true is.byte 46 is.passes) ∙ ap (λ back. 46 ∷ back) back) is.second.first ending.first;
    }

-- behind a whole part
pointed_is : (kind : TokKind) (text whole back : List ℕ) → text ≡ whole ++ back → IsDigits is_digit whole → Behind is_point (IsAfterPoint kind) back → IsFloatingOf kind text
pointed_is kind text whole back parts digits is =
    let ending = is.second.second in
    let rest : is.back ≡ is.second.front ++ (ending.front ++ ending.back) = is.second.parts ∙ ap (λ back. is.second.front ++ back) ending.parts in
    let from_point : back ≡ 46 ∷ (is.second.front ++ (ending.front ++ ending.back)) =
    is.parts ∙ ap (λ byte. byte ∷ is.back) (eqb-true is.byte 46 is.passes) ∙ ap (λ back. 46 ∷ back) rest in
    record {
      suffix = ending.back;
      ends = ending.second;
      floating = point whole is.second.front ending.front (parts ∙ ap (λ back. whole ++ back) from_point) digits is.second.first ending.first;
    }

ended_is : (kind : TokKind) (text whole back : List ℕ) → text ≡ whole ++ back → IsDigits is_digit whole → IsEnding kind back → back ≢ [] → IsFloatingOf kind text
ended_is kind text whole back parts digits is some = elim is.first [
  | inl empty ↦
      let rest : back ≡ is.back = is.parts ∙ ap (λ front. front ++ is.back) empty in
      record {
        suffix = is.back;
        ends = is.second;
        floating = suffix_alone whole (parts ∙ ap (λ back. whole ++ back) rest) digits (λ none. some (rest ∙ none));
      }
  | inr exponent ↦ record {
    suffix = is.back;
    ends = is.second;
    floating = exponent_alone whole is.front (parts ∙ ap (λ back. whole ++ back) is.parts) digits exponent;
  }
]

pub literal_is : (kind : TokKind) (text : List ℕ) → IsLiteral kind text → IsFloatingOf kind text
literal_is kind text is = elim is [
  | inl fraction ↦ fraction_is kind text fraction
  | inr whole ↦ elim whole.second [
    | inl pointed ↦ pointed_is kind text whole.front whole.back whole.parts whole.first pointed
    | inr ending ↦ ended_is kind text whole.front whole.back whole.parts whole.first ending.0 ending.1
  ]
]

-- and the other way round
ending_from : (kind : TokKind) (exponent suffix : List ℕ) → Maybe IsExponent exponent → IsFloatingEnd kind suffix → IsEnding kind (exponent ++ suffix)
ending_from kind exponent suffix is ends = record { front = exponent; back = suffix; parts = refl; first = is; second = ends }

exponent_some : (exponent suffix : List ℕ) → IsExponent exponent → exponent ++ suffix ≢ []
exponent_some exponent suffix is none =
    let parts : is.letter ∷ ((is.sign ++ is.digits) ++ suffix) ≡ [] = ap (λ exponent. exponent ++ suffix) (sym is.parts) ∙ none in
    cc

pub literal_from : (kind : TokKind) (suffix text : List ℕ) → IsFloatingEnd kind suffix → IsFloating suffix text → IsLiteral kind text
literal_from kind suffix text ends is = elim is [
  | point whole fraction exponent parts digits has_fraction has_exponent ↦ inr (record {
    front = whole;
    back = 46 ∷ (fraction ++ (exponent ++ suffix));
    parts = parts;
    first = digits;
    second = inl (record {
      byte = 46;
      back = fraction ++ (exponent ++ suffix);
      parts = refl;
      passes = refl;
      second = record { front = fraction; back = exponent ++ suffix; parts = refl; first = has_fraction; second = ending_from kind exponent suffix has_exponent ends };
    });
  })
  | fraction_alone fraction exponent parts digits has_exponent ↦ inl (record {
    byte = 46;
    back = fraction ++ (exponent ++ suffix);
    parts = parts;
    passes = refl;
    second = record { front = fraction; back = exponent ++ suffix; parts = refl; first = digits; second = ending_from kind exponent suffix has_exponent ends };
  })
  | exponent_alone whole exponent parts digits has_exponent ↦ inr (record {
    front = whole;
    back = exponent ++ suffix;
    parts = parts;
    first = digits;
    second = inr (ending_from kind exponent suffix (inr has_exponent) ends, exponent_some exponent suffix has_exponent);
  })
  | suffix_alone whole parts digits some ↦ inr (record {
    front = whole;
    back = suffix;
    parts = parts;
    first = digits;
    second = inr (ending_from kind [] suffix (inl refl) ends, some);
  })
]

-- a literal of its kind is the token
pub float_from : (text : List ℕ) → IsFloat text → IsLiteral kinds.Float text
float_from text is = literal_from kinds.Float (is.suffix ∷ []) text (float is.suffix refl refl is.is_suffix) is.floating

double_end : (suffix : List ℕ) → (suffix ≡ []) ⊎ ((byte : ℕ) × (suffix ≡ byte ∷ []) × (is_d byte ≡ true)) → IsFloatingEnd kinds.Double suffix
double_end suffix is = elim is [ inl empty ↦ alone refl empty | inr letter ↦ double letter.0 refl letter.1 letter.2 ]

pub double_from : (text : List ℕ) → IsDouble text → IsLiteral kinds.Double text
double_from text is = literal_from kinds.Double is.suffix text (double_end is.suffix is.is_suffix) is.floating

pub literal_kind : (kind : TokKind) (text : List ℕ) → IsFloatingOf kind text → ((kind ≡ kinds.Float) × IsFloat text) ⊎ ((kind ≡ kinds.Double) × IsDouble text)
literal_kind kind text is = elim is.ends [
  | alone kind_is empty ↦ inr (kind_is, record { suffix = is.suffix; is_suffix = inl empty; floating = is.floating })
  | double byte kind_is parts letter ↦ inr (kind_is, record { suffix = is.suffix; is_suffix = inr (byte, parts, letter); floating = is.floating })
  | float byte kind_is parts letter ↦
      inl (kind_is, record { suffix = byte; is_suffix = letter; floating = subst (λ suffix. IsFloating suffix text) parts is.floating })
]
