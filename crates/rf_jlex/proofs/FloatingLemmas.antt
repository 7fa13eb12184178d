-- The longest floating-point literal at the front of a text (JLS 3.10.2).
use Rattle.std.proofs.Common.{◌≡◌, ◌≢◌, ℕ, ◌+◌, ◌⊎◌, inl, inr, Bool, true, false, ◌==◌, cond, List, [], ◌∷◌, length, drop, Option, Some, None, refl, ap, sym, ◌∙◌, subst, arith}
use Rattle.std.specs.Option.{option_map}
use Rattle.std.proofs.lemmas.Bool.{or_left, or_right, or_cases, eqb-true, eqb-false}
use Rattle.std.proofs.lemmas.List.{nil_from_length, length-take-le}
use Rattle.rf_jtree.specs.declared.tokens.TokKind.{TokKind}
use Rattle.rf_jtree.specs.Digits.{is_digit, or_underscore, BeginsWith, IsDigits}
use Rattle.rf_jtree.specs.Numbers.{is_e, Maybe}
use Rattle.rf_jlex.specs.DigitRuns.{digits_length}
use Rattle.rf_jlex.specs.NumberLengths.{behind, unless_empty, ending_of, after_point, after_whole}
use Rattle.rf_jlex.specs.declared.numbers.Number.{Number}
use Rattle.rf_jlex.proofs.LongestLemmas.{either, Apart, same, shorter, IsLongestOf, IsLongestIn, HasNone, Joined, Behind, of_two, begins_within, some_longest, longest_either, longest_either_right, none_either, longest_behind, longest_joined, joined_none, begins_none, nil_none, behind_begins, behind_full}
use Rattle.rf_jlex.proofs.DigitFrontLemmas.{digits_longest}
use Rattle.rf_jlex.proofs.IntegerLemmas.{Finds}
use Rattle.rf_jlex.proofs.ExponentLemmas.{IsEnding, begins_ending, ending_more, ending_longest, ending_begins, is_suffix, suffix_apart}

abbrev pub is_point : ℕ → Bool
is_point byte = byte == 46

-- what stands behind the point: digits, then what ends the literal
abbrev pub IsAfterPoint : TokKind → List ℕ → Type 0
IsAfterPoint kind text = Joined (Maybe (IsDigits is_digit)) (IsEnding kind) text

-- what stands behind the whole part
abbrev pub IsAfterWhole : TokKind → List ℕ → Type 0
IsAfterWhole kind text = Behind is_point (IsAfterPoint kind) text ⊎ (IsEnding kind text × (text ≢ []))

-- a literal that has no whole part, and one that has
abbrev pub IsFraction : TokKind → List ℕ → Type 0
IsFraction kind text = Behind is_point (Joined (IsDigits is_digit) (IsEnding kind)) text

abbrev pub IsWholeLiteral : TokKind → List ℕ → Type 0
IsWholeLiteral kind text = Joined (IsDigits is_digit) (IsAfterWhole kind) text

abbrev pub IsLiteral : TokKind → List ℕ → Type 0
IsLiteral kind text = IsFraction kind text ⊎ IsWholeLiteral kind text

abbrev pub literal_more : ℕ → Bool
literal_more = either (or_underscore is_digit) ending_more

-- a test that nothing that ends a literal begins with
pub ending_apart : (byte : ℕ) → begins_ending byte ≡ true → (P : ℕ → Type 0) → P 101 → P 69 → P 102 → P 70 → P 100 → P 68 → P byte
ending_apart byte is P at_e at_E at_f at_F at_d at_D =
    elim (or_cases (is_e byte) (is_suffix byte) is) [
      | inl e ↦ of_two 101 69 byte e P at_e at_E
      | inr suffix ↦ suffix_apart byte suffix P at_f at_F at_d at_D
    ]

pub digits_apart : Apart (or_underscore is_digit) begins_ending
digits_apart byte goes_on ending =
    ending_apart byte ending (λ byte. or_underscore is_digit byte ≡ true → ⊥) (λ is. cc) (λ is. cc) (λ is. cc) (λ is. cc) (λ is. cc) (λ is. cc) goes_on

pub after_point_longest : (text : List ℕ) → IsLongestOf TokKind IsAfterPoint literal_more text (after_point text).kind (after_point text).length
unfolding after_point
after_point_longest text =
    let n = digits_length is_digit text in
    longest_joined TokKind (Maybe (IsDigits is_digit)) IsEnding begins_ending (or_underscore is_digit) ending_more text n (ending_of (drop n text)).kind (ending_of (drop n text)).length
    (digits_longest is_digit text) (ending_longest (drop n text)) ending_begins digits_apart

-- behind the whole part: a point, or else at once what ends the literal
not_empty : (kind : TokKind) (text : List ℕ) → IsEnding kind text × (text ≢ []) → BeginsWith begins_ending text
not_empty kind text is = elim (ending_begins kind text is.0) [ inl empty ↦ absurd (is.1 empty) | inr begins ↦ begins ]

after_whole_point : (byte : ℕ) (bytes : List ℕ) → is_point byte ≡ true → Finds IsAfterWhole literal_more (byte ∷ bytes) (Some (behind 1 (after_point bytes)))
after_whole_point byte bytes is =
    let no_ending : begins_ending byte ≡ false = subst (λ byte. begins_ending byte ≡ false) (sym (eqb-true byte 46 is)) refl in
    longest_either TokKind (λ kind. Behind is_point (IsAfterPoint kind)) (λ kind text. IsEnding kind text × (text ≢ [])) literal_more (byte ∷ bytes) (after_point bytes).kind (1 + (after_point bytes).length)
    (longest_behind TokKind IsAfterPoint literal_more is_point byte bytes (after_point bytes).kind (after_point bytes).length is (after_point_longest bytes))
    (begins_none TokKind (λ kind text. IsEnding kind text × (text ≢ [])) begins_ending byte bytes no_ending not_empty)

point_none : (byte : ℕ) (bytes : List ℕ) → is_point byte ≡ false → HasNone TokKind (λ kind. Behind is_point (IsAfterPoint kind)) (byte ∷ bytes)
point_none byte bytes fails =
    begins_none TokKind (λ kind. Behind is_point (IsAfterPoint kind)) is_point byte bytes fails (λ kind text. behind_begins is_point (IsAfterPoint kind) text)

full_ending_none : (text : List ℕ) → (ending_of text).length ≡ 0 → HasNone TokKind (λ kind text. IsEnding kind text × (text ≢ [])) text
full_ending_none text none kind front rest is has =
    elim ((ending_longest text).compares kind front rest is has.0) [
      | same length_is kind_is ↦ has.1 (nil_from_length front (length_is ∙ none))
      | shorter less begins ↦ absurd (omega arith)
    ]

full_ending_longest : (text : List ℕ) → (ending_of text).length ≢ 0 → IsLongestOf TokKind (λ kind text. IsEnding kind text × (text ≢ [])) literal_more text (ending_of text).kind (ending_of text).length
full_ending_longest text some =
    let longest = ending_longest text in
    let n = (ending_of text).length in
    record {
      within = longest.within;
      holds = (longest.holds, λ empty. some (sym (length-take-le n text longest.within) ∙ ap length empty));
      compares = λ other front rest is has. elim (longest.compares other front rest is has.0) [
        | same length_is kind_is ↦ same length_is kind_is
        | shorter less begins ↦ shorter less (begins_within ending_more literal_more rest (λ byte. or_right (or_underscore is_digit byte) (ending_more byte)) begins)
      ];
    }

ending_step : (empty : Bool) (byte : ℕ) (bytes : List ℕ) → is_point byte ≡ false → ((ending_of (byte ∷ bytes)).length == 0) ≡ empty
    → Finds IsAfterWhole literal_more (byte ∷ bytes) (cond empty None (Some (ending_of (byte ∷ bytes))))
ending_step true byte bytes no_point is =
    none_either TokKind (λ kind. Behind is_point (IsAfterPoint kind)) (λ kind text. IsEnding kind text × (text ≢ [])) (byte ∷ bytes)
    (point_none byte bytes no_point) (full_ending_none (byte ∷ bytes) (eqb-true (ending_of (byte ∷ bytes)).length 0 is))
ending_step false byte bytes no_point is =
    longest_either_right TokKind (λ kind. Behind is_point (IsAfterPoint kind)) (λ kind text. IsEnding kind text × (text ≢ [])) literal_more (byte ∷ bytes) (ending_of (byte ∷ bytes)).kind (ending_of (byte ∷ bytes)).length
    (full_ending_longest (byte ∷ bytes) (eqb-false (ending_of (byte ∷ bytes)).length 0 is)) (point_none byte bytes no_point)

after_whole_step : (point : Bool) (byte : ℕ) (bytes : List ℕ) → is_point byte ≡ point
    → Finds IsAfterWhole literal_more (byte ∷ bytes) (cond point (Some (behind 1 (after_point bytes))) (unless_empty (ending_of (byte ∷ bytes))))
after_whole_step true byte bytes is = after_whole_point byte bytes is
after_whole_step false byte bytes is = ending_step ((ending_of (byte ∷ bytes)).length == 0) byte bytes is refl

after_whole_full : (kind : TokKind) → IsAfterWhole kind [] → ⊥
after_whole_full kind is = elim is [
  | inl pointed ↦ behind_full is_point (IsAfterPoint kind) pointed
  | inr ending ↦ ending.1 refl
]

pub after_whole_longest : (text : List ℕ) → Finds IsAfterWhole literal_more text (after_whole text)
unfolding after_whole
after_whole_longest [] = nil_none TokKind IsAfterWhole after_whole_full
after_whole_longest (byte ∷ bytes) = after_whole_step (is_point byte) byte bytes refl

-- the bytes with which the rest behind the whole part may begin
abbrev pub begins_rest : ℕ → Bool
begins_rest = either is_point begins_ending

pub rest_begins : (kind : TokKind) (text : List ℕ) → IsAfterWhole kind text → BeginsWith begins_rest text
rest_begins kind text is = elim is [
  | inl pointed ↦
      begins_within is_point begins_rest text (λ byte. or_left (is_point byte) (begins_ending byte)) (behind_begins is_point (IsAfterPoint kind) text pointed)
  | inr ending ↦
      begins_within begins_ending begins_rest text (λ byte. or_right (is_point byte) (begins_ending byte)) (not_empty kind text ending)
]

-- a test that the rest begins with no byte that passes it
pub rest_apart : (byte : ℕ) → begins_rest byte ≡ true → (P : ℕ → Type 0) → P 46 → P 101 → P 69 → P 102 → P 70 → P 100 → P 68 → P byte
rest_apart byte is P at_point at_e at_E at_f at_F at_d at_D =
    elim (or_cases (is_point byte) (begins_ending byte) is) [
      | inl point ↦ subst P (sym (eqb-true byte 46 point)) at_point
      | inr ending ↦ ending_apart byte ending P at_e at_E at_f at_F at_d at_D
    ]

pub whole_apart : Apart (or_underscore is_digit) begins_rest
whole_apart byte goes_on rest =
    rest_apart byte rest (λ byte. or_underscore is_digit byte ≡ true → ⊥) (λ is. cc) (λ is. cc) (λ is. cc) (λ is. cc) (λ is. cc) (λ is. cc) (λ is. cc) goes_on

-- a whole part, as long as it can be, and the longest rest of a literal behind it
pub whole_some : (text : List ℕ) (n : ℕ) (rest : Option Number) → n ≢ 0 → IsLongestIn (IsDigits is_digit) (or_underscore is_digit) text n → Finds IsAfterWhole literal_more (drop n text) rest
    → Finds IsWholeLiteral (either (or_underscore is_digit) literal_more) text (option_map (behind n) rest)
whole_some text n None some whole none =
    joined_none TokKind (IsDigits is_digit) IsAfterWhole begins_rest (or_underscore is_digit) text n
    (some_longest (IsDigits is_digit) (or_underscore is_digit) text n whole some) none rest_begins whole_apart
whole_some text n (Some rest) some whole longest =
    longest_joined TokKind (IsDigits is_digit) IsAfterWhole begins_rest (or_underscore is_digit) literal_more text n rest.kind rest.length
    (some_longest (IsDigits is_digit) (or_underscore is_digit) text n whole some) longest (λ kind text is. inr (rest_begins kind text is)) whole_apart
