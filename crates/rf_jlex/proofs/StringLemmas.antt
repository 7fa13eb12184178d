-- What stands between the quotes of a string literal, unit by unit.
use Rattle.std.proofs.Common.{◌≡◌, ℕ, zero, suc, ◌+◌, ◌-◌, ◌<◌, ◌≤◌, true, List, [], ◌∷◌, ◌++◌, ⊎_elim, inl, inr, length, take, drop, get_or, Option, Some, None, All, Contains, refl, sym, ap, ◌∙◌, subst, arith, lit<, append-nil, append_assoc, length-append, length-drop}
use Rattle.std.specs.List.{flat_map}
use Rattle.std.proofs.lemmas.Bool.{false≢true}
use Rattle.std.proofs.lemmas.List.{take-append-drop, drop-drop, drop_more, get_or-drop, get_or-take, length-take-le, drop_at}
use Rattle.std.proofs.lemmas.List.Concat.{flat_map-append}
use Rattle.std.proofs.lemmas.List.Elements.{All-nil, All-head, All-tail, All-push}
use Rattle.rf_jtree.specs.Digits.{is_octal_digit}
use Rattle.rf_jtree.specs.Escapes.{IsEscape}
use Rattle.rf_jtree.specs.Quoted.{REFUSED_IN_LITERALS, NOT_IN_STRINGS, IsStringUnit}
use Rattle.rf_jlex.specs.EscapeFronts.{IsFrontOf, IsLongestFront, GivesLongestFront}
use Rattle.rf_jlex.specs.QuotedFronts.{IsStringBody, IsClosedFront, IsStringStep, GivesStringStep, IsOnlyStringBody}
use Rattle.rf_jlex.proofs.FrontOfLemmas.{front_of}
use Rattle.rf_jlex.proofs.EscapeLemmas.{sorted}

abbrev pub IsClosed : List ℕ → ℕ → Type 0
IsClosed text n = IsClosedFront IsStringBody 34 text n

-- the unit at the front of a text: a plain byte, or an escape
data UnitAt (text : List ℕ) (m : ℕ) : Type 0 where
  a_byte : m ≡ 1 → ¬ Contains NOT_IN_STRINGS (get_or text 0 0) → UnitAt text m
  an_escape : get_or text 0 0 ≡ 92 → IsFrontOf (IsEscape REFUSED_IN_LITERALS) text m → UnitAt text m

unit_at : (text : List ℕ) (m : ℕ) → IsFrontOf IsStringUnit text m → UnitAt text m
unit_at text m front =
    ⊎_elim
    (λ plain.
    let whole : text ≡ (plain.0 ∷ []) ++ drop m text = sym (take-append-drop m text) ∙ ap (λ xs. xs ++ drop m text) plain.1 in
    a_byte (sym (length-take-le m text front.within) ∙ ap length plain.1) (subst (λ byte. ¬ Contains NOT_IN_STRINGS byte) (sym (ap (λ xs. get_or xs 0 0) whole)) plain.2))
    (λ escape.
    let here : IsFrontOf (IsEscape REFUSED_IN_LITERALS) text m = record { within = front.within; is_such = escape } in
    an_escape (sorted REFUSED_IN_LITERALS text m here).first here)
    front.is_such

-- a closed body is empty, or a unit and a closed body
data BodyAt (text : List ℕ) (n : ℕ) : Type 0 where
  at_quote : n ≡ 0 → get_or text 0 0 ≡ 34 → BodyAt text n
  at_unit : (m : ℕ) → m ≤ n → UnitAt text m → IsClosed (drop m text) (n - m) → BodyAt text n

body_of_units : (text : List ℕ) (n : ℕ) (units : List (List ℕ)) → n ≤ length text → take n text ≡ flat_map (λ unit. unit) units → All IsStringUnit units → get_or text n 0 ≡ 34 → BodyAt text n
body_of_units text n [] within parts are_units closed =
    let none : n ≡ 0 = sym (length-take-le n text within) ∙ ap length parts in
    at_quote none (ap (λ k. get_or text k 0) (sym none) ∙ closed)
body_of_units text n (unit ∷ units) within parts are_units closed =
    let body = flat_map (λ unit. unit) units in
    let m = length unit in
    let rest = body ++ drop n text in
    let whole : text ≡ unit ++ rest = sym (take-append-drop n text) ∙ ap (λ xs. xs ++ drop n text) parts ∙ append_assoc unit body (drop n text) in
    let size : n ≡ m + length body = sym (length-take-le n text within) ∙ ap length parts ∙ length-append unit body in
    let more : m ≤ n = omega arith in
    let tail : drop m text ≡ rest = ap (drop m) whole ∙ drop_at unit rest m refl in
    let later : m + (n - m) ≡ n = omega arith in
    at_unit m more
    (unit_at text m (front_of IsStringUnit text unit rest m whole (All-head IsStringUnit unit units are_units) refl))
    (record {
      front = front_of IsStringBody (drop m text) body (drop n text) (n - m) tail (record { units = units; parts = refl; are_units = All-tail IsStringUnit unit units are_units }) (omega arith);
      closed = get_or-drop m text (n - m) 0 ∙ ap (λ k. get_or text k 0) later ∙ closed;
    })

body_at : (text : List ℕ) (n : ℕ) → IsClosed text n → BodyAt text n
body_at text n closed =
    let body = closed.front.is_such in
    body_of_units text n body.units closed.front.within body.parts body.are_units closed.closed

has_quote : Contains NOT_IN_STRINGS 34
has_quote = (0, lit< tt, refl)

has_backslash : Contains NOT_IN_STRINGS 92
has_backslash = (1, lit< tt, refl)

closed_as : (text other : List ℕ) (n m : ℕ) → text ≡ other → n ≡ m → IsClosed text n → IsClosed other m
closed_as text other n m texts lengths closed = subst (λ k. IsClosed other k) lengths (subst (λ xs. IsClosed xs n) texts closed)

drops : (m n k : ℕ) (text : List ℕ) → n + m ≡ k → drop m (drop n text) ≡ drop k text
drops m n k text sum = drop-drop m n text ∙ ap (λ j. drop j text) sum

-- behind octal digits a closed body goes on, since each may stand for itself
skip_digits : (k : ℕ) (text : List ℕ) (n : ℕ) → ((i : ℕ) → i < k → is_octal_digit (get_or text i 0) ≡ true) → IsClosed text n → (k ≤ n) × IsClosed (drop k text) (n - k)
skip_digits zero text n digits closed = (omega arith, closed_as text text n (n - 0) refl (omega arith) closed)
skip_digits (suc k) text n digits closed =
    let first : is_octal_digit (get_or text 0 0) ≡ true = digits 0 (omega arith) in
    let later = λ (i : ℕ) (below : i < k).
    let goal : is_octal_digit (get_or (drop 1 text) i 0) ≡ true = ap is_octal_digit (get_or-drop 1 text i 0) ∙ digits (1 + i) (omega arith) in goal in
    let tails : drop k (drop 1 text) ≡ drop (suc k) text = drops k 1 (suc k) text (omega arith) in
    elim (body_at text n closed) [
      | at_quote none quote ↦ absurd (false≢true (sym (ap is_octal_digit quote) ∙ first))
      | at_unit m more unit left ↦
          elim unit [
            | a_byte one plain ↦
                let further = skip_digits k (drop 1 text) (n - 1) later (closed_as (drop m text) (drop 1 text) (n - m) (n - 1) (ap (λ j. drop j text) one) (omega arith) left) in
                (omega (arith, one, more, further.0), closed_as (drop k (drop 1 text)) (drop (suc k) text) (n - 1 - k) (n - suc k) tails (omega arith) further.1)
            | an_escape backslash escape ↦ absurd (false≢true (sym (ap is_octal_digit backslash) ∙ first))
          ]
    ]

-- an escape is a step of a string, with all octal digits that follow it
module _ (text : List ℕ) (n : ℕ) (longest : IsLongestFront (IsEscape REFUSED_IN_LITERALS) text n) where
  digits_behind : (m : ℕ) → IsFrontOf (IsEscape REFUSED_IN_LITERALS) text m → (i : ℕ) → i < n - m → is_octal_digit (get_or (drop m text) i 0) ≡ true
  digits_behind m here i below =
      let left = drop m (take n text) in
      let within : i < length left = omega (arith, below, length-drop m (take n text), length-take-le n text longest.front.within) in
      let same : get_or (drop m text) i 0 ≡ get_or left i 0 =
      get_or-drop m text i 0 ∙ sym (get_or-take n text (m + i) 0 (omega (arith, below))) ∙ sym (get_or-drop m (take n text) i 0) in
      ap is_octal_digit same ∙ longest.digits m here i 0 within

  past_escape : (m end : ℕ) → IsFrontOf (IsEscape REFUSED_IN_LITERALS) text m → m ≤ end → IsClosed (drop m text) (end - m) → (n ≤ end) × IsClosed (drop n text) (end - n)
  past_escape m end here more left =
      let further = skip_digits (n - m) (drop m text) (end - m) (digits_behind m here) left in
      let longer : m ≤ n = longest.longest m here in
      let tails : drop (n - m) (drop m text) ≡ drop n text = drops (n - m) m n text (omega (arith, longer)) in
      (omega (arith, further.0, more, longer), closed_as (drop (n - m) (drop m text)) (drop n text) (end - m - (n - m)) (end - n) tails (omega (arith, longer)) further.1)

  escape_step_some : get_or text 0 0 ≡ 92 → IsStringStep text n
  escape_step_some first = record {
    some = omega (arith, (sorted REFUSED_IN_LITERALS text n longest.front).some);
    front = record { within = longest.front.within; is_such = inr longest.front.is_such };
    goes_on = λ end closed.
        elim (body_at text end closed) [
          | at_quote none quote ↦ absurd (omega (arith, first, quote))
          | at_unit m more unit left ↦
              elim unit [
                | a_byte one plain ↦ absurd (plain (subst (λ byte. Contains NOT_IN_STRINGS byte) (sym first) has_backslash))
                | an_escape backslash here ↦ past_escape m end here more left
              ]
        ];
  }

pub escape_step : (text : List ℕ) (result : Option ℕ) → get_or text 0 0 ≡ 92 → GivesLongestFront (IsEscape REFUSED_IN_LITERALS) text result → GivesStringStep text result
escape_step text None first gives = λ end closed.
    elim (body_at text end closed) [
      | at_quote none quote ↦ none
      | at_unit m more unit left ↦
          elim unit [
            | a_byte one plain ↦ absurd (plain (subst (λ byte. Contains NOT_IN_STRINGS byte) (sym first) has_backslash))
            | an_escape backslash here ↦ absurd (gives m here)
          ]
    ]
escape_step text (Some n) first gives = escape_step_some text n gives first

-- a byte that stands for itself is a step
pub plain_step : (text : List ℕ) → 0 < length text → (get_or text 0 0 ≡ 92 → ⊥) → ¬ Contains NOT_IN_STRINGS (get_or text 0 0) → IsStringStep text 1
plain_step text some other is_plain =
    let byte = get_or text 0 0 in
    let unit : IsStringUnit (byte ∷ []) = inl (byte, refl, is_plain) in
    record {
      some = omega arith;
      front = front_of IsStringUnit text (byte ∷ []) (drop 1 text) 1 (drop_more text 0 0 some) unit refl;
      goes_on = λ end closed.
          elim (body_at text end closed) [
            | at_quote none quote ↦ absurd (is_plain (subst (λ x. Contains NOT_IN_STRINGS x) (sym quote) has_quote))
            | at_unit m more unit left ↦
                elim unit [
                  | a_byte one plain ↦ (omega (arith, one, more), closed_as (drop m text) (drop 1 text) (end - m) (end - 1) (ap (λ j. drop j text) one) (omega (arith, one)) left)
                  | an_escape backslash here ↦ absurd (other backslash)
                ]
          ];
    }

-- no unit begins with any other byte
pub no_step : (text : List ℕ) (end : ℕ) → (get_or text 0 0 ≡ 92 → ⊥) → ¬ ¬ Contains NOT_IN_STRINGS (get_or text 0 0) → IsClosed text end → end ≡ 0
no_step text end other not_plain closed =
    elim (body_at text end closed) [
      | at_quote none quote ↦ none
      | at_unit m more unit left ↦ elim unit [ a_byte one plain ↦ absurd (not_plain plain) | an_escape backslash here ↦ absurd (other backslash) ]
    ]

-- so far the text is a body, and each closed body goes on from there
pub record Reads (text : List ℕ) (at : ℕ) : Type 0 where
  pub front : IsFrontOf IsStringBody text at
  pub goes_on : (end : ℕ) → IsClosed text end → (at ≤ end) × IsClosed (drop at text) (end - at)

pub reads_none : (text : List ℕ) → Reads text 0
reads_none text = record {
  front = front_of IsStringBody text [] text 0 refl (record { units = []; parts = refl; are_units = All-nil IsStringUnit }) refl;
  goes_on = λ end closed. (omega arith, closed_as text text end (end - 0) refl (omega arith) closed);
}

body_push : (body unit : List ℕ) → IsStringBody body → IsStringUnit unit → IsStringBody (body ++ unit)
body_push body unit is_body is_unit = record {
  units = is_body.units ++ unit ∷ [];
  parts = ap (λ xs. xs ++ unit) is_body.parts ∙ ap (λ xs. flat_map (λ u. u) is_body.units ++ xs) (sym (append-nil unit)) ∙ sym (flat_map-append (λ u. u) is_body.units (unit ∷ []));
  are_units = All-push IsStringUnit is_body.units unit is_body.are_units is_unit;
}

pub reads_more : (text : List ℕ) (at n : ℕ) → Reads text at → IsStringStep (drop at text) n → Reads text (at + n)
reads_more text at n reads step =
    let tail = drop at text in
    let whole : text ≡ (take at text ++ take n tail) ++ drop n tail =
    sym (take-append-drop at text) ∙ ap (λ xs. take at text ++ xs) (sym (take-append-drop n tail)) ∙ sym (append_assoc (take at text) (take n tail) (drop n tail)) in
    let body : IsStringBody (take at text ++ take n tail) = body_push (take at text) (take n tail) reads.front.is_such step.front.is_such in
    let size : length (take at text ++ take n tail) ≡ at + n =
    length-append (take at text) (take n tail) ∙ omega (arith, length-take-le at text reads.front.within, length-take-le n tail step.front.within) in
    record {
      front = front_of IsStringBody text (take at text ++ take n tail) (drop n tail) (at + n) whole body size;
      goes_on = λ end closed.
          let before = reads.goes_on end closed in
          let after = step.goes_on (end - at) before.1 in
          (omega (arith, before.0, after.0), closed_as (drop n tail) (drop (at + n) text) (end - at - n) (end - (at + n)) (drops n at (at + n) text refl) (omega arith) after.1);
    }

pub reads_all : (text : List ℕ) (at : ℕ) → Reads text at → GivesStringStep (drop at text) None → IsOnlyStringBody text at
reads_all text at reads none = record {
  front = reads.front;
  only = λ end closed. let on = reads.goes_on end closed in omega (arith, on.0, none (end - at) on.1);
}
