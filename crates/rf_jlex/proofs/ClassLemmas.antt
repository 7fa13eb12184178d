-- The class of the first byte of each sort of piece.
use Rattle.std.proofs.Common.{◌≡◌, ℕ, zero, suc, ◌<◌, ◌≤◌, Bool, true, false, ◌||◌, ◌&&◌, nat_le, ◌==◌, List, [], ◌∷◌, ◌++◌, ◌⊎◌, inl, inr, ⊎_elim, Some, Contains, get_or, slice_get, length, sym, refl, ap, ◌∙◌, subst, arith, encode_utf8_all, length-append}
use Rattle.std.specs.Char.{is_ascii_alphabetic}
use Rattle.std.specs.List.{list_all}
use Rattle.std.proofs.lemmas.Bool.{agree_below, agree_below_at, le-leb, eqb-true, leb-true, cases_lt, and_parts}
use Rattle.std.proofs.lemmas.Str.{char_from_byte, length-le-encodes}
use Rattle.std.proofs.lemmas.List.Elements.{All-contains, All-from_recursion}
use Rattle.unicode_ident.proofs.IdentLemmas.{is_xid_start-ascii}
use Rattle.rf_jtree.specs.Digits.{is_digit, is_nonzero_digit, BeginsWith, IsDigits}
use Rattle.rf_jtree.specs.Numbers.{IsInteger, zero_alone, decimal, octal, hexadecimal, binary, IsLongInteger, IsFloating, point, fraction_alone, exponent_alone, suffix_alone}
use Rattle.rf_jtree.specs.Operators.{OPERATORS, operator_of}
use Rattle.rf_jtree.specs.Quoted.{IsCharacter, IsString}
use Rattle.rf_jtree.specs.declared.operators.Op.{Op}
use Rattle.rf_jtree.proofs.OperatorLemmas.{slice_get-operator}
use Rattle.rf_jtree.specs.Identifiers.{IsWord, BeginsWithLetter, is_letter}
use Rattle.rf_jtree.specs.Trivia.{WHITE_SPACE, IsWhiteSpace, IsLineComment, IsBlockComment}
use Rattle.rf_jlex.specs.Classes.{class_of, class_at}
use Rattle.rf_jlex.specs.declared.classes.Class.{Class}
use Rattle.rf_jlex.specs.declared.classes.Class.TheVariants.{End, WhiteSpace, Slash, Digit, Point, Quote, DoubleQuote, Letter, Other}

-- the classes, numbered, so that a test can compare them
abbrev code : Class → ℕ
code End = 0
code WhiteSpace = 1
code Slash = 2
code Digit = 3
code Point = 4
code Quote = 5
code DoubleQuote = 6
code Letter = 7
code Other = 8

abbrev coded : ℕ → Class
coded n = get_or (End ∷ WhiteSpace ∷ Slash ∷ Digit ∷ Point ∷ Quote ∷ DoubleQuote ∷ Letter ∷ Other ∷ []) n End

coded-code : (class : Class) → coded (code class) ≡ class
coded-code End = refl
coded-code WhiteSpace = refl
coded-code Slash = refl
coded-code Digit = refl
coded-code Point = refl
coded-code Quote = refl
coded-code DoubleQuote = refl
coded-code Letter = refl
coded-code Other = refl

abbrev pub is_class : Class → Class → Bool
is_class one other = code one == code other

pub is_class-true : (one other : Class) → is_class one other ≡ true → one ≡ other
is_class-true one other same = sym (coded-code one) ∙ ap coded (eqb-true (code one) (code other) same) ∙ coded-code other

-- a test that holds of the bytes of one class alone, below 128
by_table : (test : ℕ → Bool) (class : Class) → agree_below test (λ byte. is_class (class_of byte) class) 128 ≡ true
    → (byte : ℕ) → byte < 128 → test byte ≡ true → class_of byte ≡ class
by_table test class table byte low passes =
    is_class-true (class_of byte) class (sym (agree_below_at test (λ b. is_class (class_of b) class) 128 byte table low) ∙ passes)

class_of-high : (byte : ℕ) → 128 ≤ byte → class_of byte ≡ Letter
class_of-high byte high = let e : nat_le 128 byte ≡ true = le-leb 128 byte high in rw e refl

class_of-letter : (byte : ℕ) → byte < 128 → is_letter byte ≡ true → class_of byte ≡ Letter
class_of-letter byte low passes =
    by_table (λ b. is_ascii_alphabetic b || ((b == 95) || (b == 36))) Letter refl byte low
    (ap (λ x. x || ((byte == 95) || (byte == 36))) (sym (is_xid_start-ascii byte low)) ∙ passes)

class_of-digit : (byte : ℕ) → is_digit byte ≡ true → class_of byte ≡ Digit
class_of-digit byte passes = by_table is_digit Digit refl byte (le-lt (leb-true byte 57 (and_parts _ _ passes).1)) passes
  where
    le-lt : byte ≤ 57 → byte < 128
    le-lt low = omega arith

class_of-white : (byte : ℕ) → Contains WHITE_SPACE byte → class_of byte ≡ WhiteSpace
class_of-white byte among = All-contains (λ b. class_of b ≡ WhiteSpace) WHITE_SPACE byte (All-from_recursion (λ b. class_of b ≡ WhiteSpace) WHITE_SPACE (refl, (refl, (refl, (refl, (refl, tt)))))) among

-- the first byte of a word
word_from_letter : (text characters : List ℕ) → text ≡ encode_utf8_all characters → BeginsWithLetter characters → class_at text ≡ Letter
word_from_letter [] [] parts begins = absurd begins
word_from_letter [] (c ∷ cs) parts begins = absurd (omega (arith, length-le-encodes (c ∷ cs), ap length parts))
word_from_letter (byte ∷ bytes) [] parts begins = absurd begins
word_from_letter (byte ∷ bytes) (c ∷ cs) parts begins = ⊎_elim
    (λ low. let same : c ≡ byte = char_from_byte (byte ∷ bytes) (encode_utf8_all cs) c parts low (omega arith) in
    class_of-letter byte low (subst (λ b. is_letter b ≡ true) same begins))
    (λ high. class_of-high byte high)
    (cases_lt byte 128)

pub class_at-word : (text : List ℕ) → IsWord text → class_at text ≡ Letter
class_at-word text word = word_from_letter text word.characters word.parts word.begins

pub class_at-white : (text : List ℕ) → IsWhiteSpace text → class_at text ≡ WhiteSpace
class_at-white text white = ap class_at white.parts ∙ class_of-white white.byte white.is_white

pub class_at-digit : (text : List ℕ) → BeginsWith is_digit text → class_at text ≡ Digit
class_at-digit [] begins = absurd begins
class_at-digit (byte ∷ bytes) begins = class_of-digit byte begins

pub class_at-line_comment : (text : List ℕ) → IsLineComment text → class_at text ≡ Slash
class_at-line_comment text comment = ap class_at comment.parts

pub class_at-block_comment : (text : List ℕ) → IsBlockComment text → class_at text ≡ Slash
class_at-block_comment text comment = ap class_at comment.parts

pub class_at-character : (text : List ℕ) → IsCharacter text → class_at text ≡ Quote
class_at-character text literal = ap class_at literal.parts

pub class_at-string : (text : List ℕ) → IsString text → class_at text ≡ DoubleQuote
class_at-string text literal = ap class_at literal.parts

-- a number begins with a digit, or with `.` and a digit
abbrev pub BeginsNumber : List ℕ → Type 0
BeginsNumber text = BeginsWith is_digit text ⊎ ((class_at text ≡ Point) × (2 ≤ length text))

BeginsWith-append : (p : ℕ → Bool) (text rest : List ℕ) → BeginsWith p text → BeginsWith p (text ++ rest)
BeginsWith-append p [] rest begins = absurd begins
BeginsWith-append p (byte ∷ bytes) rest begins = begins

BeginsWith-some : (p : ℕ → Bool) (text : List ℕ) → BeginsWith p text → 0 < length text
BeginsWith-some p [] begins = absurd begins
BeginsWith-some p (byte ∷ bytes) begins = omega arith

digit_from_nonzero : (text : List ℕ) → BeginsWith is_nonzero_digit text → BeginsWith is_digit text
digit_from_nonzero [] begins = absurd begins
digit_from_nonzero (byte ∷ bytes) begins =
    let parts = and_parts _ _ begins in
    let low : 49 ≤ byte = leb-true 49 byte parts.0 in
    let same : nat_le 48 byte ≡ true = le-leb 48 byte (omega arith) in
    rw same parts.1

begins_at : (text same : List ℕ) → text ≡ same → BeginsWith is_digit same → BeginsWith is_digit text
begins_at text same parts begins = subst (λ t. BeginsWith is_digit t) (sym parts) begins

BeginsWith-integer : (text : List ℕ) → IsInteger text → BeginsWith is_digit text
BeginsWith-integer text (zero_alone parts) = begins_at text _ parts refl
BeginsWith-integer text (decimal begins digits) = digit_from_nonzero text begins
BeginsWith-integer text (octal digits parts all ends) = begins_at text _ parts refl
BeginsWith-integer text (hexadecimal x digits parts is_x is_digits) = begins_at text _ parts refl
BeginsWith-integer text (binary b digits parts is_b is_digits) = begins_at text _ parts refl

pub BeginsNumber-integer : (text : List ℕ) → IsInteger text → BeginsNumber text
BeginsNumber-integer text integer = inl (BeginsWith-integer text integer)

pub BeginsNumber-long : (text : List ℕ) → IsLongInteger text → BeginsNumber text
BeginsNumber-long text long =
    inl (begins_at text _ long.parts (BeginsWith-append is_digit long.integer _ (BeginsWith-integer long.integer long.is_integer)))

begins_whole : (text whole rest : List ℕ) → text ≡ whole ++ rest → IsDigits is_digit whole → BeginsNumber text
begins_whole text whole rest parts digits = inl (begins_at text _ parts (BeginsWith-append is_digit whole rest digits.begins))

pub BeginsNumber-floating : (suffix text : List ℕ) → IsFloating suffix text → BeginsNumber text
BeginsNumber-floating suffix text (point whole fraction exponent parts digits some more) = begins_whole text whole _ parts digits
BeginsNumber-floating suffix text (fraction_alone fraction exponent parts digits more) =
    inr (ap class_at parts, omega (arith, ap length parts, length-append fraction (exponent ++ suffix), BeginsWith-some is_digit fraction digits.begins))
BeginsNumber-floating suffix text (exponent_alone whole exponent parts digits more) = begins_whole text whole _ parts digits
BeginsNumber-floating suffix text (suffix_alone whole parts digits some) = begins_whole text whole _ parts digits

-- how an operator begins
abbrev pub BeginsOperator : List ℕ → Type 0
BeginsOperator text = (class_at text ≡ Other) ⊎ ((class_at text ≡ Slash) ⊎ ((class_at text ≡ Point) × (length text ≡ 1)))

begins_operator : List ℕ → Bool
begins_operator text = is_class (class_at text) Other || (is_class (class_at text) Slash || (is_class (class_at text) Point && (length text == 1)))

pub or_cases : (x y : Bool) → (x || y) ≡ true → (x ≡ true) ⊎ (y ≡ true)
or_cases true y either = inl refl
or_cases false y either = inr either

BeginsOperator-test : (text : List ℕ) → begins_operator text ≡ true → BeginsOperator text
unfolding begins_operator
BeginsOperator-test text passes = ⊎_elim
    (λ other. inl (is_class-true _ _ other))
    (λ rest. ⊎_elim
    (λ slash. inr (inl (is_class-true _ _ slash)))
    (λ point. inr (inr (is_class-true _ _ (and_parts _ _ point).0, eqb-true _ _ (and_parts _ _ point).1)))
    (or_cases _ _ rest))
    (or_cases _ _ passes)

in_table : {X : Type 0} (test : X → Bool) (table : List X) (n : ℕ) (x : X) → list_all test table ≡ true → slice_get table n ≡ Some x → test x ≡ true
in_table test [] n x all at = absurd cc
in_table test (first ∷ rest) zero x all at = let same : first ≡ x = cc in subst (λ y. test y ≡ true) same (and_parts _ _ all).0
in_table test (first ∷ rest) (suc n) x all at = in_table test rest n x (and_parts _ _ all).1 at

operators_begin : list_all begins_operator OPERATORS ≡ true
unfolding OPERATORS begins_operator
operators_begin = refl

pub BeginsOperator-operator : (text : List ℕ) (op : Op) → operator_of text ≡ Some op → BeginsOperator text
BeginsOperator-operator text op is = BeginsOperator-test text (in_table begins_operator OPERATORS op.0 text operators_begin (slice_get-operator op.0 text is))
