-- The bytes of separators and operators, and the longest of them at the front of a text.
use Rattle.std.proofs.Common.{◌≡◌, ℕ, zero, suc, ◌+◌, ◌-◌, ◌<◌, ◌≤◌, Bool, true, false, ◌&&◌, List, [], ◌∷◌, Option, Some, None, length, take, drop, slice_get, nat_lt, refl, sym, ap, ◌∙◌, subst, arith, take_all, get_or, length-take, length-take-le}
use Rattle.std.specs.Char.{is_ascii_punctuation}
use Rattle.std.specs.List.{list_all, prefix_len, take_while}
use Rattle.std.proofs.lemmas.Bool.{false≢true, and_parts}
use Rattle.std.proofs.lemmas.Bool.Decides.{nat_tests}
use Rattle.std.proofs.lemmas.List.{take-append-drop}
use Rattle.std.proofs.lemmas.List.Sums.{take_while-cons}
use Rattle.rf_jtree.specs.declared.operators.Op.{Op}
use Rattle.rf_jtree.specs.declared.tokens.TokKind.TheVariants as kind
use Rattle.rf_jtree.specs.Operators.{OPERATORS, operator_of}
use Rattle.rf_jtree.specs.Tokens.{Token, begins_comment}
use Rattle.rf_jtree.proofs.OperatorLemmas.{slice_get-operator}
use Rattle.rf_jlex.specs.declared.operators.FrontOperator.{FrontOperator}
use Rattle.rf_jlex.specs.Fronts.{IsFront, GivesOperator}
use Rattle.rf_jlex.specs.OperatorFronts.{may_go_on, IsMost, GivesWithin}

-- at most four bytes, the first of them punctuation, and the others such as an operator may go on with
unfoldable has_shape : List ℕ → Bool
has_shape [] = false
has_shape (first ∷ more) = is_ascii_punctuation first && (nat_lt (length more) 4 && list_all may_go_on more)

-- so is each of the list
table : list_all has_shape OPERATORS ≡ true
unfolding OPERATORS has_shape
table = refl

all_at : (test : List ℕ → Bool) (words : List (List ℕ)) (n : ℕ) (word : List ℕ) → list_all test words ≡ true → slice_get words n ≡ Some word → test word ≡ true
all_at test [] n word all at = cc
all_at test (first ∷ words) zero word all at = let same : first ≡ word = cc in ap test (sym same) ∙ (and_parts _ _ all).0
all_at test (first ∷ words) (suc n) word all at = all_at test words n word (and_parts _ _ all).1 cc

shape_of : (word : List ℕ) (op : Op) → operator_of word ≡ Some op → has_shape word ≡ true
shape_of word op is = all_at has_shape OPERATORS op.0 word table (slice_get-operator op.0 word is)

pub operator_not_empty : (op : Op) → operator_of [] ≡ Some op → ⊥
unfolding has_shape
operator_not_empty op is = false≢true (shape_of [] op is)

-- as many bytes as pass are among those that pass from the front on
going_on : (test : ℕ → Bool) (most n : ℕ) (bytes : List ℕ) → n ≤ length bytes → n ≤ most → list_all test (take n bytes) ≡ true → n ≤ length (take_while test (take most bytes))
going_on test most zero bytes within few passes = omega arith
going_on test zero (suc n) bytes within few passes = absurd (omega arith)
going_on test (suc most) (suc n) [] within few passes = absurd (omega arith)
going_on test (suc most) (suc n) (byte ∷ bytes) within few passes =
    let parts = and_parts (test byte) (list_all test (take n bytes)) passes in
    let rest = going_on test most n bytes (omega arith) (omega arith) parts.1 in
    rw (take_while-cons test byte (take most bytes), parts.0) (omega (arith, rest))

taken_length : (test : ℕ → Bool) (most : ℕ) (bytes : List ℕ) → length (take_while test (take most bytes)) ≤ length bytes
taken_length test most bytes =
    omega (arith, length-take (prefix_len test (take most bytes)) (take most bytes), length-take most bytes)

enough_here : (first : ℕ) (rest : List ℕ) (n : ℕ) (op : Op) → n ≤ length (first ∷ rest) → operator_of (take n (first ∷ rest)) ≡ Some op → n ≤ 1 + length (take_while may_go_on (take 3 rest))
unfolding has_shape
enough_here first rest zero op within is = omega arith
enough_here first rest (suc n) op within is =
    let more = nat_lt (length (take n rest)) 4 && list_all may_go_on (take n rest) in
    let shape = and_parts (nat_lt (length (take n rest)) 4) (list_all may_go_on (take n rest)) (and_parts (is_ascii_punctuation first) more (shape_of (first ∷ take n rest) op is)).1 in
    let few : nat_lt (length (take n rest)) 4 ≡ true = shape.0 in
    let short : length (take n rest) < 4 = grind (arith, nat_tests) in
    let size = length-take-le n rest (omega arith) in
    let most = going_on may_go_on 3 n rest (omega arith) (omega arith) shape.1 in
    omega (arith, most)

none_here : (first : ℕ) (rest : List ℕ) (n : ℕ) (op : Op) → is_ascii_punctuation first ≡ false → operator_of (take n (first ∷ rest)) ≡ Some op → n ≤ 0
unfolding has_shape
none_here first rest zero op fails is = omega arith
none_here first rest (suc n) op fails is =
    absurd (false≢true (sym fails ∙ (and_parts _ _ (shape_of (first ∷ take n rest) op is)).0))

-- so an operator at the front has no more bytes than the first and those behind it that may go on
pub most_here : (text : List ℕ) → 0 < length text → IsMost text (1 + length (take_while may_go_on (take 3 (take (length text - 1) (drop 1 text)))))
most_here [] some = absurd (omega arith)
most_here (first ∷ bytes) some =
    let whole : take (length (first ∷ bytes) - 1) bytes ≡ bytes = take_all (length (first ∷ bytes) - 1) bytes (omega arith) in
    let here : IsMost (first ∷ bytes) (1 + length (take_while may_go_on (take 3 bytes))) = record {
      within = omega (arith, taken_length may_go_on 3 bytes);
      enough = enough_here first bytes;
    } in
    subst (λ rest. IsMost (first ∷ bytes) (1 + length (take_while may_go_on (take 3 rest)))) (sym whole) here

-- and there is none where the text begins with no punctuation
pub none_without_punctuation : (text : List ℕ) → 0 < length text → is_ascii_punctuation (get_or text 0 0) ≡ false → IsMost text 0
none_without_punctuation [] some fails = absurd (omega arith)
none_without_punctuation (first ∷ bytes) some fails = record {
  within = omega arith;
  enough = λ n op within is. none_here first bytes n op fails is;
}

-- an operator stands at the front, since no comment begins there
is_front : (text : List ℕ) (n : ℕ) (op : Op) → begins_comment text ≡ false → n ≤ length text → operator_of (take n text) ≡ Some op → IsFront (Token (kind.Op op)) text n
is_front text n op plain within is =
    let whole = take-append-drop n text in record {
      within = within;
      matches = record { parts = sym whole; is_piece = is; may_stand = ap begins_comment whole ∙ plain };
    }

-- the longest within the most bytes is the longest
pub gives_operator : (text : List ℕ) (most : ℕ) (found : Option FrontOperator) → begins_comment text ≡ false → IsMost text most → GivesWithin text most found → GivesOperator text found
gives_operator text most None plain bound none = λ op n front. none n op (bound.enough n op front.within front.matches.is_piece) front.matches.is_piece
gives_operator text most (Some found) plain bound gives = (
  is_front text found.length found.op plain (omega (arith, gives.0, bound.within)) gives.1,
  λ op n front. gives.2 n op (bound.enough n op front.within front.matches.is_piece) front.matches.is_piece,
)

-- where no operator has some bytes, there is none
pub none_is_left : (text : List ℕ) (most : ℕ) → ((n : ℕ) (op : Op) → n ≤ most → operator_of (take n text) ≡ Some op → n ≤ 0) → GivesWithin text most None
none_is_left text most longer zero op within is = operator_not_empty op is
none_is_left text most longer (suc n) op within is = absurd (omega (arith, longer (suc n) op within is))
