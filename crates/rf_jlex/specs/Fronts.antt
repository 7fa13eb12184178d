-- Pieces at the front of a text: the longest of a sort, the only one, or none.
use Rattle.std.specs.Prelude.{◌≡◌, ℕ, ◌≤◌, List, length, take, drop, Option, Some, None}
use Rattle.rf_jtree.specs.declared.tokens.TokKind.{TokKind}
use Rattle.rf_jtree.specs.declared.tokens.TokKind.TheVariants as kind
use Rattle.rf_jtree.specs.Tokens.{Sort, Token, Matches}
use Rattle.rf_jtree.specs.declared.operators.Op.{Op}
use Rattle.rf_jtree.specs.Identifiers.{IsWord}
use Rattle.rf_jlex.specs.declared.numbers.Number.{Number}
use Rattle.rf_jlex.specs.declared.operators.FrontOperator.{FrontOperator}

-- the first n bytes are a piece of this sort, which may stand there
pub record IsFront (sort : Sort) (text : List ℕ) (n : ℕ) : Type 0 where
  pub within : n ≤ length text
  pub matches : Matches text sort (take n text) (drop n text)

-- no front is of the sort
abbrev pub HasNoFront : Sort → List ℕ → Type 0
HasNoFront sort text = (n : ℕ) → IsFront sort text n → ⊥

-- the longest front of the sort, and `None` exactly where there is none
abbrev pub GivesLongest : Sort → List ℕ → Option ℕ → Type 0
GivesLongest sort text None = HasNoFront sort text
GivesLongest sort text (Some n) = IsFront sort text n × ((other : ℕ) → IsFront sort text other → other ≤ n)

-- the only front of the sort, and `None` exactly where there is none
abbrev pub GivesOnly : Sort → List ℕ → Option ℕ → Type 0
GivesOnly sort text None = HasNoFront sort text
GivesOnly sort text (Some n) = IsFront sort text n × ((other : ℕ) → IsFront sort text other → other ≡ n)

-- the kinds of numbers
pub data IsNumberKind : TokKind → Type 0 where
  int : IsNumberKind kind.Int
  long : IsNumberKind kind.Long
  float : IsNumberKind kind.Float
  double : IsNumberKind kind.Double

-- the longest number at the front, of whatever kind, and `None` exactly where there is none. No other kind of number is
-- as long.
abbrev pub GivesNumber : List ℕ → Option Number → Type 0
GivesNumber text None = (other : TokKind) → IsNumberKind other → HasNoFront (Token other) text
GivesNumber text (Some number) =
    IsNumberKind number.kind × IsFront (Token number.kind) text number.length ×
    ((other : TokKind) (n : ℕ) → IsNumberKind other → IsFront (Token other) text n → n ≤ number.length) ×
    ((other : TokKind) → IsNumberKind other → IsFront (Token other) text number.length → other ≡ number.kind)

-- the longest word at the front, and `None` exactly where there is none
abbrev pub GivesWord : List ℕ → Option ℕ → Type 0
GivesWord text None = (n : ℕ) → n ≤ length text → IsWord (take n text) → ⊥
GivesWord text (Some n) = (n ≤ length text) × IsWord (take n text) × ((other : ℕ) → other ≤ length text → IsWord (take other text) → other ≤ n)

-- the longest separator or operator at the front, and `None` exactly where there is none
abbrev pub GivesOperator : List ℕ → Option FrontOperator → Type 0
GivesOperator text None = (other : Op) → HasNoFront (Token (kind.Op other)) text
GivesOperator text (Some front) =
    IsFront (Token (kind.Op front.op)) text front.length ×
    ((other : Op) (n : ℕ) → IsFront (Token (kind.Op other)) text n → n ≤ front.length)
