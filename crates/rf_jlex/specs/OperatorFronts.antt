-- How many bytes a separator or an operator at the front of a text has.
use Rattle.std.specs.Prelude.{◌≡◌, ℕ, ◌≤◌, Bool, ◌||◌, ◌==◌, List, length, take, Option, Some, None}
use Rattle.rf_jtree.specs.declared.operators.Op.{Op}
use Rattle.rf_jtree.specs.Operators.{operator_of}
use Rattle.rf_jlex.specs.declared.operators.FrontOperator.{FrontOperator}

-- some operator has the byte behind its first
abbrev pub may_go_on : ℕ → Bool
may_go_on byte = (byte == 61) || ((byte == 62) || ((byte == 60) || ((byte == 38) || ((byte == 124) || ((byte == 43) || (byte == 45))))))

-- no operator at the front has more bytes
pub record IsMost (text : List ℕ) (most : ℕ) : Type 0 where
  pub within : most ≤ length text
  pub enough : (n : ℕ) (op : Op) → n ≤ length text → operator_of (take n text) ≡ Some op → n ≤ most

-- the longest operator of at most so many bytes at the front, and `None` exactly where there is none
abbrev pub GivesWithin : List ℕ → ℕ → Option FrontOperator → Type 0
GivesWithin text most None = (n : ℕ) (op : Op) → n ≤ most → operator_of (take n text) ≡ Some op → ⊥
GivesWithin text most (Some front) =
    (front.length ≤ most) × (operator_of (take front.length text) ≡ Some front.op) ×
    ((n : ℕ) (op : Op) → n ≤ most → operator_of (take n text) ≡ Some op → n ≤ front.length)
