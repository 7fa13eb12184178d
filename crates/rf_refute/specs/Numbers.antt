-- The numbers of constraints.
use Rattle.std.specs.Prelude.{ℕ, ◌<◌, length}
use Rattle.rf_cons.specs.Systems.{System}

-- the number rises with the place
abbrev pub Rises : System → Type 0
Rises s = (a b : ℕ) → a < b → b < length s.formulas → s.numbers a < s.numbers b
