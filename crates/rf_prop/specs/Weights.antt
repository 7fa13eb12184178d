-- How many places are alive.
use Rattle.std.specs.Prelude.{ℕ, length}
use Rattle.rf_form.specs.Families.{Family}
use Rattle.rf_form.specs.Sums.{weight}
use Rattle.rf_form.specs.Truths.{row}
use Rattle.rf_cons.specs.Systems.{System}

unfoldable pub alive_places : System → Family → ℕ
alive_places s δ = weight (λ x. length (row s.vals x)) (length s.vals) δ
