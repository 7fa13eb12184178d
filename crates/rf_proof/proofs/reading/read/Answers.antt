use Rattle.std.proofs.Common.{ℕ, List, refl, sym, subst}
use Rattle.rf_proof.specs.Lines.{version}
use Rattle.rf_proof.specs.Readings.{Reads}
use Rattle.rf_proof.proofs.reading.read.Goals as goal

pub returns-in-None : goal.returns-in-None
returns-in-None c = version c.in-None.ensures refl

pub returns-in-Some : goal.returns-in-Some
returns-in-Some c = subst (λ (text : List ℕ). Reads text c.tree_behind.result) (sym c.in-Some.ensures) c.tree_behind.ensures
