use Rattle.std.proofs.Common.{◌∙◌, sym, refl, arith}
use Rattle.std.proofs.lemmas.Bool.Decides.{Decides-eqb}
use Rattle.std.proofs.lemmas.Slice.Eq.{slice_eq-Decides}
use Rattle.rf_request.specs.Forms.{IsAllowed}
use Rattle.rf_request.proofs.forms.is_allowed.Goals as goal

pub returns-then-eq-3 : goal.returns-then-eq-3
unfolding IsAllowed
returns-then-eq-3 c = (
  λ yes. (2, omega arith, sym ((slice_eq-Decides Decides-eqb _ _ _ c.eq-3.ensures).0 c.if-eq-3.true ∙ c.as_slice-3.ensures)),
  λ is. refl,
)
