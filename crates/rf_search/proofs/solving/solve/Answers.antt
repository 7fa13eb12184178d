use Rattle.std.proofs.Common.{ℕ, length, sym, subst}
use Rattle.rf_form.specs.Alive.{among}
use Rattle.rf_form.specs.Families.{Family, Filled}
use Rattle.rf_search.proofs.solving.solve.Goals as goal

pub search-requires-clause-filled : goal.search-requires-clause-filled
search-requires-clause-filled g c = subst (λ (δ : Family). Filled (length (g.C.Constraints.system c.args.all.now).vals) δ) (sym c.in_ok-trail.ensures.family) c.requires.filled
