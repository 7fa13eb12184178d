use Rattle.std.proofs.Common.{ℕ, subst}
use Rattle.rf_form.specs.Alive.{among}
use Rattle.rf_form.specs.Families.{Filled}
use Rattle.rf_search_rows.proofs.found.found.Goals as goal

pub solve-requires-clause-filled : goal.solve-requires-clause-filled
solve-requires-clause-filled c = subst (λ (n : ℕ). Filled n (among c.args.doms.now.alive)) c.len.ensures c.if-not-are_filled.ensures
