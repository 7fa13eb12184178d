use Rattle.std.proofs.Common.{ℕ, length, sym, subst}
use Rattle.rf_form.specs.Alive.{among}
use Rattle.rf_form.specs.Families.{Family, Filled}
use Rattle.rf_solver_rows.proofs.closing.closed.Goals as goal

pub close-requires-clause-filled : goal.close-requires-clause-filled
close-requires-clause-filled c = subst (λ (δ : Family). Filled (length c.args.all.now.vals) δ) (sym c.in_ok-trail.ensures.family)
    (subst (λ (n : ℕ). Filled n (among c.args.doms.now.alive)) c.len.ensures c.if-not-are_filled.ensures)
