use Rattle.std.proofs.Common.{ℕ, ap, sym, ◌∙◌, arith}
use Rattle.rf_form.specs.Fitting.{are_below}
use Rattle.rf_form.specs.Truths.{row}
use Rattle.rf_form.proofs.Fits.{fit_from, not_fit}
use Rattle.rf_form.proofs.domains.Doms.fits.Goals as goal

pub returns-then-not-is_row_below : goal.returns-then-not-is_row_below
returns-then-not-is_row_below c = not_fit c.args.vals.now c.args.self.now.alive c.loop-x.x
    (ap (λ (n : ℕ). are_below n (row c.args.self.now.alive c.loop-x.x)) (sym c.width_of.ensures)
    ∙ (sym c.is_row_below.ensures ∙ c.if-not-is_row_below.true))

pub returns : goal.returns
returns c = fit_from c.args.vals.now c.args.self.now.alive c.loop-x.x c.if-not-is_short.ensures c.loop-x.invariant (omega arith)
