use Rattle.std.proofs.Common.{refl}
use Rattle.rf_jcheck.proofs.variable_checks.vars_fit.Goals as goal

pub returns-then-var_fits : goal.returns-then-var_fits
returns-then-var_fits c =
    let first = rw c.deref.ensures at c.if-var_fits.ensures in
    let rest = rw c.as_slice.ensures at c.more_vars_fit.ensures in
    (λ ok. (first.0 refl, rest.0 ok), λ fits. rest.1 fits.1)
