use Rattle.std.proofs.Common.{refl}
use Rattle.rf_jcheck.proofs.member_parts.many_params_fit.Goals as goal

pub returns-then-param_fits : goal.returns-then-param_fits
returns-then-param_fits c =
    let first = rw c.deref.ensures at c.if-param_fits.ensures in
    let rest = rw c.as_slice.ensures at c.more_params_fit.ensures in
    (λ ok. (first.0 refl, rest.0 ok), λ fits. rest.1 fits.1)
