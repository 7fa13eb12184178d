use Rattle.std.proofs.Common.{refl}
use Rattle.rf_jcheck.proofs.decl_checks.each_begins.Goals as goal

pub returns-then-begins : goal.returns-then-begins
returns-then-begins c =
    let first = rw c.deref.ensures at c.if-begins.ensures in
    let rest = rw c.as_slice.ensures at c.more_vars_begin.ensures in
    (λ ok. (first.0 refl, rest.0 ok), λ fits. rest.1 fits.1)
