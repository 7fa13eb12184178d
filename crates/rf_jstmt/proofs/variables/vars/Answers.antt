-- The first variable, and those behind it.
use Rattle.std.proofs.Common.{refl, arith}
use Rattle.rf_jexpr.specs.Reads.{and_then, separated}
use Rattle.rf_jstmt.proofs.variables.vars.Goals as goal

pub returns : goal.returns
unfolding separated and_then
returns c =
    let first = c.in_ok-first.ensures in
    let rest = c.in_ok-rest.ensures in
    (rw (first.0, rest.0) refl, omega (arith, first.1, rest.1), rest.2, rw (c.deeper.ensures, first.3, rest.3) refl, omega (arith, c.deeper.ensures, first.4, rest.4))
