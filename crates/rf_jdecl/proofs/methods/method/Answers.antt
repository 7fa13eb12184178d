-- What was read of the parts of a method is what the method shows.
use Rattle.std.proofs.Common.{refl, arith}
use Rattle.rf_jexpr.specs.Reads.{and_then}
use Rattle.rf_jdecl.specs.MemberReads.{method}
use Rattle.rf_jdecl.proofs.methods.method.Goals as goal

pub returns : goal.returns
unfolding method and_then
returns c =
    let id = c.in_ok-id.ensures.gives in
    let list = c.in_ok-list.ensures in
    let thrown = c.in_ok-thrown.ensures in
    let end = c.in_ok-end.ensures in
    (rw (id.0, list.0, thrown.0, end.0) refl, omega (arith, id.1, list.1, thrown.1, end.1), end.2, end.3, end.4)
