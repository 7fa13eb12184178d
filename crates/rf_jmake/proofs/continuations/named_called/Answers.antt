-- The last identifier of the name is the method, and those before it are what it is called on.
use Rattle.rf_jmake.proofs.CalledLemmas.{called_on-last, called_id-last}
use Rattle.rf_jmake.proofs.continuations.named_called.Goals as goal

pub returns-in_ok-on-in-Some : goal.returns-in_ok-on-in-Some
returns-in_ok-on-in-Some c =
    let rest = rw c.in-Some.is at c.pop.ensures in
    rw (called_on-last _ _ _ _ rest, called_id-last _ _ _ _ rest) (rw c.in_ok-on-in-Some.ensures at c.call_on.ensures)
