use Rattle.std.proofs.Common.{◌≡◌, ◌+◌, drop}
use Rattle.rf_bodies.specs.Lowered.{number_in}
use Rattle.rf_bodies.proofs.words.number_in.Given as goal

abbrev pub invariant-loop-n : goal.invariant-loop-n
invariant-loop-n l = l.n + number_in (drop l.n l.names) l.name ≡ number_in l.names l.name
