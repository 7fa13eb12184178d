use Rattle.std.proofs.Common.{◌≡◌, ◌++◌, take}
use Rattle.rf_pairs.specs.Places.{names_of}
use Rattle.rf_bodies.proofs.words.with_names.Given as goal

abbrev pub invariant-loop-name : goal.invariant-loop-name
invariant-loop-name l = l.all ≡ take l.name-index l.names

abbrev pub invariant-loop-var : goal.invariant-loop-var
invariant-loop-var l = l.all ≡ l.names ++ names_of (take l.var-index l.vars)
