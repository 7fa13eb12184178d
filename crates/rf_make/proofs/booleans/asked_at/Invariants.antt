use Rattle.std.proofs.Common.{◌≡◌, take}
use Rattle.rf_join.specs.Sources.{whole}
use Rattle.rf_make.proofs.booleans.asked_at.Given as goal

abbrev pub invariant-loop-place : goal.invariant-loop-place
invariant-loop-place l = l.partial ≡ whole l.taken (take l.place-index l.places)
