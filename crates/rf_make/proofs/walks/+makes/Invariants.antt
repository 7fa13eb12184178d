use Rattle.std.proofs.Common.{◌≡◌, take}
use Rattle.rf_make.proofs.Walking.{Front}
use Rattle.rf_make.proofs.walks.+makes.Given as goal

abbrev pub invariant-gather-loop-numbers : goal.invariant-gather-loop-numbers
invariant-gather-loop-numbers l = (l.gathered.all ≡ l.all) × Front l.maker l.many.body l.all l.found (take l.numbers-index l.found) l.gathered
