use Rattle.std.proofs.Common.{◌≡◌, drop}
use Rattle.std.specs.List.{flat_map}
use Rattle.rf_jview.specs.MarkWords.{plains}
use Rattle.rf_jtree.specs.NameTrees.{pair_yield}
use Rattle.rf_jview.specs.Accounts.{noted}
use Rattle.rf_jview.proofs.names.dims.Given as goal

abbrev pub invariant-loop-pair : goal.invariant-loop-pair
invariant-loop-pair l = noted l.account (plains (flat_map pair_yield (drop l._pair-index l.fn.dims.list))) ≡ noted l.fn.account (plains (flat_map pair_yield l.fn.dims.list))
