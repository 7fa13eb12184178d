use Rattle.std.proofs.Common.{◌≡◌, drop}
use Rattle.rf_jview.specs.NameMarks.{name_rest_marks}
use Rattle.rf_jview.specs.Accounts.{noted}
use Rattle.rf_jview.proofs.names.name.Given as goal

abbrev pub invariant-loop-item : goal.invariant-loop-item
invariant-loop-item l = noted l.account (name_rest_marks l.back (drop l._item-index l.fn.name.ids.rest)) ≡ noted l.fn.account (name_rest_marks 0 l.fn.name.ids.rest)
