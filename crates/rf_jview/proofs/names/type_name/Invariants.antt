use Rattle.std.proofs.Common.{◌≡◌, drop}
use Rattle.rf_jview.specs.NameMarks.{type_rest_marks}
use Rattle.rf_jview.specs.Accounts.{noted}
use Rattle.rf_jview.proofs.names.type_name.Given as goal

abbrev pub invariant-loop-item : goal.invariant-loop-item
invariant-loop-item l = noted l.account (type_rest_marks (drop l._item-index l.fn.name.ids.rest)) ≡ noted l.fn.account (type_rest_marks l.fn.name.ids.rest)
