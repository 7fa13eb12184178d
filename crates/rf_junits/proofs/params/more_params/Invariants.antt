use Rattle.std.proofs.Common.{◌≡◌, drop}
use Rattle.rf_jtree.specs.DeclShown.{more_params_shown}
use Rattle.rf_jview.specs.Accounts.{back_of, noted}
use Rattle.rf_jview.specs.DeclMarks.{more_params_marks}
use Rattle.rf_junits.proofs.params.more_params.Given as goal

abbrev pub invariant-loop-item : goal.invariant-loop-item
invariant-loop-item l = noted l.account (more_params_marks (back_of l.account) (more_params_shown (drop l.item-index l.rest)))
    ≡ noted l.fn.account (more_params_marks (back_of l.fn.account) (more_params_shown l.rest))
