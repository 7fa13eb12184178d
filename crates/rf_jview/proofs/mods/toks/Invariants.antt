use Rattle.std.proofs.Common.{◌≡◌, drop}
use Rattle.rf_jview.specs.MarkWords.{plains}
use Rattle.rf_jview.specs.Accounts.{noted}
use Rattle.rf_jview.proofs.mods.toks.Given as goal

abbrev pub invariant-loop-tok : goal.invariant-loop-tok
invariant-loop-tok l = noted l.account (plains (drop l._tok-index l.fn.toks)) ≡ noted l.fn.account (plains l.fn.toks)
