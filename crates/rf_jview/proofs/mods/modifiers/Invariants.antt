use Rattle.std.proofs.Common.{◌≡◌, drop}
use Rattle.rf_jview.specs.NameMarks.{mods_marks}
use Rattle.rf_jtree.specs.NameShown.{mods_shown}
use Rattle.rf_jview.specs.Accounts.{noted}
use Rattle.rf_jview.proofs.mods.modifiers.Given as goal

abbrev pub invariant-loop-one : goal.invariant-loop-one
invariant-loop-one l = noted l.account (mods_marks (mods_shown (drop l.one-index l.fn.mods))) ≡ noted l.fn.account (mods_marks (mods_shown l.fn.mods))
