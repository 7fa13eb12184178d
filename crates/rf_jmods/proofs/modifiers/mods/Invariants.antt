use Rattle.std.proofs.Common.{◌-◌, length}
use Rattle.rf_jtree.specs.NameShown.{mods_shown}
use Rattle.rf_jexpr.proofs.TurnLemmas.{IsAtTurn}
use Rattle.rf_jmods.specs.ModReads.{modifier}
use Rattle.rf_jmods.proofs.modifiers.mods.Given as goal

abbrev pub invariant-loop-list : goal.invariant-loop-list
invariant-loop-list l = IsAtTurn modifier l.t l.at (mods_shown l.list) l.end

abbrev pub decreases-loop-list : goal.decreases-loop-list
decreases-loop-list l = length l.t - l.end
