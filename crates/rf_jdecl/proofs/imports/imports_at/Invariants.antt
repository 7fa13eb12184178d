use Rattle.std.proofs.Common.{◌-◌, length, map}
use Rattle.rf_jtree.specs.DeclShown.{import_shown}
use Rattle.rf_jexpr.proofs.TurnLemmas.{IsAtTurn}
use Rattle.rf_jdecl.specs.UnitReads.{import_decl}
use Rattle.rf_jdecl.proofs.imports.imports_at.Given as goal

abbrev pub invariant-items : goal.invariant-items
invariant-items l = IsAtTurn import_decl l.t l.at (map import_shown l.list) l.end

abbrev pub decreases-items : goal.decreases-items
decreases-items l = length l.t - l.end
