use Rattle.std.proofs.Common.{◌≡◌, ◌++◌, drop}
use Rattle.rf_jmodel.specs.Numbering.{entries_from}
use Rattle.rf_jmodel.proofs.numbering.entries.Given as goal

abbrev pub invariant-loop-tok : goal.invariant-loop-tok
invariant-loop-tok l = l.from ++ entries_from l.unit l.at (drop l._tok-index l.toks) ≡ entries_from l.unit 0 l.toks
