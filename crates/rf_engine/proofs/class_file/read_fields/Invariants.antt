use Rattle.std.proofs.Common.{map, length}
use Rattle.rf_engine.specs.Seen.{field_seen}
use Rattle.rf_engine.proofs.FieldLemmas.{FieldsSoFar}
use Rattle.rf_engine.proofs.class_file.read_fields.Given as goal

abbrev pub invariant-loop-cut : goal.invariant-loop-cut
invariant-loop-cut l = FieldsSoFar l.text (map field_seen l.fields) l.rest

abbrev pub decreases-loop-cut : goal.decreases-loop-cut
decreases-loop-cut l = length l.rest
