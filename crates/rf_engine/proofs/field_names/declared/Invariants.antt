use Rattle.std.proofs.Common.{◌≡◌, ◌≢◌, take, AllPairs}
use Rattle.rf_engine.proofs.FieldNameLemmas.{names_seen}
use Rattle.rf_engine.proofs.field_names.declared.Given as goal

abbrev pub invariant-loop-field : goal.invariant-loop-field
invariant-loop-field l = record {
  names : l.names ≡ names_seen (take l.field-index l.field-items);
  distinct : AllPairs (λ a b. a ≢ b) l.names;
}
