use Rattle.std.proofs.Common.{◌≡◌, drop}
use Rattle.rf_jmodel.specs.ProjectNames.{with_texts, identifier_texts}
use Rattle.rf_jmodel.proofs.numbering.put_identifiers.Given as goal

abbrev pub invariant-loop-tok : goal.invariant-loop-tok
invariant-loop-tok l = with_texts l.names (identifier_texts (drop l.tok-index l.toks)) ≡ with_texts l.fn.names (identifier_texts l.toks)
