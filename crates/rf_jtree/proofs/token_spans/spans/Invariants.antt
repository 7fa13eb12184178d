use Rattle.std.proofs.Common.{length, drop, ◌+◌, ◌++◌, ◌≡◌}
use Rattle.std.specs.List.{flat_map}
use Rattle.rf_jtree.specs.Tokens.{tok_bytes}
use Rattle.rf_jtree.proofs.SpanLemmas.{spans_from}
use Rattle.rf_jtree.proofs.token_spans.spans.Given as goal

abbrev pub invariant-loop-tok : goal.invariant-loop-tok
invariant-loop-tok l = record {
  made : l.spans ++ spans_from l.file l.end (drop l.tok-index l.toks.list) ≡ spans_from l.file 0 l.toks.list;
  left : l.end + length (flat_map tok_bytes (drop l.tok-index l.toks.list)) ≡ length (flat_map tok_bytes l.toks.list);
}
