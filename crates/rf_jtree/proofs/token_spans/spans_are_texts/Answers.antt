use Rattle.rf_jtree.proofs.SpanLemmas.{span_is_text}
use Rattle.rf_jtree.proofs.token_spans.spans_are_texts.Goals as goal

pub returns : goal.returns
returns c = span_is_text c.args.toks.now
