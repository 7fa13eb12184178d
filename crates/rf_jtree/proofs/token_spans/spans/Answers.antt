use Rattle.std.proofs.Common.{◌∙◌, ap, slice_get, length, ◌≤◌, arith}
use Rattle.rf_jtree.proofs.SpanLemmas.{spans_from-span_of, all_made}
use Rattle.rf_jtree.proofs.token_spans.spans.Goals as goal

pub returns : goal.returns
returns c =
    let toks = c.args.toks.now.list in
    let all : length toks ≤ c.loop-tok.tok-index = omega (arith, ap length c.as_slice-tok-items.ensures) in
    let made = all_made c.loop-tok.spans c.args.file c.loop-tok.end toks c.loop-tok.tok-index all c.loop-tok.invariant.made in
    λ n. ap (λ spans. slice_get spans n) made ∙ spans_from-span_of c.args.file toks n
