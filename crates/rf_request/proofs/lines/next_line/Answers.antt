use Rattle.std.proofs.Common.{◌∙◌, ◌+◌, ap, sym, List, ℕ, ◌∷◌, arith}
use Rattle.rf_request.specs.Requests.{is_read, lines_from}
use Rattle.rf_request.proofs.CutLemmas.{empty_is}
use Rattle.rf_request.proofs.LineLemmas.{line_read, line_skipped, no_lines}
use Rattle.rf_request.proofs.lines.next_line.Goals as goal

pub returns-then-is_read-clause-lines : goal.returns-then-is_read-clause-lines
returns-then-is_read-clause-lines c =
    sym c.loop-rest.invariant.same
    ∙ line_read c.loop-rest.at c.loop-rest.rest.now c.first_line-cut.result.line.now c.first_line-cut.result.rest.now c.first_line-cut.ensures.lines (ap is_read (sym (c.as_slice.ensures ∙ c.in_ok-words.ensures)) ∙ sym c.is_read.ensures ∙ c.if-is_read.true)
    ∙ ap (λ (words : List (List ℕ)). (c.loop-rest.at, words) ∷ lines_from (c.loop-rest.at + 1) c.first_line-cut.result.rest.now) (sym c.in_ok-words.ensures)

pub loop-rest-preserved : goal.loop-rest-preserved
loop-rest-preserved c = record {
  same = sym (line_skipped c.loop-rest.at c.loop-rest.rest.now c.first_line-cut.result.line.now c.first_line-cut.result.rest.now c.first_line-cut.ensures.lines (ap is_read (sym (c.as_slice.ensures ∙ c.in_ok-words.ensures)) ∙ sym c.is_read.ensures ∙ c.if-is_read.false)) ∙ c.loop-rest.invariant.same;
  shorter = omega arith;
  within = omega arith;
}

pub returns-clause-lines : goal.returns-clause-lines
returns-clause-lines c =
    sym c.loop-rest.invariant.same ∙ no_lines c.loop-rest.at c.loop-rest.rest.now (empty_is c.loop-rest.rest.now c.is_empty.result c.is_empty.ensures c.loop-rest-test.false)
