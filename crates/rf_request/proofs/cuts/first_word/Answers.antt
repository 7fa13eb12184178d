use Rattle.std.proofs.Common.{◌∙◌, ap, take, drop}
use Rattle.rf_request.proofs.CutLemmas.{first_word_none, first_word_some, empty_is, some_is}
use Rattle.rf_request.proofs.cuts.first_word.Goals as goal

pub returns-then-is_empty-clause-words : goal.returns-then-is_empty-clause-words
returns-then-is_empty-clause-words c =
    let word = c.split_at-2.result.0.now in
    first_word_none c.args.line.now c.split_at.result.1.now word (c.split_at.ensures.back ∙ ap (λ n. drop n c.args.line.now) c.blank_length.ensures.value) (c.split_at-2.ensures.front ∙ ap (λ n. take n c.split_at.result.1.now) c.word_length.ensures.value) (empty_is word c.is_empty.result c.is_empty.ensures c.if-is_empty.true)

pub returns-else-is_empty-clause-words : goal.returns-else-is_empty-clause-words
returns-else-is_empty-clause-words c =
    let word = c.split_at-2.result.0.now in
    first_word_some c.args.line.now c.split_at.result.1.now word c.split_at-2.result.1.now (c.split_at.ensures.back ∙ ap (λ n. drop n c.args.line.now) c.blank_length.ensures.value) (c.split_at-2.ensures.front ∙ ap (λ n. take n c.split_at.result.1.now) c.word_length.ensures.value) (c.split_at-2.ensures.back ∙ ap (λ n. drop n c.split_at.result.1.now) c.word_length.ensures.value)
    (some_is word c.is_empty.result c.is_empty.ensures c.if-is_empty.false)
