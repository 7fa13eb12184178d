use Rattle.std.proofs.Common.{◌≡◌, [], ◌∷◌, Some, take, sym, ◌∙◌, subst}
use Rattle.std.proofs.lemmas.Bool.{true≢false}
use Rattle.std.proofs.lemmas.Bool.Decides.{Decides-eqb}
use Rattle.std.proofs.lemmas.Slice.Eq.{strip_prefix_is}
use Rattle.rf_jtree.specs.Tokens.{BlockComment}
use Rattle.rf_jlex.specs.Fronts.{GivesOnly}
use Rattle.rf_jlex.specs.Comments.{IsReadable}
use Rattle.rf_jlex.proofs.CommentLemmas.{block_is_readable, block_ends, block_has_end, block_is_front}
use Rattle.rf_jlex.proofs.comments.block_comment.Goals as goal

pub returns-in_err-end : goal.returns-in_err-end
returns-in_err-end c =
    let text = c.args.text.now in
    let body = c.in_ok-body.body in
    let begins : text ≡ 47 ∷ 42 ∷ body.now = strip_prefix_is Decides-eqb text (47 ∷ 42 ∷ []) (Some body) c.in_ok-body.ensures.cases in
    subst (GivesOnly BlockComment text) (sym c.from_residual-in_err-end.ensures) (λ n front. let end = block_has_end text body.now n begins front in c.in_err-end.ensures end.0 end.1)

pub returns-then-is_readable : goal.returns-then-is_readable
returns-then-is_readable c =
    let text = c.args.text.now in
    let body = c.in_ok-body.body in
    let begins : text ≡ 47 ∷ 42 ∷ body.now = strip_prefix_is Decides-eqb text (47 ∷ 42 ∷ []) (Some body) c.in_ok-body.ensures.cases in (
      block_is_front text body.now c.in_ok-end.end begins c.in_ok-end.ensures.0 c.in_ok-end.ensures.1 (c.is_readable.ensures.0 c.if-is_readable.true),
      λ n front. block_ends text body.now n c.in_ok-end.end begins c.in_ok-end.ensures.0 c.in_ok-end.ensures.1 front,
    )

pub returns-else-is_readable : goal.returns-else-is_readable
returns-else-is_readable c = λ n front.
    let text = c.args.text.now in
    let body = c.in_ok-body.body in
    let begins : text ≡ 47 ∷ 42 ∷ body.now = strip_prefix_is Decides-eqb text (47 ∷ 42 ∷ []) (Some body) c.in_ok-body.ensures.cases in
    let long = block_ends text body.now n c.in_ok-end.end begins c.in_ok-end.ensures.0 c.in_ok-end.ensures.1 front in
    let readable = subst (λ k. IsReadable (take k text)) long (block_is_readable text n front) in
    true≢false (sym (c.is_readable.ensures.1 readable) ∙ c.if-is_readable.false)
