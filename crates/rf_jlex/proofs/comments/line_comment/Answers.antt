use Rattle.std.proofs.Common.{◌≡◌, [], ◌∷◌, drop, take, sym, ◌∙◌, subst}
use Rattle.std.proofs.lemmas.Bool.{true≢false}
use Rattle.std.proofs.lemmas.Bool.Decides.{Decides-eqb}
use Rattle.std.proofs.lemmas.Slice.Eq.{starts_is}
use Rattle.rf_jlex.specs.Comments.{IsReadable}
use Rattle.rf_jlex.proofs.CommentLemmas.{line_is_readable, line_ends, line_is_front}
use Rattle.rf_jlex.proofs.comments.line_comment.Goals as goal

pub returns-then-is_readable : goal.returns-then-is_readable
returns-then-is_readable c =
    let text = c.args.text.now in
    let n = c.line_length-length.result in
    let is = c.line_length-length.ensures in
    let begins : text ≡ 47 ∷ 47 ∷ drop 2 text = (starts_is Decides-eqb text (47 ∷ 47 ∷ []) c.starts_with.result c.starts_with.ensures.value).0 c.if-not-starts_with.false in (
      line_is_front text (drop 2 text) n begins is (c.is_readable.ensures.0 c.if-is_readable.true),
      λ other front. line_ends text other front ∙ sym is,
    )

pub returns-else-is_readable : goal.returns-else-is_readable
returns-else-is_readable c = λ n front.
    let text = c.args.text.now in
    let long = line_ends text n front ∙ sym c.line_length-length.ensures in
    let readable = subst (λ k. IsReadable (take k text)) long (line_is_readable text n front) in
    true≢false (sym (c.is_readable.ensures.1 readable) ∙ c.if-is_readable.false)
