use Rattle.std.proofs.Common.{refl, subst}
use Rattle.memchr.specs.Find.{IsFirstByte, is_byte}
use Rattle.rf_jlex.proofs.SearchLemmas.{without_backslash}
use Rattle.rf_jlex.proofs.comments.escapes_are_allowed.Goals as goal

pub returns-in-None : goal.returns-in-None
returns-in-None c =
    let comment = c.args.comment.now in
    (λ _. without_backslash comment (subst (IsFirstByte (is_byte 92) comment) c.in-None.is c.memchr.ensures), λ _. refl)
