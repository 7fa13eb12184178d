use Rattle.std.proofs.Common.{◌≡◌, ◌==◌, not, ◌&&◌, cond, true, drop, get_or, below_more, sym, ◌∙◌, ap, subst, arith, refl}
use Rattle.std.proofs.lemmas.Bool.{false≢true}
use Rattle.std.proofs.lemmas.List.{take_rest}
use Rattle.rf_jtree.specs.Trivia.{EscapesAreAllowed}
use Rattle.rf_jlex.specs.Comments.{AllowsEscape}
use Rattle.rf_jlex.proofs.EscapeScanLemmas.{parity_more, begins_at_backslash, begins_nowhere_else, may_stand, must_be_allowed, allowed_everywhere}
use Rattle.rf_jlex.proofs.comments.escapes_fit.Goals as goal
use Rattle.rf_jlex.proofs.comments.escapes_fit.Goals.{then-byte-eq92, else-byte-eq92}
use Rattle.rf_jlex.proofs.comments.escapes_fit.Goals.{else-begins_escape-via-then-begins_escape+else-not-allows_escape, else-begins_escape-via-else-begins_escape}

pub returns-then-not-allows_escape : goal.returns-then-not-allows_escape
returns-then-not-allows_escape c =
    let comment = c.args.comment.now in
    let at = c.loop-at.at in
    let begins : c.if-byte-eq92.begins_escape ≡ (get_or comment at 0 == 92) && not c.loop-at.is_escaped =
    elim c.if-byte-eq92.branch [
      | then-byte-eq92 w ↦ begins_at_backslash _ _ _ w.if-byte-eq92.true w.begins_escape-is
      | else-byte-eq92 w ↦ begins_nowhere_else _ _ _ w.if-byte-eq92.false w.begins_escape-is
    ] in
    let must : EscapesAreAllowed comment → AllowsEscape (drop at comment) =
    must_be_allowed comment at c.loop-at.is_escaped c.loop-at.invariant.parity (sym c.if-begins_escape.true ∙ begins) in (
      λ is. absurd (false≢true is),
      λ allowed. sym c.if-not-allows_escape.true ∙ c.allows_escape.ensures.1 (subst AllowsEscape (sym (take_rest comment at)) (must allowed)),
    )

pub loop-at-preserved : goal.loop-at-preserved
loop-at-preserved c =
    let comment = c.args.comment.now in
    let at = c.loop-at.at in
    let begins : c.if-byte-eq92.begins_escape ≡ (get_or comment at 0 == 92) && not c.loop-at.is_escaped =
    elim c.if-byte-eq92.branch [
      | then-byte-eq92 w ↦ begins_at_backslash _ _ _ w.if-byte-eq92.true w.begins_escape-is
      | else-byte-eq92 w ↦ begins_nowhere_else _ _ _ w.if-byte-eq92.false w.begins_escape-is
    ] in
    let allows : c.if-byte-eq92.begins_escape ≡ true → AllowsEscape (drop at comment) =
    elim c.else-begins_escape.branch [
      | else-begins_escape-via-then-begins_escape+else-not-allows_escape w ↦ λ is. subst AllowsEscape (take_rest comment at) (w.allows_escape.ensures.0 w.if-not-allows_escape.false)
      | else-begins_escape-via-else-begins_escape w ↦ λ is. absurd (false≢true (sym w.if-begins_escape.false ∙ is))
    ] in
    record {
      parity = parity_more comment at c.loop-at.is_escaped c.loop-at-test.true c.loop-at.invariant.parity ∙ ap (λ escaped. cond escaped 1 0) (sym begins);
      before = below_more _ _ c.loop-at.invariant.before (may_stand comment at c.loop-at.is_escaped _ c.loop-at-test.true c.loop-at.invariant.parity begins allows);
    }

pub returns : goal.returns
returns c = (λ done. allowed_everywhere c.args.comment.now (λ at within. c.loop-at.invariant.before at (omega arith)), λ allowed. refl)
