use Rattle.std.proofs.Common.{◌∙◌, subst, refl, All, take_all, arith}
use Rattle.std.proofs.lemmas.List.Elements.{All-more}
use Rattle.rf_request.specs.Forms.{IsAllowed}
use Rattle.rf_request.proofs.forms.are_allowed.Goals as goal

pub loop-word-preserved : goal.loop-word-preserved
loop-word-preserved c = All-more IsAllowed c.args.words.now c.loop-word.word-index c.word-item.result c.loop-word-test.true c.loop-word.invariant
    (subst IsAllowed (c.as_slice.ensures ∙ c.word-item.is) (c.is_allowed.ensures.0 c.if-not-is_allowed.false))

pub returns : goal.returns
returns c = (λ yes. subst (All IsAllowed) (take_all c.loop-word.word-index c.args.words.now (omega arith)) c.loop-word.invariant, λ all. refl)
