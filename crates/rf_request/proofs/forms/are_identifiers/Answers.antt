use Rattle.std.proofs.Common.{◌∙◌, subst, refl, All, take_all, arith}
use Rattle.std.proofs.lemmas.List.Elements.{All-more}
use Rattle.rf_jtree.specs.declared.tokens.TokKind.TheVariants as kind
use Rattle.rf_jtree.specs.Tokens.{IsToken}
use Rattle.rf_request.proofs.forms.are_identifiers.Goals as goal

pub loop-word-preserved : goal.loop-word-preserved
loop-word-preserved c = All-more (IsToken kind.Ident) c.args.words.now c.loop-word.word-index c.word-item.result c.loop-word-test.true c.loop-word.invariant
    (subst (IsToken kind.Ident) (c.as_slice.ensures ∙ c.word-item.is) (c.is_identifier.ensures.0 c.if-not-is_identifier.false))

pub returns : goal.returns
returns c = (λ yes. subst (All (IsToken kind.Ident)) (take_all c.loop-word.word-index c.args.words.now (omega arith)) c.loop-word.invariant, λ all. refl)
