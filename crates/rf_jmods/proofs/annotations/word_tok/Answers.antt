use Rattle.std.proofs.Common.{◌∙◌, sym}
use Rattle.rf_jexpr.proofs.CursorLemmas.{token-None, token-refused}
use Rattle.rf_jtree.specs.Kinds.{is_key_of}
use Rattle.rf_jtree.specs.declared.keyword_names.TheConstants.{MODIFIERS}
use Rattle.rf_jmods.proofs.ModLemmas.{word-same}
use Rattle.rf_jmods.proofs.annotations.word_tok.Goals as goal

pub returns-in_default-clause-gives : goal.returns-in_default-clause-gives
returns-in_default-clause-gives c = token-None (is_key_of MODIFIERS) c.args.t.now c.args.at (rw c.in_default.is at c.tok_at.ensures.value)

pub returns-then-not-is_key_of-clause-gives : goal.returns-then-not-is_key_of-clause-gives
returns-then-not-is_key_of-clause-gives c = token-refused (is_key_of MODIFIERS) c.args.t.now c.args.at _ (rw c.in-Some.is at c.tok_at.ensures.value) (sym c.is_key_of.ensures ∙ c.if-not-is_key_of.true)

pub returns-in-Key-clause-gives : goal.returns-in-Key-clause-gives
returns-in-Key-clause-gives c = rw (word-same c.args.t.now c.args.at _ _ (rw c.in-Some.is at c.tok_at.ensures.value) c.in-Key.is (sym c.is_key_of.ensures ∙ c.if-not-is_key_of.false)) c.take.ensures.gives
