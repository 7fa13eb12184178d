-- What the readers of modifiers read fits.
use Rattle.std.proofs.Common.{IsTrue, refl}
use Rattle.rf_jtree.specs.declared.operator_names.TheConstants.{LEFT_PAREN, RIGHT_PAREN, LEFT_BRACE, RIGHT_BRACE, COMMA, AT}
use Rattle.rf_jtree.specs.declared.keyword_names.TheConstants.{MODIFIERS}
use Rattle.rf_jtree.specs.Kinds.{IsStr, is_key_of}
use Rattle.rf_jtree.specs.NameFits.{EachFits, ParensFit, StrsFit, ModFits}
use Rattle.rf_jtree.specs.NameTrees.{One, Braced, Word, Mark, Suppress, tok_yield, pair_yield, strs_yield, mod_yield, mods_yield}
use Rattle.rf_jtree.specs.StmtFits.{VariableModsFit}
use Rattle.rf_jexpr.specs.Reads.{is_op, begins, token, optional, separated}
use Rattle.rf_jexpr.proofs.LoopLemmas.{IsSound, many-sound, separated-sound}
use Rattle.rf_jexpr.proofs.SoundNames.{token-sound, made-sound, optional-sound}
use Rattle.rf_jexpr.proofs.Tools.{either_way, is_op-IsOp}
use Rattle.rf_jmods.specs.ModReads.{is_str, is_mark_name, is_suppress_name, parens, one_str, braced_strs, strs, suppress, mark, goes_on_with, word, modifier, mods}
use Rattle.rf_jmods.specs.ModTests.{variable_mods_fit}
use Rattle.rf_jmods.specs.ModReads.{variable_mods}
use Rattle.rf_jmods.proofs.Steps.{step_tok, step_part, step_when, done, tok_then, part_then, at_last, tok_last}
use Rattle.rf_jmods.proofs.ModTestLemmas.{is_str-IsStr, is_mark_name-Is, is_suppress_name-Is, variable_mods_fit-Fit}

pub parens-sound : IsSound ParensFit pair_yield parens
unfolding parens
parens-sound toks y h =
    step_tok (is_op LEFT_PAREN) toks _ y h (λ left a k. step_tok (is_op RIGHT_PAREN) left.1 _ y k (λ right b same.
    done ParensFit pair_yield toks (left.0, right.0) right.1 y same (is_op-IsOp LEFT_PAREN left.0 a.is, is_op-IsOp RIGHT_PAREN right.0 b.is) (tok_then a.takes (tok_last b.takes))))

one_str-sound : IsSound StrsFit strs_yield one_str
unfolding one_str
one_str-sound = made-sound IsStr tok_yield _ StrsFit strs_yield One (token-sound IsStr is_str is_str-IsStr) (λ tok is. is) (λ tok. refl)

braced_strs-sound : IsSound StrsFit strs_yield braced_strs
unfolding braced_strs
braced_strs-sound toks y h =
    step_tok (is_op LEFT_BRACE) toks _ y h (λ left a k.
    step_part _ _ (optional (separated COMMA (token is_str))) left.1 _ y (optional-sound _ _ _ (separated-sound IsStr tok_yield COMMA (token is_str) (token-sound IsStr is_str is_str-IsStr))) k (λ list b l.
    step_tok (is_op RIGHT_BRACE) list.1 _ y l (λ right c same.
    done StrsFit strs_yield toks (Braced left.0 list.0 right.0) right.1 y same ((is_op-IsOp LEFT_BRACE left.0 a.is, is_op-IsOp RIGHT_BRACE right.0 c.is), b.fits)
    (tok_then a.takes (part_then _ b.takes (tok_last c.takes))))))

strs-sound : IsSound StrsFit strs_yield strs
unfolding strs
strs-sound toks y = either_way (begins (is_op LEFT_BRACE) toks) _ _ y (braced_strs-sound toks y) (one_str-sound toks y)

suppress-sound : IsSound ModFits mod_yield suppress
unfolding suppress
suppress-sound toks y h =
    step_tok (is_op AT) toks _ y h (λ at a k.
    step_tok is_suppress_name at.1 _ y k (λ id b l.
    step_tok (is_op LEFT_PAREN) id.1 _ y l (λ left c n.
    step_part _ _ strs left.1 _ y strs-sound n (λ list d o.
    step_tok (is_op RIGHT_PAREN) list.1 _ y o (λ right e same.
    done ModFits mod_yield toks (Suppress at.0 id.0 left.0 list.0 right.0) right.1 y same
    (record { at_is = is_op-IsOp AT at.0 a.is; id_is = is_suppress_name-Is id.0 b.is; parens = (is_op-IsOp LEFT_PAREN left.0 c.is, is_op-IsOp RIGHT_PAREN right.0 e.is) }, d.fits)
    (tok_then a.takes (tok_then b.takes (tok_then c.takes (part_then _ d.takes (tok_last e.takes))))))))))

mark-sound : IsSound ModFits mod_yield mark
unfolding mark
mark-sound toks y h =
    step_tok (is_op AT) toks _ y h (λ at a k.
    step_tok is_mark_name at.1 _ y k (λ id b l.
    step_part _ _ (optional parens) id.1 _ y (optional-sound ParensFit pair_yield parens parens-sound) l (λ pair c same.
    done ModFits mod_yield toks (Mark at.0 id.0 pair.0) pair.1 y same (is_op-IsOp AT at.0 a.is, is_mark_name-Is id.0 b.is, c.fits) (tok_then a.takes (tok_then b.takes (at_last _ c.takes))))))

word-sound : IsSound ModFits mod_yield word
unfolding word
word-sound = made-sound (λ tok. IsTrue (is_key_of MODIFIERS tok)) tok_yield _ ModFits mod_yield Word (token-sound (λ tok. IsTrue (is_key_of MODIFIERS tok)) (is_key_of MODIFIERS) (λ tok is. is)) (λ tok is. is) (λ tok. refl)

modifier-sound : IsSound ModFits mod_yield modifier
unfolding modifier
modifier-sound toks y =
    either_way (begins (is_op AT) toks) _ _ y (either_way (goes_on_with is_suppress_name toks) _ _ y (suppress-sound toks y) (mark-sound toks y)) (word-sound toks y)

pub mods-sound : IsSound (EachFits ModFits) mods_yield mods
unfolding mods
mods-sound = many-sound ModFits mod_yield modifier modifier-sound

pub variable_mods-sound : IsSound VariableModsFit mods_yield variable_mods
unfolding variable_mods
variable_mods-sound toks y h =
    step_part _ _ mods toks _ y mods-sound h (λ found a k.
    step_when (variable_mods_fit found.0) _ y k (λ fit same.
    done VariableModsFit mods_yield toks found.0 found.1 y same (variable_mods_fit-Fit found.0 a.fits fit) (at_last _ a.takes)))
