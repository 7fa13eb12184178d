-- What the readers of modifiers, names behind a keyword and parameters read fits.
use Rattle.std.proofs.Common.{Option, IfSome}
use Rattle.rf_jtree.specs.declared.tokens.Tok.{Tok}
use Rattle.rf_jtree.specs.declared.words.Kw.{Kw}
use Rattle.rf_jtree.specs.declared.operator_names.TheConstants.{LEFT_PAREN, RIGHT_PAREN, COMMA}
use Rattle.rf_jtree.specs.DeclFits.{NamesFit, ParamFits, ParamsFit}
use Rattle.rf_jtree.specs.DeclTrees.{names_yield, param_yield, params_yield}
use Rattle.rf_jtree.specs.NameFits.{NameFits, ModsFit}
use Rattle.rf_jtree.specs.NameTrees.{ManyTree, NameTree, name_yield, mods_yield, many_yield, behind_yield}
use Rattle.rf_jexpr.specs.NameReads.{name, dims, type_use}
use Rattle.rf_jexpr.specs.Reads.{is_op, is_key, is_ident, optional, behind, separated}
use Rattle.rf_jexpr.proofs.LoopLemmas.{IsSound, separated-sound}
use Rattle.rf_jexpr.proofs.SoundNames.{optional-sound, name-sound, dims-sound, type_use-sound}
use Rattle.rf_jexpr.proofs.Tools.{is_op-IsOp, is_key-IsKey, is_ident-IsIdent}
use Rattle.rf_jmods.specs.ModReads.{mods}
use Rattle.rf_jmods.specs.ModTests.{mods_fit}
use Rattle.rf_jmods.specs.ModReads.{variable_mods}
use Rattle.rf_jmods.proofs.SoundMods.{mods-sound, variable_mods-sound}
use Rattle.rf_jmods.proofs.Steps.{step_tok, step_part, step_when, done, tok_then, part_then, at_last, tok_last}
use Rattle.rf_jmods.proofs.ModTestLemmas.{mods_fit-Fit}
use Rattle.rf_jdecl.specs.HeadReads.{fitting_mods, names_behind, param, params}

pub fitting_mods-sound : IsSound ModsFit mods_yield fitting_mods
unfolding fitting_mods
fitting_mods-sound toks y h =
    step_part _ _ mods toks _ y mods-sound h (λ found a k.
    step_when (mods_fit found.0) _ y k (λ fit same.
    done ModsFit mods_yield toks found.0 found.1 y same (mods_fit-Fit found.0 a.fits fit) (at_last _ a.takes)))

pub names_behind-sound : (key : Kw) → IsSound (NamesFit key) (behind_yield (many_yield name_yield)) (names_behind key)
unfolding names_behind behind
names_behind-sound key toks y h =
    step_tok (is_key key) toks _ y h (λ word a k.
    step_part _ _ (separated COMMA name) word.1 _ y (separated-sound NameFits name_yield COMMA name name-sound) k (λ names b same.
    done (NamesFit key) (behind_yield (many_yield name_yield)) toks (word.0, names.0) names.1 y same (is_key-IsKey key word.0 a.is, b.fits) (tok_then a.takes (at_last _ b.takes))))

pub optional_names-sound : (key : Kw) → IsSound (λ (found : Option (Tok × ManyTree NameTree)). IfSome found (NamesFit key)) names_yield (optional (names_behind key))
optional_names-sound key = optional-sound (NamesFit key) (behind_yield (many_yield name_yield)) (names_behind key) (names_behind-sound key)

pub param-sound : IsSound ParamFits param_yield param
unfolding param
param-sound toks y h =
    step_part _ _ variable_mods toks _ y variable_mods-sound h (λ found a k.
    step_part _ _ type_use found.1 _ y type_use-sound k (λ used_type b l.
    step_tok is_ident used_type.1 _ y l (λ id c n.
    step_part _ _ dims id.1 _ y dims-sound n (λ bracket_pairs d same.
    done ParamFits param_yield toks (record { mods = found.0; used_type = used_type.0; id = id.0; dims = bracket_pairs.0 }) bracket_pairs.1 y same
    (record { mods_fit = a.fits; used_type_fits = b.fits; id_is = is_ident-IsIdent id.0 c.is; dims_fit = d.fits })
    (part_then _ a.takes (part_then _ b.takes (tok_then c.takes (at_last _ d.takes))))))))

pub params-sound : IsSound ParamsFit params_yield params
unfolding params
params-sound toks y h =
    step_tok (is_op LEFT_PAREN) toks _ y h (λ left a k.
    step_part _ _ (optional (separated COMMA param)) left.1 _ y (optional-sound _ _ _ (separated-sound ParamFits param_yield COMMA param param-sound)) k (λ list b l.
    step_tok (is_op RIGHT_PAREN) list.1 _ y l (λ right c same.
    done ParamsFit params_yield toks (record { left = left.0; list = list.0; right = right.0 }) right.1 y same
    ((is_op-IsOp LEFT_PAREN left.0 a.is, is_op-IsOp RIGHT_PAREN right.0 c.is), b.fits)
    (tok_then a.takes (part_then _ b.takes (tok_last c.takes))))))
