-- The test of each modifier is the one of what the modifier shows.
use Rattle.std.proofs.Common.{◌∙◌, rules, tests}
use Rattle.std.proofs.lemmas.Iterator.{YieldsList-from_slice}
use Rattle.std.proofs.lemmas.Iterator.Search.{any_from_yields_List}
use Rattle.rf_jtree.specs.declared.names.Mod.{Mod}
use Rattle.rf_jtree.specs.DeclFits.{is_word_of}
use Rattle.rf_jtree.specs.NameShown.{mod_shown}
use Rattle.rf_jdecl.proofs.CodeLemmas.{any-shown}
use Rattle.rf_jdecl.proofs.decl_tests.has_word_of.Goals as goal

pub returns : goal.returns
returns c =
    any_from_yields_List (λ (one : Mod). is_word_of c.args.words.now (mod_shown one)) _ _ _ c.any.ensures.ran (YieldsList-from_slice c.args.mods.now cc) (λ x b q k. search (rules, tests))
    ∙ any-shown mod_shown (is_word_of c.args.words.now) c.args.mods.now
