-- The test of each one is the test of what it shows.
use Rattle.std.proofs.Common.{◌∙◌, rules, tests}
use Rattle.std.proofs.lemmas.Iterator.{YieldsList-from_slice}
use Rattle.std.proofs.lemmas.Iterator.Search.{all_from_yields_List}
use Rattle.rf_jtree.specs.declared.names.Mod.{Mod}
use Rattle.rf_jtree.specs.NameShown.{mod_shown}
use Rattle.rf_jdecl.specs.MemberReads.{is_ctor_mod}
use Rattle.rf_jdecl.proofs.CodeLemmas.{all-shown}
use Rattle.rf_jdecl.proofs.ctors.are_ctor_mods.Goals as goal

pub returns : goal.returns
returns c =
    all_from_yields_List (λ (one : Mod). is_ctor_mod (mod_shown one)) _ _ _ c.all.ensures.ran (YieldsList-from_slice c.args.mods.now cc) (λ x b q k. search (rules, tests))
    ∙ all-shown mod_shown is_ctor_mod c.args.mods.now
