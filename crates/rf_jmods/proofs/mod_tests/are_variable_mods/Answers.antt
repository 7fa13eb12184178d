use Rattle.std.proofs.Common.{sym, ◌∙◌}
use Rattle.std.proofs.lemmas.List.Folds.{list_all-map}
use Rattle.rf_jtree.specs.NameShown.{mod_shown}
use Rattle.rf_jmods.specs.ModTests.{is_variable_mod}
use Rattle.rf_jmods.proofs.mod_tests.are_variable_mods.Goals as goal

pub returns : goal.returns
returns c = c.each_is_variable_mod.ensures ∙ sym (list_all-map is_variable_mod mod_shown c.args.mods.now)
