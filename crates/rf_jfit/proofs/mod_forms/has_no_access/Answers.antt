use Rattle.std.proofs.Common.{not, sym, ◌∙◌}
use Rattle.std.proofs.lemmas.List.Folds.{list_all-map}
use Rattle.rf_jtree.specs.NameFits.{is_access}
use Rattle.rf_jtree.specs.NameShown.{mod_shown, mods_shown}
use Rattle.rf_jtree.specs.NameTrees.{ModTree}
use Rattle.rf_jfit.proofs.EachLemmas.{none-exact}
use Rattle.rf_jfit.proofs.mod_forms.has_no_access.Goals as goal

pub returns : goal.returns
returns c =
    let same = c.each_is_no_access.ensures ∙ sym (list_all-map (λ (other : ModTree). not (is_access other)) mod_shown c.args.mods.now) in
    none-exact is_access (mods_shown c.args.mods.now) _ same
