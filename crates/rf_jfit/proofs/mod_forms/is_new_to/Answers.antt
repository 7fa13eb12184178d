use Rattle.std.proofs.Common.{not, sym, ◌∙◌}
use Rattle.std.proofs.lemmas.List.Folds.{list_all-map}
use Rattle.rf_jtree.specs.NameFits.{is_same_mod}
use Rattle.rf_jtree.specs.NameShown.{mod_shown, mods_shown}
use Rattle.rf_jtree.specs.NameTrees.{ModTree}
use Rattle.rf_jfit.proofs.EachLemmas.{none-exact}
use Rattle.rf_jfit.proofs.mod_forms.is_new_to.Goals as goal

pub returns : goal.returns
returns c =
    let same = c.differs_from_each.ensures ∙ sym (list_all-map (λ (other : ModTree). not (is_same_mod (mod_shown c.args.one.now) other)) mod_shown c.args.others.now) in
    none-exact (λ (other : ModTree). is_same_mod (mod_shown c.args.one.now) other) (mods_shown c.args.others.now) _ same
