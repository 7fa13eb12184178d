use Rattle.rf_form.proofs.AtomLemmas.{says_atom}
use Rattle.rf_form.proofs.atoms.atom_value.Goals as goal

pub returns : goal.returns
returns g c = says_atom c.args.vals.now (g.D.Alive.family c.args.d.now) c.requires c.args.test c.args.left c.args.right
    c.has_hit-yes.result c.has_hit-no.result c.told_by.result c.has_hit-yes.ensures c.has_hit-no.ensures c.told_by.ensures
