use Rattle.rf_form.specs.Constraints.{formula_at}
use Rattle.rf_form.specs.Shown.{form_of}
use Rattle.rf_cons.proofs.Told.{true_not_false, unknown_not_false}
use Rattle.rf_cons.proofs.falsity.is_false.Goals as goal

pub returns-in-True : goal.returns-in-True
returns-in-True g c = let s = g.C.Constraints.system c.args.all.now in
    true_not_false s.vals c.vals.result.now (g.D.Alive.family c.args.doms.now) (form_of c.form.result.now) (formula_at s.formulas c.args.place)
    c.vals.ensures c.form.ensures c.in-True.ensures

pub returns-in-Unknown : goal.returns-in-Unknown
returns-in-Unknown g c = let s = g.C.Constraints.system c.args.all.now in
    unknown_not_false s.vals c.vals.result.now (g.D.Alive.family c.args.doms.now) (form_of c.form.result.now) (formula_at s.formulas c.args.place)
    c.vals.ensures c.form.ensures c.in-Unknown.ensures
