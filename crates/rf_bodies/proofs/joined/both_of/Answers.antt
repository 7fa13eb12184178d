use Rattle.std.proofs.Common.{sym, subst}
use Rattle.rf_form.specs.Formulas.{AllOf}
use Rattle.rf_form.specs.Shown.{form_of}
use Rattle.rf_form.specs.declared.forms.Form.TheVariants as form
use Rattle.rf_inst.specs.Directs.{both}
use Rattle.rf_bodies.specs.Alike.{Alike}
use Rattle.rf_bodies.proofs.Joining.{all_open}
use Rattle.rf_bodies.proofs.joined.both_of.Goals as goal

pub returns : goal.returns
returns c = subst (λ fs. Alike (form_of (form.All fs)) (AllOf (both (form_of c.args.left) (form_of c.args.right)))) (sym c.in_ok-forms.ensures) (all_open c.args.left c.args.right)
