use Rattle.std.proofs.Common.{sym, ap, ◌∙◌}
use Rattle.rf_form.specs.Mentions.{is_var}
use Rattle.rf_form.specs.declared.forms.Term.{Term}
use Rattle.rf_prop.proofs.Wires.{push_keeps, push_has}
use Rattle.rf_prop.proofs.wiring.add_term.Goals as goal

pub returns-in_ok-push-in-Var-clause-keeps : goal.returns-in_ok-push-in-Var-clause-keeps
returns-in_ok-push-in-Var-clause-keeps c = push_keeps c.args.found.now c.push.new.self c.in-Var.x c.in_ok-push-in-Var.ensures.ok

pub returns-in_ok-push-in-Var-clause-has : goal.returns-in_ok-push-in-Var-clause-has
returns-in_ok-push-in-Var-clause-has c = λ y h. push_has c.args.found.now c.push.new.self c.in-Var.x y c.in_ok-push-in-Var.ensures.ok
    (sym (ap (λ (t : Term). is_var t y) c.in-Var.is) ∙ h)
