use Rattle.std.proofs.Common.{ap, ◌∙◌}
use Rattle.std.proofs.Math.Path.{fun_ext}
use Rattle.rf_form.specs.Alive.{among}
use Rattle.rf_trail.proofs.Removing.{began_none}
use Rattle.rf_trail.proofs.trails.Trail.new.Goals as goal

pub returns-clause-first : goal.returns-clause-first
returns-clause-first g c = began_none (among c.in_ok-doms.doms.items) ∙ fun_ext (λ x. fun_ext (λ v. c.in_ok-doms.ensures.same x v)) ∙ ap among c.as_slice.ensures

pub returns-clause-family : goal.returns-clause-family
returns-clause-family g c = fun_ext (λ x. fun_ext (λ v. c.in_ok-doms.ensures.same x v)) ∙ ap among c.as_slice.ensures
