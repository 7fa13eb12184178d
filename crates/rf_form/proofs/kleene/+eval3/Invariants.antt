use Rattle.std.proofs.Common.{drop}
use Rattle.rf_form.specs.Atoms.{Left}
use Rattle.rf_form.specs.Shown.{forms_of}
use Rattle.rf_form.proofs.kleene.+eval3.Given as goal

abbrev pub invariant-many_value-loop-f : goal.invariant-many_value-loop-f
invariant-many_value-loop-f g l = Left l.vals (g.D.Alive.family l.d) l.decisive (forms_of l.fs) (forms_of (drop l.f-index l.fs)) l.unsure
