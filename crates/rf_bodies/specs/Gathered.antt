-- Formulas one behind the other, of which all are to be true, or one.
use Rattle.std.specs.Prelude.{Bool, true, false, not, cond, map}
use Rattle.rf_form.specs.Formulas.{Formula, AllOf, AnyOf, Formulas}
use Rattle.rf_form.specs.Shown.{form_of, listed}
use Rattle.rf_inst.specs.Directs.{constant_form}
use Rattle.rf_bodies.specs.declared.gathered.Gathered.{Gathered}

abbrev pub whole : Bool → Formulas → Formula
whole true fs = AllOf fs
whole false fs = AnyOf fs

-- what is gathered says: where it is decided, nothing that comes behind changes it
abbrev pub so_far : Gathered → Formula
so_far gathered = cond gathered.decided (constant_form (not gathered.all)) (whole gathered.all (listed (map form_of gathered.forms)))
