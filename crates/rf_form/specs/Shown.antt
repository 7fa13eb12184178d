-- The formula that a form of the code is. A layer is a form whose parts are formulas already.
use Rattle.std.specs.Prelude.{List, [], ◌∷◌, map}
use Rattle.rf_form.specs.declared.forms.Form.{Form, fold-Form}
use Rattle.rf_form.specs.declared.forms.Form.TheOpen.{Form-F}
use Rattle.rf_form.specs.Formulas.{Formula, Truth, Lie, Equal, AtMost, Neg, AllOf, AnyOf, Formulas, no_form, and_form}

abbrev pub listed : List Formula → Formulas
listed [] = no_form
listed (f ∷ fs) = and_form f (listed fs)

abbrev pub layer : Form-F Formula → Formula
layer Form-F.True = Truth
layer Form-F.False = Lie
layer (Form-F.Eq s t) = Equal s t
layer (Form-F.Le s t) = AtMost s t
layer (Form-F.Not f) = Neg f
layer (Form-F.All fs) = AllOf (listed fs)
layer (Form-F.Any fs) = AnyOf (listed fs)

unfoldable pub form_of : Form → Formula
form_of = fold-Form Formula layer

abbrev pub forms_of : List Form → Formulas
forms_of fs = listed (map form_of fs)
