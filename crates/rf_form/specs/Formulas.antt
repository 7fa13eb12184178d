-- Formulas as contracts speak of them: those of the code, with their parts in plain lists.
use Rattle.rf_form.specs.declared.forms.Term.{Term}

mutual
  pub data Formula : Type 0 where
    Truth : Formula
    Lie : Formula
    Equal : Term → Term → Formula
    AtMost : Term → Term → Formula
    Neg : Formula → Formula
    AllOf : Formulas → Formula
    AnyOf : Formulas → Formula

  pub data Formulas : Type 0 where
    no_form : Formulas
    and_form : Formula → Formulas → Formulas
