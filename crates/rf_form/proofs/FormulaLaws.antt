-- The laws of closing and need hold of formulas.
use Rattle.std.proofs.Common.{◌≡◌, ◌⊎◌, ℕ, ◌<◌, false, List, length, Option}
use Rattle.rf_form.specs.Families.{Family}
use Rattle.rf_form.specs.Formulas.{Formula}
use Rattle.rf_form.specs.Truths.{row, Is}
use Rattle.rf_form.specs.Problems.{Problem, Fits, Lawful}
use Rattle.rf_form.specs.Need.{Canon, HasCanon}
use Rattle.rf_form.specs.Constraints.{formula_at, SomeFalse, problem_of}
use Rattle.rf_form.proofs.Firsts.{decide_below}
use Rattle.rf_form.proofs.Below.{is_below}
use Rattle.rf_form.proofs.Decisions.{decide_is}
use Rattle.rf_form.proofs.Needs.{has_need, canon_one}

pub formulas_lawful : (vals : List (List ℕ)) (fs : List Formula) → Lawful (problem_of vals fs)
formulas_lawful vals fs = record {
  fails_below = λ p δ fits filled part failing. (
    failing.0,
    failing.1,
    is_below (length vals) (λ x. length (row vals x)) p δ part filled fits vals (formula_at fs failing.0) false failing.2,
  );
  decides = λ δ fits. decide_below (λ c. Is vals δ (formula_at fs c) false) (length fs)
      (λ c lt. decide_is (length vals) (λ x. length (row vals x)) δ fits vals (formula_at fs c) false);
}

pub formulas_need : (vals : List (List ℕ)) (fs : List Formula) (δ : Family) → Fits (problem_of vals fs) δ → HasCanon (problem_of vals fs) δ
formulas_need vals fs δ fits = has_need (problem_of vals fs) (formulas_lawful vals fs) δ fits
