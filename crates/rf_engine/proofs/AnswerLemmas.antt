-- The answer to a form that was read.
use Rattle.std.proofs.Common.{◌≡◌, ℕ, false, List, Contains, ap, sym, ◌∙◌, subst}
use Rattle.std.specs.Str.{bytes_eq}
use Rattle.rf_engine.specs.declared.first_form.FirstPath.{FirstPath}
use Rattle.rf_engine.specs.declared.first_form.FirstPath.TheVariants.{Changed, Refused}
use Rattle.rf_engine.specs.declared.first_parts.FirstFormParts.{FirstFormParts}
use Rattle.rf_engine.specs.ClassFile.{class_bytes, names_of, renamed_class}
use Rattle.rf_engine.specs.FirstForm.{FirstForm, one_changed, name_in_use, answer_of, IsAnswer}
use Rattle.rf_engine.specs.FirstParts.{form_seen, IsFormReading}
use Rattle.rf_engine.proofs.FieldNameLemmas.{Contains-list_any, list_any-missing}

module _ (form : FirstForm) (names : List (List ℕ)) (other : bytes_eq form.new form.old ≡ false) (names_are : names ≡ names_of form.file) where
  -- the name of another field is refused
  pub refuses : (report : List ℕ) → Contains names form.new → report ≡ name_in_use form → Refused report ≡ answer_of form
  refuses report taken is =
      let found = Contains-list_any form.new (names_of form.file) (subst (λ them. Contains them form.new) names_are taken) in
      rw (other, found) (ap Refused is)

  -- and any other new name stands for the old one
  pub renames : (bytes report : List ℕ) → ¬ Contains names form.new → bytes ≡ class_bytes (renamed_class form.old form.new form.file) → report ≡ one_changed form → Changed bytes report ≡ answer_of form
  renames bytes report free bytes_are is =
      let missed = list_any-missing form.new (names_of form.file) (subst (λ them. ¬ Contains them form.new) names_are free) in
      rw (other, missed) (ap (λ text. Changed text report) bytes_are ∙ ap (Changed (class_bytes (renamed_class form.old form.new form.file))) is)

-- the answer to what was read is the answer
pub answer_is_read : (path file request : List ℕ) (parts : FirstFormParts) (answer : FirstPath) → IsFormReading parts path file request → answer ≡ answer_of (form_seen parts) → IsAnswer path file request answer
answer_is_read path file request parts answer reading is = record {
  of_form = λ form is_form. is ∙ ap answer_of (sym (reading.only form is_form));
  some_form = λ _. (form_seen parts, reading.is_form);
}
