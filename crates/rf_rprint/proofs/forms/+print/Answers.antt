use Rattle.std.proofs.Common.{◌≡◌, ◌∙◌, ap, ◌++◌, List, ℕ}
use Rattle.rf_rtree.specs.declared.forms.RForm.{RForm}
use Rattle.rf_rtree.specs.Plain.{plains}
use Rattle.rf_rprint.proofs.Appended.{two_appended, three_appended}
use Rattle.rf_rprint.proofs.FormLemmas.{whole_implies, whole_or, whole_and, whole_not, whole_every, whole_exists}
use Rattle.rf_rprint.proofs.forms.+print.Goals as goal

abbrev whole : RForm → List ℕ
whole form = (plains form).whole

pub print_form-returns-in_ok-print_form-in-Implies : goal.print_form-returns-in_ok-print_form-in-Implies
print_form-returns-in_ok-print_form-in-Implies t c = three_appended _ _ _ _ _ _ _ _
    (ap whole c.in-Implies.is ∙ whole_implies c.in-Implies.left c.in-Implies.right)
    (rw c.get.ensures at c.in_ok-print_at-in-Implies.ensures) c.in_ok-extend-in-Implies.ensures.ok
    (rw c.get-in-Implies.ensures at c.in_ok-print_form-in-Implies.ensures)

pub print_form-returns-in_ok-print_at-in-Or-2 : goal.print_form-returns-in_ok-print_at-in-Or-2
print_form-returns-in_ok-print_at-in-Or-2 t c = three_appended _ _ _ _ _ _ _ _
    (ap whole c.in-Or.is ∙ whole_or c.in-Or.left c.in-Or.right)
    (rw c.get-in-Or.ensures at c.in_ok-print_at-in-Or.ensures) c.in_ok-extend-in-Or.ensures.ok
    (rw c.get-in-Or-2.ensures at c.in_ok-print_at-in-Or-2.ensures)

pub print_form-returns-in_ok-print_at-in-And-2 : goal.print_form-returns-in_ok-print_at-in-And-2
print_form-returns-in_ok-print_at-in-And-2 t c = three_appended _ _ _ _ _ _ _ _
    (ap whole c.in-And.is ∙ whole_and c.in-And.left c.in-And.right)
    (rw c.get-in-And.ensures at c.in_ok-print_at-in-And.ensures) c.in_ok-extend-in-And.ensures.ok
    (rw c.get-in-And-2.ensures at c.in_ok-print_at-in-And-2.ensures)

pub print_form-returns-in_ok-print_at-in-Not : goal.print_form-returns-in_ok-print_at-in-Not
print_form-returns-in_ok-print_at-in-Not t c = two_appended _ _ _ _ _ _
    (ap whole c.in-Not.is ∙ whole_not c.in-Not.inner) c.in_ok-extend-in-Not.ensures.ok
    (rw c.get-in-Not.ensures at c.in_ok-print_at-in-Not.ensures)

pub print_form-returns-in_ok-print_quant-in-Every : goal.print_form-returns-in_ok-print_quant-in-Every
print_form-returns-in_ok-print_quant-in-Every t c = two_appended _ _ _ _ _ _
    (ap whole c.in-Every.is ∙ whole_every c.in-Every.quant) c.in_ok-extend-in-Every.ensures.ok
    c.in_ok-print_quant-in-Every.ensures

pub print_form-returns-in_ok-print_quant-in-Exists : goal.print_form-returns-in_ok-print_quant-in-Exists
print_form-returns-in_ok-print_quant-in-Exists t c = two_appended _ _ _ _ _ _
    (ap whole c.in-Exists.is ∙ whole_exists c.in-Exists.quant) c.in_ok-extend-in-Exists.ensures.ok
    c.in_ok-print_quant-in-Exists.ensures
