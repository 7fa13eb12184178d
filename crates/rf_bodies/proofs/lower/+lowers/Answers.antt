use Rattle.std.proofs.Common.{◌++◌, ◌∙◌, ap, ap₂, map}
use Rattle.rf_pairs.specs.Places.{asked_of, names_of, range_of}
use Rattle.rf_rtree.specs.declared.forms.RForm.TheVariants as f
use Rattle.rf_bodies.specs.declared.bodies.Body.TheVariants as b
use Rattle.rf_bodies.proofs.Saying.{says_implies, says_or, says_and, says_not, says_every, says_exists, says_truth, says_cmp, says_many, told, told_pred, of_part, in_names}
use Rattle.rf_bodies.proofs.lower.+lowers.Goals as goal

pub lower_form-returns-in_ok-right-in-Implies : goal.lower_form-returns-in_ok-right-in-Implies
lower_form-returns-in_ok-right-in-Implies t c = told c.args.lang.now c.args.table.now c.args.derived.now c.args.names.now c.args.form.now (f.Implies c.in-Implies.left c.in-Implies.right) (b.Implies c.in_ok-left-in-Implies.left c.in_ok-right-in-Implies.right) c.new.result c.in-Implies.is c.new.ensures
    (says_implies c.args.lang.now c.args.table.now c.args.derived.now c.args.names.now c.in-Implies.left c.in-Implies.right c.in_ok-left-in-Implies.left c.in_ok-right-in-Implies.right
    (of_part c.args.lang.now c.args.table.now c.args.derived.now c.args.names.now c.in-Implies.left c.get.result.now c.in_ok-left-in-Implies.left c.get.ensures c.in_ok-left-in-Implies.ensures)
    (of_part c.args.lang.now c.args.table.now c.args.derived.now c.args.names.now c.in-Implies.right c.get-in-Implies.result.now c.in_ok-right-in-Implies.right c.get-in-Implies.ensures c.in_ok-right-in-Implies.ensures))

pub lower_form-returns-in_ok-right-in-Or : goal.lower_form-returns-in_ok-right-in-Or
lower_form-returns-in_ok-right-in-Or t c = told c.args.lang.now c.args.table.now c.args.derived.now c.args.names.now c.args.form.now (f.Or c.in-Or.left c.in-Or.right) (b.Or c.in_ok-left-in-Or.left c.in_ok-right-in-Or.right) c.new-in-Or.result c.in-Or.is c.new-in-Or.ensures
    (says_or c.args.lang.now c.args.table.now c.args.derived.now c.args.names.now c.in-Or.left c.in-Or.right c.in_ok-left-in-Or.left c.in_ok-right-in-Or.right
    (of_part c.args.lang.now c.args.table.now c.args.derived.now c.args.names.now c.in-Or.left c.get-in-Or.result.now c.in_ok-left-in-Or.left c.get-in-Or.ensures c.in_ok-left-in-Or.ensures)
    (of_part c.args.lang.now c.args.table.now c.args.derived.now c.args.names.now c.in-Or.right c.get-in-Or-2.result.now c.in_ok-right-in-Or.right c.get-in-Or-2.ensures c.in_ok-right-in-Or.ensures))

pub lower_form-returns-in_ok-right-in-And : goal.lower_form-returns-in_ok-right-in-And
lower_form-returns-in_ok-right-in-And t c = told c.args.lang.now c.args.table.now c.args.derived.now c.args.names.now c.args.form.now (f.And c.in-And.left c.in-And.right) (b.And c.in_ok-left-in-And.left c.in_ok-right-in-And.right) c.new-in-And.result c.in-And.is c.new-in-And.ensures
    (says_and c.args.lang.now c.args.table.now c.args.derived.now c.args.names.now c.in-And.left c.in-And.right c.in_ok-left-in-And.left c.in_ok-right-in-And.right
    (of_part c.args.lang.now c.args.table.now c.args.derived.now c.args.names.now c.in-And.left c.get-in-And.result.now c.in_ok-left-in-And.left c.get-in-And.ensures c.in_ok-left-in-And.ensures)
    (of_part c.args.lang.now c.args.table.now c.args.derived.now c.args.names.now c.in-And.right c.get-in-And-2.result.now c.in_ok-right-in-And.right c.get-in-And-2.ensures c.in_ok-right-in-And.ensures))

pub lower_form-returns-in_ok-inner-in-Not : goal.lower_form-returns-in_ok-inner-in-Not
lower_form-returns-in_ok-inner-in-Not t c = told c.args.lang.now c.args.table.now c.args.derived.now c.args.names.now c.args.form.now (f.Not c.in-Not.inner) (b.Not c.in_ok-inner-in-Not.inner) c.new-in-Not.result c.in-Not.is c.new-in-Not.ensures
    (says_not c.args.lang.now c.args.table.now c.args.derived.now c.args.names.now c.in-Not.inner c.in_ok-inner-in-Not.inner
    (of_part c.args.lang.now c.args.table.now c.args.derived.now c.args.names.now c.in-Not.inner c.get-in-Not.result.now c.in_ok-inner-in-Not.inner c.get-in-Not.ensures c.in_ok-inner-in-Not.ensures))

pub lower_form-returns-in_ok-many-in-Every : goal.lower_form-returns-in_ok-many-in-Every
lower_form-returns-in_ok-many-in-Every t c = told c.args.lang.now c.args.table.now c.args.derived.now c.args.names.now c.args.form.now (f.Every c.in-Every.quant) (b.Every c.in_ok-many-in-Every.many) c.new-in-Every.result c.in-Every.is c.new-in-Every.ensures
    (says_every c.args.lang.now c.args.table.now c.args.derived.now c.args.names.now c.in-Every.quant c.in_ok-many-in-Every.many c.in_ok-many-in-Every.ensures)

pub lower_form-returns-in_ok-many-in-Exists : goal.lower_form-returns-in_ok-many-in-Exists
lower_form-returns-in_ok-many-in-Exists t c = told c.args.lang.now c.args.table.now c.args.derived.now c.args.names.now c.args.form.now (f.Exists c.in-Exists.quant) (b.Exists c.in_ok-many-in-Exists.many) c.new-in-Exists.result c.in-Exists.is c.new-in-Exists.ensures
    (says_exists c.args.lang.now c.args.table.now c.args.derived.now c.args.names.now c.in-Exists.quant c.in_ok-many-in-Exists.many c.in_ok-many-in-Exists.ensures)

pub lower_form-returns-in-Truth : goal.lower_form-returns-in-Truth
lower_form-returns-in-Truth t c = told c.args.lang.now c.args.table.now c.args.derived.now c.args.names.now c.args.form.now (f.Truth c.in-Truth.value) (b.Truth c.in-Truth.value) c.new-in-Truth.result c.in-Truth.is c.new-in-Truth.ensures
    (says_truth c.args.lang.now c.args.table.now c.args.derived.now c.args.names.now c.in-Truth.value)

pub lower_form-returns-in-Pred : goal.lower_form-returns-in-Pred
lower_form-returns-in-Pred t c = told_pred c.args.lang.now c.args.table.now c.args.derived.now c.args.names.now c.args.form.now c.in-Pred.ask c.predicate.result c.in-Pred.is c.predicate.ensures

pub lower_form-returns-in-Cmp : goal.lower_form-returns-in-Cmp
lower_form-returns-in-Cmp t c = told c.args.lang.now c.args.table.now c.args.derived.now c.args.names.now c.args.form.now (f.Cmp c.in-Cmp.left c.in-Cmp.comp c.in-Cmp.right) (b.Compare c.operand-left.result c.in-Cmp.comp c.operand-right.result)
    c.new-in-Cmp.result c.in-Cmp.is c.new-in-Cmp.ensures
    (says_cmp c.args.lang.now c.args.table.now c.args.derived.now c.args.names.now c.in-Cmp.left c.in-Cmp.comp c.in-Cmp.right c.operand-left.result c.operand-right.result c.operand-left.ensures c.operand-right.ensures)

pub lower_quant-returns : goal.lower_quant-returns
lower_quant-returns t c = says_many c.args.lang.now c.args.table.now c.args.derived.now c.args.names.now c.args.quant.now c.in_ok-ranges.ranges c.in_ok-asks.asks c.in_ok-all.all c.in_ok-body.body
    (c.in_ok-all.ensures.is ∙ ap (λ vars. c.args.names.now ++ names_of vars) c.as_slice.ensures) c.in_ok-all.ensures.few
    (c.in_ok-ranges.ensures.is ∙ ap₂ (λ counts vars. map (range_of counts) vars) c.as_slice-2.ensures c.as_slice-3.ensures)
    (c.in_ok-asks.ensures ∙ ap₂ (λ all asks. map (asked_of c.args.lang.now all) asks) c.as_slice-4.ensures c.as_slice-5.ensures)
    (in_names c.args.lang.now c.args.table.now c.args.derived.now c.as_slice-6.result.now c.in_ok-all.all c.args.quant.now.body c.in_ok-body.body c.as_slice-6.ensures
    (of_part c.args.lang.now c.args.table.now c.args.derived.now c.as_slice-6.result.now c.args.quant.now.body c.get.result.now c.in_ok-body.body c.get.ensures c.in_ok-body.ensures))
