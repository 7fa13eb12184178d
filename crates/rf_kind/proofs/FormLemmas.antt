-- The first fault of each form of a formula, by those of its parts.
use Rattle.std.proofs.Common.{◌≡◌, ◌∙◌, ap, sym, List, ◌∷◌, Option, None, Bool}
use Rattle.rf_rtree.specs.declared.forms.Comp.{Comp}
use Rattle.rf_rtree.specs.declared.forms.Quant.{Quant}
use Rattle.rf_rtree.specs.declared.forms.RForm.{RForm}
use Rattle.rf_rtree.specs.declared.forms.RForm.TheOpen.{RForm-F}
use Rattle.rf_rtree.specs.declared.forms.RForm.TheFolds.{fold-RForm, fold-roll-RForm, fold-Quant, fold-roll-Quant}
use Rattle.rf_rtree.specs.declared.forms.RForm.TheVariants as f
use Rattle.rf_rtree.specs.declared.forms.RTerm.{RTerm}
use Rattle.rf_rtree.specs.declared.words.Ask.{Ask}
use Rattle.rf_rtree.specs.declared.words.RVar.{RVar}
use Rattle.rf_rtree.specs.Asks.{Known, predicate_fault}
use Rattle.rf_rtree.specs.Compared.{comparison_fault}
use Rattle.rf_rtree.specs.Faults.{or_later}
use Rattle.rf_rtree.specs.Programs.{Part, form_step, quant_step, form_fault, quant_fault}

-- the first of two formulas' faults
abbrev pub both_fault : Known → RForm → RForm → Part
both_fault known left right scope = or_later (form_fault known left scope) (form_fault known right scope)

pub fault_implies : (known : Known) (a b : RForm) (scope : List (List RVar)) →
    form_fault known (f.Implies a b) scope ≡ both_fault known a b scope
unfolding form_fault
fault_implies known a b scope = ap (λ (part : Part). part scope)
    (ap (fold-RForm Part Part (form_step known) (quant_step known)) (sym (f.rolls-Implies a b))
    ∙ fold-roll-RForm Part Part (form_step known) (quant_step known) (RForm-F.Implies a b))

pub fault_or : (known : Known) (a b : RForm) (scope : List (List RVar)) →
    form_fault known (f.Or a b) scope ≡ both_fault known a b scope
unfolding form_fault
fault_or known a b scope = ap (λ (part : Part). part scope)
    (ap (fold-RForm Part Part (form_step known) (quant_step known)) (sym (f.rolls-Or a b))
    ∙ fold-roll-RForm Part Part (form_step known) (quant_step known) (RForm-F.Or a b))

pub fault_and : (known : Known) (a b : RForm) (scope : List (List RVar)) →
    form_fault known (f.And a b) scope ≡ both_fault known a b scope
unfolding form_fault
fault_and known a b scope = ap (λ (part : Part). part scope)
    (ap (fold-RForm Part Part (form_step known) (quant_step known)) (sym (f.rolls-And a b))
    ∙ fold-roll-RForm Part Part (form_step known) (quant_step known) (RForm-F.And a b))

pub fault_not : (known : Known) (a : RForm) (scope : List (List RVar)) →
    form_fault known (f.Not a) scope ≡ form_fault known a scope
unfolding form_fault
fault_not known a scope = ap (λ (part : Part). part scope)
    (ap (fold-RForm Part Part (form_step known) (quant_step known)) (sym (f.rolls-Not a))
    ∙ fold-roll-RForm Part Part (form_step known) (quant_step known) (RForm-F.Not a))

pub fault_every : (known : Known) (q : Quant) (scope : List (List RVar)) →
    form_fault known (f.Every q) scope ≡ quant_fault known q scope
unfolding form_fault
fault_every known q scope = ap (λ (part : Part). part scope)
    (ap (fold-RForm Part Part (form_step known) (quant_step known)) (sym (f.rolls-Every q))
    ∙ fold-roll-RForm Part Part (form_step known) (quant_step known) (RForm-F.Every q)
    ∙ fold-roll-Quant Part Part (form_step known) (quant_step known)
    (record { vars = q.vars; asks = q.asks; body = q.body }))

pub fault_exists : (known : Known) (q : Quant) (scope : List (List RVar)) →
    form_fault known (f.Exists q) scope ≡ quant_fault known q scope
unfolding form_fault
fault_exists known q scope = ap (λ (part : Part). part scope)
    (ap (fold-RForm Part Part (form_step known) (quant_step known)) (sym (f.rolls-Exists q))
    ∙ fold-roll-RForm Part Part (form_step known) (quant_step known) (RForm-F.Exists q)
    ∙ fold-roll-Quant Part Part (form_step known) (quant_step known)
    (record { vars = q.vars; asks = q.asks; body = q.body }))

pub fault_truth : (known : Known) (value : Bool) (scope : List (List RVar)) →
    form_fault known (f.Truth value) scope ≡ None
unfolding form_fault
fault_truth known value scope = ap (λ (part : Part). part scope)
    (ap (fold-RForm Part Part (form_step known) (quant_step known)) (sym (f.rolls-Truth value))
    ∙ fold-roll-RForm Part Part (form_step known) (quant_step known) (RForm-F.Truth value))

pub fault_pred : (known : Known) (ask : Ask) (scope : List (List RVar)) →
    form_fault known (f.Pred ask) scope ≡ predicate_fault known scope ask
unfolding form_fault
fault_pred known ask scope = ap (λ (part : Part). part scope)
    (ap (fold-RForm Part Part (form_step known) (quant_step known)) (sym (f.rolls-Pred ask))
    ∙ fold-roll-RForm Part Part (form_step known) (quant_step known) (RForm-F.Pred ask))

pub fault_cmp : (known : Known) (left : RTerm) (comp : Comp) (right : RTerm) (scope : List (List RVar)) →
    form_fault known (f.Cmp left comp right) scope ≡ comparison_fault scope left comp right
unfolding form_fault
fault_cmp known left comp right scope = ap (λ (part : Part). part scope)
    (ap (fold-RForm Part Part (form_step known) (quant_step known)) (sym (f.rolls-Cmp left comp right))
    ∙ fold-roll-RForm Part Part (form_step known) (quant_step known) (RForm-F.Cmp left comp right))
