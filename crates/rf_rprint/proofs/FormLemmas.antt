-- The texts of each form of a formula, by those of its parts.
use Rattle.std.proofs.Common.{◌≡◌, ◌∙◌, ap, sym, List, ◌∷◌, ◌++◌, Bool, codes, ℕ}
use Rattle.rf_rtree.specs.declared.forms.Comp.{Comp}
use Rattle.rf_rtree.specs.declared.forms.Quant.{Quant}
use Rattle.rf_rtree.specs.declared.forms.RForm.{RForm}
use Rattle.rf_rtree.specs.declared.forms.RForm.TheOpen.{RForm-F}
use Rattle.rf_rtree.specs.declared.forms.RForm.TheFolds.{fold-RForm, fold-roll-RForm, fold-Quant, fold-roll-Quant}
use Rattle.rf_rtree.specs.declared.forms.RForm.TheVariants as f
use Rattle.rf_rtree.specs.declared.forms.RTerm.{RTerm}
use Rattle.rf_rtree.specs.declared.words.Ask.{Ask}
use Rattle.rf_rtree.specs.Plain.{Plains, plains, form_step, quant_step, of_whole, of_either, of_both, of_tight, truth_text, ask_text, term_text, comp_text}
use Rattle.rf_rprint.specs.Levels.{quant_text}

pub plain_implies : (a b : RForm) → plains (f.Implies a b) ≡ of_whole ((plains a).either ++ (codes " implies " ++ (plains b).whole))
unfolding plains
plain_implies a b = ap (fold-RForm Plains (List ℕ) form_step quant_step) (sym (f.rolls-Implies a b))
    ∙ fold-roll-RForm Plains (List ℕ) form_step quant_step (RForm-F.Implies a b)

pub plain_or : (a b : RForm) → plains (f.Or a b) ≡ of_either ((plains a).either ++ (codes " or " ++ (plains b).both))
unfolding plains
plain_or a b = ap (fold-RForm Plains (List ℕ) form_step quant_step) (sym (f.rolls-Or a b))
    ∙ fold-roll-RForm Plains (List ℕ) form_step quant_step (RForm-F.Or a b)

pub plain_and : (a b : RForm) → plains (f.And a b) ≡ of_both ((plains a).both ++ (codes " and " ++ (plains b).tight))
unfolding plains
plain_and a b = ap (fold-RForm Plains (List ℕ) form_step quant_step) (sym (f.rolls-And a b))
    ∙ fold-roll-RForm Plains (List ℕ) form_step quant_step (RForm-F.And a b)

pub plain_not : (a : RForm) → plains (f.Not a) ≡ of_tight (codes "not " ++ (plains a).tight)
unfolding plains
plain_not a = ap (fold-RForm Plains (List ℕ) form_step quant_step) (sym (f.rolls-Not a))
    ∙ fold-roll-RForm Plains (List ℕ) form_step quant_step (RForm-F.Not a)

pub plain_every : (q : Quant) → plains (f.Every q) ≡ of_tight (codes "all " ++ quant_text q)
unfolding plains
plain_every q = ap (fold-RForm Plains (List ℕ) form_step quant_step) (sym (f.rolls-Every q))
    ∙ fold-roll-RForm Plains (List ℕ) form_step quant_step (RForm-F.Every q)
    ∙ ap (λ (text : List ℕ). of_tight (codes "all " ++ text))
    (fold-roll-Quant Plains (List ℕ) form_step quant_step
    (record { vars = q.vars; asks = q.asks; body = q.body }))

pub plain_exists : (q : Quant) → plains (f.Exists q) ≡ of_tight (codes "some " ++ quant_text q)
unfolding plains
plain_exists q = ap (fold-RForm Plains (List ℕ) form_step quant_step) (sym (f.rolls-Exists q))
    ∙ fold-roll-RForm Plains (List ℕ) form_step quant_step (RForm-F.Exists q)
    ∙ ap (λ (text : List ℕ). of_tight (codes "some " ++ text))
    (fold-roll-Quant Plains (List ℕ) form_step quant_step
    (record { vars = q.vars; asks = q.asks; body = q.body }))

pub plain_truth : (value : Bool) → plains (f.Truth value) ≡ of_tight (truth_text value)
unfolding plains
plain_truth value = ap (fold-RForm Plains (List ℕ) form_step quant_step) (sym (f.rolls-Truth value))
    ∙ fold-roll-RForm Plains (List ℕ) form_step quant_step (RForm-F.Truth value)

pub plain_pred : (ask : Ask) → plains (f.Pred ask) ≡ of_tight (ask_text ask)
unfolding plains
plain_pred ask = ap (fold-RForm Plains (List ℕ) form_step quant_step) (sym (f.rolls-Pred ask))
    ∙ fold-roll-RForm Plains (List ℕ) form_step quant_step (RForm-F.Pred ask)

pub plain_cmp : (left : RTerm) (comp : Comp) (right : RTerm) → plains (f.Cmp left comp right) ≡ of_tight (term_text left ++ (comp_text comp ++ term_text right))
unfolding plains
plain_cmp left comp right = ap (fold-RForm Plains (List ℕ) form_step quant_step) (sym (f.rolls-Cmp left comp right))
    ∙ fold-roll-RForm Plains (List ℕ) form_step quant_step (RForm-F.Cmp left comp right)

-- and the text of each as a whole
pub whole_implies : (a b : RForm) → (plains (f.Implies a b)).whole ≡ (plains a).either ++ (codes " implies " ++ (plains b).whole)
whole_implies a b = ap (λ (texts : Plains). texts.whole) (plain_implies a b)

pub whole_or : (a b : RForm) → (plains (f.Or a b)).whole ≡ (plains a).either ++ (codes " or " ++ (plains b).both)
whole_or a b = ap (λ (texts : Plains). texts.whole) (plain_or a b)

pub whole_and : (a b : RForm) → (plains (f.And a b)).whole ≡ (plains a).both ++ (codes " and " ++ (plains b).tight)
whole_and a b = ap (λ (texts : Plains). texts.whole) (plain_and a b)

pub whole_not : (a : RForm) → (plains (f.Not a)).whole ≡ codes "not " ++ (plains a).tight
whole_not a = ap (λ (texts : Plains). texts.whole) (plain_not a)

pub whole_every : (q : Quant) → (plains (f.Every q)).whole ≡ codes "all " ++ quant_text q
whole_every q = ap (λ (texts : Plains). texts.whole) (plain_every q)

pub whole_exists : (q : Quant) → (plains (f.Exists q)).whole ≡ codes "some " ++ quant_text q
whole_exists q = ap (λ (texts : Plains). texts.whole) (plain_exists q)

pub whole_truth : (value : Bool) → (plains (f.Truth value)).whole ≡ truth_text value
whole_truth value = ap (λ (texts : Plains). texts.whole) (plain_truth value)

pub whole_pred : (ask : Ask) → (plains (f.Pred ask)).whole ≡ ask_text ask
whole_pred ask = ap (λ (texts : Plains). texts.whole) (plain_pred ask)

pub whole_cmp : (left : RTerm) (comp : Comp) (right : RTerm) → (plains (f.Cmp left comp right)).whole ≡ term_text left ++ (comp_text comp ++ term_text right)
whole_cmp left comp right = ap (λ (texts : Plains). texts.whole) (plain_cmp left comp right)
