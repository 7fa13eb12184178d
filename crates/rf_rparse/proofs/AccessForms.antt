-- Where each access token holds one of the four access words, so does each access word of a formula that was read from them.
use Rattle.std.proofs.Common.{◌≡◌, ◌∙◌, ap, sym, refl, List, [], ◌∷◌, ◌++◌, Bool, true, false, ◌&&◌, IsTrue}
use Rattle.rf_rtree.specs.declared.forms.Comp.{Comp}
use Rattle.rf_rtree.specs.declared.forms.Quant.{Quant}
use Rattle.rf_rtree.specs.declared.forms.RForm.{RForm}
use Rattle.rf_rtree.specs.declared.forms.RForm.TheOpen.{RForm-F}
use Rattle.rf_rtree.specs.declared.forms.RForm.TheFolds.{fold-RForm, fold-roll-RForm, fold-roll-Quant}
use Rattle.rf_rtree.specs.declared.forms.RForm.TheVariants as f
use Rattle.rf_rtree.specs.declared.forms.RTerm.{RTerm}
use Rattle.rf_rtree.specs.declared.words.Ask.{Ask}
use Rattle.rf_rtree.specs.Accesses.{ACCESSES, term_has_words, quant_has_words, step_has_words, form_has_words}
use Rattle.rf_rtree.specs.Grammar.{items_of, vars_yield, asks_yield, asks_tree, ask_tree, prop, old, var, access, text, TermWay, term_yield, term_tree, comp_token, Whole, only, implies, Either, both, or, Both, tight, and, Tight, paren, quant, truth, predicate, compare, whole_yield, either_yield, both_yield, tight_yield, whole_tree, either_tree, both_tree, tight_tree}
use Rattle.rf_rtree.specs.Grammar as g
use Rattle.rf_rtree.specs.Kinds.{is_among}
use Rattle.rf_rtree.specs.Tokens.{Tok}
use Rattle.rf_rtree.specs.Tokens as t

abbrev pub FineTok : Tok → Type 0
FineTok (t.Access name line) = IsTrue (is_among name ACCESSES)
FineTok tok = Unit {0}

-- each access token has one of the four words
abbrev pub Fine : List Tok → Type 0
Fine [] = Unit {0}
Fine (tok ∷ toks) = FineTok tok × Fine toks

pub fine_left : (xs ys : List Tok) → Fine (xs ++ ys) → Fine xs
fine_left [] ys fine = tt
fine_left (x ∷ xs) ys fine = (fine.0, fine_left xs ys fine.1)

pub fine_right : (xs ys : List Tok) → Fine (xs ++ ys) → Fine ys
fine_right [] ys fine = fine
fine_right (x ∷ xs) ys fine = fine_right xs ys fine.1

pub both_true : (a b : Bool) → IsTrue a → IsTrue b → IsTrue (a && b)
both_true a b first second = ap (λ x. x && b) first ∙ second

has_implies : (a b : RForm) → form_has_words (f.Implies a b) ≡ (form_has_words a && form_has_words b)
unfolding form_has_words
has_implies a b = ap (fold-RForm Bool Bool step_has_words quant_has_words) (sym (f.rolls-Implies a b))
    ∙ fold-roll-RForm Bool Bool step_has_words quant_has_words (RForm-F.Implies a b)

has_or : (a b : RForm) → form_has_words (f.Or a b) ≡ (form_has_words a && form_has_words b)
unfolding form_has_words
has_or a b = ap (fold-RForm Bool Bool step_has_words quant_has_words) (sym (f.rolls-Or a b))
    ∙ fold-roll-RForm Bool Bool step_has_words quant_has_words (RForm-F.Or a b)

has_and : (a b : RForm) → form_has_words (f.And a b) ≡ (form_has_words a && form_has_words b)
unfolding form_has_words
has_and a b = ap (fold-RForm Bool Bool step_has_words quant_has_words) (sym (f.rolls-And a b))
    ∙ fold-roll-RForm Bool Bool step_has_words quant_has_words (RForm-F.And a b)

has_not : (a : RForm) → form_has_words (f.Not a) ≡ form_has_words a
unfolding form_has_words
has_not a = ap (fold-RForm Bool Bool step_has_words quant_has_words) (sym (f.rolls-Not a))
    ∙ fold-roll-RForm Bool Bool step_has_words quant_has_words (RForm-F.Not a)

has_every : (q : Quant) → form_has_words (f.Every q) ≡ form_has_words q.body
unfolding form_has_words
has_every q = ap (fold-RForm Bool Bool step_has_words quant_has_words) (sym (f.rolls-Every q))
    ∙ fold-roll-RForm Bool Bool step_has_words quant_has_words (RForm-F.Every q)
    ∙ fold-roll-Quant Bool Bool step_has_words quant_has_words
    (record { vars = q.vars; asks = q.asks; body = q.body })

has_exists : (q : Quant) → form_has_words (f.Exists q) ≡ form_has_words q.body
unfolding form_has_words
has_exists q = ap (fold-RForm Bool Bool step_has_words quant_has_words) (sym (f.rolls-Exists q))
    ∙ fold-roll-RForm Bool Bool step_has_words quant_has_words (RForm-F.Exists q)
    ∙ fold-roll-Quant Bool Bool step_has_words quant_has_words
    (record { vars = q.vars; asks = q.asks; body = q.body })

has_truth : (value : Bool) → form_has_words (f.Truth value) ≡ true
unfolding form_has_words
has_truth value = ap (fold-RForm Bool Bool step_has_words quant_has_words) (sym (f.rolls-Truth value))
    ∙ fold-roll-RForm Bool Bool step_has_words quant_has_words (RForm-F.Truth value)

has_pred : (ask : Ask) → form_has_words (f.Pred ask) ≡ true
unfolding form_has_words
has_pred ask = ap (fold-RForm Bool Bool step_has_words quant_has_words) (sym (f.rolls-Pred ask))
    ∙ fold-roll-RForm Bool Bool step_has_words quant_has_words (RForm-F.Pred ask)

has_cmp : (left : RTerm) (comp : Comp) (right : RTerm) →
    form_has_words (f.Cmp left comp right) ≡ (term_has_words left && term_has_words right)
unfolding form_has_words
has_cmp left comp right = ap (fold-RForm Bool Bool step_has_words quant_has_words) (sym (f.rolls-Cmp left comp right))
    ∙ fold-roll-RForm Bool Bool step_has_words quant_has_words (RForm-F.Cmp left comp right)

term_fine : (way : TermWay) → Fine (term_yield way) → IsTrue (term_has_words (term_tree way))
term_fine (prop elem name) fine = refl
term_fine (old line elem name) fine = refl
term_fine (var name) fine = refl
term_fine (access name) fine = fine.0
term_fine (text name) fine = refl

mutual
  pub whole_fine : (x : Whole) → Fine (whole_yield x) → IsTrue (form_has_words (whole_tree x))
  whole_fine (only a) fine = either_fine a fine
  whole_fine (implies a b) fine = has_implies (either_tree a) (whole_tree b) ∙ both_true _ _
      (either_fine a (fine_left (either_yield a) (t.Implies ∷ whole_yield b) fine))
      (whole_fine b (fine_right (either_yield a) (t.Implies ∷ whole_yield b) fine).1)

  either_fine : (x : Either) → Fine (either_yield x) → IsTrue (form_has_words (either_tree x))
  either_fine (both a) fine = both_fine a fine
  either_fine (or a b) fine = has_or (either_tree a) (both_tree b) ∙ both_true _ _
      (either_fine a (fine_left (either_yield a) (t.Or ∷ both_yield b) fine))
      (both_fine b (fine_right (either_yield a) (t.Or ∷ both_yield b) fine).1)

  both_fine : (x : Both) → Fine (both_yield x) → IsTrue (form_has_words (both_tree x))
  both_fine (tight a) fine = tight_fine a fine
  both_fine (and a b) fine = has_and (both_tree a) (tight_tree b) ∙ both_true _ _
      (both_fine a (fine_left (both_yield a) (t.And ∷ tight_yield b) fine))
      (tight_fine b (fine_right (both_yield a) (t.And ∷ tight_yield b) fine).1)

  tight_fine : (x : Tight) → Fine (tight_yield x) → IsTrue (form_has_words (tight_tree x))
  tight_fine (g.not a) fine = has_not (tight_tree a) ∙ tight_fine a fine.1
  tight_fine (paren a) fine = whole_fine a (fine_left (whole_yield a) (t.Right ∷ []) fine.1)
  tight_fine (quant true vars few asks body) fine =
      has_every (record { vars = items_of vars; asks = asks_tree asks; body = whole_tree body })
      ∙ whole_fine body (fine_left (whole_yield body) (t.Right ∷ []) (fine_right (asks_yield asks)
      (t.Colon ∷ t.Left ∷ (whole_yield body ++ t.Right ∷ [])) (fine_right (vars_yield vars)
      (asks_yield asks ++ (t.Colon ∷ t.Left ∷ (whole_yield body ++ t.Right ∷ []))) fine.1)).1.1)
  tight_fine (quant false vars few asks body) fine =
      has_exists (record { vars = items_of vars; asks = asks_tree asks; body = whole_tree body })
      ∙ whole_fine body (fine_left (whole_yield body) (t.Right ∷ []) (fine_right (asks_yield asks)
      (t.Colon ∷ t.Left ∷ (whole_yield body ++ t.Right ∷ [])) (fine_right (vars_yield vars)
      (asks_yield asks ++ (t.Colon ∷ t.Left ∷ (whole_yield body ++ t.Right ∷ []))) fine.1)).1.1)
  tight_fine (truth value) fine = has_truth value
  tight_fine (predicate ask) fine = has_pred (ask_tree ask)
  tight_fine (compare left how right) fine = has_cmp (term_tree left) how (term_tree right) ∙ both_true _ _
      (term_fine left (fine_left (term_yield left) (comp_token how ∷ term_yield right) fine))
      (term_fine right (fine_right (term_yield left) (comp_token how ∷ term_yield right) fine).1)
