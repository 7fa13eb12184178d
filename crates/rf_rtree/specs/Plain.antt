-- The plain print of a program: one space between tokens, and parentheses only where the levels ask for them.
use Rattle.std.specs.Prelude.{ℕ, List, [], ◌∷◌, ◌++◌, Bool, true, false, codes, map, if◌then◌else◌}
use Rattle.rf_rtree.specs.declared.forms.Comp.{Comp}
use Rattle.rf_rtree.specs.declared.forms.Comp.TheVariants.{Equal, Unequal, AtMost}
use Rattle.rf_rtree.specs.declared.forms.RForm.{RForm}
use Rattle.rf_rtree.specs.declared.forms.RForm.TheOpen.{RForm-F, Quant-F}
use Rattle.rf_rtree.specs.declared.forms.RForm.TheFolds.{fold-RForm}
use Rattle.rf_rtree.specs.declared.forms.RTerm.{RTerm}
use Rattle.rf_rtree.specs.declared.forms.RTerm.TheVariants.{Prop, Old, Var, Access, Text}
use Rattle.rf_rtree.specs.declared.items.Item.{Item}
use Rattle.rf_rtree.specs.declared.items.RuleProg.{RuleProg}
use Rattle.rf_rtree.specs.declared.words.Ask.{Ask}
use Rattle.rf_rtree.specs.declared.words.RVar.{RVar}
use Rattle.rf_rtree.specs.declared.words.Word.{Word}

-- each text behind a comma and a space
abbrev pub after_commas : List (List ℕ) → List ℕ
after_commas [] = []
after_commas (text ∷ texts) = codes ", " ++ (text ++ after_commas texts)

-- a comma and a space between two texts
abbrev pub with_commas : List (List ℕ) → List ℕ
with_commas [] = []
with_commas (text ∷ texts) = text ++ after_commas texts

abbrev pub word_text : Word → List ℕ
word_text word = word.text

abbrev pub var_text : RVar → List ℕ
var_text var = var.name.text ++ (codes ": " ++ var.kind.text)

abbrev pub ask_text : Ask → List ℕ
ask_text ask = ask.name.text ++ (codes "(" ++ (with_commas (map word_text ask.args) ++ codes ")"))

abbrev pub prop_text : Word → Word → List ℕ
prop_text elem prop = elem.text ++ (codes "." ++ prop.text)

abbrev pub term_text : RTerm → List ℕ
term_text (Prop elem prop) = prop_text elem prop
term_text (Old line elem prop) = codes "old(" ++ (prop_text elem prop ++ codes ")")
term_text (Var word) = word.text
term_text (Access word) = word.text
term_text (Text word) = 34 ∷ (word.text ++ 34 ∷ [])

abbrev pub comp_text : Comp → List ℕ
comp_text Equal = codes " = "
comp_text Unequal = codes " != "
comp_text AtMost = codes " <= "

-- queries, where there are any, behind what stands before them
abbrev pub asks_text : List ℕ → List Ask → List ℕ
asks_text before [] = []
asks_text before (ask ∷ asks) = before ++ with_commas (map ask_text (ask ∷ asks))

-- the text of a formula at each level: as a whole, beside `or`, beside `and`, behind `not`
pub record Plains : Type 0 where
  pub whole : List ℕ
  pub either : List ℕ
  pub both : List ℕ
  pub tight : List ℕ

abbrev pub wrapped : List ℕ → List ℕ
wrapped text = codes "(" ++ (text ++ codes ")")

abbrev pub of_whole : List ℕ → Plains
of_whole text = record { whole = text; either = wrapped text; both = wrapped text; tight = wrapped text }

abbrev pub of_either : List ℕ → Plains
of_either text = record { whole = text; either = text; both = wrapped text; tight = wrapped text }

abbrev pub of_both : List ℕ → Plains
of_both text = record { whole = text; either = text; both = text; tight = wrapped text }

abbrev pub of_tight : List ℕ → Plains
of_tight text = record { whole = text; either = text; both = text; tight = text }

abbrev pub truth_text : Bool → List ℕ
truth_text true = codes "true"
truth_text false = codes "false"

-- `all` or `some` with its variables, its queries and its body
abbrev pub quant_step : Quant-F Plains (List ℕ) → List ℕ
quant_step quant = with_commas (map var_text quant.vars) ++
    (asks_text (codes " if ") quant.asks ++ (codes ": " ++ wrapped quant.body.whole))

abbrev pub form_step : RForm-F Plains (List ℕ) → Plains
form_step (RForm-F.Implies left right) = of_whole (left.either ++ (codes " implies " ++ right.whole))
form_step (RForm-F.Or left right) = of_either (left.either ++ (codes " or " ++ right.both))
form_step (RForm-F.And left right) = of_both (left.both ++ (codes " and " ++ right.tight))
form_step (RForm-F.Not inner) = of_tight (codes "not " ++ inner.tight)
form_step (RForm-F.Every quant) = of_tight (codes "all " ++ quant)
form_step (RForm-F.Exists quant) = of_tight (codes "some " ++ quant)
form_step (RForm-F.Truth value) = of_tight (truth_text value)
form_step (RForm-F.Pred ask) = of_tight (ask_text ask)
form_step (RForm-F.Cmp left comp right) = of_tight (term_text left ++ (comp_text comp ++ term_text right))

unfoldable pub plains : RForm → Plains
plains = fold-RForm Plains (List ℕ) form_step quant_step

abbrev pub head_word : Bool → List ℕ
head_word true = codes "derive "
head_word false = codes "rule "

abbrev pub body_word : Bool → List ℕ
body_word true = codes "means "
body_word false = codes "then "

-- four lines, or five where something is asked
abbrev pub item_text : Item → List ℕ
item_text item = head_word item.derive ++ (item.name.text ++ (10 ∷ codes "for " ++
    (with_commas (map var_text item.vars) ++ (asks_text (10 ∷ codes "if ") item.asks ++
    (10 ∷ (body_word item.derive ++ ((plains item.body).whole ++ 10 ∷ codes "end" ++ 10 ∷ [])))))))

abbrev pub items_text : List Item → List ℕ
items_text [] = []
items_text (item ∷ items) = item_text item ++ items_text items

-- the plain print of a program
abbrev pub plain : RuleProg → List ℕ
plain prog = items_text prog.items
