-- The access words of a program.
use Rattle.std.specs.Prelude.{ℕ, List, [], ◌∷◌, Bool, true, ◌&&◌, codes}
use Rattle.std.specs.List.{list_all}
use Rattle.rf_rtree.specs.declared.forms.RForm.{RForm}
use Rattle.rf_rtree.specs.declared.forms.RForm.TheOpen.{RForm-F, Quant-F}
use Rattle.rf_rtree.specs.declared.forms.RForm.TheFolds.{fold-RForm}
use Rattle.rf_rtree.specs.declared.forms.RTerm.{RTerm}
use Rattle.rf_rtree.specs.declared.forms.RTerm.TheVariants.{Prop, Old, Var, Access, Text}
use Rattle.rf_rtree.specs.declared.items.Item.{Item}
use Rattle.rf_rtree.specs.declared.items.RuleProg.{RuleProg}
use Rattle.rf_rtree.specs.Kinds.{is_among}

unfoldable pub ACCESSES : List (List ℕ)
ACCESSES = codes "private" ∷ codes "package" ∷ codes "protected" ∷ codes "public" ∷ []

-- an access word is one of the four
abbrev pub term_has_words : RTerm → Bool
term_has_words (Prop elem prop) = true
term_has_words (Old line elem prop) = true
term_has_words (Var word) = true
term_has_words (Access word) = is_among word.text ACCESSES
term_has_words (Text word) = true

abbrev pub quant_has_words : Quant-F Bool Bool → Bool
quant_has_words quant = quant.body

abbrev pub step_has_words : RForm-F Bool Bool → Bool
step_has_words (RForm-F.Implies left right) = left && right
step_has_words (RForm-F.Or left right) = left && right
step_has_words (RForm-F.And left right) = left && right
step_has_words (RForm-F.Not inner) = inner
step_has_words (RForm-F.Every quant) = quant
step_has_words (RForm-F.Exists quant) = quant
step_has_words (RForm-F.Truth value) = true
step_has_words (RForm-F.Pred ask) = true
step_has_words (RForm-F.Cmp left comp right) = term_has_words left && term_has_words right

unfoldable pub form_has_words : RForm → Bool
form_has_words = fold-RForm Bool Bool step_has_words quant_has_words

abbrev pub item_has_words : Item → Bool
item_has_words item = form_has_words item.body

-- each access word of the program is one of the four
abbrev pub has_access_words : RuleProg → Bool
has_access_words prog = list_all item_has_words prog.items
