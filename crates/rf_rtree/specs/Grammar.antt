-- The grammar of the rule language: the ways to read a text, by levels, so that precedence and association are in their
-- types. Redundant parentheses are other ways to the same tree.
use Rattle.std.specs.Prelude.{ℕ, List, [], ◌∷◌, ◌++◌, Bool, true, false, length, nat_le, IsTrue, codes}
use Rattle.rf_rtree.specs.declared.forms.Comp.{Comp}
use Rattle.rf_rtree.specs.declared.forms.Comp.TheVariants as comp
use Rattle.rf_rtree.specs.declared.forms.Quant.{Quant}
use Rattle.rf_rtree.specs.declared.forms.RForm.{RForm}
use Rattle.rf_rtree.specs.declared.forms.RForm.TheVariants as form
use Rattle.rf_rtree.specs.declared.forms.RTerm.{RTerm}
use Rattle.rf_rtree.specs.declared.forms.RTerm.TheVariants as term
use Rattle.rf_rtree.specs.declared.items.Item.{Item}
use Rattle.rf_rtree.specs.declared.items.RuleProg.{RuleProg}
use Rattle.rf_rtree.specs.declared.words.Ask.{Ask}
use Rattle.rf_rtree.specs.declared.words.RVar.{RVar}
use Rattle.rf_rtree.specs.declared.words.Word.{Word}
use Rattle.rf_rtree.specs.Tokens.{Tok}
use Rattle.rf_rtree.specs.Tokens as t

abbrev pub word : List ℕ → ℕ → Word
word text line = record { text = text; line = line }

-- a name where it stands
abbrev pub name_of : Word → Tok
name_of name = t.Name name.text name.line

-- `x {"," x}`, to the left
pub data Listed (X : Type 0) : Type 0 where
  one : X → Listed X
  next : Listed X → X → Listed X

abbrev pub items_of : {X : Type 0} → Listed X → List X
items_of (one x) = x ∷ []
items_of (next xs x) = items_of xs ++ x ∷ []

abbrev pub listed_yield : {X : Type 0} → (X → List Tok) → Listed X → List Tok
listed_yield yield (one x) = yield x
listed_yield yield (next xs x) = listed_yield yield xs ++ (t.Comma ∷ yield x)

-- `NAME : KIND`
abbrev pub var_yield : RVar → List Tok
var_yield var = name_of var.name ∷ t.Colon ∷ name_of var.kind ∷ []

abbrev pub vars_yield : Listed RVar → List Tok
vars_yield = listed_yield var_yield

-- one to four variables
abbrev pub AtMostFour : Listed RVar → Type 0
AtMostFour vars = IsTrue (nat_le (length (items_of vars)) 4)

-- `NAME ( NAME {"," NAME} )`
pub record AskWay : Type 0 where
  pub name : Word
  pub args : Listed Word

abbrev pub arg_yield : Word → List Tok
arg_yield arg = name_of arg ∷ []

abbrev pub ask_yield : AskWay → List Tok
ask_yield way = name_of way.name ∷ t.Left ∷ (listed_yield arg_yield way.args ++ t.Right ∷ [])

abbrev pub ask_tree : AskWay → Ask
ask_tree way = record { name = way.name; args = items_of way.args }

-- `["if" queries]`
pub data AsksWay : Type 0 where
  none : AsksWay
  asked : Listed AskWay → AsksWay

abbrev pub asks_yield : AsksWay → List Tok
asks_yield none = []
asks_yield (asked ways) = t.If ∷ listed_yield ask_yield ways

abbrev pub trees_of : List AskWay → List Ask
trees_of [] = []
trees_of (way ∷ ways) = ask_tree way ∷ trees_of ways

abbrev pub asks_tree : AsksWay → List Ask
asks_tree none = []
asks_tree (asked ways) = trees_of (items_of ways)

-- a property: a name, or the access word `package`
pub data PropWay : Type 0 where
  named : Word → PropWay
  word_package : ℕ → PropWay

abbrev pub prop_token : PropWay → Tok
prop_token (named name) = name_of name
prop_token (word_package line) = t.Access (codes "package") line

abbrev pub prop_word : PropWay → Word
prop_word (named name) = name
prop_word (word_package line) = word (codes "package") line

pub data TermWay : Type 0 where
  prop : Word → PropWay → TermWay
  old : ℕ → Word → PropWay → TermWay
  var : Word → TermWay
  access : Word → TermWay
  text : Word → TermWay

abbrev pub term_yield : TermWay → List Tok
term_yield (prop elem name) = name_of elem ∷ t.Dot ∷ prop_token name ∷ []
term_yield (old line elem name) =
    t.Old line ∷ t.Left ∷ name_of elem ∷ t.Dot ∷ prop_token name ∷ t.Right ∷ []
term_yield (var name) = name_of name ∷ []
term_yield (access name) = t.Access name.text name.line ∷ []
term_yield (text name) = t.Text name.text name.line ∷ []

abbrev pub term_tree : TermWay → RTerm
term_tree (prop elem name) = term.Prop elem (prop_word name)
term_tree (old line elem name) = term.Old line elem (prop_word name)
term_tree (var name) = term.Var name
term_tree (access name) = term.Access name
term_tree (text name) = term.Text name

abbrev pub comp_token : Comp → Tok
comp_token comp.Equal = t.Equal
comp_token comp.Unequal = t.Unequal
comp_token comp.AtMost = t.AtMost

-- what binds less tightly than `or`; `implies` to the right, `or` and `and` to the left
mutual
  pub data Whole : Type 0 where
    only : Either → Whole
    implies : Either → Whole → Whole

  pub data Either : Type 0 where
    both : Both → Either
    or : Either → Both → Either

  pub data Both : Type 0 where
    tight : Tight → Both
    and : Both → Tight → Both

  pub data Tight : Type 0 where
    not : Tight → Tight
    paren : Whole → Tight
    -- `all`, or `some` where the flag isn't set
    quant : Bool → (vars : Listed RVar) → AtMostFour vars → AsksWay → Whole → Tight
    truth : Bool → Tight
    predicate : AskWay → Tight
    compare : TermWay → Comp → TermWay → Tight

abbrev pub quant_token : Bool → Tok
quant_token true = t.All
quant_token false = t.Some

abbrev pub truth_token : Bool → Tok
truth_token true = t.True
truth_token false = t.False

abbrev mutual
  pub whole_yield : Whole → List Tok
  whole_yield (only a) = either_yield a
  whole_yield (implies a b) = either_yield a ++ (t.Implies ∷ whole_yield b)

  pub either_yield : Either → List Tok
  either_yield (both a) = both_yield a
  either_yield (or a b) = either_yield a ++ (t.Or ∷ both_yield b)

  pub both_yield : Both → List Tok
  both_yield (tight a) = tight_yield a
  both_yield (and a b) = both_yield a ++ (t.And ∷ tight_yield b)

  pub tight_yield : Tight → List Tok
  tight_yield (not a) = t.Not ∷ tight_yield a
  tight_yield (paren a) = t.Left ∷ (whole_yield a ++ t.Right ∷ [])
  tight_yield (quant every vars few asks body) = quant_token every ∷ (vars_yield vars ++
      (asks_yield asks ++ (t.Colon ∷ t.Left ∷ (whole_yield body ++ t.Right ∷ []))))
  tight_yield (truth value) = truth_token value ∷ []
  tight_yield (predicate ask) = ask_yield ask
  tight_yield (compare left how right) = term_yield left ++ (comp_token how ∷ term_yield right)

abbrev pub quant_tree : Bool → List RVar → List Ask → RForm → RForm
quant_tree true vars asks body = form.Every (record { vars = vars; asks = asks; body = body })
quant_tree false vars asks body = form.Exists (record { vars = vars; asks = asks; body = body })

abbrev mutual
  pub whole_tree : Whole → RForm
  whole_tree (only a) = either_tree a
  whole_tree (implies a b) = form.Implies (either_tree a) (whole_tree b)

  pub either_tree : Either → RForm
  either_tree (both a) = both_tree a
  either_tree (or a b) = form.Or (either_tree a) (both_tree b)

  pub both_tree : Both → RForm
  both_tree (tight a) = tight_tree a
  both_tree (and a b) = form.And (both_tree a) (tight_tree b)

  pub tight_tree : Tight → RForm
  tight_tree (not a) = form.Not (tight_tree a)
  tight_tree (paren a) = whole_tree a
  tight_tree (quant every vars few asks body) =
      quant_tree every (items_of vars) (asks_tree asks) (whole_tree body)
  tight_tree (truth value) = form.Truth value
  tight_tree (predicate ask) = form.Pred (ask_tree ask)
  tight_tree (compare left how right) = form.Cmp (term_tree left) how (term_tree right)

-- an item, and a file of items
pub record ItemWay : Type 0 where
  pub derive : Bool
  pub name : Word
  pub vars : Listed RVar
  pub few : AtMostFour vars
  pub asks : AsksWay
  pub body : Whole

abbrev pub head_token : Bool → Tok
head_token true = t.Derive
head_token false = t.Rule

abbrev pub body_token : Bool → Tok
body_token true = t.Means
body_token false = t.Then

abbrev pub item_yield : ItemWay → List Tok
item_yield way = head_token way.derive ∷ name_of way.name ∷ t.For ∷ (vars_yield way.vars ++
    (asks_yield way.asks ++ (body_token way.derive ∷ (whole_yield way.body ++ t.End ∷ []))))

abbrev pub item_tree : ItemWay → Item
item_tree way = record {
  derive = way.derive;
  name = way.name;
  vars = items_of way.vars;
  asks = asks_tree way.asks;
  body = whole_tree way.body;
}

abbrev pub items_yield : List ItemWay → List Tok
items_yield [] = []
items_yield (way ∷ ways) = item_yield way ++ items_yield ways

abbrev pub items_tree : List ItemWay → List Item
items_tree [] = []
items_tree (way ∷ ways) = item_tree way ∷ items_tree ways
