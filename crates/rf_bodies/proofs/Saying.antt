-- A body over numbers says what the one over names says, if its parts do.
use Rattle.std.proofs.Common.{◌≡◌, ℕ, suc, Bool, true, false, cond, List, [], ◌∷◌, ◌++◌, ◌<◌, length, Option, Some, IfOk, codes, map, find, position, slice_get, refl, sym, ap, ap₂, ◌∙◌, subst}
use Rattle.std.specs.Str.{bytes_eq}
use Rattle.std.specs.declared.result.Result.{Result}
use Rattle.std.proofs.lemmas.Result.{IfOk-weaker}
use Rattle.std.proofs.lemmas.Bool.{cond-true, cond-false}
use Rattle.rf_facts.specs.declared.properties.PropTable.{PropTable}
use Rattle.rf_form.specs.declared.forms.Term.TheVariants.{Const}
use Rattle.rf_form.specs.Formulas.{Formula, Neg, AllOf, AnyOf}
use Rattle.rf_form.specs.Shown.{listed}
use Rattle.rf_inst.specs.Bindings.{Bound, element_of}
use Rattle.rf_inst.specs.Directs.{Derived, atom, boolean, both, direct, is_named, is_one, predicate, slot_value}
use Rattle.rf_inst.specs.Values.{Value, Known, is_of, named, now_of, old_of, property_of}
use Rattle.rf_join.specs.declared.queries.Asked.{Asked}
use Rattle.rf_join.specs.declared.queries.Range.{Range}
use Rattle.rf_join.specs.Joins.{all_met, going_on, number_at}
use Rattle.rf_pairs.specs.Places.{NOWHERE, Shows, asked_of, names_of, place_of, range_of}
use Rattle.rf_pairs.proofs.Pairing.{each_pair}
use Rattle.rf_rtree.specs.Accesses.{ACCESSES}
use Rattle.rf_rtree.specs.declared.forms.Comp.{Comp}
use Rattle.rf_rtree.specs.declared.forms.Quant.{Quant}
use Rattle.rf_rtree.specs.declared.forms.RForm.{RForm}
use Rattle.rf_rtree.specs.declared.forms.RForm.TheVariants as f
use Rattle.rf_rtree.specs.declared.forms.RTerm.{RTerm}
use Rattle.rf_rtree.specs.declared.forms.RTerm.TheVariants as term
use Rattle.rf_rtree.specs.declared.language.Lang.{Lang}
use Rattle.rf_rtree.specs.declared.words.Ask.{Ask}
use Rattle.rf_rtree.specs.declared.words.Word.{Word}
use Rattle.rf_bodies.specs.declared.bodies.Body.{Body}
use Rattle.rf_bodies.specs.declared.bodies.Body.TheVariants as b
use Rattle.rf_bodies.specs.declared.bodies.Many.{Many}
use Rattle.rf_bodies.specs.declared.bodies.Operand.{Operand}
use Rattle.rf_bodies.specs.declared.bodies.Operand.TheVariants as operand
use Rattle.rf_bodies.specs.Bodies.{at_numbers}
use Rattle.rf_bodies.specs.Lowered.{Says, SaysMany, Stands, IsPredicate, number_in}
use Rattle.rf_bodies.proofs.Nodes.{direct_implies, direct_or, direct_and, direct_not, direct_every, direct_exists, direct_truth, direct_pred, direct_cmp, at_implies, at_or, at_and, at_not, at_every, at_exists, at_truth, at_slot, at_derived, at_compare}

-- the words of a query have the numbers at their places
words_are : (names : List (List ℕ)) (taken : List ℕ) (scope : List Bound) → Shows names taken scope → (words : List Word)
    → map (number_at taken) (map (λ word. place_of names word.text) words) ≡ map (element_of scope) words
words_are names taken scope shows [] = refl
words_are names taken scope shows (word ∷ words) = ap₂ (λ (n : ℕ) (ns : List ℕ). n ∷ ns) (sym (shows.numbers word)) (words_are names taken scope shows words)

-- the first predicate of a name stands at its number
find_is : (name : List ℕ) (all : List Derived) → find (is_named name) all ≡ slice_get all (number_in (map (λ (one : Derived). one.name) all) name)
find_is name [] = refl
find_is name (one ∷ all) = by (bytes_eq one.name name) (find_is name all)
  where
    by : (is : Bool) → find (is_named name) all ≡ slice_get all (number_in (map (λ (one : Derived). one.name) all) name)
        → cond is (Some one) (find (is_named name) all) ≡ slice_get (one ∷ all) (cond is 0 (suc (number_in (map (λ (one : Derived). one.name) all) name)))
    by true rest = refl
    by false rest = rest

pub slot_says : (derived names : List (List ℕ)) (ask : Ask) (args : List ℕ) → bytes_eq (codes "slot") ask.name.text ≡ true
    → args ≡ map (λ word. place_of names word.text) ask.args → IsPredicate derived names ask (b.Slot args)
slot_says derived names ask args is e = λ world has taken scope shows. at_slot world args taken
    ∙ (ap (λ (ns : List ℕ). is_one (slot_value world ns)) (ap (map (number_at taken)) e ∙ words_are names taken scope shows ask.args)
    ∙ sym (ap is_one (cond-true (bytes_eq (codes "slot") ask.name.text) (slot_value world (map (element_of scope) ask.args)) (boolean (find (is_named ask.name.text) world.derived) (map (element_of scope) ask.args)) is)))

pub derived_says : (derived names : List (List ℕ)) (ask : Ask) (which : ℕ) (args : List ℕ) → bytes_eq (codes "slot") ask.name.text ≡ false
    → args ≡ map (λ word. place_of names word.text) ask.args → which ≡ number_in derived ask.name.text → IsPredicate derived names ask (b.Derived which args)
derived_says derived names ask which args is e w = λ world has taken scope shows. at_derived world which args taken
    ∙ (ap₂ (λ (one : Option Derived) (ns : List ℕ). is_one (boolean one ns))
    (ap (slice_get world.derived) (w ∙ ap (λ (all : List (List ℕ)). number_in all ask.name.text) (sym has)) ∙ sym (find_is ask.name.text world.derived))
    (ap (map (number_at taken)) e ∙ words_are names taken scope shows ask.args)
    ∙ sym (ap is_one (cond-false (bytes_eq (codes "slot") ask.name.text) (slot_value world (map (element_of scope) ask.args)) (boolean (find (is_named ask.name.text) world.derived) (map (element_of scope) ask.args)) is)))

pub now_stands : (table : PropTable) (names : List (List ℕ)) (elem prop : Word) (place p : ℕ) → place ≡ place_of names elem.text → p ≡ property_of prop.text
    → Stands table names (term.Prop elem prop) (operand.Now place p)
now_stands table names elem prop place p e d = λ world is taken scope shows.
    ap₂ (λ (n k : ℕ). now_of world.table (is_of k n)) (ap (number_at taken) e ∙ sym (shows.numbers elem)) d

pub old_stands : (table : PropTable) (names : List (List ℕ)) (line : ℕ) (elem prop : Word) (place p : ℕ) → place ≡ place_of names elem.text → p ≡ property_of prop.text
    → Stands table names (term.Old line elem prop) (operand.Old place p)
old_stands table names line elem prop place p e d = λ world is taken scope shows.
    ap₂ (λ (n k : ℕ). old_of world.table (is_of k n)) (ap (number_at taken) e ∙ sym (shows.numbers elem)) d

pub element_stands : (table : PropTable) (names : List (List ℕ)) (word : Word) (place : ℕ) → place ≡ place_of names word.text
    → Stands table names (term.Var word) (operand.Element place)
element_stands table names word place e = λ world is taken scope shows.
    ap (λ (n : ℕ). Known (Const n)) (ap (number_at taken) e ∙ sym (shows.numbers word))

pub access_stands : (table : PropTable) (names : List (List ℕ)) (word : Word) (place : Option ℕ) → place ≡ position (bytes_eq word.text) ACCESSES
    → Stands table names (term.Access word) (operand.Fixed place)
access_stands table names word place e = λ world is taken scope shows. ap named e

pub text_stands : (table : PropTable) (names : List (List ℕ)) (word : Word) (place : Option ℕ) → place ≡ position (bytes_eq word.text) table.names
    → Stands table names (term.Text word) (operand.Fixed place)
text_stands table names word place e = λ world is taken scope shows.
    ap named (e ∙ ap (λ (t : PropTable). position (bytes_eq word.text) t.names) (sym is))

module _ (lang : Lang) (table : PropTable) (derived names : List (List ℕ)) where
  pub says_implies : (x y : RForm) (p q : Body) → Says lang table derived names x p → Says lang table derived names y q
      → Says lang table derived names (f.Implies x y) (b.Implies p q)
  says_implies x y p q one other = λ world has taken scope shows. at_implies world p q taken
      ∙ (ap₂ (λ (g h : Formula). AnyOf (both (Neg g) h)) (one world has taken scope shows) (other world has taken scope shows) ∙ sym (direct_implies world x y scope))

  pub says_or : (x y : RForm) (p q : Body) → Says lang table derived names x p → Says lang table derived names y q
      → Says lang table derived names (f.Or x y) (b.Or p q)
  says_or x y p q one other = λ world has taken scope shows. at_or world p q taken
      ∙ (ap₂ (λ (g h : Formula). AnyOf (both g h)) (one world has taken scope shows) (other world has taken scope shows) ∙ sym (direct_or world x y scope))

  pub says_and : (x y : RForm) (p q : Body) → Says lang table derived names x p → Says lang table derived names y q
      → Says lang table derived names (f.And x y) (b.And p q)
  says_and x y p q one other = λ world has taken scope shows. at_and world p q taken
      ∙ (ap₂ (λ (g h : Formula). AllOf (both g h)) (one world has taken scope shows) (other world has taken scope shows) ∙ sym (direct_and world x y scope))

  pub says_not : (x : RForm) (p : Body) → Says lang table derived names x p → Says lang table derived names (f.Not x) (b.Not p)
  says_not x p one = λ world has taken scope shows. at_not world p taken ∙ (ap Neg (one world has taken scope shows) ∙ sym (direct_not world x scope))

  pub says_every : (q : Quant) (m : Many) → SaysMany lang table derived names q m → Says lang table derived names (f.Every q) (b.Every m)
  says_every q m one = λ world has taken scope shows. at_every world m taken ∙ (ap AllOf (one world has taken scope shows) ∙ sym (direct_every world q scope))

  pub says_exists : (q : Quant) (m : Many) → SaysMany lang table derived names q m → Says lang table derived names (f.Exists q) (b.Exists m)
  says_exists q m one = λ world has taken scope shows. at_exists world m taken ∙ (ap AnyOf (one world has taken scope shows) ∙ sym (direct_exists world q scope))

  pub says_truth : (value : Bool) → Says lang table derived names (f.Truth value) (b.Truth value)
  says_truth value = λ world has taken scope shows. at_truth world value taken ∙ sym (direct_truth world value scope)

  pub says_pred : (ask : Ask) (p : Body) → IsPredicate derived names ask p → Says lang table derived names (f.Pred ask) p
  says_pred ask p one = λ world has taken scope shows. one world has.is_derived taken scope shows ∙ sym (direct_pred world ask scope)

  pub says_cmp : (left : RTerm) (how : Comp) (right : RTerm) (p q : Operand) → Stands table names left p → Stands table names right q
      → Says lang table derived names (f.Cmp left how right) (b.Compare p how q)
  says_cmp left how right p q one other = λ world has taken scope shows. at_compare world p how q taken
      ∙ (ap₂ (λ (v w : Value). atom v how w) (one world has.is_table taken scope shows) (other world has.is_table taken scope shows) ∙ sym (direct_cmp world left how right scope))

  pub says_many : (q : Quant) (ranges : List Range) (asks : List Asked) (all : List (List ℕ)) (p : Body) → all ≡ names ++ names_of q.vars → length all < NOWHERE
      → ranges ≡ map (range_of table.counts) q.vars → asks ≡ map (asked_of lang all) q.asks → Says lang table derived all q.body p
      → SaysMany lang table derived names q (record { ranges = ranges; asks = asks; body = p })
  says_many q ranges asks all p e few is_ranges is_asks one = λ world has taken scope shows.
      ap₂ (λ (asked : List Asked) (rs : List Range). listed (map (at_numbers world p) (going_on (all_met world.scene.facts asked) rs taken)))
      (is_asks ∙ ap (λ (l : Lang). map (asked_of l all) q.asks) (sym has.is_lang))
      (is_ranges ∙ ap (λ (c : List ℕ). map (range_of c) q.vars) (sym has.is_counts))
      ∙ ap listed (each_pair world.scene all (at_numbers world p) (direct world q.body) q.asks few (one world has) q.vars names taken scope (sym e) shows)

  pub told : {X : Type 0} (form inner : RForm) (p : Body) (result : Result Body X) → form ≡ inner → IfOk result (λ body. body ≡ p) → Says lang table derived names inner p
      → IfOk result (λ body. Says lang table derived names form body)
  told form inner p result is made says = IfOk-weaker result (λ body. body ≡ p) (λ body. Says lang table derived names form body)
      (λ body e. subst (λ (x : RForm). Says lang table derived names x body) (sym is) (subst (Says lang table derived names inner) (sym e) says)) made

  pub told_pred : {X : Type 0} (form : RForm) (ask : Ask) (result : Result Body X) → form ≡ f.Pred ask → IfOk result (IsPredicate derived names ask)
      → IfOk result (λ body. Says lang table derived names form body)
  told_pred form ask result is one = IfOk-weaker result (IsPredicate derived names ask) (λ body. Says lang table derived names form body)
      (λ body says. subst (λ (x : RForm). Says lang table derived names x body) (sym is) (says_pred ask body says)) one

-- a predicate that was made is the one that was meant
pub told_predicate : {X : Type 0} (derived names : List (List ℕ)) (ask : Ask) (p : Body) (result : Result Body X) → IfOk result (λ body. body ≡ p) → IsPredicate derived names ask p
    → IfOk result (IsPredicate derived names ask)
told_predicate derived names ask p result made says = IfOk-weaker result (λ body. body ≡ p) (IsPredicate derived names ask)
    (λ body e. subst (IsPredicate derived names ask) (sym e) says) made

pub of_part : (lang : Lang) (table : PropTable) (derived names : List (List ℕ)) (x y : RForm) (p : Body) → y ≡ x → Says lang table derived names y p → Says lang table derived names x p
of_part lang table derived names x y p is says = subst (λ (form : RForm). Says lang table derived names form p) is says

pub in_names : (lang : Lang) (table : PropTable) (derived names all : List (List ℕ)) (x : RForm) (p : Body) → names ≡ all → Says lang table derived names x p → Says lang table derived all x p
in_names lang table derived names all x p is says = subst (λ (ns : List (List ℕ)). Says lang table derived ns x p) is says
