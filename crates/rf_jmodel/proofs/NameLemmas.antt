-- Names that are put one behind the other, and which texts are among them.
use Rattle.std.proofs.Common.{◌≡◌, ℕ, zero, suc, ◌⊎◌, Bool, true, false, cond, List, [], ◌∷◌, ◌++◌, Some, None, Contains, refl, sym, ◌∙◌, subst, inl, inr, slice_get, arith}
use Rattle.std.specs.List.{list_any}
use Rattle.std.specs.Str.{bytes_eq}
use Rattle.std.proofs.lemmas.Cmp.{nat_list_eq_equiv}
use Rattle.std.proofs.lemmas.List.Elements.{Contains-append_left, Contains-append_right, Contains-append_cases, Contains-push, Contains-push_cases}
use Rattle.std.proofs.lemmas.Map.Views.{Contains-from_any, list_any-from_Contains}
use Rattle.std.proofs.lemmas.Slice.Eq.{bytes_eq-Decides}
use Rattle.rf_text.specs.Names.{Interned}
use Rattle.rf_jtree.specs.declared.tokens.Tok.{Tok}
use Rattle.rf_jtree.specs.declared.tokens.TokKind.{TokKind}
use Rattle.rf_jtree.specs.Kinds.{IsIdent}
use Rattle.rf_jmodel.specs.declared.projects.PlacedUnit.{PlacedUnit}
use Rattle.rf_jmodel.specs.ProjectNames.{with_text, with_texts, identifier_text, identifier_texts, package_text, unit_texts, texts_of}

-- texts that are put in two turns
pub with_texts-append : (known some more : List (List ℕ)) → with_texts known (some ++ more) ≡ with_texts (with_texts known some) more
with_texts-append known [] more = refl
with_texts-append known (text ∷ some) more = with_texts-append (with_text known text) some more

-- a text is among the names where the test finds it, and else it isn't
found : (known : List (List ℕ)) (text : List ℕ) → list_any (bytes_eq text) known ≡ true → Contains known text
found known text is = Contains-from_any (λ x y same. (bytes_eq-Decides x y).0 same) text known is

not-both : true ≡ false → ⊥
not-both same = cc

missing : (known : List (List ℕ)) (text : List ℕ) → list_any (bytes_eq text) known ≡ false → Contains known text → ⊥
missing known text is has = not-both (sym (list_any-from_Contains nat_list_eq_equiv text known has) ∙ is)

pub interned-is : (old : List (List ℕ)) (text : List ℕ) (place : ℕ) (more : List (List ℕ)) → Interned old text place more → more ≡ with_text old text
interned-is old text place more interned = by (list_any (bytes_eq text) old) refl
  where
    by : (test : Bool) → list_any (bytes_eq text) old ≡ test → more ≡ cond test old (old ++ text ∷ [])
    by true is = interned.known (found old text is)
    by false is = interned.fresh (missing old text is)

-- what is put in is there, and what was there stays
puts : (known : List (List ℕ)) (text : List ℕ) → Contains (with_text known text) text
puts known text = by (list_any (bytes_eq text) known) refl
  where
    by : (test : Bool) → list_any (bytes_eq text) known ≡ test → Contains (cond test known (known ++ text ∷ [])) text
    by true is = found known text is
    by false is = Contains-push known text

keeps-one : (known : List (List ℕ)) (text other : List ℕ) → Contains known other → Contains (with_text known text) other
keeps-one known text other has = by (list_any (bytes_eq text) known)
  where
    by : (test : Bool) → Contains (cond test known (known ++ text ∷ [])) other
    by true = has
    by false = Contains-append_left known (text ∷ []) other has

keeps : (known texts : List (List ℕ)) (other : List ℕ) → Contains known other → Contains (with_texts known texts) other
keeps known [] other has = has
keeps known (text ∷ texts) other has = keeps (with_text known text) texts other (keeps-one known text other has)

pub in-none : {A : Type 0} (other : A) → Contains [] other → ⊥
in-none other has = let below = has.1 in absurd (omega (arith, below))

pub is-one : {A : Type 0} (one other : A) → Contains (one ∷ []) other → one ≡ other
is-one one other has = elim (Contains-push_cases [] one other has) [ inl none ↦ absurd (in-none other none) | inr same ↦ same ]

pub with_texts-has : (known texts : List (List ℕ)) (other : List ℕ) → Contains texts other → Contains (with_texts known texts) other
with_texts-has known [] other has = absurd (in-none other has)
with_texts-has known (text ∷ texts) other has =
    by (Contains-append_cases (text ∷ []) texts other has) (λ rest. with_texts-has (with_text known text) texts other rest)
  where
    by : (Contains (text ∷ []) other) ⊎ (Contains texts other) → (Contains texts other → Contains (with_texts (with_text known text) texts) other)
        → Contains (with_texts (with_text known text) texts) other
    by (inl first) later = keeps (with_text known text) texts other
        (subst (λ (one : List ℕ). Contains (with_text known text) one) (is-one text other first) (puts known text))
    by (inr rest) later = later rest

-- the identifiers and the package of a file among the texts of files
tok-is : (one other : Tok) → Some one ≡ Some other → one ≡ other
tok-is one other same = cc

unit-is : (one other : PlacedUnit) → Some one ≡ Some other → one ≡ other
unit-is one other same = cc

no-tok : (tok : Tok) → None ≡ Some tok → ⊥
no-tok tok same = cc

no-unit : (unit : PlacedUnit) → None ≡ Some unit → ⊥
no-unit unit same = cc

pub has-identifier : (toks : List Tok) (k : ℕ) (tok : Tok) → slice_get toks k ≡ Some tok → IsIdent tok → Contains (identifier_texts toks) tok.text
has-identifier [] k tok has is = absurd (no-tok tok has)
has-identifier (first ∷ toks) zero tok has is =
    Contains-append_left (identifier_text first.kind first.text) (identifier_texts toks) tok.text
    (subst (λ (one : Tok). Contains (identifier_text one.kind one.text) tok.text) (sym (tok-is first tok has))
    (subst (λ (used_type : TokKind). Contains (identifier_text used_type tok.text) tok.text) (sym is) (Contains-push [] tok.text)))
has-identifier (first ∷ toks) (suc k) tok has is =
    Contains-append_right (identifier_text first.kind first.text) (identifier_texts toks) tok.text (has-identifier toks k tok has is)

pub has-unit : (units : List PlacedUnit) (u : ℕ) (unit : PlacedUnit) (text : List ℕ) → slice_get units u ≡ Some unit
    → Contains (unit_texts unit) text → Contains (texts_of units) text
has-unit [] u unit text at has = absurd (no-unit unit at)
has-unit (first ∷ units) zero unit text at has =
    Contains-append_left (unit_texts first) (texts_of units) text
    (subst (λ (one : PlacedUnit). Contains (unit_texts one) text) (sym (unit-is first unit at)) has)
has-unit (first ∷ units) (suc u) unit text at has =
    Contains-append_right (unit_texts first) (texts_of units) text (has-unit units u unit text at has)

pub package-there : (unit : PlacedUnit) → Contains (unit_texts unit) (package_text unit.tree)
package-there unit = Contains-append_left (package_text unit.tree ∷ []) (identifier_texts unit.toks.list) (package_text unit.tree)
    (Contains-push [] (package_text unit.tree))

pub identifier-there : (unit : PlacedUnit) (text : List ℕ) → Contains (identifier_texts unit.toks.list) text → Contains (unit_texts unit) text
identifier-there unit text has = Contains-append_right (package_text unit.tree ∷ []) (identifier_texts unit.toks.list) text has

pub ruleset naming = (with_texts-append, interned-is)
