-- The tests on modifiers hold exactly where the conditions of the grammar do.
use Rattle.std.proofs.Common.{◌≡◌, List, [], ◌∷◌, Bool, true, false, not, ◌||◌, IsTrue, ◌⊎◌, inl, inr, refl, codes}
use Rattle.std.specs.List.{list_all}
use Rattle.std.specs.Str.{bytes_eq}
use Rattle.std.proofs.lemmas.Slice.Eq.{bytes_eq-Decides}
use Rattle.rf_jtree.specs.declared.tokens.Tok.{Tok}
use Rattle.rf_jtree.specs.declared.tokens.TokKind.{TokKind}
use Rattle.rf_jtree.specs.declared.tokens.TokKind.TheVariants as kind
use Rattle.rf_jtree.specs.declared.keyword_names.TheConstants.{FINAL}
use Rattle.rf_jtree.specs.Kinds.{IsStr}
use Rattle.rf_jtree.specs.NameFits.{EachFits, is_same_mod, is_access, NoneStandsTwice, HasOneAccessAtMost, ModFits, ModsFit, IsMarkName, IsSuppressName}
use Rattle.rf_jtree.specs.NameTrees.{ModTree, Word}
use Rattle.rf_jtree.specs.StmtFits.{IsFinalOrAnnotation, VariableModsFit}
use Rattle.rf_jfit.proofs.EachLemmas.{list_all-each, each-list_all, not-false, false-not}
use Rattle.rf_jexpr.proofs.Tools.{both, and_true, is_key-IsKey, IsKey-is_key, is_ident-IsIdent, IsIdent-is_ident}
use Rattle.rf_jmods.specs.ModReads.{is_str, is_mark_name, is_suppress_name}
use Rattle.rf_jmods.specs.ModTests.{none_twice, one_access, mods_fit, is_variable_mod, variable_mods_fit}

pub or_true : (one other : Bool) → IsTrue (one || other) → IsTrue one ⊎ IsTrue other
or_true true other h = inl refl
or_true false other h = inr h

pub first_true : (one other : Bool) → IsTrue one → IsTrue (one || other)
first_true true other h = refl
first_true false other h = cc

pub second_true : (one other : Bool) → IsTrue other → IsTrue (one || other)
second_true true other h = refl
second_true false other h = h

-- ---- tokens

str_of_kind : (tok : Tok) (k : TokKind) → tok.kind ≡ k → IsTrue (is_str tok) → IsStr tok
unfolding is_str
str_of_kind tok kind.Str e h = e
str_of_kind tok other e h = absurd (cc (rw e at h))

pub is_str-IsStr : (tok : Tok) → IsTrue (is_str tok) → IsStr tok
is_str-IsStr tok h = str_of_kind tok tok.kind refl h

pub IsStr-is_str : (tok : Tok) → IsStr tok → IsTrue (is_str tok)
unfolding is_str
IsStr-is_str tok h = rw h refl

pub is_mark_name-Is : (tok : Tok) → IsTrue (is_mark_name tok) → IsMarkName tok
unfolding is_mark_name
is_mark_name-Is tok h =
    let parts = both _ _ h in (
      is_ident-IsIdent tok parts.0,
      elim (or_true (bytes_eq tok.text (codes "Override")) (bytes_eq tok.text (codes "Deprecated")) parts.1) [
        | inl one ↦ inl ((bytes_eq-Decides tok.text (codes "Override")).0 one)
        | inr other ↦ inr ((bytes_eq-Decides tok.text (codes "Deprecated")).0 other)
      ],
    )

pub Is-is_mark_name : (tok : Tok) → IsMarkName tok → IsTrue (is_mark_name tok)
unfolding is_mark_name
Is-is_mark_name tok h = and_true _ _ (IsIdent-is_ident tok h.0) (elim h.1 [
  | inl one ↦ first_true (bytes_eq tok.text (codes "Override")) _ ((bytes_eq-Decides tok.text (codes "Override")).1 one)
  | inr other ↦ second_true (bytes_eq tok.text (codes "Override")) _ ((bytes_eq-Decides tok.text (codes "Deprecated")).1 other)
])

pub is_suppress_name-Is : (tok : Tok) → IsTrue (is_suppress_name tok) → IsSuppressName tok
unfolding is_suppress_name
is_suppress_name-Is tok h = let parts = both _ _ h in (is_ident-IsIdent tok parts.0, (bytes_eq-Decides tok.text (codes "SuppressWarnings")).0 parts.1)

pub Is-is_suppress_name : (tok : Tok) → IsSuppressName tok → IsTrue (is_suppress_name tok)
unfolding is_suppress_name
Is-is_suppress_name tok h = and_true _ _ (IsIdent-is_ident tok h.0) ((bytes_eq-Decides tok.text (codes "SuppressWarnings")).1 h.1)

-- ---- modifiers

pub none_twice-Stands : (mods : List ModTree) → IsTrue (none_twice mods) → NoneStandsTwice mods
unfolding none_twice
none_twice-Stands [] h = tt
none_twice-Stands (one ∷ mods) h =
    let parts = both (list_all (λ other. not (is_same_mod one other)) mods) (none_twice mods) h in
    (list_all-each (λ other. not (is_same_mod one other)) (λ other. is_same_mod one other ≡ false) (λ other. not-false (is_same_mod one other)) mods parts.0, none_twice-Stands mods parts.1)

pub Stands-none_twice : (mods : List ModTree) → NoneStandsTwice mods → IsTrue (none_twice mods)
unfolding none_twice
Stands-none_twice [] h = refl
Stands-none_twice (one ∷ mods) h =
    and_true _ _ (each-list_all (λ other. not (is_same_mod one other)) (λ other. is_same_mod one other ≡ false) (λ other. false-not (is_same_mod one other)) mods h.0) (Stands-none_twice mods h.1)

no_access : (mods : List ModTree) → IsTrue (list_all (λ other. not (is_access other)) mods) → EachFits (λ other. is_access other ≡ false) mods
no_access = list_all-each (λ other. not (is_access other)) (λ other. is_access other ≡ false) (λ other. not-false (is_access other))

pub one_access-Has : (mods : List ModTree) → IsTrue (one_access mods) → HasOneAccessAtMost mods
unfolding one_access
one_access-Has [] h = tt
one_access-Has (one ∷ mods) h =
    let parts = both (not (is_access one) || list_all (λ other. not (is_access other)) mods) (one_access mods) h in (
      λ is. elim (or_true (not (is_access one)) (list_all (λ other. not (is_access other)) mods) parts.0) [
        | inl none ↦ let no : is_access one ≡ false = not-false (is_access one) none in absurd (cc (is))
        | inr none ↦ no_access mods none
      ],
      one_access-Has mods parts.1,
    )

access_test : (one : ModTree) (mods : List ModTree) (b : Bool) → is_access one ≡ b → (is_access one ≡ true → EachFits (λ other. is_access other ≡ false) mods) → IsTrue (not b || list_all (λ other. not (is_access other)) mods)
access_test one mods true e h = each-list_all (λ other. not (is_access other)) (λ other. is_access other ≡ false) (λ other. false-not (is_access other)) mods (h e)
access_test one mods false e h = refl

pub Has-one_access : (mods : List ModTree) → HasOneAccessAtMost mods → IsTrue (one_access mods)
unfolding one_access
Has-one_access [] h = refl
Has-one_access (one ∷ mods) h = and_true (not (is_access one) || list_all (λ other. not (is_access other)) mods) (one_access mods) (access_test one mods (is_access one) refl h.0) (Has-one_access mods h.1)

pub mods_fit-Fit : (mods : List ModTree) → EachFits ModFits mods → IsTrue (mods_fit mods) → ModsFit mods
unfolding mods_fit
mods_fit-Fit mods each h = let parts = both _ _ h in record { each = each; none_twice = none_twice-Stands mods parts.0; one_access = one_access-Has mods parts.1 }

pub Fit-mods_fit : (mods : List ModTree) → ModsFit mods → IsTrue (mods_fit mods)
unfolding mods_fit
Fit-mods_fit mods fit = and_true _ _ (Stands-none_twice mods fit.none_twice) (Has-one_access mods fit.one_access)

pub is_variable_mod-Is : (one : ModTree) → IsTrue (is_variable_mod one) → IsFinalOrAnnotation one
unfolding is_variable_mod
is_variable_mod-Is (Word tok) h = is_key-IsKey FINAL tok h
is_variable_mod-Is annotation h = tt

pub Is-is_variable_mod : (one : ModTree) → IsFinalOrAnnotation one → IsTrue (is_variable_mod one)
unfolding is_variable_mod
Is-is_variable_mod (Word tok) h = IsKey-is_key FINAL tok h
Is-is_variable_mod annotation h = refl

pub variable_mods_fit-Fit : (mods : List ModTree) → EachFits ModFits mods → IsTrue (variable_mods_fit mods) → VariableModsFit mods
unfolding variable_mods_fit
variable_mods_fit-Fit mods each h =
    let parts = both _ _ h in
    record { fit = mods_fit-Fit mods each parts.0; each = list_all-each is_variable_mod IsFinalOrAnnotation is_variable_mod-Is mods parts.1 }

pub Fit-variable_mods_fit : (mods : List ModTree) → VariableModsFit mods → IsTrue (variable_mods_fit mods)
unfolding variable_mods_fit
Fit-variable_mods_fit mods fit = and_true _ _ (Fit-mods_fit mods fit.fit) (each-list_all is_variable_mod IsFinalOrAnnotation Is-is_variable_mod mods fit.each)
