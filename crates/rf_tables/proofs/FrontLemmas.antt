-- The fronts of the packages of files are the packages of a project.
use Rattle.std.proofs.Common.{◌≡◌, ◌≢◌, ℕ, zero, suc, ◌⊎◌, ◌↔◌, List, [], ◌∷◌, ◌++◌, Option, Some, None, Contains, map, codes, refl, sym, ap, ◌∙◌, subst, inl, inr, slice_get, append_assoc, append-nil}
use Rattle.std.specs.List.{flat_map}
use Rattle.std.proofs.lemmas.List.Elements.{Contains-append_left, Contains-append_right, Contains-append_cases}
use Rattle.rf_jtree.specs.declared.tokens.Tok.{Tok}
use Rattle.rf_jtree.specs.DeclTrees.{UnitTree}
use Rattle.rf_jtree.specs.NameText.{dotted, id_texts}
use Rattle.rf_jtree.specs.NameTrees.{NameTree}
use Rattle.rf_jmodel.specs.declared.projects.PlacedUnit.{PlacedUnit}
use Rattle.rf_jmodel.specs.declared.projects.Project.{Project}
use Rattle.rf_jmodel.specs.FullNames.{package_ids}
use Rattle.rf_jmodel.specs.StandsFor.{IsPackageText}
use Rattle.rf_jmodel.specs.Units.{tree_of}
use Rattle.rf_jmodel.proofs.NameLemmas.{in-none}
use Rattle.rf_tables.specs.PackageTexts.{longer_texts, front_texts, clause_fronts, package_fronts, all_fronts}
use Rattle.rf_symtab.proofs.ListLemmas.{some-is, none-some, here, behind, either}

-- the texts of the identifiers behind a name's first one
abbrev rest-ids : List (Tok × Tok) → List (List ℕ)
rest-ids rest = map (λ item. item.1.text) rest

-- ids, and more behind them, are these
record Cut (text : List ℕ) (all : List (List ℕ)) (front : List ℕ) : Type 0 where
  some : List (List ℕ)
  more : List (List ℕ)
  is_all : all ≡ some ++ more
  is_front : front ≡ text ++ flat_map (λ id. codes "." ++ id) some

move : (text id : List ℕ) (some : List (List ℕ)) → ((text ++ codes ".") ++ id) ++ flat_map (λ one. codes "." ++ one) some
    ≡ text ++ flat_map (λ one. codes "." ++ one) (id ∷ some)
move text id some =
    append_assoc (text ++ codes ".") id (flat_map (λ one. codes "." ++ one) some)
    ∙ append_assoc text (codes ".") (id ++ flat_map (λ one. codes "." ++ one) some)

longer-cut : (text : List ℕ) (rest : List (Tok × Tok)) (front : List ℕ) → Contains (longer_texts text rest) front → Cut text (rest-ids rest) front
longer-cut text [] front has = absurd (in-none front has)
longer-cut text (item ∷ rest) front has =
    by (either longer (longer_texts longer rest) front has) (λ behind-it. longer-cut longer rest front behind-it)
  where
    longer : List ℕ
    longer = (text ++ codes ".") ++ item.1.text

    next : Cut longer (rest-ids rest) front → Cut text (rest-ids (item ∷ rest)) front
    next cut = record {
      some = item.1.text ∷ cut.some;
      more = cut.more;
      is_all = ap (λ (ids : List (List ℕ)). item.1.text ∷ ids) cut.is_all;
      is_front = cut.is_front ∙ move text item.1.text cut.some;
    }

    by : (longer ≡ front) ⊎ (Contains (longer_texts longer rest) front) → (Contains (longer_texts longer rest) front → Cut longer (rest-ids rest) front)
        → Cut text (rest-ids (item ∷ rest)) front
    by (inl same) later = next (record { some = []; more = rest-ids rest; is_all = refl; is_front = sym same ∙ sym (append-nil longer) })
    by (inr behind-it) later = next (later behind-it)

first-id : {one other : List ℕ} {some more : List (List ℕ)} → one ∷ some ≡ other ∷ more → one ≡ other
first-id same = cc

other-ids : {one other : List ℕ} {some more : List (List ℕ)} → one ∷ some ≡ other ∷ more → some ≡ more
other-ids same = cc

not-none : {id : List ℕ} {ids : List (List ℕ)} → [] ≡ id ∷ ids → ⊥
not-none same = cc

longer-has : (text : List ℕ) (rest : List (Tok × Tok)) (id : List ℕ) (some more : List (List ℕ)) → rest-ids rest ≡ (id ∷ some) ++ more
    → Contains (longer_texts text rest) (text ++ flat_map (λ one. codes "." ++ one) (id ∷ some))
longer-has text [] id some more same = absurd (not-none same)
longer-has text (item ∷ rest) id [] more same =
    subst (λ (front : List ℕ). Contains (longer_texts text (item ∷ rest)) front) (is ∙ move text id [])
    (here longer (longer_texts longer rest))
  where
    longer : List ℕ
    longer = (text ++ codes ".") ++ item.1.text

    is : longer ≡ ((text ++ codes ".") ++ id) ++ []
    is = ap (λ (one : List ℕ). (text ++ codes ".") ++ one) (first-id same) ∙ sym (append-nil ((text ++ codes ".") ++ id))
longer-has text (item ∷ rest) id (next ∷ some) more same =
    behind longer (longer_texts longer rest) _
    (subst (λ (front : List ℕ). Contains (longer_texts longer rest) front)
    (ap (λ (one : List ℕ). ((text ++ codes ".") ++ one) ++ flat_map (λ id. codes "." ++ id) (next ∷ some)) (first-id same) ∙ move text id (next ∷ some))
    (longer-has longer rest next some more (other-ids same)))
  where
    longer : List ℕ
    longer = (text ++ codes ".") ++ item.1.text

-- of one file
record IsFront (ids : List (List ℕ)) (text : List ℕ) : Type 0 where
  some : List (List ℕ)
  more : List (List ℕ)
  begins : ids ≡ some ++ more
  is_named : some ≢ []
  is_text : text ≡ dotted some

name-front : (name : NameTree) (text : List ℕ) → Contains (front_texts name) text → IsFront (id_texts name) text
name-front name text has = by (either name.ids.first.text (longer_texts name.ids.first.text name.ids.rest) text has)
  where
    of-cut : Cut name.ids.first.text (rest-ids name.ids.rest) text → IsFront (id_texts name) text
    of-cut cut = record {
      some = name.ids.first.text ∷ cut.some;
      more = cut.more;
      begins = ap (λ (ids : List (List ℕ)). name.ids.first.text ∷ ids) cut.is_all;
      is_named = λ same. not-none (sym same);
      is_text = cut.is_front;
    }

    by : (name.ids.first.text ≡ text) ⊎ (Contains (longer_texts name.ids.first.text name.ids.rest) text) → IsFront (id_texts name) text
    by (inl same) = of-cut (record { some = []; more = rest-ids name.ids.rest; is_all = refl; is_front = sym same ∙ sym (append-nil name.ids.first.text) })
    by (inr longer) = of-cut (longer-cut name.ids.first.text name.ids.rest text longer)

front-name : (name : NameTree) (some more : List (List ℕ)) → id_texts name ≡ some ++ more → some ≢ [] → Contains (front_texts name) (dotted some)
front-name name [] more begins named = absurd (named refl)
front-name name (id ∷ []) more begins named =
    subst (λ (text : List ℕ). Contains (front_texts name) text) (first-id begins ∙ sym (append-nil id))
    (here name.ids.first.text (longer_texts name.ids.first.text name.ids.rest))
front-name name (id ∷ next ∷ some) more begins named =
    subst (λ (text : List ℕ). Contains (front_texts name) text)
    (ap (λ (one : List ℕ). one ++ flat_map (λ id. codes "." ++ id) (next ∷ some)) (first-id begins))
    (behind name.ids.first.text (longer_texts name.ids.first.text name.ids.rest) _ (longer-has name.ids.first.text name.ids.rest next some more (other-ids begins)))

abbrev with-package : UnitTree → Option (Tok × NameTree × Tok) → UnitTree
with-package tree clause = record { «package» = clause; imports = tree.imports; decl = tree.decl; semis = tree.semis }

no-front : (some more : List (List ℕ)) → [] ≡ some ++ more → some ≡ []
no-front [] more same = refl
no-front (id ∷ some) more same = absurd (not-none same)

clause-front : (tree : UnitTree) (clause : Option (Tok × NameTree × Tok)) (text : List ℕ) → Contains (clause_fronts clause) text
    → IsFront (package_ids (with-package tree clause)) text
clause-front tree None text has = absurd (in-none text has)
clause-front tree (Some clause) text has = name-front clause.1 text has

front-clause : (tree : UnitTree) (clause : Option (Tok × NameTree × Tok)) (some more : List (List ℕ)) → package_ids (with-package tree clause) ≡ some ++ more
    → some ≢ [] → Contains (clause_fronts clause) (dotted some)
front-clause tree None some more begins named = absurd (named (no-front some more begins))
front-clause tree (Some clause) some more begins named = front-name clause.1 some more begins named

-- of all files
record InUnits (units : List PlacedUnit) (text : List ℕ) : Type 0 where
  u : ℕ
  unit : PlacedUnit
  at : slice_get units u ≡ Some unit
  is_front : IsFront (package_ids (tree_of unit)) text

in-units : (units : List PlacedUnit) (text : List ℕ) → Contains (all_fronts units) text → InUnits units text
in-units [] text has = absurd (in-none text has)
in-units (unit ∷ units) text has =
    by (Contains-append_cases (package_fronts (tree_of unit)) (all_fronts units) text has) (λ rest. in-units units text rest)
  where
    by : (Contains (package_fronts (tree_of unit)) text) ⊎ (Contains (all_fronts units) text) → (Contains (all_fronts units) text → InUnits units text)
        → InUnits (unit ∷ units) text
    by (inl first) later = record { u = 0; unit = unit; at = refl; is_front = clause-front (tree_of unit) (tree_of unit).package text first }
    by (inr rest) later = let found = later rest in record { u = suc found.u; unit = found.unit; at = found.at; is_front = found.is_front }

units-have : (units : List PlacedUnit) (u : ℕ) (unit : PlacedUnit) (text : List ℕ) → slice_get units u ≡ Some unit
    → Contains (package_fronts (tree_of unit)) text → Contains (all_fronts units) text
units-have [] u unit text at has = absurd (none-some at)
units-have (first ∷ units) zero unit text at has =
    Contains-append_left (package_fronts (tree_of first)) (all_fronts units) text
    (subst (λ (one : PlacedUnit). Contains (package_fronts (tree_of one)) text) (sym (some-is at)) has)
units-have (first ∷ units) (suc u) unit text at has =
    Contains-append_right (package_fronts (tree_of first)) (all_fronts units) text (units-have units u unit text at has)

pub fronts-are : (project : Project) (text : List ℕ) → Contains (all_fronts project.units) text ↔ IsPackageText project text
fronts-are project text = (to, from)
  where
    to : Contains (all_fronts project.units) text → IsPackageText project text
    to has =
        let found = in-units project.units text has in
        let front = found.is_front in
        record {
          ids = front.some;
          is_package = record { u = found.u; unit = found.unit; has_unit = found.at; more = front.more; begins = front.begins; is_named = front.is_named };
          is_text = front.is_text;
        }

    from : IsPackageText project text → Contains (all_fronts project.units) text
    from is =
        let found = is.is_package in
        let front = front-clause (tree_of found.unit) (tree_of found.unit).package is.ids found.more found.begins found.is_named in
        subst (λ (one : List ℕ). Contains (all_fronts project.units) one) (sym is.is_text)
        (units-have project.units found.u found.unit (dotted is.ids) found.has_unit front)
