-- What is found in the tables of a project under a package and a name.
use Rattle.std.proofs.Common.{◌≡◌, ℕ, ◌<◌, ◌⊎◌, Bool, true, false, cond, ◌||◌, List, Option, Some, None, refl, sym, ap, ◌∙◌, subst, inl, inr, slice_get, arith}
use Rattle.std.specs.HashMap.{get}
use Rattle.std.proofs.lemmas.Bool.{cases_lt, or_cases, or_left, or_right, eqb-true, eq-eqb}
use Rattle.std.proofs.lemmas.Option.{slice_get_within, get_or_from_slice_get}
use Rattle.rf_text.specs.declared.span.NameId.{NameId}
use Rattle.rf_jtree.specs.NameText.{dotted}
use Rattle.rf_jmodel.specs.declared.ids.TypeId.{TypeId}
use Rattle.rf_jmodel.specs.declared.projects.PlacedUnit.{PlacedUnit}
use Rattle.rf_jmodel.specs.declared.projects.Project.{Project}
use Rattle.rf_jmodel.specs.declared.tables.Tables.{Tables}
use Rattle.rf_jmodel.specs.declared.tables.TypeRow.{TypeRow}
use Rattle.rf_jmodel.specs.declared.tables.UnitRow.{UnitRow}
use Rattle.rf_jmodel.specs.FullNames.{package_ids, is_public}
use Rattle.rf_jmodel.specs.Packages.{IsInPackageOf}
use Rattle.rf_jmodel.specs.ProjectNames.{package_text}
use Rattle.rf_jmodel.specs.StandsFor.{IsText, IsTypeRow, StandsFor, name_eq, names_eq}
use Rattle.rf_jmodel.specs.Subtypes.{IsTypeId}
use Rattle.rf_jmodel.specs.TypeNames.{IsAccessible, IsPublic}
use Rattle.rf_jmodel.specs.Units.{HasUnit, tree_of}
use Rattle.rf_jmodel.specs.Whole.{IsWhole}
use Rattle.rf_symtab.specs.Answers.{HasNamesOnce}
use Rattle.rf_symtab.specs.Found.{accessible_id}
use Rattle.rf_symtab.proofs.AnswerLemmas.{IsFound}
use Rattle.rf_symtab.proofs.ListLemmas.{some-is, none-some, there}
use Rattle.rf_symtab.proofs.PackageLemmas.{package-dotted, package-one, unit-parsed}
use Rattle.rf_symtab.proofs.TypeIdLemmas.{one-type, unit-one}

not-both : true ≡ false → ⊥
not-both same = cc

-- the type of file x has this name, and stands in the package with this text
pub record IsNamedIn (project : Project) (text name : List ℕ) (x : ℕ) : Type 0 where
  pub unit : PlacedUnit
  pub has_unit : HasUnit project x unit
  pub in_text : package_text unit.tree ≡ text
  pub is_named : (tree_of unit).decl.id.text ≡ name

-- and is accessible from file u
abbrev pub IsSeen : Project → ℕ → List ℕ → List ℕ → ℕ → Type 0
IsSeen project u text name x = IsNamedIn project text name x × IsAccessible project u x

-- a name is that of its text alone, and the text of a name is one
pub text-one : (project : Project) (id : NameId) (text other : List ℕ) → IsText project id text → IsText project id other → text ≡ other
text-one project id text other has other-has = some-is (sym has ∙ other-has)

apart : (project : Project) (i j : ℕ) (text : List ℕ) → HasNamesOnce project → slice_get project.names i ≡ Some text → slice_get project.names j ≡ Some text
    → i < j → ⊥
apart project i j text once at other-at less =
    let below = slice_get_within project.names j text other-at in
    once i j text less below (get_or_from_slice_get project.names i text text at ∙ sym (get_or_from_slice_get project.names j text text other-at))

place-one : (project : Project) (i j : ℕ) (text : List ℕ) → HasNamesOnce project → slice_get project.names i ≡ Some text → slice_get project.names j ≡ Some text
    → i ≡ j
place-one project i j text once at other-at =
    elim (cases_lt i j) [
      | inl less ↦ absurd (apart project i j text once at other-at less)
      | inr least ↦ elim (cases_lt j i) [
        | inl more ↦ absurd (apart project j i text once other-at at more)
        | inr most ↦ omega (arith, least, most)
      ]
    ]

pub name-one : (project : Project) (one other : NameId) (text : List ℕ) → HasNamesOnce project → IsText project one text → IsText project other text
    → name_eq one other ≡ true
name-one project one other text once has other-has = eq-eqb one.0 other.0 (place-one project one.0 other.0 text once has other-has)

abbrev numbered : ℕ → NameId
numbered number = record { 0 = number }

pub name-is : (one other : NameId) → name_eq one other ≡ true → one ≡ other
name-is one other same = ap numbered (eqb-true one.0 other.0 same)

module _ (project : Project) (tables : Tables) (whole : IsWhole project) (once : HasNamesOnce project) (stands : StandsFor tables project) where
  -- each file has its row, and its type an id
  pub row-of : (u : ℕ) (unit : PlacedUnit) → HasUnit project u unit → (row : UnitRow) × (slice_get tables.units u ≡ Some row)
  row-of u unit has = there tables.units u (subst (λ (n : ℕ). u < n) (sym stands.unit_each) (slice_get_within project.units u unit has))

  pub id-of : (x : ℕ) (unit : PlacedUnit) → HasUnit project x unit → (id : TypeId) × IsTypeId project id x
  id-of x unit has = let row = row-of x unit has in (row.0.own.1, (stands.units x row.0 row.1).own_id)

  pub texts-one : (one other : PlacedUnit) (u x : ℕ) → HasUnit project u one → HasUnit project x other → package_text one.tree ≡ package_text other.tree
      → package_ids (tree_of one) ≡ package_ids (tree_of other)
  texts-one one other u x has other-has same =
      package-one one other (unit-parsed project u one whole.parsed has) (unit-parsed project x other whole.parsed other-has) same

  module _ (in_package name : NameId) (text id-text : List ℕ) (is-package : IsText project in_package text) (is-name : IsText project name id-text) where
    -- the row of a type that has this name in this package
    record RowFor (y : ℕ) (unit : PlacedUnit) : Type 0 where
      row : TypeRow
      found : get names_eq tables.types (in_package, name) ≡ Some row
      has_id : IsTypeId project row.id y
      public_is : row.is_public ≡ is_public (tree_of unit)

    row-for : (y : ℕ) (named : IsNamedIn project text id-text y) → RowFor y named.unit
    row-for y named = record { row = row; found = (stands.types in_package name row).1 is; has_id = id.1; public_is = refl }
      where
        id : (id : TypeId) × IsTypeId project id y
        id = id-of y named.unit named.has_unit

        row : TypeRow
        row = record { id = id.0; is_public = is_public (tree_of named.unit) }

        is : IsTypeRow project in_package name row
        is = record {
          x = y;
          unit = named.unit;
          has_unit = named.has_unit;
          has_id = id.1;
          package_is = subst (IsText project in_package) (sym named.in_text) is-package;
          name_is = subst (IsText project name) (sym named.is_named) is-name;
          public_is = refl;
        }

    row-type : (row : TypeRow) (is : IsTypeRow project in_package name row) → IsNamedIn project text id-text is.x
    row-type row is = record {
      unit = is.unit;
      has_unit = is.has_unit;
      in_text = text-one project in_package _ _ is.package_is is-package;
      is_named = text-one project name _ _ is.name_is is-name;
    }

    one-row : (row : TypeRow) (x y : ℕ) → get names_eq tables.types (in_package, name) ≡ Some row → IsTypeId project row.id x → IsNamedIn project text id-text y → y ≡ x
    one-row row x y is has-id named =
        let other = row-for y named in
        let same : other.row ≡ row = some-is (sym other.found ∙ is) in
        one-type project row.id y x whole (subst (λ (one : TypeRow). IsTypeId project one.id y) same other.has_id) has-id

    -- what is found is the type of this name in this package, where it is accessible from file u
    module _ (u : ℕ) (unit : PlacedUnit) (has : HasUnit project u unit) (home : NameId) (is-home : IsText project home (package_text unit.tree)) where
      reached : (row : TypeRow) (is : IsTypeRow project in_package name row) → (row.is_public || name_eq in_package home) ≡ true → IsAccessible project u is.x
      reached row is passes = by (or_cases row.is_public (name_eq in_package home) passes)
        where
          at-home : name_eq in_package home ≡ true → package_text unit.tree ≡ package_text is.unit.tree
          at-home same =
              text-one project home _ _ is-home (subst (λ (one : NameId). IsText project one (package_text is.unit.tree)) (name-is in_package home same) is.package_is)

          by : (row.is_public ≡ true) ⊎ (name_eq in_package home ≡ true) → IsAccessible project u is.x
          by (inl public) = inl (record { unit = is.unit; has_unit = is.has_unit; is = sym is.public_is ∙ public })
          by (inr same) = inr (record {
            one = unit;
            other = is.unit;
            has_one = has;
            has_other = is.has_unit;
            same = texts-one unit is.unit u is.x has is.has_unit (at-home same);
          })

      passed : (row : TypeRow) (y : ℕ) → get names_eq tables.types (in_package, name) ≡ Some row → IsSeen project u text id-text y
          → (row.is_public || name_eq in_package home) ≡ true
      passed row y is seen = by seen.1
        where
          other : RowFor y seen.0.unit
          other = row-for y seen.0

          same : other.row ≡ row
          same = some-is (sym other.found ∙ is)

          of-public : (public : IsPublic project y) → row.is_public ≡ true
          of-public public =
              sym (ap (λ (one : TypeRow). one.is_public) same) ∙ other.public_is
              ∙ ap (λ (one : PlacedUnit). is_public (tree_of one)) (unit-one project y seen.0.unit public.unit seen.0.has_unit public.has_unit) ∙ public.is

          at-home : (beside : IsInPackageOf project u y) → text ≡ package_text unit.tree
          at-home beside =
              sym seen.0.in_text
              ∙ ap (λ (one : PlacedUnit). package_text one.tree) (unit-one project y seen.0.unit beside.other seen.0.has_unit beside.has_other)
              ∙ package-dotted beside.other ∙ ap dotted (sym beside.same) ∙ sym (package-dotted beside.one)
              ∙ ap (λ (one : PlacedUnit). package_text one.tree) (unit-one project u beside.one unit beside.has_one has)

          by : (IsPublic project y) ⊎ (IsInPackageOf project u y) → (row.is_public || name_eq in_package home) ≡ true
          by (inl public) = or_left row.is_public (name_eq in_package home) (of-public public)
          by (inr beside) =
              or_right row.is_public (name_eq in_package home)
              (name-one project in_package home (package_text unit.tree) once (subst (IsText project in_package) (at-home beside) is-package) is-home)

      pub seen-found : IsFound project (IsSeen project u text id-text) (accessible_id home in_package (get names_eq tables.types (in_package, name)))
      seen-found = by (get names_eq tables.types (in_package, name)) refl
        where
          test : (row : TypeRow) (passes : Bool) → (row.is_public || name_eq in_package home) ≡ passes → get names_eq tables.types (in_package, name) ≡ Some row
              → IsTypeRow project in_package name row → IsFound project (IsSeen project u text id-text) (cond passes (Some row.id) None)
          test row true passes found is = record {
            x = is.x;
            has_id = is.has_id;
            is_only = ((row-type row is, reached row is passes), λ y seen. one-row row is.x y found is.has_id seen.0);
          }
          test row false passes found is = λ y seen. not-both (sym (passed row y found seen) ∙ passes)

          by : (found : Option TypeRow) → get names_eq tables.types (in_package, name) ≡ found
              → IsFound project (IsSeen project u text id-text) (accessible_id home in_package found)
          by None is = λ y seen. none-some (sym is ∙ (row-for y seen.0).found)
          by (Some row) is = test row (row.is_public || name_eq in_package home) refl is ((stands.types in_package name row).0 is)
