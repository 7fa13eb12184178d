-- What is found for a simple name in a file is what it means there.
use Rattle.std.proofs.Common.{◌≡◌, ℕ, ◌⊎◌, Bool, true, false, cond, List, [], ◌∷◌, Option, Some, None, Contains, refl, sym, ap, ◌∙◌, subst, inl, inr}
use Rattle.std.specs.HashMap.{get}
use Rattle.std.specs.List.{AllZip, AllByRecursion}
use Rattle.rf_text.specs.declared.span.NameId.{NameId}
use Rattle.rf_jtree.specs.NameText.{dotted, id_texts}
use Rattle.rf_jmodel.specs.declared.ids.TypeId.{TypeId}
use Rattle.rf_jmodel.specs.declared.projects.PlacedUnit.{PlacedUnit}
use Rattle.rf_jmodel.specs.declared.projects.Project.{Project}
use Rattle.rf_jmodel.specs.declared.tables.Tables.{Tables}
use Rattle.rf_jmodel.specs.declared.tables.UnitRow.{UnitRow}
use Rattle.rf_jmodel.specs.FullNames.{IsTypeOf, package_ids}
use Rattle.rf_jmodel.specs.Packages.{java_lang}
use Rattle.rf_jmodel.specs.ProjectNames.{package_text, with_texts}
use Rattle.rf_jmodel.specs.Sets.{IsEmpty, OrElse}
use Rattle.rf_jmodel.specs.StandsFor.{IsText, IsUnitRow, IsSingleRow, StandsFor, demand_texts, name_eq, names_eq}
use Rattle.rf_jmodel.specs.Subtypes.{IsTypeId}
use Rattle.rf_jmodel.specs.TypeNames.{IsOwn, IsSingle, IsBeside, IsDemanded, IsOnDemand, TypeAt}
use Rattle.rf_jmodel.specs.Units.{tree_of}
use Rattle.rf_jmodel.specs.Whole.{IsWhole}
use Rattle.rf_jmodel.proofs.NameLemmas.{in-none, with_texts-has}
use Rattle.rf_symtab.specs.declared.answers.Answer.{Answer}
use Rattle.rf_symtab.specs.declared.answers.Answer.TheVariants as answer
use Rattle.rf_symtab.specs.Answers.{HasNamesOnce, IsAnswer}
use Rattle.rf_symtab.specs.Found.{accessible_id, own_id, demanded_from, beside_id, answer_in}
use Rattle.rf_symtab.proofs.AnswerLemmas.{IsFound, Both, both-left, same-found, same-answer, first-answer, joined-answer}
use Rattle.rf_symtab.proofs.DemandLemmas.{Demands, lang-plain, demand-from, demand-lang, demand-has}
use Rattle.rf_symtab.proofs.ListLemmas.{some-is, none-some, here, behind, either, put-from}
use Rattle.rf_symtab.proofs.PackageLemmas.{package-dotted, package-plain, demanded-plain, unit-parsed}
use Rattle.rf_symtab.proofs.PointLemmas.{IsPlain, dotted-one}
use Rattle.rf_symtab.proofs.RowLemmas.{IsSeen, text-one, name-one, name-is, id-of, texts-one, seen-found}
use Rattle.rf_symtab.proofs.TypeIdLemmas.{one-type, unit-one}

not-both : false ≡ true → ⊥
not-both same = cc

module _ (project : Project) (tables : Tables) (whole : IsWhole project) (once : HasNamesOnce project) (stands : StandsFor tables project) where
  module _ (u : ℕ) (row : UnitRow) (is : IsUnitRow project u row) (name : NameId) (text : List ℕ) (is-name : IsText project name text) where
    -- the file's own type
    own-found : IsFound project (IsOwn project u text) (own_id row name)
    own-found = by (name_eq row.own.0 name) refl
      where
        by : (test : Bool) → name_eq row.own.0 name ≡ test → IsFound project (IsOwn project u text) (cond test (Some row.own.1) None)
        by true same = record {
          x = u;
          has_id = is.own_id;
          is_only = (
            record {
              unit = is.unit;
              has_unit = is.has_unit;
              is_named = text-one project name _ _ (subst (λ (one : NameId). IsText project one (tree_of is.unit).decl.id.text) (name-is row.own.0 name same) is.own_name) is-name;
              is_own = refl;
            },
            λ y own. own.is_own,
          );
        }
        by false same = λ x own.
            let named : (tree_of is.unit).decl.id.text ≡ text =
            ap (λ (unit : PlacedUnit). (tree_of unit).decl.id.text) (unit-one project u is.unit own.unit is.has_unit own.has_unit) ∙ own.is_named in
            not-both (sym same ∙ name-one project row.own.0 name text once (subst (IsText project row.own.0) named is.own_name) is-name)

    -- the types that the file imports one by one
    single-row : (x : ℕ) (single : IsSingle project u text x) → (id : TypeId) × (get name_eq row.single name ≡ Some id) × IsTypeId project id x
    single-row x single =
        let id = id-of project tables whole once stands x single.is_type.0.unit single.is_type.0.has_unit in
        (id.0, (is.single name id.0).1 (record { text = text; is_text = is-name; x = x; has_id = id.1; imported = single }), id.1)

    single-found : IsFound project (IsSingle project u text) (get name_eq row.single name)
    single-found = by (get name_eq row.single name) refl
      where
        only : (id : TypeId) (found : get name_eq row.single name ≡ Some id) (one : IsSingleRow project u name id) (y : ℕ) → IsSingle project u text y → y ≡ one.x
        only id found one y single =
            let other = single-row y single in
            let same : other.0 ≡ id = some-is (sym other.1 ∙ found) in
            one-type project id y one.x whole (subst (λ (known : TypeId). IsTypeId project known y) same other.2) one.has_id

        of-row : (id : TypeId) → get name_eq row.single name ≡ Some id → IsSingleRow project u name id → IsFound project (IsSingle project u text) (Some id)
        of-row id found one = record {
          x = one.x;
          has_id = one.has_id;
          is_only = (subst (λ (known : List ℕ). IsSingle project u known one.x) (text-one project name one.text text one.is_text is-name) one.imported, only id found one);
        }

        by : (found : Option TypeId) → get name_eq row.single name ≡ found → IsFound project (IsSingle project u text) found
        by None found = λ x single. none-some (sym found ∙ (single-row x single).1)
        by (Some id) found = of-row id found ((is.single name id).0 found)

    -- the types of the file's package
    beside-from : (x : ℕ) → IsSeen project u (package_text is.unit.tree) text x → IsBeside project u text x
    beside-from x seen =
        let named = seen.0 in
        record {
          unit = is.unit;
          has_unit = is.has_unit;
          is_type = record {
            unit = named.unit;
            has_unit = named.has_unit;
            in_package = texts-one project tables whole once stands named.unit is.unit x u named.has_unit is.has_unit named.in_text;
            is_named = named.is_named;
          };
        }

    beside-to : (x : ℕ) → IsBeside project u text x → IsSeen project u (package_text is.unit.tree) text x
    beside-to x beside =
        let typed = beside.is_type in
        let same = ap (λ (unit : PlacedUnit). package_text unit.tree) (unit-one project u beside.unit is.unit beside.has_unit is.has_unit) in (
          record {
            unit = typed.unit;
            has_unit = typed.has_unit;
            in_text = package-dotted typed.unit ∙ ap dotted typed.in_package ∙ sym (package-dotted beside.unit) ∙ same;
            is_named = typed.is_named;
          },
          inr (record { one = beside.unit; other = typed.unit; has_one = beside.has_unit; has_other = typed.has_unit; same = sym typed.in_package }),
        )

    beside-found : IsFound project (IsBeside project u text) (beside_id tables row name)
    beside-found =
        same-found project (IsSeen project u (package_text is.unit.tree) text) (IsBeside project u text) (beside_id tables row name) beside-from beside-to
        (seen-found project tables whole once stands row.package name (package_text is.unit.tree) text is.package_is is-name u is.unit is.has_unit row.package is.package_is)

    -- the types of packages with these texts
    record SeenIn (texts : List (List ℕ)) (x : ℕ) : Type 0 where
      in_text : List ℕ
      among : Contains texts in_text
      seen : IsSeen project u in_text text x

    seen-nowhere : IsEmpty (SeenIn [])
    seen-nowhere x seen = in-none seen.in_text seen.among

    seen-first : (first : List ℕ) (texts : List (List ℕ)) (set : ℕ → Type 0) (x : ℕ) → Both (Both set (IsSeen project u first text)) (SeenIn texts) x
        → Both set (SeenIn (first ∷ texts)) x
    seen-first first texts set x (inl (inl has)) = inl has
    seen-first first texts set x (inl (inr seen)) = inr (record { in_text = first; among = here first texts; seen = seen })
    seen-first first texts set x (inr seen) = inr (record { in_text = seen.in_text; among = behind first texts seen.in_text seen.among; seen = seen.seen })

    seen-apart : (first : List ℕ) (texts : List (List ℕ)) (set : ℕ → Type 0) (x : ℕ) → Both set (SeenIn (first ∷ texts)) x
        → Both (Both set (IsSeen project u first text)) (SeenIn texts) x
    seen-apart first texts set x (inl has) = inl (inl has)
    seen-apart first texts set x (inr seen) = by (either first texts seen.in_text seen.among)
      where
        by : (first ≡ seen.in_text) ⊎ (Contains texts seen.in_text) → Both (Both set (IsSeen project u first text)) (SeenIn texts) x
        by (inl same) = inl (inr (subst (λ (one : List ℕ). IsSeen project u one text x) (sym same) seen.seen))
        by (inr rest) = inr (record { in_text = seen.in_text; among = rest; seen = seen.seen })

    demanded-found : (packages : List NameId) (texts : List (List ℕ)) (set : ℕ → Type 0) (found : Answer) → AllZip (IsText project) packages texts
        → IsAnswer project set found → IsAnswer project (Both set (SeenIn texts)) (demanded_from tables row.package name found packages)
    demanded-found [] [] set found zip so-far =
        same-answer project set (Both set (SeenIn [])) found (λ x has. inl has) (both-left set (SeenIn []) seen-nowhere) so-far
    demanded-found [] (first ∷ texts) set found zip so-far = absurd zip
    demanded-found (in_package ∷ packages) [] set found zip so-far = absurd zip
    demanded-found (in_package ∷ packages) (first ∷ texts) set found zip so-far =
        let next = accessible_id row.package in_package (get names_eq tables.types (in_package, name)) in
        let seen = seen-found project tables whole once stands in_package name first text zip.0 is-name u is.unit is.has_unit row.package is.package_is in
        let more = joined-answer project set (IsSeen project u first text) found next whole so-far seen in
        same-answer project (Both (Both set (IsSeen project u first text)) (SeenIn texts)) (Both set (SeenIn (first ∷ texts)))
        (demanded_from tables row.package name found (in_package ∷ packages)) (seen-first first texts set) (seen-apart first texts set)
        (demanded-found packages texts (Both set (IsSeen project u first text)) _ zip.1 more)

    -- the types of packages that are imported on demand
    abbrev all-texts : List (List ℕ)
    all-texts = with_texts [] (demand_texts (tree_of is.unit))

    demanded-to : (x : ℕ) → IsOnDemand project u text x → SeenIn all-texts x
    demanded-to x demand = record {
      in_text = dotted demand.ids;
      among = with_texts-has [] (demand_texts (tree_of is.unit)) (dotted demand.ids) (by demand.demanded);
      seen = (
        record {
          unit = typed.unit;
          has_unit = typed.has_unit;
          in_text = package-dotted typed.unit ∙ ap dotted typed.in_package;
          is_named = typed.is_named;
        },
        demand.is_type.1,
      );
    }
      where
        typed : IsTypeOf project demand.ids text x
        typed = demand.is_type.0

        by : IsDemanded project u demand.ids → Contains (demand_texts (tree_of is.unit)) (dotted demand.ids)
        by (inl lang) = subst (λ (ids : List (List ℕ)). Contains (demand_texts (tree_of is.unit)) (dotted ids)) (sym lang) (demand-lang (tree_of is.unit))
        by (inr imported) =
            let same = unit-one project u imported.unit is.unit imported.has_unit is.has_unit in
            subst (λ (unit : PlacedUnit). Contains (demand_texts (tree_of unit)) (dotted demand.ids)) same
            (subst (λ (ids : List (List ℕ)). Contains (demand_texts (tree_of imported.unit)) (dotted ids)) imported.is_named
            (demand-has (tree_of imported.unit) imported.import imported.imports imported.on_demand))

    demanded-by : (x : ℕ) (ids : List (List ℕ)) → IsDemanded project u ids → AllByRecursion IsPlain ids → (in_text : List ℕ) → dotted ids ≡ in_text
        → IsSeen project u in_text text x → IsOnDemand project u text x
    demanded-by x ids demanded plain in_text same seen =
        let named = seen.0 in
        let parsed = unit-parsed project x named.unit whole.parsed named.has_unit in
        record {
          ids = ids;
          demanded = demanded;
          is_type = (
            record {
              unit = named.unit;
              has_unit = named.has_unit;
              in_package = dotted-one (package_ids (tree_of named.unit)) ids (package-plain named.unit parsed) plain
                  (sym (package-dotted named.unit) ∙ named.in_text ∙ sym same);
              is_named = named.is_named;
            },
            seen.1,
          );
        }

    demanded-is : (x : ℕ) → SeenIn all-texts x → IsOnDemand project u text x
    demanded-is x seen = first (put-from [] (demand_texts (tree_of is.unit)) seen.in_text seen.among)
      where
        second : (dotted java_lang ≡ seen.in_text) ⊎ (Demands (tree_of is.unit).imports seen.in_text) → IsOnDemand project u text x
        second (inl same) = demanded-by x java_lang (inl refl) lang-plain seen.in_text same seen.seen
        second (inr demands) =
            demanded-by x (id_texts demands.import.name)
            (inr (record { unit = is.unit; has_unit = is.has_unit; import = demands.import; imports = demands.imports_it; on_demand = demands.on_demand; is_named = refl }))
            (demanded-plain is.unit demands.import (unit-parsed project u is.unit whole.parsed is.has_unit) demands.imports_it)
            seen.in_text demands.is_text seen.seen

        first : (Contains [] seen.in_text) ⊎ (Contains (demand_texts (tree_of is.unit)) seen.in_text) → IsOnDemand project u text x
        first (inl none) = absurd (in-none seen.in_text none)
        first (inr among) = second (demand-from (tree_of is.unit) seen.in_text among)

    abbrev nothing : ℕ → Type 0
    nothing x = ⊥

    on-demand-found : IsAnswer project (IsOnDemand project u text) (demanded_from tables row.package name answer.None row.demand)
    on-demand-found =
        same-answer project (Both nothing (SeenIn all-texts)) (IsOnDemand project u text) _ to from
        (demanded-found row.demand all-texts nothing answer.None is.demand (λ x none. none))
      where
        to : (x : ℕ) → Both nothing (SeenIn all-texts) x → IsOnDemand project u text x
        to x (inl none) = absurd none
        to x (inr seen) = demanded-is x seen

        from : (x : ℕ) → IsOnDemand project u text x → Both nothing (SeenIn all-texts) x
        from x demand = inr (demanded-to x demand)

    pub row-answer : IsAnswer project (TypeAt project u text) (answer_in tables row name)
    row-answer =
        first-answer project (IsOwn project u text) (OrElse (IsSingle project u text) (OrElse (IsBeside project u text) (IsOnDemand project u text)))
        (own_id row name) _ own-found
        (first-answer project (IsSingle project u text) (OrElse (IsBeside project u text) (IsOnDemand project u text)) (get name_eq row.single name) _ single-found
        (first-answer project (IsBeside project u text) (IsOnDemand project u text) (beside_id tables row name) _ beside-found on-demand-found))
