-- In a project that was numbered the type with an id is that of the file with this number.
use Rattle.std.proofs.Common.{◌≡◌, ℕ, zero, suc, ◌+◌, ◌<◌, true, false, List, [], ◌∷◌, ◌++◌, Some, None, All, Contains, length, refl, sym, ap, ◌∙◌, subst, slice_get, arith}
use Rattle.rf_jtree.specs.DeclTrees.{UnitTree, unit_yield}
use Rattle.rf_jview.specs.declared.marks.Mark.{Mark}
use Rattle.rf_jview.specs.declared.marks.Mark.TheVariants as m
use Rattle.rf_jview.specs.DeclMarks.{unit_marks}
use Rattle.rf_jmodel.specs.declared.ids.TypeId.{TypeId}
use Rattle.rf_jmodel.specs.declared.projects.PlacedUnit.{PlacedUnit}
use Rattle.rf_jmodel.specs.ElementLists.{places_from, places_in}
use Rattle.rf_jmodel.specs.Elements.{is_type}
use Rattle.rf_jmodel.specs.Numbering.{numbered_unit, numbered}
use Rattle.rf_jmodel.specs.OneType.{DeclaresOneType}
use Rattle.rf_jmodel.specs.Subtypes.{IsTypeId}
use Rattle.rf_jmodel.specs.Units.{MarkAt, tree_of, marks_of}
use Rattle.rf_jmodel.specs.Whole.{IsParsed}
use Rattle.rf_jmodel.proofs.DeclTypes.{unit_typed}
use Rattle.rf_jmodel.proofs.KeyLemmas.{Rises, same-keys, here}
use Rattle.rf_jmodel.proofs.ListLemmas.{marked-from, marked-in, rises-in-file}
use Rattle.rf_jmodel.proofs.NameLemmas.{in-none, is-one}
use Rattle.rf_jmodel.proofs.NumberLemmas.{stays}
use Rattle.rf_jmodel.proofs.WholeLemmas.{are-keys, key-of-mark}

not-both : false ≡ true → ⊥
not-both same = cc

is-type : (mark : Mark) → is_type mark ≡ true → mark ≡ m.Type
is-type m.Type is = refl
is-type m.Plain is = absurd (not-both is)
is-type m.Front is = absurd (not-both is)
is-type m.TypeName is = absurd (not-both is)
is-type (m.Part back) is = absurd (not-both is)
is-type (m.Name back) is = absurd (not-both is)
is-type m.FieldAccess is = absurd (not-both is)
is-type (m.Invokes invocation back) is = absurd (not-both is)
is-type m.Field is = absurd (not-both is)
is-type m.NextField is = absurd (not-both is)
is-type m.Method is = absurd (not-both is)
is-type m.Ctor is = absurd (not-both is)
is-type m.DefaultCtor is = absurd (not-both is)
is-type (m.Opens opening width) is = absurd (not-both is)
is-type (m.Local back) is = absurd (not-both is)
is-type (m.Ahead ahead) is = absurd (not-both is)

-- the one place of a type in a file
one-place : (u : ℕ) (marks : List Mark) (typed : DeclaresOneType marks) → places_from is_type u 0 marks ≡ (u, 0 + typed.at) ∷ []
one-place u marks typed =
    same-keys (places_from is_type u 0 marks) ((u, 0 + typed.at) ∷ []) (rises-in-file is_type u 0 marks) single to from
  where
    single : Rises ((u, 0 + typed.at) ∷ [])
    single = ((λ other has. absurd (in-none other has)), tt)

    to : (key : ℕ × ℕ) → Contains (places_from is_type u 0 marks) key → Contains ((u, 0 + typed.at) ∷ []) key
    to key has =
        let marked = marked-from is_type u 0 marks key has in
        let at : slice_get marks marked.k ≡ Some m.Type = marked.at ∙ ap (λ (mark : Mark). Some mark) (is-type marked.mark marked.is_of) in
        let place : (u, 0 + typed.at) ≡ key = ap (λ (k : ℕ). (u, 0 + k)) (sym (typed.only marked.k at)) ∙ sym marked.is in
        subst (λ (one : ℕ × ℕ). Contains ((u, 0 + typed.at) ∷ []) one) place (here (u, 0 + typed.at) [])

    from : (key : ℕ × ℕ) → Contains ((u, 0 + typed.at) ∷ []) key → Contains (places_from is_type u 0 marks) key
    from key has =
        subst (λ (one : ℕ × ℕ). Contains (places_from is_type u 0 marks) one) (is-one (u, 0 + typed.at) key has)
        (marked-in is_type u 0 typed.at marks m.Type typed.declared refl)

no-unit : (unit : PlacedUnit) → None ≡ Some unit → ⊥
no-unit unit same = cc

unit-is : (one other : PlacedUnit) → Some one ≡ Some other → one ≡ other
unit-is one other same = cc

end : (n : ℕ) → n ≡ n + 0
end n = omega arith

next : (n k : ℕ) → n + 1 + k ≡ n + suc k
next n k = omega arith

abbrev type-at : PlacedUnit → ℕ
type-at unit = (unit_typed (tree_of unit)).at

types-in : (u n : ℕ) (units : List PlacedUnit) (unit : PlacedUnit) → slice_get units n ≡ Some unit
    → slice_get (places_in is_type u units) n ≡ Some (u + n, 0 + type-at unit)
types-in u n [] unit at = absurd (no-unit unit at)
types-in u zero (first ∷ units) unit at =
    ap (λ (some : List (ℕ × ℕ)). slice_get (some ++ places_in is_type (u + 1) units) 0) (one-place u (marks_of first) (unit_typed (tree_of first)))
    ∙ ap (λ (one : PlacedUnit). Some (u, 0 + type-at one)) (unit-is first unit at)
    ∙ ap (λ (file : ℕ). Some (file, 0 + type-at unit)) (end u)
types-in u (suc n) (first ∷ units) unit at =
    ap (λ (some : List (ℕ × ℕ)). slice_get (some ++ places_in is_type (u + 1) units) (suc n)) (one-place u (marks_of first) (unit_typed (tree_of first)))
    ∙ types-in (u + 1) n units unit at
    ∙ ap (λ (file : ℕ). Some (file, 0 + type-at unit)) (next u n)

found : (units : List PlacedUnit) (n : ℕ) → n < length units → (unit : PlacedUnit) × (slice_get units n ≡ Some unit)
found [] n below = absurd (omega arith)
found (unit ∷ units) zero below = (unit, refl)
found (unit ∷ units) (suc n) below = found units n (omega arith)

pub type-ids : (units : List PlacedUnit) (own lib : ℕ) → All IsParsed units → ((tree : UnitTree) → length (unit_marks tree) ≡ length (unit_yield tree))
    → (id : TypeId) → id.0 < length units → IsTypeId (numbered units own lib) id id.0
type-ids units own lib all laws id below = let there = found units id.0 below in of-file there.0 there.1
  where
    of-file : (unit : PlacedUnit) → slice_get units id.0 ≡ Some unit → IsTypeId (numbered units own lib) id id.0
    of-file unit at =
        let typed = unit_typed (tree_of unit) in
        let has_mark : MarkAt (numbered units own lib) id.0 typed.at m.Type =
        record { unit = numbered_unit (0 + id.0) unit; has_unit = stays 0 id.0 units unit at; has_mark = typed.declared } in
        record {
          key = (0 + id.0, 0 + typed.at);
          has_id = record { keys = places_in is_type 0 units; are_keys = are-keys units own lib all laws is_type; at = types-in 0 id.0 units unit at };
          k = typed.at;
          stands = record { mark = m.Type; has_mark = has_mark; is_of = refl; has_key = key-of-mark units own lib all laws id.0 typed.at m.Type has_mark };
        }
