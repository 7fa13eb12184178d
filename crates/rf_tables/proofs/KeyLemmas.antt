-- The keys of the types of files: each is that of a file, a file that has one is among them, and no file is there twice.
use Rattle.std.proofs.Common.{◌≡◌, ℕ, zero, suc, ◌+◌, ◌<◌, ◌⊎◌, Bool, true, false, nat_eq, List, [], ◌∷◌, ◌++◌, Option, Some, None, Contains, refl, sym, ap, ◌∙◌, subst, inl, inr, slice_get, arith}
use Rattle.std.specs.List.{AllByRecursion, IsDistinct}
use Rattle.std.proofs.lemmas.Bool.{eqb-true}
use Rattle.std.proofs.lemmas.List.Elements.{Contains-append_left, Contains-append_right, Contains-append_cases, Contains-push}
use Rattle.std.proofs.lemmas.Map.Keys.{IsDistinct-cons, IsDistinct-from_apart}
use Rattle.rf_jmodel.specs.declared.projects.PlacedUnit.{PlacedUnit}
use Rattle.rf_jmodel.proofs.NameLemmas.{in-none, is-one}
use Rattle.rf_symtab.proofs.ListLemmas.{some-is, none-some}
use Rattle.rf_tables.specs.declared.type_keys.TypeKey.{TypeKey}
use Rattle.rf_tables.specs.TypeKeys.{key_of, keys_with, type_entry, type_keys}

end : (n : ℕ) → n ≡ n + 0
end n = omega arith

next : (n u : ℕ) → n + 1 + u ≡ n + suc u
next n u = omega arith

-- the type of file u, of files from file n on
pub record IsKeyOf (n : ℕ) (units : List PlacedUnit) (key : TypeKey) : Type 0 where
  pub u : ℕ
  pub file : PlacedUnit
  pub at : slice_get units u ≡ Some file
  pub is_file : key.unit ≡ n + u
  pub has_entry : type_entry file ≡ Some (key_of key)

abbrev pub made : ℕ → ℕ × ℕ → TypeKey
made n entry = record { file = entry.0; token = entry.1; unit = n }

first-key : (n : ℕ) (file : PlacedUnit) (units : List PlacedUnit) (key : TypeKey) → Contains (keys_with n (type_entry file)) key
    → IsKeyOf n (file ∷ units) key
first-key n file units key has = by (type_entry file) refl has
  where
    by : (found : Option (ℕ × ℕ)) → type_entry file ≡ found → Contains (keys_with n found) key → IsKeyOf n (file ∷ units) key
    by None is among = absurd (in-none key among)
    by (Some entry) is among =
        let same : made n entry ≡ key = is-one (made n entry) key among in
        record {
          u = 0;
          file = file;
          at = refl;
          is_file = ap (λ (one : TypeKey). one.unit) (sym same) ∙ end n;
          has_entry = is ∙ ap (λ (one : TypeKey). Some (key_of one)) same;
        }

pub keys-from : (n : ℕ) (units : List PlacedUnit) (key : TypeKey) → Contains (type_keys n units) key → IsKeyOf n units key
keys-from n [] key has = absurd (in-none key has)
keys-from n (file ∷ units) key has =
    by (Contains-append_cases (keys_with n (type_entry file)) (type_keys (n + 1) units) key has) (λ rest. keys-from (n + 1) units key rest)
  where
    by : (Contains (keys_with n (type_entry file)) key) ⊎ (Contains (type_keys (n + 1) units) key)
        → (Contains (type_keys (n + 1) units) key → IsKeyOf (n + 1) units key) → IsKeyOf n (file ∷ units) key
    by (inl first) later = first-key n file units key first
    by (inr rest) later =
        let found = later rest in
        record { u = suc found.u; file = found.file; at = found.at; is_file = found.is_file ∙ next n found.u; has_entry = found.has_entry }

pub keys-have : (n : ℕ) (units : List PlacedUnit) (u : ℕ) (file : PlacedUnit) (entry : ℕ × ℕ) → slice_get units u ≡ Some file
    → type_entry file ≡ Some entry → Contains (type_keys n units) (made (n + u) entry)
keys-have n [] u file entry at is = absurd (none-some at)
keys-have n (first ∷ units) zero file entry at is =
    Contains-append_left (keys_with n (type_entry first)) (type_keys (n + 1) units) (made (n + 0) entry)
    (subst (λ (found : Option (ℕ × ℕ)). Contains (keys_with n found) (made (n + 0) entry))
    (sym is ∙ ap (λ (one : PlacedUnit). type_entry one) (sym (some-is at)))
    (subst (λ (m : ℕ). Contains (made n entry ∷ []) (made m entry)) (end n) (Contains-push [] (made n entry))))
keys-have n (first ∷ units) (suc u) file entry at is =
    Contains-append_right (keys_with n (type_entry first)) (type_keys (n + 1) units) (made (n + suc u) entry)
    (subst (λ (m : ℕ). Contains (type_keys (n + 1) units) (made m entry)) (next n u) (keys-have (n + 1) units u file entry at is))

-- no file is there twice
abbrev pub is_same_file : TypeKey → TypeKey → Bool
is_same_file one other = nat_eq one.unit other.unit

apart : (n m : ℕ) → n < m → nat_eq n m ≡ false
apart n m less = by (nat_eq n m) refl
  where
    by : (test : Bool) → nat_eq n m ≡ test → test ≡ false
    by true is = let same = eqb-true n m is in absurd (omega (arith, less, same))
    by false is = refl

later-files : (n m : ℕ) (units : List PlacedUnit) (entry : ℕ × ℕ) → n < m
    → AllByRecursion (λ other. is_same_file (made n entry) other ≡ false) (type_keys m units)
later-files n m [] entry less = tt
later-files n m (file ∷ units) entry less = by (type_entry file) (later-files n (m + 1) units entry (omega (arith, less)))
  where
    by : (found : Option (ℕ × ℕ)) → AllByRecursion (λ other. is_same_file (made n entry) other ≡ false) (type_keys (m + 1) units)
        → AllByRecursion (λ other. is_same_file (made n entry) other ≡ false) (keys_with m found ++ type_keys (m + 1) units)
    by None rest = rest
    by (Some other) rest = (apart n m less, rest)

pub distinct-files : (n : ℕ) (units : List PlacedUnit) → IsDistinct is_same_file (type_keys n units)
distinct-files n [] = IsDistinct-from_apart is_same_file [] (λ i j d less below. absurd (omega (arith, below)))
distinct-files n (file ∷ units) = by (type_entry file) (distinct-files (n + 1) units)
  where
    by : (found : Option (ℕ × ℕ)) → IsDistinct is_same_file (type_keys (n + 1) units) → IsDistinct is_same_file (keys_with n found ++ type_keys (n + 1) units)
    by None rest = rest
    by (Some entry) rest =
        IsDistinct-cons is_same_file (made n entry) (type_keys (n + 1) units) (later-files n (n + 1) units entry (omega arith)) rest
