-- The faults of names of types and of the rules on paths, imports and supertypes, and which of them comes first.
use Rattle.std.specs.Prelude.{◌≡◌, ℕ, ◌<◌, ◌≤◌, ◌⊎◌}
use Rattle.rf_jmodel.specs.declared.projects.Project.{Project}
use Rattle.rf_jmodel.specs.Elements.{IsBefore}
use Rattle.rf_jmodel.specs.IllFormed.{IsBroken, IsTypeBefore}
use Rattle.rf_jmodel.specs.TypeReferences.{IsUnresolved, IsAmbiguous}
use Rattle.rf_jmodel.specs.Units.{KeyAt}

-- A rule is broken at two types; a reference, by its key, is bound to no type, or to several.
pub data Fault : Type 0 where
  Broken : (rule x y : ℕ) → Fault
  Unresolved : ℕ × ℕ → Fault
  Ambiguous : ℕ × ℕ → Fault

pub record IsUnresolvedKey (project : Project) (key : ℕ × ℕ) : Type 0 where
  pub u : ℕ
  pub k : ℕ
  pub has_key : KeyAt project u k key
  pub unresolved : IsUnresolved project u k

pub record IsAmbiguousKey (project : Project) (key : ℕ × ℕ) : Type 0 where
  pub u : ℕ
  pub k : ℕ
  pub has_key : KeyAt project u k key
  pub ambiguous : IsAmbiguous project u k

abbrev pub HasFault : Project → Fault → Type 0
HasFault project (Broken rule x y) = IsBroken project rule x y
HasFault project (Unresolved key) = IsUnresolvedKey project key
HasFault project (Ambiguous key) = IsAmbiguousKey project key

-- Rules 1 to 5 come first, then the references in element order of their places, then the rules behind. Rules go by number,
-- in one rule the faults by their first type, and then by the second.
abbrev pub IsPairBefore : Project → ℕ → ℕ → ℕ → ℕ → Type 0
IsPairBefore project x y v w = (IsTypeBefore project x v) ⊎ ((x ≡ v) × IsTypeBefore project y w)

abbrev pub IsEarlier : Project → Fault → Fault → Type 0
IsEarlier project (Broken rule x y) (Broken other v w) = (rule < other) ⊎ ((rule ≡ other) × IsPairBefore project x y v w)
IsEarlier project (Broken rule x y) (Unresolved key) = rule ≤ 5
IsEarlier project (Broken rule x y) (Ambiguous key) = rule ≤ 5
IsEarlier project (Unresolved key) (Broken rule x y) = 5 < rule
IsEarlier project (Ambiguous key) (Broken rule x y) = 5 < rule
IsEarlier project (Unresolved key) (Unresolved other) = IsBefore key other
IsEarlier project (Unresolved key) (Ambiguous other) = IsBefore key other
IsEarlier project (Ambiguous key) (Unresolved other) = IsBefore key other
IsEarlier project (Ambiguous key) (Ambiguous other) = IsBefore key other

pub record IsFirstFault (project : Project) (fault : Fault) : Type 0 where
  pub has : HasFault project fault
  pub first : (other : Fault) → HasFault project other → IsEarlier project other fault → ⊥
