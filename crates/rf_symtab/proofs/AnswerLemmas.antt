-- Answers on sets by cases, and on sets that are joined.
use Rattle.std.proofs.Common.{◌≡◌, ℕ, ◌⊎◌, Bool, true, false, cond, nat_eq, Option, Some, None, refl, sym, ap, ◌∙◌, subst, inl, inr}
use Rattle.std.proofs.lemmas.Bool.{eqb-true, eq-eqb}
use Rattle.rf_jmodel.specs.declared.ids.TypeId.{TypeId}
use Rattle.rf_jmodel.specs.declared.projects.Project.{Project}
use Rattle.rf_jmodel.specs.Sets.{IsEmpty, IsOnly, HasSeveral, OrElse}
use Rattle.rf_jmodel.specs.Subtypes.{IsTypeId}
use Rattle.rf_jmodel.specs.Whole.{IsWhole}
use Rattle.rf_symtab.specs.declared.answers.Answer.{Answer}
use Rattle.rf_symtab.specs.declared.answers.Answer.TheVariants as answer
use Rattle.rf_symtab.specs.Answers.{IsOne, IsAnswer}
use Rattle.rf_symtab.specs.Found.{joined, first_of}
use Rattle.rf_symtab.proofs.TypeIdLemmas.{number-of, one-type, one-type-id}

not-both : false ≡ true → ⊥
not-both same = cc

-- a set with one type at most, by the id that was found
abbrev pub IsFound : Project → (ℕ → Type 0) → Option TypeId → Type 0
IsFound project set None = IsEmpty set
IsFound project set (Some id) = IsOne project set id

abbrev pub Both : (ℕ → Type 0) → (ℕ → Type 0) → ℕ → Type 0
Both one other x = (one x) ⊎ (other x)

-- sets with the same types have the same answer
pub same-found : (project : Project) (one other : ℕ → Type 0) (found : Option TypeId) → ((x : ℕ) → one x → other x) → ((x : ℕ) → other x → one x)
    → IsFound project one found → IsFound project other found
same-found project one other None to from is = λ x has. is x (from x has)
same-found project one other (Some id) to from is =
    record { x = is.x; has_id = is.has_id; is_only = (to is.x is.is_only.0, λ y has. is.is_only.1 y (from y has)) }

pub same-answer : (project : Project) (one other : ℕ → Type 0) (found : Answer) → ((x : ℕ) → one x → other x) → ((x : ℕ) → other x → one x)
    → IsAnswer project one found → IsAnswer project other found
same-answer project one other answer.None to from is = λ x has. is x (from x has)
same-answer project one other (answer.One id) to from is =
    record { x = is.x; has_id = is.has_id; is_only = (to is.x is.is_only.0, λ y has. is.is_only.1 y (from y has)) }
same-answer project one other answer.Several to from is =
    record { one = is.one; other = is.other; has_one = to is.one is.has_one; has_other = to is.other is.has_other; differ = is.differ }

-- the first of two sets that isn't empty
or-only : (first others : ℕ → Type 0) (x : ℕ) → IsOnly first x → IsOnly (OrElse first others) x
or-only first others x only = (inl only.0, only-one)
  where
    only-one : (y : ℕ) → OrElse first others y → y ≡ x
    only-one y (inl has) = only.1 y has
    only-one y (inr rest) = absurd (rest.0 x only.0)

or-rest : (first others : ℕ → Type 0) → IsEmpty first → (x : ℕ) → OrElse first others x → others x
or-rest first others empty x (inl has) = absurd (empty x has)
or-rest first others empty x (inr rest) = rest.1

pub first-answer : (project : Project) (first others : ℕ → Type 0) (found : Option TypeId) (rest : Answer) → IsFound project first found
    → IsAnswer project others rest → IsAnswer project (OrElse first others) (first_of found rest)
first-answer project first others (Some id) rest is more = record { x = is.x; has_id = is.has_id; is_only = or-only first others is.x is.is_only }
first-answer project first others None rest is more =
    same-answer project others (OrElse first others) rest (λ x has. inr (is, has)) (λ x has. or-rest first others is x has) more

-- a set with one type more at most
pub both-left : (one other : ℕ → Type 0) → IsEmpty other → (x : ℕ) → Both one other x → one x
both-left one other empty x (inl has) = has
both-left one other empty x (inr has) = absurd (empty x has)

both-right : (one other : ℕ → Type 0) → IsEmpty one → (x : ℕ) → Both one other x → other x
both-right one other empty x (inl has) = absurd (empty x has)
both-right one other empty x (inr has) = has

same-id : (project : Project) (one other : ℕ → Type 0) (known id : TypeId) → IsWhole project → IsOne project one known → IsOne project other id
    → known.0 ≡ id.0 → IsOne project (Both one other) known
same-id project one other known id whole first second same =
    record { x = first.x; has_id = first.has_id; is_only = (inl first.is_only.0, only) }
  where
    ids : known ≡ id
    ids = number-of known id same

    types : second.x ≡ first.x
    types = one-type project id second.x first.x whole second.has_id (subst (λ (one : TypeId). IsTypeId project one first.x) ids first.has_id)

    only : (y : ℕ) → Both one other y → y ≡ first.x
    only y (inl has) = first.is_only.1 y has
    only y (inr has) = second.is_only.1 y has ∙ types

two-ids : (project : Project) (one other : ℕ → Type 0) (known id : TypeId) → IsOne project one known → IsOne project other id
    → (known.0 ≡ id.0 → ⊥) → HasSeveral (Both one other)
two-ids project one other known id first second differ =
    record { one = first.x; other = second.x; has_one = inl first.is_only.0; has_other = inr second.is_only.0; differ = apart }
  where
    apart : first.x ≡ second.x → ⊥
    apart same = differ (ap (λ (id : TypeId). id.0) (one-type-id project known id second.x (subst (IsTypeId project known) same first.has_id) second.has_id))

one-more : (project : Project) (one other : ℕ → Type 0) (known id : TypeId) → IsWhole project → IsOne project one known → IsOne project other id
    → IsAnswer project (Both one other) (joined (answer.One known) (Some id))
one-more project one other known id whole first second = by (nat_eq known.0 id.0) refl
  where
    by : (test : Bool) → nat_eq known.0 id.0 ≡ test → IsAnswer project (Both one other) (cond test (answer.One known) answer.Several)
    by true is = same-id project one other known id whole first second (eqb-true known.0 id.0 is)
    by false is = two-ids project one other known id first second (λ same. not-both (sym is ∙ eq-eqb known.0 id.0 same))

pub joined-answer : (project : Project) (one other : ℕ → Type 0) (found : Answer) (more : Option TypeId) → IsWhole project
    → IsAnswer project one found → IsFound project other more → IsAnswer project (Both one other) (joined found more)
joined-answer project one other found None whole is empty =
    same-answer project one (Both one other) found (λ x has. inl has) (both-left one other empty) is
joined-answer project one other answer.None (Some id) whole is more =
    record { x = more.x; has_id = more.has_id; is_only = (inr more.is_only.0, λ y has. more.is_only.1 y (both-right one other is y has)) }
joined-answer project one other (answer.One known) (Some id) whole is more = one-more project one other known id whole is more
joined-answer project one other answer.Several (Some id) whole is more =
    record { one = is.one; other = is.other; has_one = inl is.has_one; has_other = inl is.has_other; differ = is.differ }
