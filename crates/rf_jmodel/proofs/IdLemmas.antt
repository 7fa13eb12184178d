-- Ids: one element each, and they stay where the keys do.
use Rattle.std.proofs.Common.{◌≡◌, ℕ, ◌↔◌, Bool, List, Some, sym, ap, ◌∙◌, inl, inr, slice_get, arith}
use Rattle.std.proofs.lemmas.Bool.{cases_lt}
use Rattle.rf_jview.specs.declared.marks.Mark.{Mark}
use Rattle.rf_jmodel.specs.declared.projects.Project.{Project}
use Rattle.rf_jmodel.specs.Elements.{HasElement, HasId, AreKeys}
use Rattle.rf_jmodel.proofs.KeyLemmas.{keys-are-one, once}

key-is : (one other : ℕ × ℕ) → Some one ≡ Some other → one ≡ other
key-is one other same = cc

-- both ids are places in one list
moved : (project : Project) (of : Mark → Bool) (id other-id : ℕ) (one other : ℕ × ℕ) (first : HasId project of id one) (second : HasId project of other-id other)
    → slice_get first.keys other-id ≡ Some other
moved project of id other-id one other first second =
    ap (λ (keys : List (ℕ × ℕ)). slice_get keys other-id) (keys-are-one (HasElement project of) first.keys second.keys first.are_keys second.are_keys) ∙ second.at

pub one-element : (project : Project) (of : Mark → Bool) (id : ℕ) (one other : ℕ × ℕ) → HasId project of id one → HasId project of id other → one ≡ other
one-element project of id one other first second = key-is one other (sym first.at ∙ moved project of id id one other first second)

pub one-id : (project : Project) (of : Mark → Bool) (one other : ℕ) (key : ℕ × ℕ) → HasId project of one key → HasId project of other key → one ≡ other
one-id project of one other key first second =
    let at-other = moved project of one other key key first second in
    elim (cases_lt one other) [
      | inl less ↦ absurd (once first.keys one other key first.are_keys.rising first.at at-other less)
      | inr least ↦ elim (cases_lt other one) [
        | inl more ↦ absurd (once first.keys other one key first.are_keys.rising at-other first.at more)
        | inr most ↦ omega (arith, least, most)
      ]
    ]

kept : (old new : Project) (of : Mark → Bool) → ((key : ℕ × ℕ) → HasElement old of key ↔ HasElement new of key)
    → (keys : List (ℕ × ℕ)) → AreKeys (HasElement old of) keys → AreKeys (HasElement new of) keys
kept old new of same keys are = record {
  rising = are.rising;
  exact = λ key. ((λ has. (same key).0 ((are.exact key).0 has)), (λ element. (are.exact key).1 ((same key).1 element)));
}

pub ids-stay : (old new : Project) (of : Mark → Bool) → ((key : ℕ × ℕ) → HasElement old of key ↔ HasElement new of key)
    → (id : ℕ) (key : ℕ × ℕ) → HasId old of id key → HasId new of id key
ids-stay old new of same id key has = record { keys = has.keys; are_keys = kept old new of same has.keys has.are_keys; at = has.at }
