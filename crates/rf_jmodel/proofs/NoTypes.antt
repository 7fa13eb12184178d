-- Marks among which no type is declared, and among which one is: how lists of them go together.
use Rattle.std.proofs.Common.{◌≡◌, ℕ, zero, suc, ◌+◌, ◌⊎◌, true, false, List, [], ◌∷◌, ◌++◌, Option, Some, None, refl, sym, ap, ◌∙◌, subst, inl, inr, slice_get, append_assoc}
use Rattle.std.specs.List.{flat_map}
use Rattle.rf_jtree.specs.declared.tokens.Tok.{Tok}
use Rattle.rf_jtree.specs.NameTrees.{ManyTree, NameTree, TypeBaseTree, Prim, Named, TypeUseTree, dims_yield}
use Rattle.rf_jview.specs.declared.marks.Mark.{Mark}
use Rattle.rf_jview.specs.declared.marks.Mark.TheVariants as m
use Rattle.rf_jview.specs.MarkWords.{plains}
use Rattle.rf_jview.specs.NameMarks.{type_rest_marks, type_name_marks, name_rest_marks, name_marks, base_marks, type_marks, option_marks, behind_marks, many_marks}
use Rattle.rf_jmodel.specs.Elements.{is_type}
use Rattle.rf_jmodel.specs.OneType.{DeclaresOneType}

pub record HasNoType (marks : List Mark) : Type 0 where
  pub never : (k : ℕ) → slice_get marks k ≡ Some m.Type → ⊥

mark-is : (one other : Mark) → Some one ≡ Some other → one ≡ other
mark-is one other same = cc

no-mark : (mark : Mark) → None ≡ Some mark → ⊥
no-mark mark same = cc

not-both : true ≡ false → ⊥
not-both same = cc

other : (mark : Mark) → is_type mark ≡ false → Some mark ≡ Some m.Type → ⊥
other mark differs same = not-both (sym (ap is_type (mark-is mark m.Type same)) ∙ differs)

-- one list behind another
pub none : HasNoType []
none = record { never = λ k at. no-mark m.Type at }

pub one : {mark : Mark} {marks : List Mark} → is_type mark ≡ false → HasNoType marks → HasNoType (mark ∷ marks)
one {mark} {marks} differs rest = record { never = by }
  where
    by : (k : ℕ) → slice_get (mark ∷ marks) k ≡ Some m.Type → ⊥
    by zero at = other mark differs at
    by (suc k) at = rest.never k at

either : (some more : List Mark) (k : ℕ) → slice_get (some ++ more) k ≡ Some m.Type
    → (slice_get some k ≡ Some m.Type) ⊎ ((l : ℕ) × (slice_get more l ≡ Some m.Type))
either [] more k at = inr (k, at)
either (mark ∷ some) more zero at = inl at
either (mark ∷ some) more (suc k) at = either some more k at

pub both : {some more : List Mark} → HasNoType some → HasNoType more → HasNoType (some ++ more)
both {some} {more} first second = record { never = λ k at. elim (either some more k at) [ inl in-some ↦ first.never k in-some | inr in-more ↦ second.never in-more.0 in-more.1 ] }

pub regroup : (some more others : List Mark) → HasNoType (some ++ (more ++ others)) → HasNoType ((some ++ more) ++ others)
regroup some more others whole = subst HasNoType (sym (append_assoc some more others)) whole

pub each : (toks : List Tok) → HasNoType (plains toks)
each [] = none
each (tok ∷ toks) = one refl (each toks)

pub optional : {A : Type 0} (marks : A → List Mark) → ((part : A) → HasNoType (marks part)) → (part : Option A) → HasNoType (option_marks marks part)
optional marks same None = none
optional marks same (Some part) = same part

rests : {A : Type 0} (marks : A → List Mark) → ((part : A) → HasNoType (marks part)) → (rest : List (Tok × A)) → HasNoType (flat_map (behind_marks marks) rest)
rests marks same [] = none
rests marks same (item ∷ rest) = one refl (both (same item.1) (rests marks same rest))

pub manies : {A : Type 0} (marks : A → List Mark) → ((part : A) → HasNoType (marks part)) → (many : ManyTree A) → HasNoType (many_marks marks many)
manies marks same many = both (same many.first) (rests marks same many.rest)

-- names and types
name_rest_untyped : (back : ℕ) (rest : List (Tok × Tok)) → HasNoType (name_rest_marks back rest)
name_rest_untyped back [] = one refl none
name_rest_untyped back (item ∷ rest) = one refl (one refl (name_rest_untyped (back + 2) rest))

pub name_untyped : (name : NameTree) → HasNoType (name_marks name)
name_untyped name = name_rest_untyped 0 name.ids.rest

tname_rest_untyped : (rest : List (Tok × Tok)) → HasNoType (type_rest_marks rest)
tname_rest_untyped [] = one refl none
tname_rest_untyped (item ∷ rest) = one refl (one refl (tname_rest_untyped rest))

pub tname_untyped : (name : NameTree) → HasNoType (type_name_marks name)
tname_untyped name = tname_rest_untyped name.ids.rest

pub base_untyped : (base : TypeBaseTree) → HasNoType (base_marks base)
base_untyped (Prim tok) = one refl none
base_untyped (Named name) = tname_untyped name

pub type_untyped : (used_type : TypeUseTree) → HasNoType (type_marks used_type)
type_untyped used_type = both (base_untyped used_type.base) (each (dims_yield used_type.dims))

-- the one type, and what stands before and behind it
pub here : {marks : List Mark} → HasNoType marks → DeclaresOneType (m.Type ∷ marks)
here {marks} rest = record { at = 0; declared = refl; only = by }
  where
    by : (k : ℕ) → slice_get (m.Type ∷ marks) k ≡ Some m.Type → k ≡ 0
    by zero at = refl
    by (suc k) at = absurd (rest.never k at)

later : {mark : Mark} {marks : List Mark} → (Some mark ≡ Some m.Type → ⊥) → DeclaresOneType marks → DeclaresOneType (mark ∷ marks)
later {mark} {marks} differs rest = record { at = suc rest.at; declared = rest.declared; only = by }
  where
    by : (k : ℕ) → slice_get (mark ∷ marks) k ≡ Some m.Type → k ≡ suc rest.at
    by zero at = absurd (differs at)
    by (suc k) at = ap suc (rest.only k at)

pub behind-one : {mark : Mark} {marks : List Mark} → is_type mark ≡ false → DeclaresOneType marks → DeclaresOneType (mark ∷ marks)
behind-one {mark} differs rest = later (other mark differs) rest

behind-list : (some more : List Mark) → ((k : ℕ) → slice_get some k ≡ Some m.Type → ⊥) → DeclaresOneType more → DeclaresOneType (some ++ more)
behind-list [] more never rest = rest
behind-list (mark ∷ some) more never rest = later (never 0) (behind-list some more (λ k at. never (suc k) at) rest)

pub behind : {some more : List Mark} → HasNoType some → DeclaresOneType more → DeclaresOneType (some ++ more)
behind {some} {more} first rest = behind-list some more first.never rest

on-left : (some more : List Mark) (k : ℕ) → slice_get some k ≡ Some m.Type → slice_get (some ++ more) k ≡ Some m.Type
on-left [] more k at = absurd (no-mark m.Type at)
on-left (mark ∷ some) more zero at = at
on-left (mark ∷ some) more (suc k) at = on-left some more k at

pub before : {some more : List Mark} → DeclaresOneType some → HasNoType more → DeclaresOneType (some ++ more)
before {some} {more} first rest = record {
  at = first.at;
  declared = on-left some more first.at first.declared;
  only = λ k at. elim (either some more k at) [ inl in-some ↦ first.only k in-some | inr in-more ↦ absurd (rest.never in-more.0 in-more.1) ];
}
