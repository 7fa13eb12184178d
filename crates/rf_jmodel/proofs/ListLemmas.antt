-- The places of elements in files: which they are, and that they rise.
use Rattle.std.proofs.Common.{◌≡◌, ℕ, zero, suc, ◌+◌, ◌<◌, ◌⊎◌, Bool, true, false, cond, List, [], ◌∷◌, Some, None, Contains, refl, sym, ap, ◌∙◌, subst, inl, inr, slice_get, arith}
use Rattle.std.proofs.lemmas.List.Elements.{Contains-append_left, Contains-append_right, Contains-append_cases}
use Rattle.rf_jview.specs.declared.marks.Mark.{Mark}
use Rattle.rf_jmodel.specs.declared.projects.PlacedUnit.{PlacedUnit}
use Rattle.rf_jmodel.specs.ElementLists.{places_from, places_in}
use Rattle.rf_jmodel.specs.Elements.{IsBefore}
use Rattle.rf_jmodel.specs.Units.{marks_of}
use Rattle.rf_jmodel.proofs.KeyLemmas.{Rises, here, behind, either, rises-append}
use Rattle.rf_jmodel.proofs.NameLemmas.{in-none}

end : (n : ℕ) → n ≡ n + 0
end n = omega arith

next : (n k : ℕ) → n + 1 + k ≡ n + suc k
next n k = omega arith

less : (n k : ℕ) → n < n + 1 + k
less n k = omega arith

-- a place in a file is that of a mark
pub record Marked (of : Mark → Bool) (u n : ℕ) (marks : List Mark) (key : ℕ × ℕ) : Type 0 where
  pub k : ℕ
  pub mark : Mark
  pub at : slice_get marks k ≡ Some mark
  pub is_of : of mark ≡ true
  pub is : key ≡ (u, n + k)

later : (of : Mark → Bool) (u n : ℕ) (mark : Mark) (marks : List Mark) (key : ℕ × ℕ) → Marked of u (n + 1) marks key → Marked of u n (mark ∷ marks) key
later of u n mark marks key marked =
    record { k = suc marked.k; mark = marked.mark; at = marked.at; is_of = marked.is_of; is = marked.is ∙ ap (λ (at : ℕ). (u, at)) (next n marked.k) }

pub marked-from : (of : Mark → Bool) (u n : ℕ) (marks : List Mark) (key : ℕ × ℕ) → Contains (places_from of u n marks) key → Marked of u n marks key
marked-from of u n [] key has = absurd (in-none key has)
marked-from of u n (mark ∷ marks) key has = by (of mark) refl has (λ rest. later of u n mark marks key (marked-from of u (n + 1) marks key rest))
  where
    first : of mark ≡ true → (u, n) ≡ key → Marked of u n (mark ∷ marks) key
    first is same = record { k = 0; mark = mark; at = refl; is_of = is; is = sym same ∙ ap (λ (at : ℕ). (u, at)) (end n) }

    by : (test : Bool) → of mark ≡ test → Contains (cond test ((u, n) ∷ places_from of u (n + 1) marks) (places_from of u (n + 1) marks)) key
        → (Contains (places_from of u (n + 1) marks) key → Marked of u n (mark ∷ marks) key) → Marked of u n (mark ∷ marks) key
    by true is has more = elim (either (u, n) (places_from of u (n + 1) marks) key has) [ inl same ↦ first is same | inr rest ↦ more rest ]
    by false is has more = more has

pub marked-in : (of : Mark → Bool) (u n k : ℕ) (marks : List Mark) (mark : Mark) → slice_get marks k ≡ Some mark → of mark ≡ true
    → Contains (places_from of u n marks) (u, n + k)
marked-in of u n k [] mark at is = absurd (no-mark mark at)
  where
    no-mark : (mark : Mark) → None ≡ Some mark → ⊥
    no-mark mark same = cc
marked-in of u n zero (first ∷ marks) mark at is =
    subst (λ (test : Bool). Contains (cond test ((u, n) ∷ places_from of u (n + 1) marks) (places_from of u (n + 1) marks)) (u, n + 0)) (sym is-first)
    (subst (λ (at : ℕ). Contains ((u, n) ∷ places_from of u (n + 1) marks) (u, at)) (end n) (here (u, n) (places_from of u (n + 1) marks)))
  where
    same : first ≡ mark
    same = cc

    is-first : of first ≡ true
    is-first = ap of same ∙ is
marked-in of u n (suc k) (first ∷ marks) mark at is = by (of first) (subst (λ (at : ℕ). Contains (places_from of u (n + 1) marks) (u, at)) (next n k) (marked-in of u (n + 1) k marks mark at is))
  where
    by : (test : Bool) → Contains (places_from of u (n + 1) marks) (u, n + suc k)
        → Contains (cond test ((u, n) ∷ places_from of u (n + 1) marks) (places_from of u (n + 1) marks)) (u, n + suc k)
    by true has = behind (u, n) (places_from of u (n + 1) marks) (u, n + suc k) has
    by false has = has

-- a place in files is in one of them
pub record InFile (of : Mark → Bool) (u : ℕ) (units : List PlacedUnit) (key : ℕ × ℕ) : Type 0 where
  pub v : ℕ
  pub unit : PlacedUnit
  pub at : slice_get units v ≡ Some unit
  pub has : Contains (places_from of (u + v) 0 (marks_of unit)) key

pub in-file : (of : Mark → Bool) (u : ℕ) (units : List PlacedUnit) (key : ℕ × ℕ) → Contains (places_in of u units) key → InFile of u units key
in-file of u [] key has = absurd (in-none key has)
in-file of u (unit ∷ units) key has =
    by (Contains-append_cases (places_from of u 0 (marks_of unit)) (places_in of (u + 1) units) key has) (λ rest. in-file of (u + 1) units key rest)
  where
    by : (Contains (places_from of u 0 (marks_of unit)) key) ⊎ (Contains (places_in of (u + 1) units) key)
        → (Contains (places_in of (u + 1) units) key → InFile of (u + 1) units key) → InFile of u (unit ∷ units) key
    by (inl first) more =
        record { v = 0; unit = unit; at = refl; has = subst (λ (at : ℕ). Contains (places_from of at 0 (marks_of unit)) key) (end u) first }
    by (inr rest) more =
        let found = more rest in
        record { v = suc found.v; unit = found.unit; at = found.at; has = subst (λ (at : ℕ). Contains (places_from of at 0 (marks_of found.unit)) key) (next u found.v) found.has }

pub from-file : (of : Mark → Bool) (u v : ℕ) (units : List PlacedUnit) (unit : PlacedUnit) (key : ℕ × ℕ) → slice_get units v ≡ Some unit
    → Contains (places_from of (u + v) 0 (marks_of unit)) key → Contains (places_in of u units) key
from-file of u v [] unit key at has = absurd (no-unit unit at)
  where
    no-unit : (unit : PlacedUnit) → None ≡ Some unit → ⊥
    no-unit unit same = cc
from-file of u zero (first ∷ units) unit key at has =
    Contains-append_left (places_from of u 0 (marks_of first)) (places_in of (u + 1) units) key
    (subst (λ (at : ℕ). Contains (places_from of at 0 (marks_of first)) key) (sym (end u))
    (subst (λ (one : PlacedUnit). Contains (places_from of (u + 0) 0 (marks_of one)) key) (sym same) has))
  where
    same : first ≡ unit
    same = cc
from-file of u (suc v) (first ∷ units) unit key at has =
    Contains-append_right (places_from of u 0 (marks_of first)) (places_in of (u + 1) units) key
    (from-file of (u + 1) v units unit key at (subst (λ (at : ℕ). Contains (places_from of at 0 (marks_of unit)) key) (sym (next u v)) has))

-- they rise: in a file by tokens, and from file to file
pub rises-in-file : (of : Mark → Bool) (u n : ℕ) (marks : List Mark) → Rises (places_from of u n marks)
rises-in-file of u n [] = tt
rises-in-file of u n (mark ∷ marks) = by (of mark) (rises-in-file of u (n + 1) marks)
  where
    before : (other : ℕ × ℕ) → Contains (places_from of u (n + 1) marks) other → IsBefore (u, n) other
    before other has =
        let marked = marked-from of u (n + 1) marks other has in
        subst (λ (key : ℕ × ℕ). IsBefore (u, n) key) (sym marked.is) (inr (refl, less n marked.k))

    by : (test : Bool) → Rises (places_from of u (n + 1) marks) → Rises (cond test ((u, n) ∷ places_from of u (n + 1) marks) (places_from of u (n + 1) marks))
    by true rest = (before, rest)
    by false rest = rest

file-of : (of : Mark → Bool) (u n : ℕ) (marks : List Mark) (key : ℕ × ℕ) → Contains (places_from of u n marks) key → key.0 ≡ u
file-of of u n marks key has = ap (λ (place : ℕ × ℕ). place.0) (marked-from of u n marks key has).is

pub rises-in : (of : Mark → Bool) (u : ℕ) (units : List PlacedUnit) → Rises (places_in of u units)
rises-in of u [] = tt
rises-in of u (unit ∷ units) =
    rises-append (places_from of u 0 (marks_of unit)) (places_in of (u + 1) units) (rises-in-file of u 0 (marks_of unit)) (rises-in of (u + 1) units) across
  where
    across : (one other : ℕ × ℕ) → Contains (places_from of u 0 (marks_of unit)) one → Contains (places_in of (u + 1) units) other → IsBefore one other
    across one other has-one has-other =
        let found = in-file of (u + 1) units other has-other in
        let first = file-of of u 0 (marks_of unit) one has-one in
        let second = file-of of (u + 1 + found.v) 0 (marks_of found.unit) other found.has in
        inl (omega (arith, first, second))
