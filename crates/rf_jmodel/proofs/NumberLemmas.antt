-- Files that are numbered one by one, and the entries of their tokens.
use Rattle.std.proofs.Common.{◌≡◌, ℕ, zero, suc, ◌+◌, ◌<◌, List, [], ◌∷◌, ◌++◌, Option, Some, None, length, map, refl, sym, ap, ◌∙◌, subst, slice_get, sum, arith, append_assoc, append-nil}
use Rattle.std.proofs.lemmas.List.{reverse-append}
use Rattle.std.specs.List.{filter_map}
use Rattle.rf_jtree.specs.declared.tokens.Tok.{Tok}
use Rattle.rf_jmodel.specs.declared.projects.PlacedUnit.{PlacedUnit}
use Rattle.rf_jmodel.specs.Numbering.{entries_from, numbered_unit, numbered_units}

end : (n : ℕ) → n ≡ n + 0
end n = omega arith

next : (n k : ℕ) → n + 1 + k ≡ n + suc k
next n k = omega arith

-- one more file behind others
units-push : (n : ℕ) (units : List PlacedUnit) (unit : PlacedUnit)
    → numbered_units n (units ++ unit ∷ []) ≡ numbered_units n units ++ numbered_unit (n + length units) unit ∷ []
units-push n [] unit = ap (λ (at : ℕ). numbered_unit at unit ∷ []) (end n)
units-push n (first ∷ units) unit =
    ap (λ (list : List PlacedUnit). numbered_unit n first ∷ list) (units-push (n + 1) units unit
    ∙ ap (λ (at : ℕ). numbered_units (n + 1) units ++ numbered_unit at unit ∷ []) (next n (length units)))

pub numbered-push : (units : List PlacedUnit) (unit : PlacedUnit)
    → numbered_units 0 (units ++ unit ∷ []) ≡ numbered_units 0 units ++ numbered_unit (length units) unit ∷ []
numbered-push units unit = units-push 0 units unit ∙ ap (λ (at : ℕ). numbered_units 0 units ++ numbered_unit at unit ∷ []) same
  where
    same : 0 + length units ≡ length units
    same = omega arith

-- entries at their places, one a token
pub entries-length : (u n : ℕ) (toks : List Tok) → length (entries_from u n toks) ≡ length toks
entries-length u n [] = refl
entries-length u n (tok ∷ toks) = ap suc (entries-length u (n + 1) toks)

pub entries-count : (u n : ℕ) (toks : List Tok) → length (filter_map (λ (entry : Option (ℕ × ℕ)). entry) (entries_from u n toks)) ≡ length toks
entries-count u n [] = refl
entries-count u n (tok ∷ toks) = ap suc (entries-count u (n + 1) toks)

pub entries-has : (u n k : ℕ) (toks : List Tok) → k < length toks → slice_get (entries_from u n toks) k ≡ Some (Some (u, n + k))
entries-has u n k [] below = absurd (omega arith)
entries-has u n zero (tok ∷ toks) below = ap (λ (at : ℕ). Some (Some (u, at))) (end n)
entries-has u n (suc k) (tok ∷ toks) below = entries-has u (n + 1) k toks (omega arith) ∙ ap (λ (at : ℕ). Some (Some (u, at))) (next n k)

-- the file that was numbered, at its place
pub record Came (n u : ℕ) (units : List PlacedUnit) (unit : PlacedUnit) : Type 0 where
  pub old : PlacedUnit
  pub stood : slice_get units u ≡ Some old
  pub is : unit ≡ numbered_unit (n + u) old

some-injective : {A : Type 0} {one other : A} → Some one ≡ Some other → one ≡ other
some-injective same = cc

none-some : {A : Type 0} {one : A} → None ≡ Some one → ⊥
none-some same = cc

pub came : (n u : ℕ) (units : List PlacedUnit) (unit : PlacedUnit) → slice_get (numbered_units n units) u ≡ Some unit → Came n u units unit
came n u [] unit has = absurd (none-some has)
came n zero (first ∷ units) unit has = record { old = first; stood = refl; is = sym (some-injective has) ∙ ap (λ (at : ℕ). numbered_unit at first) (end n) }
came n (suc u) (first ∷ units) unit has =
    let later = came (n + 1) u units unit has in
    record { old = later.old; stood = later.stood; is = later.is ∙ ap (λ (at : ℕ). numbered_unit at later.old) (next n u) }

pub numbered-length : (n : ℕ) (units : List PlacedUnit) → length (numbered_units n units) ≡ length units
numbered-length n [] = refl
numbered-length n (unit ∷ units) = ap suc (numbered-length (n + 1) units)

pub numbered-counts : (n : ℕ) (units : List PlacedUnit)
    → map (λ (unit : PlacedUnit). length (filter_map (λ (entry : Option (ℕ × ℕ)). entry) unit.from)) (numbered_units n units) ≡ map (λ (unit : PlacedUnit). length unit.toks.list) units
numbered-counts n [] = refl
numbered-counts n (unit ∷ units) =
    ap (λ (count : ℕ). count ∷ map (λ (unit : PlacedUnit). length (filter_map (λ (entry : Option (ℕ × ℕ)). entry) unit.from)) (numbered_units (n + 1) units)) (entries-count n 0 unit.toks.list)
    ∙ ap (λ (counts : List ℕ). length unit.toks.list ∷ counts) (numbered-counts (n + 1) units)

-- an entry is that of its place
pub key-is : (u n k : ℕ) (toks : List Tok) (key : ℕ × ℕ) → slice_get (entries_from u n toks) k ≡ Some (Some key) → key ≡ (u, n + k)
key-is u n k [] key has = absurd (none-some has)
key-is u n zero (tok ∷ toks) key has = sym (some-injective (some-injective has)) ∙ ap (λ (at : ℕ). (u, at)) (end n)
key-is u n (suc k) (tok ∷ toks) key has = key-is u (n + 1) k toks key has ∙ ap (λ (at : ℕ). (u, at)) (next n k)

pub stays : (n u : ℕ) (units : List PlacedUnit) (unit : PlacedUnit) → slice_get units u ≡ Some unit
    → slice_get (numbered_units n units) u ≡ Some (numbered_unit (n + u) unit)
stays n u [] unit at = absurd (none-some at)
stays n zero (first ∷ units) unit at =
    ap (λ (one : PlacedUnit). Some (numbered_unit n one)) (some-injective at) ∙ ap (λ (file : ℕ). Some (numbered_unit file unit)) (end n)
stays n (suc u) (first ∷ units) unit at = stays (n + 1) u units unit at ∙ ap (λ (file : ℕ). Some (numbered_unit file unit)) (next n u)

pub ruleset numbering = (numbered-push, reverse-append, append_assoc, append-nil)
