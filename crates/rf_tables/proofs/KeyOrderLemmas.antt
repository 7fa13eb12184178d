-- Keys that are sorted by their fields are in element order.
use Rattle.std.proofs.Common.{◌≡◌, ℕ, ◌<◌, ◌==◌, Bool, true, false, cond, List, get_or, sym, ap, ◌∙◌, subst, inl, inr, arith}
use Rattle.std.specs.List.Sorted.{IsSorted}
use Rattle.std.specs.Cmp.{IsTotalOrder}
use Rattle.std.specs.Ordering.{nat_cmp, is_lt, ordering_then}
use Rattle.std.specs.declared.cmp.Ordering.{Ordering}
use Rattle.std.specs.declared.cmp.Ordering.TheVariants.{Less, Equal, Greater}
use Rattle.std.proofs.lemmas.Bool.{lt-ltb}
use Rattle.std.proofs.lemmas.Cmp.{nat_cmp_total, on_total, then_total, tied_itself}
use Rattle.std.proofs.lemmas.List.Sorted.{sorted_far, ranks_by}
use Rattle.rf_jmodel.specs.Elements.{IsBefore}
use Rattle.rf_tables.specs.declared.type_keys.TypeKey.{TypeKey}
use Rattle.rf_tables.specs.TypeKeys.{AreInOrder, key_of}

not-both : true ≡ false → ⊥
not-both same = cc

-- the order of the fields
abbrev key_cmp : TypeKey → TypeKey → Ordering
key_cmp one other = ordering_then (nat_cmp one.file other.file) (ordering_then (nat_cmp one.token other.token) (nat_cmp one.unit other.unit))

total : IsTotalOrder key_cmp
total =
    then_total (on_total (λ (key : TypeKey). key.file) nat_cmp_total)
    (then_total (on_total (λ (key : TypeKey). key.token) nat_cmp_total) (on_total (λ (key : TypeKey). key.unit) nat_cmp_total))

less : (x y : ℕ) → x < y → nat_cmp x y ≡ Less
less x y is = ap (λ (test : Bool). cond test Less (cond (x == y) Equal Greater)) (lt-ltb x y is)

tied : (x y : ℕ) → x ≡ y → nat_cmp x y ≡ Equal
tied x y same = subst (λ (z : ℕ). nat_cmp x z ≡ Equal) same (tied_itself nat_cmp_total x)

lower : (one other : TypeKey) → IsBefore (key_of one) (key_of other) → is_lt (key_cmp one other) ≡ true
lower one other (inl is) =
    ap (λ (first : Ordering). is_lt (ordering_then first (ordering_then (nat_cmp one.token other.token) (nat_cmp one.unit other.unit))))
    (less one.file other.file is)
lower one other (inr is) =
    ap (λ (first : Ordering). is_lt (ordering_then first (ordering_then (nat_cmp one.token other.token) (nat_cmp one.unit other.unit))))
    (tied one.file other.file is.0)
    ∙ ap (λ (second : Ordering). is_lt (ordering_then second (nat_cmp one.unit other.unit))) (less one.token other.token is.1)

pub in-order : (keys : List TypeKey) → IsSorted key_cmp keys → AreInOrder keys
in-order keys up = λ i j d before below is.
    not-both (sym (lower (get_or keys j d) (get_or keys i d) is)
    ∙ sorted_far (λ (one other : TypeKey). is_lt (key_cmp one other)) (ranks_by total (λ (key : TypeKey). key)) keys up i j d (omega (arith, before)) below)
