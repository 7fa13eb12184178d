-- Bytes that a writer takes in turn, and a reader that is read up to a limit.
use Rattle.std.proofs.Common.{◌≡◌, ℕ, ◌+◌, ◌-◌, ◌<◌, ◌≤◌, min, List, [], ◌++◌, Option, Some, None, IfSome, length, take, drop, refl, sym, ap, subst, ◌∙◌, arith, append_assoc, append-nil, length-drop}
use Rattle.std.proofs.lemmas.List.{drop-take, length-take, take-append-drop, take-take, take_all}
use Rattle.std.specs.Prelude.{option_map}
use Rattle.std.specs.Io.KnownBytes.{Appends, Keeps}

-- what is known stays known, and grows by the one and then by the other
pub appends_both : (old mid new : Option (List ℕ)) (first second both : List ℕ) → Appends old mid first → Appends mid new second → both ≡ first ++ second → Appends old new both
appends_both None mid new first second both a b e = tt
appends_both (Some x) None new first second both a b e = absurd a
appends_both (Some x) (Some y) None first second both a b e = absurd b
appends_both (Some x) (Some y) (Some z) first second both a b e = b ∙ ap (λ t. t ++ second) a ∙ append_assoc x first second ∙ ap (λ t. x ++ t) (sym e)

pub keeps_none : (old new : Option (List ℕ)) (none : List ℕ) → Keeps old new → none ≡ [] → Appends old new none
keeps_none None new none k e = tt
keeps_none (Some x) None none k e = absurd k
keeps_none (Some x) (Some y) none k e = k ∙ sym (ap (λ t. x ++ t) e ∙ append-nil x)

pub appends_kept : (old mid new : Option (List ℕ)) (first : List ℕ) → Appends old mid first → Keeps mid new → Appends old new first
appends_kept None mid new first a k = tt
appends_kept (Some x) None new first a k = absurd a
appends_kept (Some x) (Some y) None first a k = absurd k
appends_kept (Some x) (Some y) (Some z) first a k = k ∙ a

-- the next bytes behind those that were received
pub next_bytes : (n m : ℕ) (bytes : List ℕ) → take (n + m) bytes ≡ take n bytes ++ take m (drop n bytes)
next_bytes n m bytes = sym (take-append-drop n (take (n + m) bytes)) ∙ ap (λ t. t ++ drop n (take (n + m) bytes)) (take-take n (n + m) bytes (omega arith)) ∙ ap (λ t. take n bytes ++ t) (drop-take n m bytes)

-- what was read up to a limit is all, where it is shorter than the limit
pub read_all : (left : Option (List ℕ)) (limit : ℕ) (old new : List ℕ) → old ≡ [] → length new < limit
    → IfSome (option_map (take limit) left) (λ bytes. new ≡ old ++ bytes) → IfSome left (λ bytes. new ≡ bytes)
read_all None limit old new none short read = tt
read_all (Some bytes) limit old new none short read =
    let all : new ≡ take limit bytes = read ∙ ap (λ t. t ++ take limit bytes) none in
    let len : min limit (length bytes) < limit = subst (λ n. n < limit) (ap length all ∙ length-take limit bytes) short in
    all ∙ take_all limit bytes (omega (arith, len))

-- the same of the rest as a range
pub next_of_range : (n m : ℕ) (bytes : List ℕ) → take (n + m) bytes ≡ take n bytes ++ take m (take (length bytes - n) (drop n bytes))
next_of_range n m bytes =
    let rest : take (length bytes - n) (drop n bytes) ≡ drop n bytes = take_all (length bytes - n) (drop n bytes) (omega (arith, length-drop n bytes)) in
    next_bytes n m bytes ∙ ap (λ t. take n bytes ++ take m t) (sym rest)
