-- Members of lists, item by item.
use Rattle.std.proofs.Common.{◌≡◌, ℕ, zero, suc, ◌<◌, ◌⊎◌, Bool, true, false, cond, List, [], ◌∷◌, ◌++◌, Some, None, Contains, length, refl, subst, inl, inr, slice_get, arith}
use Rattle.std.specs.List.{list_any, AllByRecursion}
use Rattle.std.specs.Str.{bytes_eq}
use Rattle.std.proofs.lemmas.List.Elements.{Contains-append_left, Contains-append_right, Contains-append_cases, Contains-push, Contains-push_cases}
use Rattle.rf_jmodel.specs.ProjectNames.{with_text, with_texts}
use Rattle.rf_jmodel.proofs.NameLemmas.{is-one}

pub some-is : {A : Type 0} {one other : A} → Some one ≡ Some other → one ≡ other
some-is same = cc

pub none-some : {A : Type 0} {one : A} → None ≡ Some one → ⊥
none-some same = cc

pub here : {A : Type 0} (item : A) (items : List A) → Contains (item ∷ items) item
here item items = Contains-append_left (item ∷ []) items item (Contains-push [] item)

pub behind : {A : Type 0} (item : A) (items : List A) (other : A) → Contains items other → Contains (item ∷ items) other
behind item items other has = Contains-append_right (item ∷ []) items other has

pub either : {A : Type 0} (item : A) (items : List A) (other : A) → Contains (item ∷ items) other → (item ≡ other) ⊎ (Contains items other)
either item items other has = by (Contains-append_cases (item ∷ []) items other has)
  where
    by : (Contains (item ∷ []) other) ⊎ (Contains items other) → (item ≡ other) ⊎ (Contains items other)
    by (inl first) = inl (is-one item other first)
    by (inr rest) = inr rest

-- what holds of each item of a list holds of each item of its parts, and of one that is in it
pub each-front : {A : Type 0} (P : A → Type 0) (some more : List A) → AllByRecursion P (some ++ more) → AllByRecursion P some
each-front P [] more each = tt
each-front P (item ∷ some) more each = (each.0, each-front P some more each.1)

pub each-rest : {A : Type 0} (P : A → Type 0) (some more : List A) → AllByRecursion P (some ++ more) → AllByRecursion P more
each-rest P [] more each = each
each-rest P (item ∷ some) more each = each-rest P some more each.1

-- the item at a place that is in a list
pub there : {A : Type 0} (items : List A) (n : ℕ) → n < length items → (item : A) × (slice_get items n ≡ Some item)
there [] n below = absurd (omega arith)
there (item ∷ items) zero below = (item, refl)
there (item ∷ items) (suc n) below = there items n (omega (arith, below))

-- a text among those that were put one behind the other was among the first ones, or was put
put-before : (known : List (List ℕ)) (text other : List ℕ) → Contains (with_text known text) other → (Contains known other) ⊎ (text ≡ other)
put-before known text other has = by (list_any (bytes_eq text) known) has
  where
    by : (test : Bool) → Contains (cond test known (known ++ text ∷ [])) other → (Contains known other) ⊎ (text ≡ other)
    by true has = inl has
    by false has = Contains-push_cases known text other has

pub put-from : (known texts : List (List ℕ)) (other : List ℕ) → Contains (with_texts known texts) other → (Contains known other) ⊎ (Contains texts other)
put-from known [] other has = inl has
put-from known (text ∷ texts) other has = by (put-from (with_text known text) texts other has)
  where
    first : (Contains known other) ⊎ (text ≡ other) → (Contains known other) ⊎ (Contains (text ∷ texts) other)
    first (inl old) = inl old
    first (inr same) = inr (subst (λ (one : List ℕ). Contains (text ∷ texts) one) same (here text texts))

    by : (Contains (with_text known text) other) ⊎ (Contains texts other) → (Contains known other) ⊎ (Contains (text ∷ texts) other)
    by (inl old) = first (put-before known text other old)
    by (inr rest) = inr (behind text texts other rest)
