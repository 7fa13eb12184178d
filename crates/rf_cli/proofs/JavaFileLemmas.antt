-- The one element of a list that passes a test, and the one Java file of a listing.
use Rattle.std.proofs.Common.{◌≡◌, ℕ, ◌<◌, Bool, true, cond, List, [], ◌∷◌, ◌++◌, length, filter, take, drop, get_or, Option, Some, None, option_to_list, option_map, is_some, IsSome, ◌||◌, ◌≢◌, inl, inr, true≢false, false, refl, sym, ap, subst, ◌∙◌, suc, arith}
use Rattle.std.proofs.Common.{drop-cons}
use Rattle.std.specs.List.{Contains, list_any}
use Rattle.std.specs.Str.{bytes_eq}
use Rattle.std.proofs.lemmas.Cmp.{nat_list_eq_equiv}
use Rattle.std.proofs.lemmas.List.Elements.{All-contains, All-contains_itself, All-filter, Contains-get_or, Contains-push_cases, filter-append, filter_passes}
use Rattle.std.proofs.lemmas.List.Kept.{AllPairs-filter}
use Rattle.std.proofs.lemmas.Map.Views.{Contains-from_any, list_any-from_Contains}
use Rattle.std.proofs.lemmas.Slice.Eq.{bytes_eq-Decides}
use Rattle.std.proofs.lemmas.List.{take-append-drop}
use Rattle.rf_jtree.specs.JavaPath.{is_java_path}
use Rattle.rf_world.specs.World.{Files, AreDistinct, IsListing}
use Rattle.rf_cli.specs.Inputs.{IsOnlyJava}

module _ {X : Type 0} (p : X → Bool) where
  passes_first : (x : X) (xs : List X) → p x ≡ true → filter p (x ∷ xs) ≡ x ∷ filter p xs
  passes_first x xs pass = ap (λ b. cond b (x ∷ filter p xs) (filter p xs)) pass

  -- where one element passed before this one, which passes too, no element is the only one that passes
  pub not_alone : (xs : List X) (i : ℕ) (d first : X) → i < length xs → p (get_or xs i d) ≡ true → filter p (take i xs) ≡ first ∷ [] → (only : X) → filter p xs ≡ only ∷ [] → ⊥
  not_alone xs i d first lt pass before only one =
      let parts : filter p xs ≡ filter p (take i xs) ++ filter p (drop i xs) = ap (filter p) (sym (take-append-drop i xs)) ∙ filter-append p (take i xs) (drop i xs) in
      let here : filter p (drop i xs) ≡ get_or xs i d ∷ filter p (drop (suc i) xs) = ap (filter p) (drop-cons xs i d lt) ∙ passes_first (get_or xs i d) (drop (suc i) xs) pass in
      let both : only ∷ [] ≡ first ∷ get_or xs i d ∷ filter p (drop (suc i) xs) = sym one ∙ parts ∙ ap (λ ys. ys ++ filter p (drop i xs)) before ∙ ap (λ ys. first ∷ ys) here in
      cc

  pub never_alone : {Y : Type 0} (f : Y → X) (xs : List X) (i : ℕ) (d : X) (found : Option Y) → i < length xs → p (get_or xs i d) ≡ true → filter p (take i xs) ≡ option_to_list (option_map f found) → is_some found ≡ true → (only : X) → filter p xs ≡ only ∷ [] → ⊥
  never_alone f xs i d None lt pass before some only one = true≢false (sym some)
  never_alone f xs i d (Some first) lt pass before some only one = not_alone xs i d (f first) lt pass before only one

module _ (p : List ℕ → Bool) where
  kept-cons : (y x : List ℕ) (xs : List (List ℕ)) (pass same : Bool) → p y ≡ true → p x ≡ pass → bytes_eq y x ≡ same
      → (same || list_any (bytes_eq y) xs) ≡ true
      → (list_any (bytes_eq y) xs ≡ true → list_any (bytes_eq y) (filter p xs) ≡ true)
      → list_any (bytes_eq y) (cond pass (x ∷ filter p xs) (filter p xs)) ≡ true
  kept-cons y x xs true true passes e f there rest = ap (λ b. b || list_any (bytes_eq y) (filter p xs)) f
  kept-cons y x xs true false passes e f there rest = ap (λ b. b || list_any (bytes_eq y) (filter p xs)) f ∙ rest there
  kept-cons y x xs false true passes e f there rest =
      absurd (true≢false (sym passes ∙ ap p ((bytes_eq-Decides y x).0 f) ∙ e))
  kept-cons y x xs false false passes e f there rest = rest there

  -- an element that passes is kept
  kept : (y : List ℕ) (xs : List (List ℕ)) → p y ≡ true → list_any (bytes_eq y) xs ≡ true → list_any (bytes_eq y) (filter p xs) ≡ true
  kept y [] passes there = there
  kept y (x ∷ xs) passes there =
      kept-cons y x xs (p x) (bytes_eq y x) passes refl refl there (kept y xs passes)

  Contains-kept : (y : List ℕ) (xs : List (List ℕ)) → p y ≡ true → Contains xs y → Contains (filter p xs) y
  Contains-kept y xs passes there = Contains-from_any (λ a b same. (bytes_eq-Decides a b).0 same) y (filter p xs)
      (kept y xs passes (list_any-from_Contains nat_list_eq_equiv y xs there))

only_of_one : (y x : List ℕ) → Contains (x ∷ []) y → x ≡ y
only_of_one y x there = elim (Contains-push_cases [] x y there) [ inl none ↦ absurd (omega (arith, none.1)) | inr e ↦ e ]

-- different paths that are all one path are that one path
one_path : (xs : List (List ℕ)) (path : List ℕ) → AreDistinct xs → Contains xs path → ((y : List ℕ) → Contains xs y → y ≡ path) → xs ≡ path ∷ []
one_path [] path distinct there only = absurd (omega (arith, there.1))
one_path (x ∷ []) path distinct there only = ap (λ y. y ∷ []) (only_of_one path x there)
one_path (x ∷ y ∷ rest) path distinct there only =
    let first : x ≡ path = only x (Contains-get_or (x ∷ y ∷ rest) 0 x (omega arith)) in
    let second : y ≡ path = only y (Contains-get_or (x ∷ y ∷ rest) 1 x (omega arith)) in
    absurd (distinct 0 1 x (omega arith) (omega arith) (first ∙ sym second))

module _ (root : List ℕ) (files : Files) (paths : List (List ℕ)) (listing : IsListing root files paths) where
  -- the one Java path of a listing is that of the only Java file
  pub only_listed : (path : List ℕ) → filter is_java_path paths ≡ path ∷ [] → IsOnlyJava root files path × IsSome (files root path)
  only_listed path one =
      let here : Contains (filter is_java_path paths) path = subst (λ xs. Contains xs path) (sym one) (Contains-get_or (path ∷ []) 0 path (omega arith)) in (
        record {
          is_java = All-contains (λ x. is_java_path x ≡ true) (filter is_java_path paths) path (filter_passes is_java_path paths) here;
          only = λ other there java. sym (only_of_one other path (subst (λ xs. Contains xs other) one (Contains-kept is_java_path other paths java (listing.whole other there))));
        },
        listing.sound path (All-contains (Contains paths) (filter is_java_path paths) path (All-filter is_java_path (Contains paths) paths (All-contains_itself paths)) here),
      )

  -- and where one Java file stands alone, its path is the one Java path of the listing
  pub lists_only : (path : List ℕ) → IsOnlyJava root files path → IsSome (files root path) → filter is_java_path paths ≡ path ∷ []
  lists_only path alone there =
      let kept_there : (y : List ℕ) → Contains (filter is_java_path paths) y → (is_java_path y ≡ true) × Contains paths y
      = λ (y : List ℕ) (in_kept : Contains (filter is_java_path paths) y). (
        All-contains (λ x. is_java_path x ≡ true) (filter is_java_path paths) y (filter_passes is_java_path paths) in_kept,
        All-contains (Contains paths) (filter is_java_path paths) y (All-filter is_java_path (Contains paths) paths (All-contains_itself paths)) in_kept,
      ) in
      one_path (filter is_java_path paths) path (AllPairs-filter (λ x y. x ≢ y) is_java_path paths listing.once)
      (Contains-kept is_java_path path paths alone.is_java (listing.whole path there))
      (λ y in_kept. alone.only y (listing.sound y (kept_there y in_kept).1) (kept_there y in_kept).0)
