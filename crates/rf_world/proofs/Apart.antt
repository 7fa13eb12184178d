-- No two files stand at one root and path, also after one was added or replaced; so no path stands twice in a listing.
use Rattle.std.proofs.Common.{◌≡◌, ◌≢◌, ℕ, ◌<◌, ◌≤◌, Bool, true, false, cond, inl, inr, List, [], ◌∷◌, ◌++◌, length, get_or, refl, sym, ◌∙◌, arith, Some, None, nat_lt, true≢false}
use Rattle.std.specs.Prelude.{slice_set, bytes_eq, filter}
use Rattle.std.specs.List.{position_or_len}
use Rattle.std.proofs.Math.ListN.{set}
use Rattle.std.proofs.lemmas.List.{get_or-set_same, get_or-set_other, get_or-map, length-map}
use Rattle.std.proofs.lemmas.List.Elements.{filter_passes}
use Rattle.std.proofs.lemmas.List.Kept.{AllPairs-filter}
use Rattle.std.proofs.lemmas.List.Sums.{fails_before_first, passes_at_first}
use Rattle.std.proofs.lemmas.List.Quantifiers.{all_pairs_push}
use Rattle.std.proofs.lemmas.Slice.Eq.{bytes_eq-Decides}
use Rattle.std.proofs.lemmas.Bool.{cases_eq, ltb-true, ltb-false}
use Rattle.std.specs.Cmp.Derive.{both_true}
use Rattle.std.proofs.lemmas.Grind.{common_steps}
use Rattle.rf_world.specs.MemFiles.{File, AreApart, is_at, placed, put_file, paths_under}
use Rattle.rf_world.specs.World.{AreDistinct}

-- two files at one root and path
record SamePlace (file other : File) : Type 0 where
  root : file.0 ≡ other.0
  path : file.1 ≡ other.1

-- a file that is at a root and path has them
pub is_at-sound : (root path : List ℕ) (file : File) → is_at root path file ≡ true → (file.0 ≡ root) × (file.1 ≡ path)
is_at-sound root path file found = grind (arith, (bytes_eq-Decides file.0 root).0, (bytes_eq-Decides file.1 path).0)

-- a file in the place of one at the same root and path leaves each root and path as it was
same_places : (files : List File) (place : ℕ) (file : File) → place < length files
    → ((d : File) → SamePlace file (get_or files place d))
    → (at : ℕ) (d : File) → SamePlace (get_or (set files place file) at d) (get_or files at d)
same_places files place file within same at d = elim (cases_eq at place) [
  | inl here ↦ rw (here, get_or-set_same files place file d within) (same d)
  | inr elsewhere ↦ rw (get_or-set_other files place at file d elsewhere) (record { root = refl; path = refl })
]

-- what tells two files apart is their roots and paths
apart-same : (file other file' other' : File) → SamePlace file' file → SamePlace other' other
    → is_at other.0 other.1 file ≡ false → is_at other'.0 other'.1 file' ≡ false
apart-same file other file' other' same same' apart = rw (same.root, same.path, same'.root, same'.path) apart

-- a file in the place of one at the same root and path stays apart from the others
apart-set : (files : List File) (place : ℕ) (file : File) → place < length files
    → ((d : File) → SamePlace file (get_or files place d)) → AreApart files → AreApart (slice_set files place file)
apart-set files place file within same apart i j d below last =
    let here = same_places files place file within same in
    apart-same (get_or files i d) (get_or files j d) _ _ (here i d) (here j d) (apart i j d below (search (arith, common_steps)))

-- a file at a root and path where none stands is apart from all others
apart-push : (files : List File) (root path bytes : List ℕ) → ((k : ℕ) (d : File) → k < length files → is_at root path (get_or files k d) ≡ false)
    → AreApart files → AreApart (files ++ (root, path, bytes) ∷ [])
apart-push files root path bytes none apart =
    let R : File → File → Type 0 = λ file other. is_at other.0 other.1 file ≡ false in
    all_pairs_push R files (root, path, bytes) apart none

-- a file that is added or replaced leaves no two files at one root and path
pub put_file_apart : (root path bytes : List ℕ) (files : List File) → AreApart files → AreApart (put_file root path bytes files)
put_file_apart root path bytes files apart = by (nat_lt at (length files)) refl
  where
    at : ℕ
    at = position_or_len (is_at root path) files

    by : (b : Bool) → nat_lt at (length files) ≡ b → AreApart (placed (cond b (Some at) None) (root, path, bytes) files)
    by true test =
        let within : at < length files = ltb-true at (length files) test in
        let same : (d : File) → SamePlace (root, path, bytes) (get_or files at d) = λ (d : File).
        let found = is_at-sound root path (get_or files at d) (passes_at_first (is_at root path) files d within) in
        record { root = sym found.0; path = sym found.1 } in
        apart-set files at (root, path, bytes) within same apart
    by false test =
        let last : length files ≤ at = ltb-false at (length files) test in
        apart-push files root path bytes (λ k d within. fails_before_first (is_at root path) files k d (omega arith)) apart

-- two files under one root that are apart have different paths
apart-paths : (root : List ℕ) (file other : File) → bytes_eq file.0 root ≡ true → bytes_eq other.0 root ≡ true
    → is_at other.0 other.1 file ≡ false → file.1 ≢ other.1
apart-paths root file other here there apart same =
    let roots : bytes_eq file.0 other.0 ≡ true
    = (bytes_eq-Decides file.0 other.0).1 ((bytes_eq-Decides file.0 root).0 here ∙ sym ((bytes_eq-Decides other.0 root).0 there)) in
    let paths : bytes_eq file.1 other.1 ≡ true = (bytes_eq-Decides file.1 other.1).1 same in
    true≢false (sym (both_true roots paths) ∙ apart)

-- no path stands twice under one root
pub paths_are_distinct : (root : List ℕ) (files : List File) → AreApart files → AreDistinct (paths_under root files)
paths_are_distinct root files apart i j d below last =
    let under : List File = filter (λ file. bytes_eq file.0 root) files in
    let R : File → File → Type 0 = λ file other. is_at other.0 other.1 file ≡ false in
    let e : File = ([], [], []) in
    let within : j < length under = rw length-map at last in
    let passes : (k : ℕ) → k < length under → bytes_eq (get_or under k e).0 root ≡ true
    = λ (k : ℕ) (inside : k < length under). filter_passes (λ (file : File). bytes_eq file.0 root) files k e inside in
    let pair : is_at (get_or under j e).0 (get_or under j e).1 (get_or under i e) ≡ false
    = AllPairs-filter R (λ (file : File). bytes_eq file.0 root) files apart i j e below within in
    let first : get_or (paths_under root files) i d ≡ (get_or under i e).1 = get_or-map (λ (file : File). file.1) under i e d (omega arith) in
    let second : get_or (paths_under root files) j d ≡ (get_or under j e).1 = get_or-map (λ (file : File). file.1) under j e d within in
    rw (first, second) (apart-paths root (get_or under i e) (get_or under j e) (passes i (omega arith)) (passes j within) pair)
