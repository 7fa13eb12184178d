-- What `put_file` means: that file can be read back, and each other file is as it was.
use Rattle.std.proofs.Common.{◌≡◌, ◌≢◌, ℕ, ◌<◌, ◌≤◌, Bool, true, false, cond, List, [], ◌∷◌, ◌++◌, length, get_or, refl, sym, ◌∙◌, ap, Option, Some, None, nat_lt}
use Rattle.std.specs.Prelude.{find, option_map}
use Rattle.std.specs.Option.{option_or}
use Rattle.std.specs.List.{position_or_len}
use Rattle.std.specs.Cmp.Derive.{both_true}
use Rattle.std.proofs.lemmas.Bool.{ltb-true, ltb-false, false_from_ne_true}
use Rattle.std.proofs.lemmas.List.Folds.{find-set, find_past, find-append, find_at}
use Rattle.std.proofs.lemmas.List.Sums.{passes_at_first}
use Rattle.std.proofs.lemmas.Option.{slice_get_past}
use Rattle.std.proofs.lemmas.Slice.Eq.{bytes_eq-Decides}
use Rattle.rf_world.specs.MemFiles.{File, IsWritten, content, is_at, map_of, placed, put_file}
use Rattle.rf_world.specs.World.{with_file}
use Rattle.rf_world.proofs.Apart.{is_at-sound}

-- a file is at its own root and path
is_at-own : (root path bytes : List ℕ) → is_at root path (root, path, bytes) ≡ true
is_at-own root path bytes = both_true ((bytes_eq-Decides root root).1 refl) ((bytes_eq-Decides path path).1 refl)

-- a file is not at another root and path
is_at-other : (root path bytes other_root other_path : List ℕ) → (other_root ≡ root → other_path ≢ path)
    → is_at other_root other_path (root, path, bytes) ≡ false
is_at-other root path bytes other_root other_path apart = false_from_ne_true _ (λ found.
    let same = is_at-sound other_root other_path (root, path, bytes) found in
    apart (sym same.0) (sym same.1))

-- where no file stands at a root and path, one at the end is found there
find-push : (root path bytes : List ℕ) (files : List File) → length files ≤ position_or_len (is_at root path) files
    → find (is_at root path) (files ++ (root, path, bytes) ∷ []) ≡ Some (root, path, bytes)
find-push root path bytes files none =
    let absent : find (is_at root path) files ≡ None = find_at (is_at root path) files ∙ slice_get_past files _ none in
    rw (find-append (is_at root path) files ((root, path, bytes) ∷ []), absent, is_at-own root path bytes)

-- a file at the end is not found at another root and path
find-push_other : (at : File → Bool) (file : File) (files : List File) → at file ≡ false
    → find at (files ++ file ∷ []) ≡ find at files
find-push_other at file files fails = rw (find-append at files (file ∷ []), fails) (same (find at files))
  where
    same : (found : Option File) → option_or found None ≡ found
    same None = refl
    same (Some other) = refl

-- a file that is added or replaced has its bytes, and each other file is as before
pub put_file_written : (root path bytes : List ℕ) (files : List File)
    → IsWritten root path bytes files (put_file root path bytes files)
put_file_written root path bytes files = by (nat_lt at (length files)) refl
  where
    at : ℕ
    at = position_or_len (is_at root path) files

    file : File
    file = (root, path, bytes)

    by : (b : Bool) → nat_lt at (length files) ≡ b → IsWritten root path bytes files (placed (cond b (Some at) None) file files)
    by true test =
        let within : at < length files = ltb-true at (length files) test in
        record {
          there = ap (option_map (λ found. found.2)) (find-set (is_at root path) files at file refl within (is_at-own root path bytes));
          others = λ other_root other_path apart.
              let fails = is_at-other root path bytes other_root other_path apart in
              let before = is_at-sound root path (get_or files at file) (passes_at_first (is_at root path) files file within) in
              let failed : is_at other_root other_path (get_or files at file) ≡ false = rw (before.0, before.1) fails in
              ap (option_map (λ found. found.2)) (find_past (is_at other_root other_path) files at file file failed fails);
        }
    by false test =
        let last : length files ≤ at = ltb-false at (length files) test in
        record {
          there = ap (option_map (λ found. found.2)) (find-push root path bytes files last);
          others = λ other_root other_path apart. ap (option_map (λ found. found.2))
              (find-push_other (is_at other_root other_path) file files (is_at-other root path bytes other_root other_path apart));
        }
