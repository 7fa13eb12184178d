-- A list of files against its map: its paths are a listing, and a file put into the list is put into the map.
use Rattle.std.proofs.Common.{◌≡◌, ℕ, Bool, true, false, cond, ◌||◌, ◌&&◌, List, [], ◌∷◌, map, Option, Some, is_some, take, inr, refl, sym, ap, subst, ◌∙◌, true≢false}
use Rattle.std.specs.Prelude.{bytes_eq, filter, find, option_map}
use Rattle.std.specs.List.{list_any}
use Rattle.std.proofs.lemmas.Cmp.{nat_list_eq_equiv}
use Rattle.std.proofs.lemmas.Map.Views.{Contains-from_any, list_any-from_Contains}
use Rattle.std.proofs.lemmas.Slice.Eq.{bytes_eq-Decides}
use Rattle.rf_world.specs.MemFiles.{File, AreApart, content, is_at, map_of, paths_under, put_file}
use Rattle.rf_world.specs.World.{IsListing, MayHoldPrefix, with_file}
use Rattle.rf_world.proofs.Apart.{paths_are_distinct}
use Rattle.rf_world.proofs.Written.{put_file_written}

-- one more file in front
listed-cons : (path : List ℕ) (file : File) (rest : List File) (found : Option File) (here same : Bool) → bytes_eq path file.1 ≡ same
    → list_any (bytes_eq path) (map (λ file. file.1) rest) ≡ is_some (option_map (λ file. file.2) found)
    → list_any (bytes_eq path) (map (λ file. file.1) (cond here (file ∷ rest) rest))
    ≡ is_some (option_map (λ file. file.2) (cond (here && same) (Some file) found))
listed-cons path file rest found true true e before = ap (λ b. b || list_any (bytes_eq path) (map (λ file. file.1) rest)) e
listed-cons path file rest found true false e before = ap (λ b. b || list_any (bytes_eq path) (map (λ file. file.1) rest)) e ∙ before
listed-cons path file rest found false same e before = before

-- a path is listed exactly where it has content
listed : (root path : List ℕ) (files : List File) → list_any (bytes_eq path) (paths_under root files) ≡ is_some (content root path files)
listed root path [] = refl
listed root path (file ∷ files) =
    listed-cons path file (filter (λ file. bytes_eq file.0 root) files) (find (is_at root path) files) (bytes_eq file.0 root) (bytes_eq file.1 path)
    (nat_list_eq_equiv.symm path file.1) (listed root path files)

-- the paths of files that are apart are a listing of their map
pub paths_are_listing : (root : List ℕ) (files : List File) (paths : List (List ℕ)) → AreApart files → paths ≡ paths_under root files
    → IsListing root (map_of files) paths
paths_are_listing root files paths apart e = subst (IsListing root (map_of files)) (sym e) (record {
  once = paths_are_distinct root files apart;
  sound = λ path there. sym (listed root path files) ∙ list_any-from_Contains nat_list_eq_equiv path (paths_under root files) there;
  whole = λ path some. Contains-from_any (λ x y same. (bytes_eq-Decides x y).0 same) path (paths_under root files) (listed root path files ∙ some);
})

module _ (root path bytes : List ℕ) (files : List File) (other_root other_path : List ℕ) where
  content_after : (same_root same_path : Bool) → bytes_eq other_root root ≡ same_root → bytes_eq other_path path ≡ same_path
      → content other_root other_path (put_file root path bytes files)
      ≡ cond (same_root && same_path) (Some bytes) (content other_root other_path files)
  content_after true true e f =
      let roots : root ≡ other_root = sym ((bytes_eq-Decides other_root root).0 e) in
      let paths : path ≡ other_path = sym ((bytes_eq-Decides other_path path).0 f) in
      let at_path = subst (λ p. content root p (put_file root path bytes files) ≡ Some bytes) paths (put_file_written root path bytes files).there in
      subst (λ r. content r other_path (put_file root path bytes files) ≡ Some bytes) roots at_path
  content_after true false e f = (put_file_written root path bytes files).others other_root other_path
      (λ roots paths. true≢false (sym ((bytes_eq-Decides other_path path).1 paths) ∙ f))
  content_after false same_path e f = (put_file_written root path bytes files).others other_root other_path
      (λ roots paths. true≢false (sym ((bytes_eq-Decides other_root root).1 roots) ∙ e))

-- a file that is put into the list is put into the map
pub put_file_is_map : (root path bytes : List ℕ) (files : List File)
    → map_of (put_file root path bytes files) ≡ with_file root path bytes (map_of files)
put_file_is_map root path bytes files = λ i. λ other_root other_path.
    content_after root path bytes files other_root other_path (bytes_eq other_root root) (bytes_eq other_path path) refl refl i

-- the same of the list after the put, and of other names for the bytes
pub put_in_map : (root path bytes stored : List ℕ) (files after : List File) → after ≡ put_file root path stored files → stored ≡ bytes
    → map_of after ≡ with_file root path bytes (map_of files)
put_in_map root path bytes stored files after e same =
    ap (λ list. map_of list) e ∙ put_file_is_map root path stored files ∙ ap (λ text. with_file root path text (map_of files)) same

-- a prefix that is put into the list is one in the map
pub put_prefix : (root path bytes stored : List ℕ) (count : ℕ) (files after : List File) → after ≡ put_file root path stored files → stored ≡ take count bytes
    → MayHoldPrefix root path bytes (Some (map_of files)) (Some (map_of after))
put_prefix root path bytes stored count files after e same = inr (count, ap (λ map. Some map) (put_in_map root path (take count bytes) stored files after e same))
