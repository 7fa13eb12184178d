-- Files in memory: a list of files, each with its root, its path below that root, its bytes.
use Rattle.std.specs.Prelude.{◌≡◌, ◌≢◌, ℕ, Bool, false, ◌&&◌, List, [], ◌∷◌, ◌++◌, Option, Some, None, AllPairs, bytes_eq, filter, find, map, option_map, position, slice_set}
use Rattle.rf_world.specs.World.{Files}

-- a file: its root, its path, its bytes
abbrev pub File : Type 0
File = List ℕ × List ℕ × List ℕ

-- whether a file stands at this root and path
abbrev pub is_at : (root path : List ℕ) → File → Bool
is_at root path file = bytes_eq file.0 root && bytes_eq file.1 path

-- no two files stand at one root and path
abbrev pub AreApart : List File → Type 0
AreApart files = AllPairs (λ file other. is_at other.0 other.1 file ≡ false) files

-- the bytes of the file at this root and path, if there is one
abbrev pub content : (root path : List ℕ) → List File → Option (List ℕ)
content root path files = option_map (λ file. file.2) (find (is_at root path) files)

-- the files as a map
abbrev pub map_of : List File → Files
map_of files = λ root path. content root path files

-- the paths of the files under this root, in the order of the files
abbrev pub paths_under : (root : List ℕ) → List File → List (List ℕ)
paths_under root files = map (λ file. file.1) (filter (λ file. bytes_eq file.0 root) files)

-- the files with this one in that place, or at the end where there is no place
abbrev pub placed : Option ℕ → File → List File → List File
placed None file files = files ++ file ∷ []
placed (Some place) file files = slice_set files place file

-- the list with the file at this root and path added at the end, or replaced where it stands
abbrev pub put_file : (root path bytes : List ℕ) → List File → List File
put_file root path bytes files =
    placed (position (is_at root path) files) (root, path, bytes) files

-- the file at this root and path has these bytes, and each other file is as before
pub record IsWritten (root path bytes : List ℕ) (old new : List File) : Type 0 where
  pub there : content root path new ≡ Some bytes
  pub others : (other_root other_path : List ℕ) → (other_root ≡ root → other_path ≢ path)
      → content other_root other_path new ≡ content other_root other_path old
