-- The files of a world: a map from a root and a path below that root to the bytes of the file there.
use Rattle.std.specs.Prelude.{◌≡◌, ◌≢◌, ℕ, cond, ◌&&◌, ◌⊎◌, List, Option, Some, IsSome, AllPairs, Contains, bytes_eq, option_map, take}

-- the files: the bytes at each root and path, where a file stands there
abbrev pub Files : Type 0
Files = (root path : List ℕ) → Option (List ℕ)

-- the files with the one at this root and path added or replaced
abbrev pub with_file : (root path bytes : List ℕ) → Files → Files
with_file root path bytes files = λ other_root other_path.
    cond (bytes_eq other_root root && bytes_eq other_path path) (Some bytes) (files other_root other_path)

-- no path stands twice
abbrev pub AreDistinct : List (List ℕ) → Type 0
AreDistinct paths = AllPairs (λ path other. path ≢ other) paths

-- the paths of the files under this root, each once, in any order
pub record IsListing (root : List ℕ) (files : Files) (paths : List (List ℕ)) : Type 0 where
  pub once : AreDistinct paths
  pub sound : (path : List ℕ) → Contains paths path → IsSome (files root path)
  pub whole : (path : List ℕ) → IsSome (files root path) → Contains paths path

-- after a write that did not succeed all is as before, or that one file holds a prefix of the bytes
abbrev pub MayHoldPrefix : (root path bytes : List ℕ) (before now : Option Files) → Type 0
MayHoldPrefix root path bytes before now =
    (now ≡ before)
    ⊎ ((count : ℕ) × (now ≡ option_map (with_file root path (take count bytes)) before))
