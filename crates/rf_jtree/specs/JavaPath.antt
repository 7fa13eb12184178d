-- Which files are Java files that hold a type (JLS 7.3; 7.4.1 on package-info.java).
use Rattle.std.specs.Prelude.{ℕ, Bool, ◌||◌, ◌&&◌, not, List, ◌++◌, nat_eq, codes}
use Rattle.std.specs.List.{ends_with}
use Rattle.std.specs.Str.{bytes_eq}

-- the last part of the path, after its last `/`, is this name
abbrev pub has_last_part : List ℕ → List ℕ → Bool
has_last_part name path = bytes_eq path name || ends_with nat_eq path (codes "/" ++ name)

-- the path ends in `.java`, and its last part is neither `package-info.java` nor `module-info.java`
abbrev pub is_java_path : List ℕ → Bool
is_java_path path =
    ends_with nat_eq path (codes ".java") && not (has_last_part (codes "package-info.java") path)
    && not (has_last_part (codes "module-info.java") path)
