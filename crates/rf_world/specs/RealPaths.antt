-- The names of the system: texts made of a folder and a name below it.
use Rattle.std.specs.Prelude.{◌≡◌, ℕ, Bool, ◌||◌, ◌==◌, cond, List, [], ◌++◌, length, nat_eq, codes}
use Rattle.std.specs.List.{ends_with}

-- whether a name may follow at once: the folder is empty, or ends in a slash
abbrev pub needs_no_slash : List ℕ → Bool
needs_no_slash folder = length folder == 0 || ends_with nat_eq folder (codes "/")

-- the name in the folder, with one slash between; an empty folder means the name alone
abbrev pub joined_name : (folder name : List ℕ) → List ℕ
joined_name folder name = cond (needs_no_slash folder) (folder ++ name) (folder ++ codes "/" ++ name)
