-- When a project is whole. All that is said of types, members, names and rules is said of such a project.
use Rattle.std.specs.Prelude.{◌≡◌, ℕ, ◌+◌, ◌^◌, ◌<◌, ◌≤◌, true, List, Option, length, map, All, Contains, codes, sum}
use Rattle.std.specs.List.{filter_map}
use Rattle.rf_jtree.specs.declared.tokens.Tok.{Tok}
use Rattle.rf_jtree.specs.DeclTrees.{unit_yield}
use Rattle.rf_jtree.specs.FileTree.{IsFileTree}
use Rattle.rf_jtree.specs.Kinds.{IsIdent}
use Rattle.rf_jtree.specs.Tokens.{toks_bytes}
use Rattle.rf_jview.specs.declared.marks.Mark.{Mark}
use Rattle.rf_jview.specs.MarkWords.{declares}
use Rattle.rf_jmodel.specs.declared.projects.PlacedUnit.{PlacedUnit}
use Rattle.rf_jmodel.specs.declared.projects.Project.{Project}
use Rattle.rf_jmodel.specs.FullNames.{IsTypeOf}
use Rattle.rf_jmodel.specs.Packages.{java_lang}
use Rattle.rf_jmodel.specs.ProjectNames.{package_text}
use Rattle.rf_jmodel.specs.References.{IsReference, HasIdentifier}
use Rattle.rf_jmodel.specs.Units.{HasUnit, TokAt, MarkAt, KeyAt, tree_of}

-- the tree of a file has its tokens, and is that of their text and the tail
pub record IsParsed (unit : PlacedUnit) : Type 0 where
  pub yields : unit_yield (tree_of unit) ≡ unit.toks.list
  pub is_tree : IsFileTree (toks_bytes unit.toks) (tree_of unit)

-- how many tokens there are in these files, and how many of a project's tokens have an entry
abbrev pub token_count : List PlacedUnit → ℕ
token_count units = sum (map (λ (unit : PlacedUnit). length unit.toks.list) units)

abbrev pub entry_count : List PlacedUnit → ℕ
entry_count units = sum (map (λ (unit : PlacedUnit). length (filter_map (λ (entry : Option (ℕ × ℕ)). entry) unit.from)) units)

-- each file has an entry for each token
abbrev pub HasEntries : Project → Type 0
HasEntries project = (u : ℕ) (unit : PlacedUnit) → HasUnit project u unit → length unit.from ≡ length unit.toks.list

-- no two tokens have the same entry
abbrev pub HasEntriesOnce : Project → Type 0
HasEntriesOnce project = (u k v l : ℕ) (key : ℕ × ℕ) → KeyAt project u k key → KeyAt project v l key → (u ≡ v) × (k ≡ l)

-- the token of each declaration has an entry, also as that of a declaration of a member, and so has each reference's place
abbrev pub HasKey : Project → ℕ → ℕ → Type 0
HasKey project u k = (key : ℕ × ℕ) × KeyAt project u k key

abbrev pub KeepsDeclarations : Project → Type 0
KeepsDeclarations project = (u k : ℕ) (mark : Mark) → MarkAt project u k mark → declares mark ≡ true → HasKey project u k

abbrev pub KeepsReferences : Project → Type 0
KeepsReferences project = (u k : ℕ) → IsReference project u k → HasKey project u k

-- the names have the identifier of each declaration, that of each reference, and each package
abbrev pub NamesDeclarations : Project → Type 0
NamesDeclarations project = (u k : ℕ) (mark : Mark) (tok : Tok) → MarkAt project u k mark → declares mark ≡ true
    → TokAt project u k tok → IsIdent tok → Contains project.names tok.text

abbrev pub NamesReferences : Project → Type 0
NamesReferences project = (u k i : ℕ) (tok : Tok) → IsReference project u k → HasIdentifier project u k i
    → TokAt project u i tok → IsIdent tok → Contains project.names tok.text

abbrev pub NamesPackages : Project → Type 0
NamesPackages project = (u : ℕ) (unit : PlacedUnit) → HasUnit project u unit → Contains project.names (package_text unit.tree)

-- a type of `java.lang` that isn't the project's own
abbrev pub HasBasicType : Project → List ℕ → Type 0
HasBasicType project name = (x : ℕ) × (project.own ≤ x) × IsTypeOf project java_lang name x

abbrev pub HasBasicTypes : Project → Type 0
HasBasicTypes project = HasBasicType project (codes "Object") × HasBasicType project (codes "String")

pub record IsWhole (project : Project) : Type 0 where
  pub counted : project.own + project.lib ≤ length project.units
  pub parsed : All IsParsed project.units
  pub has_entries : HasEntries project
  pub few : entry_count project.units < 2 ^ 30
  pub once : HasEntriesOnce project
  pub keeps_declarations : KeepsDeclarations project
  pub keeps_references : KeepsReferences project
  pub names_declarations : NamesDeclarations project
  pub names_references : NamesReferences project
  pub names_packages : NamesPackages project
  pub has_basic_types : HasBasicTypes project
