-- Which fields a type has as members (JLS 6.6, 8.2, 8.3, 9.3). A type goes by the number of its file.
use Rattle.std.specs.Prelude.{◌≡◌, ℕ, Bool, List, [], ◌∷◌, map, cond, Contains}
use Rattle.rf_jtree.specs.declared.keyword_names.TheConstants.{PRIVATE, PROTECTED, PUBLIC}
use Rattle.rf_jtree.specs.DeclFits.{has_word_of}
use Rattle.rf_jtree.specs.DeclTrees.{Field}
use Rattle.rf_jtree.specs.NameTrees.{ManyTree, ModTree, TypeUseTree}
use Rattle.rf_jtree.specs.declared.tokens.Tok.{Tok}
use Rattle.rf_jtree.specs.StmtTrees.{VarTree}
use Rattle.rf_jmodel.specs.declared.projects.PlacedUnit.{PlacedUnit}
use Rattle.rf_jmodel.specs.declared.projects.Project.{Project}
use Rattle.rf_jmodel.specs.FullNames.{is_interface}
use Rattle.rf_jmodel.specs.Packages.{IsInPackageOf}
use Rattle.rf_jmodel.specs.Supertypes.{DirectSuper}
use Rattle.rf_jmodel.specs.Units.{HasUnit, tree_of}

-- how far a declaration is accessible, from the least on (JLS 6.6.1)
pub data Access : Type 0 where
  Private : Access
  Package : Access
  Protected : Access
  Public : Access

abbrev pub access_of : List ModTree → Access
access_of mods =
    cond (has_word_of (PRIVATE ∷ []) mods) Private
    (cond (has_word_of (PROTECTED ∷ []) mods) Protected
    (cond (has_word_of (PUBLIC ∷ []) mods) Public Package))

-- Members of interfaces are public (JLS 9.1.5).
abbrev pub member_access : Bool → List ModTree → Access
member_access interface mods = cond interface Public (access_of mods)

-- the names that a declaration of fields declares
abbrev pub var_names : ManyTree VarTree → List (List ℕ)
var_names vars = vars.first.id.text ∷ map (λ item. item.1.id.text) vars.rest

-- a type declares a field of this name and this access
pub record DeclaresField (project : Project) (x : ℕ) (name : List ℕ) (access : Access) : Type 0 where
  pub unit : PlacedUnit
  pub has_unit : HasUnit project x unit
  pub mods : List ModTree
  pub used_type : TypeUseTree
  pub vars : ManyTree VarTree
  pub semi : Tok
  pub member : Contains (tree_of unit).decl.members (Field mods used_type vars semi)
  pub declared : Contains (var_names vars) name
  pub has_access : access ≡ member_access (is_interface (tree_of unit)) mods

-- What isn't private is inherited, if it is public or protected or its owner is in the same package (JLS 8.2).
abbrev pub IsInherited : Project → ℕ → ℕ → Access → Type 0
IsInherited project x owner Private = ⊥
IsInherited project x owner Package = IsInPackageOf project owner x
IsInherited project x owner Protected = Unit {0}
IsInherited project x owner Public = Unit {0}

-- a field of this name is a member of type x; its owner declares it with this access (JLS 8.2, 8.3)
pub data HasField (project : Project) (name : List ℕ) : ℕ → ℕ → Access → Type 0 where
  declared : (x : ℕ) (access : Access) → DeclaresField project x name access → HasField project name x x access
  inherited : (x y owner : ℕ) (access : Access) → DirectSuper project x y → HasField project name y owner access
      → IsInherited project x owner access → ((other : Access) → DeclaresField project x name other → ⊥)
      → HasField project name x owner access
