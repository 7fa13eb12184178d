-- The forms of the words of a request.
use Rattle.std.specs.Prelude.{◌≡◌, ◌≢◌, ◌⊎◌, ◌==◌, Bool, not, ℕ, List, [], ◌∷◌, All, Contains, codes}
use Rattle.std.specs.List.{slice_split}
use Rattle.rf_jtree.specs.declared.tokens.TokKind.TheVariants as kind
use Rattle.rf_jtree.specs.Tokens.{IsToken}
use Rattle.rf_request.specs.declared.options.Options.{Options}
use Rattle.rf_request.specs.declared.sorts.Sort.TheVariants as sort
use Rattle.rf_request.specs.declared.target_line.TargetLine.{TargetLine}
use Rattle.rf_request.specs.declared.target_line.TargetLine.TheVariants.{Rename, Move, Pull, Access}

abbrev pub ACCESS_WORDS : List (List ℕ)
ACCESS_WORDS = codes "private" ∷ codes "package" ∷ codes "protected" ∷ codes "public" ∷ []

-- what may be opened
abbrev pub ALLOW_WORDS : List (List ℕ)
ALLOW_WORDS = codes "names" ∷ codes "access" ∷ codes "owners" ∷ codes "imports" ∷ []

unfoldable pub IsAccess : List ℕ → Type 0
IsAccess word = Contains ACCESS_WORDS word

unfoldable pub IsAllowed : List ℕ → Type 0
IsAllowed word = Contains ALLOW_WORDS word

abbrev pub MOST_DECISIONS : ℕ
MOST_DECISIONS = 1000000

abbrev pub is_dot : ℕ → Bool
is_dot byte = byte == 46

abbrev pub is_in_part : ℕ → Bool
is_in_part byte = not (is_dot byte)

-- identifiers with dots between them
abbrev pub IsPackage : List ℕ → Type 0
IsPackage text = All (IsToken kind.Ident) (slice_split is_dot text)

-- the sort is one that can be changed so, and the value has its form. A name of an element may be any word.
abbrev pub TargetFits : TargetLine → Type 0
TargetFits (Rename s name value line) = (s ≢ sort.Ctor) × IsToken kind.Ident value
TargetFits (Move s name value line) = (s ≡ sort.Typ) × IsPackage value
TargetFits (Pull s name value line) = (s ≡ sort.Field) ⊎ (s ≡ sort.Method)
TargetFits (Access s name value line) = (s ≢ sort.Local) × IsAccess value

-- and each spare name is an identifier
pub record HaveForms (target : TargetLine) (options : Options) : Type 0 where
  pub target_fits : TargetFits target
  pub spares : All (IsToken kind.Ident) options.spares
