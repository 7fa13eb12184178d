-- The words of a target line.
use Rattle.std.specs.Prelude.{◌≡◌, ◌≢◌, ◌⊎◌, ℕ, List, [], ◌∷◌, Option, MatchOption, codes}
use Rattle.rf_jtree.specs.declared.tokens.TokKind.TheVariants as kind
use Rattle.rf_jtree.specs.Tokens.{IsToken}
use Rattle.rf_request.specs.declared.sorts.Sort.{Sort}
use Rattle.rf_request.specs.declared.sorts.Sort.TheVariants as sort
use Rattle.rf_request.specs.declared.target_line.TargetLine.{TargetLine}
use Rattle.rf_request.specs.declared.target_line.TargetLine.TheVariants.{Rename, Move, Pull, Access}
use Rattle.rf_request.specs.declared.targets.Verb.{Verb}
use Rattle.rf_request.specs.declared.targets.Verb.TheVariants as verb
use Rattle.rf_request.specs.Forms.{IsPackage, IsAccess, TargetFits}
use Rattle.rf_request.specs.Sorts.{sort_word}

-- `VERB KIND NAME to VALUE`
abbrev pub change_words : List ℕ → Sort → List ℕ → List ℕ → List (List ℕ)
change_words word s name value = word ∷ sort_word s ∷ name ∷ codes "to" ∷ value ∷ []

abbrev pub target_words : TargetLine → List (List ℕ)
target_words (Rename s name value line) = change_words (codes "rename") s name value
target_words (Move s name value line) = change_words (codes "move") s name value
target_words (Pull s name value line) = change_words (codes "pull") s name value
target_words (Access s name value line) = change_words (codes "access") s name value

abbrev pub target_number : TargetLine → ℕ
target_number (Rename s name value line) = line
target_number (Move s name value line) = line
target_number (Pull s name value line) = line
target_number (Access s name value line) = line

-- the words of the line with that number are those of the target line, and it has the forms
pub record IsTarget (number : ℕ) (words : List (List ℕ)) (target : TargetLine) : Type 0 where
  pub written : words ≡ target_words target
  pub numbered : target_number target ≡ number
  pub fits : TargetFits target

-- what the words are read as, if they are a target line
abbrev pub IsTargetOf : ℕ → List (List ℕ) → Option TargetLine → Type 0
IsTargetOf number words answer = MatchOption answer
    ((target : TargetLine) → words ≡ target_words target → TargetFits target → ⊥)
    (IsTarget number words)

-- the same by the word that the line begins with
abbrev pub verb_word : Verb → List ℕ
verb_word verb.Rename = codes "rename"
verb_word verb.Move = codes "move"
verb_word verb.Pull = codes "pull"
verb_word verb.Access = codes "access"

abbrev pub Fits : Verb → Sort → List ℕ → Type 0
Fits verb.Rename s value = (s ≢ sort.Ctor) × IsToken kind.Ident value
Fits verb.Move s value = (s ≡ sort.Typ) × IsPackage value
Fits verb.Pull s value = (s ≡ sort.Field) ⊎ (s ≡ sort.Method)
Fits verb.Access s value = (s ≢ sort.Local) × IsAccess value

abbrev pub target_line : Verb → Sort → List ℕ → List ℕ → ℕ → TargetLine
target_line verb.Rename s name value line = Rename s name value line
target_line verb.Move s name value line = Move s name value line
target_line verb.Pull s name value line = Pull s name value line
target_line verb.Access s name value line = Access s name value line
