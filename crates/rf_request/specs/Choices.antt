-- The lines behind the target line.
use Rattle.std.specs.Prelude.{◌≡◌, ◌≢◌, ◌≤◌, ℕ, Bool, true, false, ◌&&◌, not, List, [], ◌∷◌, Option, MatchOption, All, codes, decimal}
use Rattle.std.specs.List.{list_any}
use Rattle.rf_jtree.specs.declared.tokens.TokKind.TheVariants as kind
use Rattle.rf_jtree.specs.Tokens.{IsToken}
use Rattle.rf_request.specs.declared.choices.Choice.{Choice}
use Rattle.rf_request.specs.declared.choices.Choice.TheVariants.{Allow, Spare, Decisions, Keep, Rules}
use Rattle.rf_request.specs.declared.choices.ChoiceLine.{ChoiceLine}
use Rattle.rf_request.specs.Forms.{IsAllowed, MOST_DECISIONS}
use Rattle.rf_request.specs.Sorts.{sort_word}

abbrev pub choice_words : Choice → List (List ℕ)
choice_words (Allow words) = codes "allow" ∷ words
choice_words (Spare words) = codes "spare" ∷ words
choice_words (Decisions number) = codes "decisions" ∷ decimal number ∷ []
choice_words (Keep sort name) = codes "keep" ∷ sort_word sort ∷ name ∷ []
choice_words (Rules file) = codes "rules" ∷ file ∷ []

-- one word or more may be opened, spare names are identifiers, and the names behind `keep` and `rules` are any words
abbrev pub ChoiceFits : Choice → Type 0
ChoiceFits (Allow words) = (words ≢ []) × All IsAllowed words
ChoiceFits (Spare words) = (words ≢ []) × All (IsToken kind.Ident) words
ChoiceFits (Decisions number) = number ≤ MOST_DECISIONS
ChoiceFits (Keep sort name) = Unit {0}
ChoiceFits (Rules file) = Unit {0}

-- what words are read as, if they are such a line
abbrev pub IsChoiceOf : List (List ℕ) → Option Choice → Type 0
IsChoiceOf words answer = MatchOption answer
    ((choice : Choice) → words ≡ choice_words choice → ChoiceFits choice → ⊥)
    (λ choice. (words ≡ choice_words choice) × ChoiceFits choice)

-- `allow`, `spare` and `decisions` stand once at most
abbrev pub repeats : Choice → Choice → Bool
repeats (Allow words) (Allow others) = true
repeats (Spare words) (Spare others) = true
repeats (Decisions number) (Decisions other) = true
repeats one other = false

abbrev pub is_repeated : Choice → List ChoiceLine → Bool
is_repeated choice lines = list_any (λ line. repeats line.choice choice) lines

abbrev pub none_repeats : List ChoiceLine → Bool
none_repeats [] = true
none_repeats (line ∷ lines) = not (list_any (λ other. repeats line.choice other.choice) lines) && none_repeats lines

-- the lines can stand behind a target line
pub record AreChoices (lines : List ChoiceLine) : Type 0 where
  pub fit : All (λ line. ChoiceFits line.choice) lines
  pub once : none_repeats lines ≡ true

abbrev pub choice_line : ChoiceLine → ℕ × List (List ℕ)
choice_line line = (line.number, choice_words line.choice)
