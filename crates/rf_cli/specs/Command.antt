-- The words after the program's name, read by position.
use Rattle.std.specs.Prelude.{◌≡◌, ◌≢◌, ℕ, List, [], ◌∷◌, codes}
use Rattle.rf_cli.specs.declared.command.ApplyWords.{ApplyWords}
use Rattle.rf_cli.specs.declared.command.Command.{Command}
use Rattle.rf_cli.specs.declared.command.Command.TheVariants as command

-- `apply SRC LIB OUT REQFILE`
pub record Apply : Type 0 where
  pub src : List ℕ
  pub lib : List ℕ
  pub out : List ℕ
  pub request : List ℕ

-- no word is empty, and OUT is neither SRC nor LIB
pub record IsPossible (command : Apply) : Type 0 where
  pub src_stands : command.src ≢ []
  pub lib_stands : command.lib ≢ []
  pub out_stands : command.out ≢ []
  pub request_stands : command.request ≢ []
  pub out_is_not_src : command.out ≢ command.src
  pub out_is_not_lib : command.out ≢ command.lib

-- the words are this command
pub record IsApply (words : List (List ℕ)) (command : Apply) : Type 0 where
  pub words_are : words ≡ codes "apply" ∷ command.src ∷ command.lib ∷ command.out ∷ command.request ∷ []
  pub possible : IsPossible command

-- `rules FILE`
pub record IsRules (words : List (List ℕ)) (file : List ℕ) : Type 0 where
  pub words_are : words ≡ codes "rules" ∷ file ∷ []
  pub stands : file ≢ []

-- `-` for FILE: the rules that are built in
abbrev pub built_in : List ℕ
built_in = codes "-"

-- the words are no command
pub record AreBadWords (words : List (List ℕ)) : Type 0 where
  pub no_apply : (command : Apply) → IsApply words command → ⊥
  pub no_rules : (file : List ℕ) → IsRules words file → ⊥

-- `-` for LIB: there is no library
abbrev pub no_library : List ℕ
no_library = codes "-"

abbrev pub command_seen : ApplyWords → Apply
command_seen words = record { src = words.src.now; lib = words.lib.now; out = words.out.now; request = words.request.now }

-- the words are the command that was read from them
abbrev pub IsCommand : List (List ℕ) → Command → Type 0
IsCommand words (command.Apply found) = IsApply words (command_seen found)
IsCommand words (command.Rules file) = IsRules words file.now
