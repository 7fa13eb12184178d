-- What a whole run does, status by status, over the files that the world tells and the bytes that the sink tells.
use Rattle.std.specs.Prelude.{◌≡◌, ◌≢◌, ℕ, List, [], ◌⊎◌, Option, Some, IsSome, take}
use Rattle.rf_world.specs.Fault.{Rose}
use Rattle.rf_world.specs.World.{Files, with_file}
use Rattle.rf_engine.specs.declared.first_form.FirstPath.{FirstPath}
use Rattle.rf_engine.specs.declared.first_form.FirstPath.TheVariants.{Changed, Refused, NotYet}
use Rattle.rf_engine.specs.FirstForm.{FirstForm, answer_of}
use Rattle.rf_rules.specs.declared.answers.RulesAnswer.{RulesAnswer}
use Rattle.rf_rules.specs.declared.answers.RulesAnswer.TheVariants.{Printed, Bad, TooLarge}
use Rattle.rf_rules.specs.RuleFiles.{IsRulesAnswer}
use Rattle.rf_cli.specs.declared.status.Status.{Status}
use Rattle.rf_cli.specs.declared.status.Status.TheVariants as status
use Rattle.rf_cli.specs.Command.{Apply, AreBadWords, IsApply, IsRules, built_in}
use Rattle.rf_cli.specs.Put.{Puts}
use Rattle.rf_cli.specs.Inputs.{HoldsForm}
use Rattle.rf_cli.specs.RulesEnd.{IsRulesRight, rules_status, rules_text}

-- the words are a command, and the files do not hold the first form for it
pub record HasNoForm (words : List (List ℕ)) (files : Files) : Type 0 where
  pub command : Apply
  pub is_apply : IsApply words command
  pub none : (path : List ℕ) (form : FirstForm) → HoldsForm command files path form → ⊥

-- the words are a command, the files hold the first form for it, and this is its answer
pub record HasAnswer (words : List (List ℕ)) (files : Files) (command : Apply) (path : List ℕ) (answer : FirstPath) : Type 0 where
  pub is_apply : IsApply words command
  pub form : FirstForm
  pub holds : HoldsForm command files path form
  pub answer_is : answer ≡ answer_of form

-- status 0: the changed file stands under OUT, every other file as before, and the report was put
pub record IsChanged (words : List (List ℕ)) (before : Files) (after : Option Files) (received put : Option (List ℕ)) : Type 0 where
  pub command : Apply
  pub path : List ℕ
  pub bytes : List ℕ
  pub report : List ℕ
  pub answer : HasAnswer words before command path (Changed bytes report)
  pub written : after ≡ Some (with_file command.out path bytes before)
  pub line : Puts report received put

-- status 1: the line that names both fields was put
pub record IsRefused (words : List (List ℕ)) (before : Files) (received put : Option (List ℕ)) : Type 0 where
  pub command : Apply
  pub path : List ℕ
  pub report : List ℕ
  pub answer : HasAnswer words before command path (Refused report)
  pub line : Puts report received put

-- the words ask for a rule file, and what is answered for its bytes was put
pub record IsRulesSaid (words : List (List ℕ)) (files : Files) (answer : RulesAnswer) (received put : Option (List ℕ)) : Type 0 where
  pub file : List ℕ
  pub is_rules : IsRules words file
  pub given : file ≢ built_in
  pub right : IsRulesRight file files answer
  pub line : Puts (rules_text answer) received put

-- status 0 of a rule file: its plain print was put, and the files are as before
pub record IsPrinted (words : List (List ℕ)) (before : Files) (after : Option Files) (received put : Option (List ℕ)) : Type 0 where
  pub text : List ℕ
  pub said : IsRulesSaid words before (Printed text) received put
  pub same : after ≡ Some before

-- status 6: the line that says what is wrong with it was put
abbrev pub IsBadRules : List (List ℕ) → Files → Option (List ℕ) → Option (List ℕ) → Type 0
IsBadRules words files received put = (line : List ℕ) × IsRulesSaid words files (Bad line) received put

-- status 10: the line that says how many bytes it has was put
abbrev pub IsTooLarge : List (List ℕ) → Files → Option (List ℕ) → Option (List ℕ) → Type 0
IsTooLarge words files received put = (line : List ℕ) × IsRulesSaid words files (TooLarge line) received put

-- the statuses that come of a failed call or of want of memory
abbrev pub IsFault : Status → Type 0
IsFault result = (result ≡ status.ReadFault) ⊎ ((result ≡ status.WriteFault) ⊎ (result ≡ status.Memory))

-- the statuses after which files may have changed
abbrev pub MayHaveWritten : Status → Type 0
MayHaveWritten result = (result ≡ status.Ok) ⊎ ((result ≡ status.WriteFault) ⊎ (result ≡ status.Memory))

-- the status of an answer
abbrev pub status_of : FirstPath → Status
status_of (Changed bytes report) = status.Ok
status_of (Refused report) = status.Refused
status_of NotYet = status.NotYet

-- bad words, a form, no form and a rule file each have their one status, which yields to a failed call and to want of memory
-- alone
pub record IsExact (words : List (List ℕ)) (files : Files) (result : Status) : Type 0 where
  pub bad_words : AreBadWords words → (result ≡ status.BadWords) ⊎ IsFault result
  pub form : (command : Apply) (path : List ℕ) (form : FirstForm) → IsApply words command → HoldsForm command files path form → (result ≡ status_of (answer_of form)) ⊎ IsFault result
  pub no_form : HasNoForm words files → (result ≡ status.NotYet) ⊎ IsFault result
  pub rules : (file bytes : List ℕ) → IsRules words file → file ≢ built_in → files [] file ≡ Some bytes →
      ((answer : RulesAnswer) × IsRulesAnswer file bytes answer × (result ≡ rules_status answer)) ⊎ IsFault result
  pub built_in_rules : IsRules words built_in → (result ≡ status.NotYet) ⊎ IsFault result

-- the changed file was written under OUT, up to this many of its bytes, and every other file is as before
pub record IsWritten (words : List (List ℕ)) (before : Files) (after : Option Files) (count : ℕ) : Type 0 where
  pub command : Apply
  pub path : List ℕ
  pub bytes : List ℕ
  pub report : List ℕ
  pub answer : HasAnswer words before command path (Changed bytes report)
  pub written : after ≡ Some (with_file command.out path (take count bytes) before)

-- or whole
pub record IsWholeWritten (words : List (List ℕ)) (before : Files) (after : Option Files) : Type 0 where
  pub command : Apply
  pub path : List ℕ
  pub bytes : List ℕ
  pub report : List ℕ
  pub answer : HasAnswer words before command path (Changed bytes report)
  pub written : after ≡ Some (with_file command.out path bytes before)

-- the new name is in use by another field
pub record IsInUse (words : List (List ℕ)) (before : Files) : Type 0 where
  pub command : Apply
  pub path : List ℕ
  pub report : List ℕ
  pub answer : HasAnswer words before command path (Refused report)

-- whatever the status, the files are as before, or the one file that status 0 writes holds a prefix of its bytes
abbrev pub TouchesOneFile : List (List ℕ) → Files → Option Files → Type 0
TouchesOneFile words before after = (after ≡ Some before) ⊎ ((count : ℕ) × IsWritten words before after count)

-- the words ask for a rule file
abbrev pub AreRules : List (List ℕ) → Type 0
AreRules words = (file : List ℕ) × IsRules words file

-- a status other than 8 and 9 had its cause, and the files are as before
pub record HasOtherCause (words : List (List ℕ)) (before : Files) (after : Option Files) (reads reads_after : ℕ) : Type 0 where
  pub same : after ≡ Some before
  pub cause : AreBadWords words ⊎ (HasNoForm words before ⊎ (IsInUse words before ⊎ (Rose reads reads_after ⊎ AreRules words)))

-- where the put alone failed: the changed file stands whole, or another status had its cause
abbrev pub StandsWhole : List (List ℕ) → Files → Option Files → ℕ → ℕ → Type 0
StandsWhole words before after reads reads_after = IsWholeWritten words before after ⊎ HasOtherCause words before after reads reads_after

-- no count of a failed call changed
pub record CountsAreSame (reads writes puts reads_after writes_after puts_after : ℕ) : Type 0 where
  pub same_reads : reads_after ≡ reads
  pub same_writes : writes_after ≡ writes
  pub same_puts : puts_after ≡ puts

-- the request or the rule file that the words name is there
pub record HasInput (words : List (List ℕ)) (files : Files) : Type 0 where
  pub request : (command : Apply) → IsApply words command → IsSome (files [] command.request)
  pub rules : (file : List ℕ) → IsRules words file → IsSome (files [] file)
