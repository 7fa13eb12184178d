-- How a run for a rule file ends.
use Rattle.std.specs.Prelude.{◌≡◌, ◌≢◌, ℕ, List, [], Some, IfSome, IsSome, IsTrue}
use Rattle.rf_world.specs.Fault.{Rose}
use Rattle.rf_world.specs.World.{Files}
use Rattle.rf_rules.specs.declared.answers.RulesAnswer.{RulesAnswer}
use Rattle.rf_rules.specs.declared.answers.RulesAnswer.TheVariants.{Printed, Bad, TooLarge}
use Rattle.rf_rules.specs.RuleFiles.{IsRulesAnswer}
use Rattle.rf_cli.specs.declared.status.Status.{Status}
use Rattle.rf_cli.specs.declared.status.Status.TheVariants as status
use Rattle.rf_cli.specs.Acting.{OnlyPuts, RunState, WritesNothing}
use Rattle.rf_cli.specs.Command.{built_in}
use Rattle.rf_cli.specs.Put.{not_yet_line, read_fault_line}

-- the status of an answer, and what is put for it
abbrev pub rules_status : RulesAnswer → Status
rules_status (Printed text) = status.Ok
rules_status (Bad line) = status.BadRules
rules_status (TooLarge line) = status.TooLarge

abbrev pub rules_text : RulesAnswer → List ℕ
rules_text (Printed text) = text
rules_text (Bad line) = line
rules_text (TooLarge line) = line

-- the file stands there, and this is the answer for its bytes; it is read with the empty root
pub record IsRulesRight (file : List ℕ) (files : Files) (answer : RulesAnswer) : Type 0 where
  pub bytes : List ℕ
  pub stands : files [] file ≡ Some bytes
  pub answer_is : IsRulesAnswer file bytes answer

-- the rules that are built in are asked for; the file couldn't be read, which it can in an honest world that has it; memory
-- was wanted before anything was put; or the answer for the file was put
pub data RulesEnd (file : List ℕ) (before after : RunState) (result : Status) : Type 0 where
  not_yet : file ≡ built_in → after.reads ≡ before.reads
      → OnlyPuts status.NotYet not_yet_line before after result → RulesEnd file before after result
  read_fault : file ≢ built_in → Rose before.reads after.reads
      → (IsTrue before.honest → IfSome before.files (λ files. IsSome (files [] file)) → ⊥)
      → OnlyPuts status.ReadFault read_fault_line before after result → RulesEnd file before after result
  starved : result ≡ status.Memory → after.reads ≡ before.reads → WritesNothing before after
      → after.sink ≡ before.sink → RulesEnd file before after result
  answered : file ≢ built_in → (answer : RulesAnswer) → IfSome before.files (λ files. IsRulesRight file files answer)
      → after.reads ≡ before.reads → OnlyPuts (rules_status answer) (rules_text answer) before after result
      → RulesEnd file before after result
