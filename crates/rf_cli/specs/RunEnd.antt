-- How a run ends: each end with its cause, what is written, and the one line that is put.
use Rattle.std.specs.Prelude.{◌≡◌, ℕ, List, [], IfSome, IsSome, IsTrue}
use Rattle.rf_world.specs.Fault.{Rose}
use Rattle.rf_engine.specs.declared.first_form.FirstPath.{FirstPath}
use Rattle.rf_cli.specs.declared.status.Status.{Status}
use Rattle.rf_cli.specs.declared.status.Status.TheVariants as status
use Rattle.rf_cli.specs.Acting.{Acts, OnlyPuts, RunState, WritesNothing}
use Rattle.rf_cli.specs.Command.{Apply, AreBadWords, IsApply, IsRules}
use Rattle.rf_cli.specs.Put.{bad_words_line, read_fault_line}
use Rattle.rf_cli.specs.Inputs.{IsRight}
use Rattle.rf_cli.specs.RulesEnd.{RulesEnd}

-- a read failed, which none does in an honest world that has the request; memory was wanted before anything was put; or what
-- was decided was done
pub data ApplyEnd (command : Apply) (before after : RunState) (result : Status) : Type 0 where
  read_fault : Rose before.reads after.reads
      → (IsTrue before.honest → IfSome before.files (λ files. IsSome (files [] command.request)) → ⊥)
      → OnlyPuts status.ReadFault read_fault_line before after result → ApplyEnd command before after result
  starved : result ≡ status.Memory → after.reads ≡ before.reads → WritesNothing before after
      → after.sink ≡ before.sink → ApplyEnd command before after result
  said : (path : List ℕ) (answer : FirstPath)
      → IfSome before.files (λ files. IsRight command files path answer)
      → after.reads ≡ before.reads → Acts command.out path answer before after result
      → ApplyEnd command before after result

-- the words are no command, or one of the two
pub data RunEnd (words : List (List ℕ)) (before after : RunState) (result : Status) : Type 0 where
  bad_words : AreBadWords words → after.reads ≡ before.reads
      → OnlyPuts status.BadWords bad_words_line before after result → RunEnd words before after result
  applied : (command : Apply) → IsApply words command → ApplyEnd command before after result
      → RunEnd words before after result
  ruled : (file : List ℕ) → IsRules words file → RulesEnd file before after result
      → RunEnd words before after result
