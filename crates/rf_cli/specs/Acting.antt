-- What is done with a decision: what is written and put.
use Rattle.std.specs.Prelude.{◌≡◌, ℕ, Bool, List, Option, option_map}
use Rattle.rf_world.specs.Fault.{Rose}
use Rattle.rf_world.specs.World.{Files, MayHoldPrefix, with_file}
use Rattle.rf_engine.specs.declared.first_form.FirstPath.{FirstPath}
use Rattle.rf_engine.specs.declared.first_form.FirstPath.TheVariants.{Changed, Refused, NotYet}
use Rattle.rf_cli.specs.declared.status.Status.{Status}
use Rattle.rf_cli.specs.declared.status.Status.TheVariants as status
use Rattle.rf_cli.specs.Put.{IsPut, SinkState, not_yet_line, write_fault_line}

-- what a world and a sink tell
pub record RunState : Type 0 where
  pub files : Option Files
  pub reads : ℕ
  pub writes : ℕ
  pub honest : Bool
  pub sink : SinkState

abbrev pub run_state : Option Files → ℕ → ℕ → Bool → SinkState → RunState
run_state files reads writes honest sink =
    record { files = files; reads = reads; writes = writes; honest = honest; sink = sink }

-- nothing was written, and no write failed
pub record WritesNothing (before after : RunState) : Type 0 where
  pub files : after.files ≡ before.files
  pub writes : after.writes ≡ before.writes

-- nothing was written, and one line was put
pub record OnlyPuts (wanted : Status) (line : List ℕ) (before after : RunState) (result : Status) : Type 0 where
  pub stays : WritesNothing before after
  pub puts : IsPut wanted line before.sink after.sink result

-- how the writing of the changed file ends: it is written and the report is put; or the write failed, and `write fault`
-- is put, however that put ends; or memory was wanted, and nothing is put
pub data WriteEnd (out path bytes report : List ℕ) (before after : RunState) (result : Status) : Type 0 where
  written : after.files ≡ option_map (with_file out path bytes) before.files → after.writes ≡ before.writes
      → IsPut status.Ok report before.sink after.sink result → WriteEnd out path bytes report before after result
  failed : result ≡ status.WriteFault → MayHoldPrefix out path bytes before.files after.files
      → Rose before.writes after.writes
      → (said : Status) → IsPut status.WriteFault write_fault_line before.sink after.sink said
      → WriteEnd out path bytes report before after result
  starved : result ≡ status.Memory → MayHoldPrefix out path bytes before.files after.files
      → after.writes ≡ before.writes → after.sink ≡ before.sink → WriteEnd out path bytes report before after result

abbrev pub Acts : List ℕ → List ℕ → FirstPath → RunState → RunState → Status → Type 0
Acts out path NotYet before after result = OnlyPuts status.NotYet not_yet_line before after result
Acts out path (Refused report) before after result = OnlyPuts status.Refused report before after result
Acts out path (Changed bytes report) before after result = WriteEnd out path bytes report before after result
