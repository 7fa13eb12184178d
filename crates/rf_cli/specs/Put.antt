-- The lines, and what putting one does to a sink.
use Rattle.std.specs.Prelude.{◌≡◌, ℕ, List, ◌++◌, Option, option_map, codes, take}
use Rattle.rf_world.specs.Fault.{Rose, next_count}
use Rattle.rf_engine.specs.FirstForm.{line_end}
use Rattle.rf_cli.specs.declared.status.Status.{Status}
use Rattle.rf_cli.specs.declared.status.Status.TheVariants as status

-- the lines that depend on nothing
abbrev pub bad_words_line : List ℕ
bad_words_line = codes "bad words" ++ line_end

abbrev pub not_yet_line : List ℕ
not_yet_line = codes "not yet" ++ line_end

abbrev pub read_fault_line : List ℕ
read_fault_line = codes "read fault" ++ line_end

abbrev pub write_fault_line : List ℕ
write_fault_line = codes "write fault" ++ line_end

-- the line was put, whole
abbrev pub Puts : List ℕ → Option (List ℕ) → Option (List ℕ) → Type 0
Puts line before after = after ≡ option_map (λ received. received ++ line) before

-- a front of the line was put
abbrev pub PutsFront : List ℕ → Option (List ℕ) → Option (List ℕ) → Type 0
PutsFront line before after = (count : ℕ) × Puts (take count line) before after

-- what a sink tells: the bytes that it took, its failed calls, its calls
pub record SinkState : Type 0 where
  pub received : Option (List ℕ)
  pub faults : ℕ
  pub puts : ℕ

abbrev pub sink_state : Option (List ℕ) → ℕ → ℕ → SinkState
sink_state received faults puts = record { received = received; faults = faults; puts = puts }

-- how the put of a line ends: with the status that is wanted, a failed call, or want of memory
pub data PutEnd (wanted : Status) (line : List ℕ) (before after : SinkState) (result : Status) : Type 0 where
  whole : result ≡ wanted → Puts line before.received after.received
      → after.faults ≡ before.faults → PutEnd wanted line before after result
  failed : result ≡ status.WriteFault → PutsFront line before.received after.received
      → Rose before.faults after.faults → PutEnd wanted line before after result
  starved : result ≡ status.Memory → PutsFront line before.received after.received
      → after.faults ≡ before.faults → PutEnd wanted line before after result

-- one put, of this line
pub record IsPut (wanted : Status) (line : List ℕ) (before after : SinkState) (result : Status) : Type 0 where
  pub once : after.puts ≡ next_count before.puts
  pub end : PutEnd wanted line before after result

-- `write fault` was put, in one put, however that put ended
abbrev pub PutsWriteFault : SinkState → SinkState → Type 0
PutsWriteFault before after = (said : Status) × IsPut status.WriteFault write_fault_line before after said
