-- What the worlds and sinks in memory hold and count.
use Rattle.std.specs.Prelude.{◌≡◌, ℕ, List}
use Rattle.rf_world.specs.Calls.{CountsOneCall}
use Rattle.rf_world.specs.MemFiles.{File}
use Rattle.rf_world.specs.declared.calls.Calls.{Calls}
use Rattle.rf_world.specs.declared.honest_sink.HonestSink.{HonestSink}
use Rattle.rf_world.specs.declared.honest_world.HonestWorld.{HonestWorld}
use Rattle.rf_world.specs.declared.mem_sink.MemSink.{MemSink}
use Rattle.rf_world.specs.declared.mem_world.MemWorld.{MemWorld}

-- the files of a world, in the order in which each was first put
abbrev pub world_files : MemWorld → List File
world_files world = world.files

-- the calls of `list`, `read` and `write`
abbrev pub world_calls : MemWorld → Calls
world_calls world = world.calls

-- how many calls of `list` and `read` failed
abbrev pub failed_reads : MemWorld → ℕ
failed_reads world = world.read_faults

-- how many calls of `write` failed
abbrev pub failed_writes : MemWorld → ℕ
failed_writes world = world.write_faults

-- one more call was made, which changed no file and failed no write
pub record LooksOnly (old new : MemWorld) : Type 0 where
  pub files : world_files new ≡ world_files old
  pub call : CountsOneCall (world_calls old) (world_calls new)
  pub writes : failed_writes new ≡ failed_writes old

-- no call was made, and all counts stand
pub record KeepsCounts (old new : MemWorld) : Type 0 where
  pub calls : world_calls new ≡ world_calls old
  pub reads : failed_reads new ≡ failed_reads old
  pub writes : failed_writes new ≡ failed_writes old

-- the bytes that a sink has received
abbrev pub sink_bytes : MemSink → List ℕ
sink_bytes sink = sink.bytes

-- the calls of `put`
abbrev pub sink_calls : MemSink → Calls
sink_calls sink = sink.calls

-- how many calls of `put` failed
abbrev pub failed_puts : MemSink → ℕ
failed_puts sink = sink.faults

-- the files of an honest world, in the order in which each was first put
abbrev pub honest_files : HonestWorld → List File
honest_files world = world.files

-- how many reads found no file
abbrev pub absent_reads : HonestWorld → ℕ
absent_reads world = world.read_faults

-- the bytes that an honest sink has received
abbrev pub honest_bytes : HonestSink → List ℕ
honest_bytes sink = sink.bytes

-- how many calls of `put` were made
abbrev pub honest_puts : HonestSink → ℕ
honest_puts sink = sink.puts
