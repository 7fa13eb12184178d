-- The calls of a world or a sink in memory: they are numbered from 0, and chosen ones fail.
use Rattle.std.specs.Prelude.{◌≡◌, ℕ, List, Contains}
use Rattle.rf_world.specs.Fault.{next_count}
use Rattle.rf_world.specs.declared.calls.Calls.{Calls}

-- the numbers of the calls that fail
abbrev pub failing_calls : Calls → List ℕ
failing_calls calls = calls.failing

-- how many calls were made, which is the number of the next call
abbrev pub calls_made : Calls → ℕ
calls_made calls = calls.made

-- the next call is one of those that fail
abbrev pub FailsNext : Calls → Type 0
FailsNext calls = Contains (failing_calls calls) (calls_made calls)

-- one more call was made, and the same calls fail
pub record CountsOneCall (old new : Calls) : Type 0 where
  pub failing : failing_calls new ≡ failing_calls old
  pub made : calls_made new ≡ next_count (calls_made old)
