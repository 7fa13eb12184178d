-- When a call may answer that it failed: each such answer shows in a count of what was called.
use Rattle.std.specs.Prelude.{◌≡◌, ℕ, ◌+◌, ◌-◌, ◌^◌, ◌<◌, ◌≤◌, ◌⊎◌, Result, OnOk, IsErrOf, min}

-- the last value of a count, at which it stays
abbrev pub last_count : ℕ
last_count = 2 ^ 64 - 1

-- a count after one more
abbrev pub next_count : ℕ → ℕ
next_count count = min (count + 1) last_count

-- a count rose: it is greater than before, or stands at its last value
abbrev pub Rose : (before now : ℕ) → Type 0
Rose before now = (before < now) ⊎ (now ≡ last_count)

-- a count never falls; it rose where the call failed, and else is as before
pub record HasCause {T E : Type 0}
    (fault memory : E) (before now : ℕ) (result : Result T E) : Type 0 where
  pub later : before ≤ now
  pub failed : IsErrOf result fault → Rose before now
  pub kept : OnOk result (now ≡ before)
  pub kept_memory : IsErrOf result memory → now ≡ before

-- and it goes up by one where the call failed
pub record CountsFaults {T E : Type 0}
    (fault memory : E) (before now : ℕ) (result : Result T E) : Type 0 where
  pub cause : HasCause fault memory before now result
  pub counted : IsErrOf result fault → now ≡ next_count before
