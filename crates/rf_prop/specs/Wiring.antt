-- How the variables of one constraint are added to what is wired.
use Rattle.std.specs.Prelude.{◌≡◌, ℕ, ◌+◌, ◌<◌, true, List, length}
use Rattle.rf_form.specs.Alive.{is_among}
use Rattle.rf_form.specs.Truths.{row}
use Rattle.rf_cons.specs.Systems.{System}
use Rattle.rf_prop.specs.Queues.{Mentions}

-- what was in the list still is
abbrev pub Keeps : List ℕ → List ℕ → Type 0
Keeps old new = (x : ℕ) → is_among x old ≡ true → is_among x new ≡ true

-- The constraint stands in the row of each of the variables that are found, and those are listed.
pub record Added (found : List ℕ) (place : ℕ) (old new : List (List ℕ)) (vars : List ℕ) : Type 0 where
  pub rows : length new ≡ length old
  pub kept : (c x : ℕ) → is_among c (row old x) ≡ true → is_among c (row new x) ≡ true
  pub below : (c x : ℕ) → is_among c (row new x) ≡ true → c < place + 1
  pub watched : (x : ℕ) → is_among x found ≡ true → x < length old → is_among place (row new x) ≡ true
  pub listed : (x : ℕ) → is_among place (row new x) ≡ true → is_among x vars ≡ true

-- The constraints in front of that place are wired.
pub record WiredTo (s : System) (place : ℕ) (vars watchers : List (List ℕ)) : Type 0 where
  pub count : length vars ≡ place
  pub rows : length watchers ≡ length s.vals
  pub mentioned : (c x : ℕ) → c < place → x < length s.vals → Mentions s c x → is_among x (row vars c) ≡ true
  pub watched : (c x : ℕ) → c < place → x < length s.vals → Mentions s c x → is_among c (row watchers x) ≡ true
  pub inside : (c x : ℕ) → is_among c (row watchers x) ≡ true → c < place

-- The constraint is added with all variables that it mentions.
pub record AddedAll (s : System) (place : ℕ) (old new : List (List ℕ)) (vars : List ℕ) : Type 0 where
  pub found : List ℕ
  pub all : (x : ℕ) → Mentions s place x → is_among x found ≡ true
  pub added : Added found place old new vars
