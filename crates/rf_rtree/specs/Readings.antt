-- What it means that tokens have a reading as a program, and which token is the first that can't go on.
use Rattle.std.specs.Prelude.{◌≡◌, ◌≤◌, ◌<◌, ◌+◌, ℕ, List, ◌++◌, length, take}
use Rattle.rf_rtree.specs.declared.items.RuleProg.{RuleProg}
use Rattle.rf_rtree.specs.Grammar.{ItemWay, items_yield, items_tree}
use Rattle.rf_rtree.specs.Tokens.{Tok}

-- a way through the grammar over just these tokens leads to the program
pub record Reading (toks : List Tok) (prog : RuleProg) : Type 0 where
  pub way : List ItemWay
  pub yields : items_yield way ≡ toks
  pub tree : items_tree way ≡ prog.items

-- some text that begins with these tokens has a reading
pub record Viable (toks : List Tok) : Type 0 where
  pub more : List Tok
  pub prog : RuleProg
  pub reading : Reading (toks ++ more) prog

-- the tokens before place k can go on, and with the one at k they can't; where k is their number, they end too early
pub record IsFault (toks : List Tok) (k : ℕ) : Type 0 where
  pub within : k ≤ length toks
  pub before : Viable (take k toks)
  pub behind : k < length toks → Viable (take (k + 1) toks) → ⊥
  pub unread : (prog : RuleProg) → Reading toks prog → ⊥
