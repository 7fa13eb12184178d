-- What becomes of an account while it is written.
use Rattle.std.specs.Prelude.{ℕ, ◌+◌, ◌-◌, List, [], ◌∷◌, ◌++◌, length, slice_set}
use Rattle.rf_jview.specs.declared.accounts.Account.{Account}
use Rattle.rf_jview.specs.declared.accounts.Start.{Start}
use Rattle.rf_jview.specs.declared.marks.Invocation.{Invocation}
use Rattle.rf_jview.specs.declared.marks.Mark.{Mark}
use Rattle.rf_jview.specs.declared.marks.Mark.TheVariants as m
use Rattle.rf_jview.specs.declared.marks.Opening.{Opening}
use Rattle.rf_jview.specs.MarkWords.{counted}

-- how far behind the beginning of its block the next token stands
unfoldable pub back_of : Account → ℕ
back_of account = account.back

-- with these marks behind
unfoldable pub noted : Account → List Mark → Account
noted account marks = record { list = account.list ++ marks; back = account.back + counted marks }

-- behind a token that begins a block, whose own mark is to come
unfoldable pub entered : Account → Account
entered account = record { list = account.list ++ m.Plain ∷ []; back = 1 }

-- the next token
unfoldable pub start_of : Account → Start
start_of account = record { at = length account.list; back = account.back }

-- with the block that begins there at its end
unfoldable pub opened : Opening → Start → Account → Account
opened opening start account =
    record { list = slice_set account.list start.at (m.Opens opening (account.back - 1)); back = start.back + account.back }

-- the `)` of an invocation, whose `(` stood at `from` and so far behind its identifier
unfoldable pub invoke_mark : Invocation → ℕ → ℕ → Account → Mark
invoke_mark invocation back from account = m.Invokes invocation (back + (account.back - from))

-- with a variable there whose block begins at the next token
unfoldable pub pointed : Start → Account → Account
pointed start account = record { list = slice_set account.list start.at (m.Ahead (account.back - start.back)); back = account.back }
