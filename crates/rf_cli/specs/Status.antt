-- The exit statuses of the program.
use Rattle.std.specs.Prelude.{ℕ}
use Rattle.rf_cli.specs.declared.status.Status.{Status}
use Rattle.rf_cli.specs.declared.status.Status.TheVariants.{Ok, Refused, BadWords, BadRules, ReadFault, WriteFault, Memory, TooLarge, NotYet}

abbrev pub code_of : Status → ℕ
code_of Ok = 0
code_of Refused = 1
code_of BadWords = 3
code_of BadRules = 6
code_of ReadFault = 7
code_of WriteFault = 8
code_of Memory = 9
code_of TooLarge = 10
code_of NotYet = 12
