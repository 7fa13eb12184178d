use Rattle.std.proofs.Common.{subst}
use Rattle.rf_cli.specs.Command.{IsCommand, command_seen}
use Rattle.rf_cli.specs.RunEnd.{RunEnd}
use Rattle.rf_cli.proofs.whole_run.go.Goals as goal

pub returns-in-Some-Apply : goal.returns-in-Some-Apply
returns-in-Some-Apply g c =
    RunEnd.applied (command_seen c.in-Some-Apply.command) (subst (IsCommand c.args.words.now) c.in-Some-Apply.field-0-is c.in-Some-Apply.ensures) c.apply.ensures

pub returns-in-Some-Rules : goal.returns-in-Some-Rules
returns-in-Some-Rules g c =
    RunEnd.ruled c.in-Some-Rules.file.now (subst (IsCommand c.args.words.now) c.in-Some-Rules.field-0-is c.in-Some-Rules.ensures) c.rules.ensures
