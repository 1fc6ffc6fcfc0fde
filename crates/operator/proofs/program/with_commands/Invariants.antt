use Rattle.std.proofs.Common.{◌≡◌, drop, false}
use Rattle.clap.specs.Words.{app_of}
use Rattle.clap.specs.declared.builder.command.Command.TheViews.{out-Command as fields_of}
use Rattle.operator.specs.Program.{with_command_apps}
use Rattle.operator.proofs.program.with_commands.Given as goal

abbrev pub invariant-loop-name : goal.invariant-loop-name
invariant-loop-name l = record {
  local : (fields_of l.program).has_globals ≡ false;
  app : with_command_apps (drop l.name-index l.names) (app_of l.program)
      ≡ with_command_apps l.names (app_of l.fn.program);
}
