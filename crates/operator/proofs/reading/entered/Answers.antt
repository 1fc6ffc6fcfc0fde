use Rattle.std.specs.Box.{box_value}
use Rattle.clap.specs.Words.{found_of, rows_of}
use Rattle.clap.specs.declared.parser.matches.ArgMatches.TheViews.{out-ArgMatches, out-SubCommand}
use Rattle.operator.proofs.ProgramLemmas.{joined}
use Rattle.operator.proofs.reading.entered.Goals as goal

pub returns : goal.returns
returns c = joined (λ b. (out-SubCommand (box_value b)).name.now)
    (λ b. rows_of (found_of (out-SubCommand (box_value b)).matches))
    (out-ArgMatches c.args.matches.now).subcommand (λ p. p.0.now)
    (λ p. rows_of (found_of p.1.now)) c.subcommand.result
    c.subcommand.ensures.name c.subcommand.ensures.rows
