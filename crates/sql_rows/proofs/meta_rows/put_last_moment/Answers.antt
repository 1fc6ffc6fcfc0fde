use Rattle.std.proofs.Common.{◌∙◌, ap}
use Rattle.sql_rows.specs.Values.{nat}
use Rattle.sql_rows.proofs.puts.PutLastMoment.{bound_last_moment, makes_last_moment}
use Rattle.sql_rows.proofs.puts.PutLastMoment.{rules_last_moment}
use Rattle.sql_rows.proofs.meta_rows.put_last_moment.Goals as goal

pub returns-clause-makes : goal.returns-clause-makes
returns-clause-makes g c =
    makes_last_moment c.args.last _
    (bound_last_moment c.args.last _
    (c.large-moment.ensures ∙ ap nat c.seconds.ensures.value))
    _ _ c.run.result c.requires.tables c.requires.rules c.run.ensures.makes

pub returns-clause-rules : goal.returns-clause-rules
returns-clause-rules g c =
    rules_last_moment c.args.last _
    (bound_last_moment c.args.last _
    (c.large-moment.ensures ∙ ap nat c.seconds.ensures.value))
    _ _ c.run.result c.requires.tables c.requires.rules c.run.ensures.makes
