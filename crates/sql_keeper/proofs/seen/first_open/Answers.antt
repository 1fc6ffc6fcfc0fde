use Rattle.std.proofs.Common.{◌∙◌, ap, sym}
use Rattle.std.specs.Prelude.{option_copied}
use Rattle.sql_keeper.proofs.kept.SeenRows.{first_named}
use Rattle.sql_keeper.proofs.seen.first_open.Goals as goal

pub returns : goal.returns
returns c =
    first_named c.args.sessions.now c.in-Some.session.now c.open_name.result
    (ap option_copied (sym c.in-Some.is) ∙ c.first.ensures.value) c.open_name.ensures
