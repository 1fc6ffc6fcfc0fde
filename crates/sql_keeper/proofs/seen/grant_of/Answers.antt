use Rattle.std.proofs.Common.{◌∙◌, ap, sym}
use Rattle.std.specs.Prelude.{option_copied}
use Rattle.sql_keeper.proofs.kept.SeenRows.{grant_first}
use Rattle.sql_keeper.proofs.seen.grant_of.Goals as goal

pub returns : goal.returns
returns c =
    grant_first c.args.groups.now c.in-Some.row.now c.args.session.now c.own_grant.result
    (ap option_copied (sym c.in-Some.is) ∙ c.first.ensures.value) c.own_grant.ensures
