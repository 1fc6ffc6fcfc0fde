use Rattle.std.proofs.Common.{subst}
use Rattle.sql_rows.specs.Content.{rows_in}
use Rattle.sql_keeper.specs.LiveRows.{IsLoadStored}
use Rattle.sql_keeper.proofs.kept_rows.kept_if_loaded.Goals as goal

pub returns-in-Some : goal.returns-in-Some
returns-in-Some c = λ names shelf t a trees keeps load.
    c.kept_or_loaded.ensures names shelf t a trees keeps
    (subst (IsLoadStored names shelf t a (rows_in trees a)) c.in-Some.is load)
