use Rattle.std.proofs.Common.{subst}
use Rattle.std.specs.Prelude.{IfOk}
use Rattle.sql_rows.specs.Content.{rows_in}
use Rattle.sql_keeper.specs.LiveRows.{IsLoadStored}
use Rattle.sql_keeper.proofs.kept_rows.kept_after.Goals as goal

pub returns-in-Ok : goal.returns-in-Ok
returns-in-Ok c = λ names shelf t a trees keeps load.
    c.kept_if_loaded.ensures names shelf t a trees keeps
    (subst (λ r. IfOk r (IsLoadStored names shelf t a (rows_in trees a))) c.in-Ok.is load)
