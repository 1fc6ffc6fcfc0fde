use Rattle.std.proofs.lemmas.Result.{IfOk-weaker}
use Rattle.sqlite_wal.specs.Files.{image_at}
use Rattle.sql_keeper.proofs.reads.HandedOn.{value_handed}
use Rattle.service.proofs.OverLemmas.{opened_in}
use Rattle.service.proofs.opening.open_office.Goals as goal

pub returns-clause-opened : goal.returns-clause-opened
returns-clause-opened g c =
    value_handed _ _ c.open_tables.result c.map_err.result c.map_err.ensures.cases
    (IfOk-weaker c.open_tables.result _ _
    (λ office opened. opened_in (image_at g.S.Start) _ _ _ c.in_ok-connection.ensures.opened
    c.in_ok-connection.ensures.found opened) c.open_tables.ensures.opened)
