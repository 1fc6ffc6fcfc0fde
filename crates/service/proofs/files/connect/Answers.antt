use Rattle.sql_keeper.proofs.reads.HandedOn.{value_handed}
use Rattle.service.proofs.files.connect.Goals as goal

pub returns-clause-opened : goal.returns-clause-opened
returns-clause-opened g c =
    value_handed _ _ c.open_database.result c.map_err.result c.map_err.ensures.cases
    c.open_database.ensures.opened

pub returns-clause-found : goal.returns-clause-found
returns-clause-found g c =
    value_handed _ _ c.open_database.result c.map_err.result c.map_err.ensures.cases
    c.open_database.ensures.found
