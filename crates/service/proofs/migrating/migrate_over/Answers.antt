use Rattle.std.proofs.lemmas.Result.{IfOk-weaker}
use Rattle.sqlite_wal.specs.Files.{image_at}
use Rattle.sql_keeper.proofs.reads.HandedOn.{value_handed}
use Rattle.service.proofs.OverLemmas.{migrated_fresh, migrated_in}
use Rattle.service.proofs.UnopenedFaults.{unopened_told}
use Rattle.service.proofs.migrating.migrate_over.Goals as goal

pub returns-clause-fresh : goal.returns-clause-fresh
returns-clause-fresh g c =
    value_handed _ _ c.migrate_tables.result c.map_err.result c.map_err.ensures.cases
    (IfOk-weaker c.migrate_tables.result _ _ (λ office migrated. migrated_fresh _ _ _ migrated)
    c.migrate_tables.ensures.migrated)

pub returns-clause-migrated : goal.returns-clause-migrated
returns-clause-migrated g c =
    value_handed _ _ c.migrate_tables.result c.map_err.result c.map_err.ensures.cases
    (IfOk-weaker c.migrate_tables.result _ _
    (λ office migrated clean. migrated_in (image_at g.S.Start) _ _ _
    c.in_ok-connection.ensures.opened c.in_ok-connection.ensures.found migrated clean)
    c.migrate_tables.ensures.migrated)

pub returns-clause-told : goal.returns-clause-told
returns-clause-told g c = unopened_told _ c.migrate_tables.result c.map_err.result
    c.map_err.ensures.cases c.migrate_tables.ensures.refused
