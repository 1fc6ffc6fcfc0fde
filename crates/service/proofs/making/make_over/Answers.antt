use Rattle.std.proofs.lemmas.Result.{IfOk-weaker}
use Rattle.sqlite_wal.specs.Files.{image_at}
use Rattle.sql_keeper.proofs.reads.HandedOn.{value_handed}
use Rattle.service.proofs.MakingLemmas.{not_made_told}
use Rattle.service.proofs.OverLemmas.{made_fresh, made_in}
use Rattle.service.proofs.making.make_over.Goals as goal

pub returns-clause-fresh : goal.returns-clause-fresh
returns-clause-fresh g c =
    value_handed _ _ c.make_tables.result c.map_err.result c.map_err.ensures.cases
    (IfOk-weaker c.make_tables.result _ _ (λ office made. made_fresh _ _ _ _ made)
    c.make_tables.ensures.made)

pub returns-clause-made : goal.returns-clause-made
returns-clause-made g c =
    value_handed _ _ c.make_tables.result c.map_err.result c.map_err.ensures.cases
    (IfOk-weaker c.make_tables.result _ _
    (λ office made clean. made_in (image_at g.S.Start) _ _ _ _ _ c.in_ok-text.ensures.same
    c.in_ok-connection.ensures.opened c.in_ok-connection.ensures.found made clean)
    c.make_tables.ensures.made)

pub returns-clause-fault : goal.returns-clause-fault
returns-clause-fault g c = not_made_told _ c.make_tables.result c.map_err.result
    c.map_err.ensures.cases c.make_tables.ensures.refused
