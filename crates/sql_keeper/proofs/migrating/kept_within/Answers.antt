use Rattle.sql_keeper.proofs.openings.MetaFound.{meta_read_within, meta_told, meta_unread_within}
use Rattle.sql_keeper.proofs.openings.MetaFound.{meta_untold}
use Rattle.sql_keeper.proofs.migrating.kept_within.Goals as goal

pub returns-in-Ok-clause-reads : goal.returns-in-Ok-clause-reads
returns-in-Ok-clause-reads g c =
    meta_read_within _ _ _ c.in-Ok.read c.in-Ok.ensures.reads c.own_meta.result
    c.own_meta.ensures.kept

pub returns-in-Ok-clause-finds : goal.returns-in-Ok-clause-finds
returns-in-Ok-clause-finds g c =
    meta_told _ _ _ c.in-Ok.read c.in-Ok.ensures.reads.found c.in-Ok.ensures.version
    c.own_meta.result c.own_meta.ensures.kept c.own_meta.ensures.other c.own_meta.ensures.last

pub returns-in-Err-clause-reads : goal.returns-in-Err-clause-reads
returns-in-Err-clause-reads g c = meta_unread_within _ _ _ c.in-Err.fault c.in-Err.ensures.reads _

pub returns-in-Err-clause-finds : goal.returns-in-Err-clause-finds
returns-in-Err-clause-finds g c =
    meta_untold _ _ _ c.in-Err.fault c.in-Err.ensures.refused c.read_fault.result
    c.read_fault.ensures.told c.read_fault.ensures.ours c.read_fault.ensures.rules
