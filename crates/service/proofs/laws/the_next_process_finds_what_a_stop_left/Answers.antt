use Rattle.sqlite_store.specs.Laws.{settled_at}
use Rattle.service.proofs.NextRun.{found_by_next}
use Rattle.service.proofs.laws.the_next_process_finds_what_a_stop_left.Goals as goal

pub returns : goal.returns
returns g c = found_by_next g.D.Disk g.E.Disk
    (λ it db. settled_at it (g.met.D.Disk.seen_may_stay) db)
