use Rattle.std.proofs.Common.{refl}
use Rattle.sqlite_wal.proofs.CleanLemmas.{halves}
use Rattle.wal_check.proofs.Pages.{kept_there}
use Rattle.wal_check.proofs.written_back.is_kept.Goals as goal

pub returns-clause-kept : goal.returns-clause-kept
returns-clause-kept g c clean =
    let before = c.is_in_file.ensures.log.clean (halves g.D.Disk _ _ clean).0 in
    kept_there _ _ _ _ _ _ _ c.in_ok-has.has (c.requires.numbers.1 before) c.requires.numbers.0 refl c.requires.at.0
    (c.is_newest.ensures.0 c.if-not-is_newest.false) (c.in_ok-has.ensures.in_file clean)
