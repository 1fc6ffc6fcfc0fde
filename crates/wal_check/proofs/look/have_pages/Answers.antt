use Rattle.std.proofs.Common.{rules, arith, ◌≡◌, length}
use Rattle.std.proofs.lemmas.Result.{err_from_is_err_and}
use Rattle.sqlite_wal.proofs.CleanLemmas.{halves}
use Rattle.wal_check.proofs.Ends.{for_pages}
use Rattle.wal_check.proofs.Pages.{all_within}
use Rattle.wal_check.proofs.look.have_pages.Goals as goal

pub returns-clause-have : goal.returns-clause-have
returns-clause-have g c clean =
    let read = c.in_ok-frames.ensures.read (c.are_in_file.ensures.log.clean (halves g.D.Disk _ _ clean).0) in
    let room : length c.deref_mut-2.result.now ≡ c.args.shape.now.page_size = search rules in
    for_pages _ _ _ _ _ _ _ _ read.all read.count c.deref.ensures.value room
    (rw c.read_frames.ensures.same.seen at (c.in_ok-are_in_file.ensures.in_file clean))

pub returns-in_err-are_in_file-clause-cause : goal.returns-in_err-are_in_file-clause-cause
returns-in_err-are_in_file-clause-cause g c =
    let p = err_from_is_err_and c.from_residual-in_err-are_in_file.result c.from_residual-in_err-are_in_file.ensures.1 in
    let counted = c.in_err-are_in_file.ensures.faults in
    let first = c.in_ok-frames.ensures.cause in
    let room : length c.deref_mut-2.result.now ≡ c.args.shape.now.page_size = search rules in
    rw (p.1, p.2) (
      λ clean.
          let read = c.in_ok-frames.ensures.read (c.are_in_file.ensures.log.clean (halves g.D.Disk _ _ clean).0) in
          let within = all_within _ _ _ _ _ _ _ room c.read_frames.ensures.same.seen read.all read.count c.deref.ensures.value in
          omega (arith, first, counted.0 (clean, within)),
      omega (arith, first, counted.1),
    )
