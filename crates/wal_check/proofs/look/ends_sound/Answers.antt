use Rattle.wal_check.proofs.Ends.{ended}
use Rattle.wal_check.proofs.look.ends_sound.Goals as goal

pub returns-clause-ends : goal.returns-clause-ends
returns-clause-ends g c clean =
    let same = c.read_frames.ensures.same.seen in
    let shut_clean = c.hides_commit.ensures.same.clean clean in
    let read = c.in_ok-frames.ensures.read (c.is_shut.ensures.same.clean shut_clean) in
    let shut = rw same at ((c.in_ok-is_shut.ensures.shut shut_clean).0 c.if-not-branch.false) in
    let hidden = rw (c.is_shut.ensures.same.seen, same) at (c.in_ok-hides.ensures.hidden clean) in
    ended _ _ _ read.all (read.commits.0 c.if-not-frames.false) shut _ hidden
