use Rattle.std.proofs.Common.{rules, ◌≡◌, length}
use Rattle.sqlite_wal.proofs.PartLemmas.{held_is_part}
use Rattle.wal_check.proofs.frames.read_bytes.Goals as goal

pub returns-clause-read : goal.returns-clause-read
returns-clause-read g c clean is =
    let len : length c.read_at.new.buf ≡ length c.args.buf.now = search rules in
    held_is_part _ _ _ _ (c.in_ok-read_at.ensures.read clean c.requires.some) len
