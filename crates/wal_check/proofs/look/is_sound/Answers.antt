use Rattle.std.proofs.Common.{arith, ◌≢◌, ◌<◌, length, slice_index, sym, ◌∙◌}
use Rattle.sqlite_wal.proofs.CleanLemmas.{halves}
use Rattle.wal_check.proofs.Ends.{left_emptied}
use Rattle.wal_check.proofs.look.is_sound.Goals as goal

pub returns-clause-sound : goal.returns-clause-sound
returns-clause-sound g c clean =
    let now = halves g.D.Disk _ _ clean in
    let read = c.is_written_back.ensures.log.clean now.0 in
    let told = c.is_written_back.ensures.db.clean now.1 in
    let some : 0 < length (g.D.Disk.seen c.args.files.now.db) = omega (arith, c.in_ok-len-2.ensures.len told, c.if-branch-eq0.false) in
    let long : 1 < length (g.D.Disk.seen c.args.files.now.log) = omega (arith, c.in_ok-len.ensures.len (c.read_at.ensures.clean read), c.if-len-lt2.false) in
    let held = rw c.len.ensures.seen at (c.in_ok-read_at.ensures.read read (omega arith)) in
    let first : slice_index (g.D.Disk.seen c.args.files.now.log) 0 ≢ 0x37 = λ is. c.if-first-eq-MAGIC.false (sym (held.each 0 (omega arith)) ∙ is) in
    let back = rw (c.read_at.ensures.seen, c.len.ensures.seen, c.len-2.ensures.seen) at (c.in_ok-back.ensures.back clean) in
    left_emptied _ _ _ some long first back
