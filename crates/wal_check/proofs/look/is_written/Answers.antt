use Rattle.std.proofs.Common.{rules, arith, ◌≡◌, length, sym}
use Rattle.std.proofs.lemmas.Bool.{false≢true}
use Rattle.sqlite_wal.specs.Recovery.{header}
use Rattle.sqlite_wal.proofs.PartLemmas.{held_is_part}
use Rattle.wal_check.proofs.Ends.{written_ends, not_written}
use Rattle.wal_check.proofs.look.is_written.Goals as goal

pub returns-in_default-clause-written : goal.returns-in_default-clause-written
returns-in_default-clause-written g c clean =
    let len : length c.read_at.new.buf ≡ 32 = search rules in
    let head : header (g.D.Disk.seen c.args.log.now) ≡ c.read_at.new.buf = held_is_part _ _ 0 32 (c.in_ok-read_at.ensures.read clean (omega arith)) len in
    (λ f. absurd (false≢true f), λ w. absurd (not_written _ _ head c.in_default.ensures w))

pub ends_sound-requires-clause-shape : goal.ends_sound-requires-clause-shape
ends_sound-requires-clause-shape g c clean =
    let len : length c.read_at.new.buf ≡ 32 = search rules in
    let head : header (g.D.Disk.seen c.args.log.now) ≡ c.read_at.new.buf = held_is_part _ _ 0 32 (c.in_ok-read_at.ensures.read clean (omega arith)) len in
    rw c.read_at.ensures.seen (record { len = c.requires.len (c.read_at.ensures.clean clean); head = sym head })

pub returns-clause-written : goal.returns-clause-written
returns-clause-written g c clean =
    let before = c.ends_sound.ensures.same.clean clean in
    let len : length c.read_at.new.buf ≡ 32 = search rules in
    let head : header (g.D.Disk.seen c.args.log.now) ≡ c.read_at.new.buf = held_is_part _ _ 0 32 (c.in_ok-read_at.ensures.read before (omega arith)) len in
    written_ends _ _ _ _ head c.in-Some.ensures.0 c.in-Some.ensures.1 c.in-Some.ensures.2 (rw c.read_at.ensures.seen at (c.in_ok-ends.ensures.ends clean))
