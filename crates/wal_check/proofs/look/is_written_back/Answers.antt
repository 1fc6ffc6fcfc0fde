use Rattle.std.proofs.Common.{rules, arith, ◌≡◌, ◌≤◌, length, refl, sym}
use Rattle.sqlite_wal.specs.Recovery.{header}
use Rattle.sqlite_wal.proofs.PartLemmas.{held_is_part}
use Rattle.sqlite_wal.proofs.CleanLemmas.{halves}
use Rattle.wal_check.proofs.Ends.{back_ends, nothing_back}
use Rattle.wal_check.proofs.look.is_written_back.Goals as goal

pub returns-in_default-clause-back : goal.returns-in_default-clause-back
returns-in_default-clause-back g c clean =
    let len : length c.read_at.new.buf ≡ 32 = search rules in
    let head : header (g.D.Disk.seen c.args.files.now.log) ≡ c.read_at.new.buf =
    held_is_part _ _ 0 32 (c.in_ok-read_at.ensures.read (halves g.D.Disk _ _ clean).0 (omega arith)) len in
    (λ _. nothing_back _ _ _ head c.in_default.ensures, λ _. refl)

pub have_pages-requires-clause-shape : goal.have_pages-requires-clause-shape
have_pages-requires-clause-shape g c clean =
    let len : length c.read_at.new.buf ≡ 32 = search rules in
    let head : header (g.D.Disk.seen c.args.files.now.log) ≡ c.read_at.new.buf = held_is_part _ _ 0 32 (c.in_ok-read_at.ensures.read clean (omega arith)) len in
    rw c.read_at.ensures.seen (record { len = c.requires.len (c.read_at.ensures.clean clean); head = sym head })

pub returns-clause-back : goal.returns-clause-back
returns-clause-back g c clean =
    let read = c.have_pages.ensures.log.clean (halves g.D.Disk _ _ clean).0 in
    let len : length c.read_at.new.buf ≡ 32 = search rules in
    let head : header (g.D.Disk.seen c.args.files.now.log) ≡ c.read_at.new.buf = held_is_part _ _ 0 32 (c.in_ok-read_at.ensures.read read (omega arith)) len in
    let long : 32 ≤ length (g.D.Disk.seen c.args.files.now.log) = omega (arith, c.requires.len (c.read_at.ensures.clean read), c.if-len-lt-HEADER_LEN.false) in
    back_ends _ _ _ _ _ head c.in-Some.ensures.0 c.in-Some.ensures.1 c.in-Some.ensures.2 long (rw c.read_at.ensures.seen at (c.in_ok-have.ensures.have clean))
