use Rattle.std.proofs.Common.{rules, ◌≡◌, length}
use Rattle.std.proofs.lemmas.Result.{on_ok_weaker}
use Rattle.sqlite_wal.proofs.PartLemmas.{held_is_part}
use Rattle.wal_check.proofs.written_back.read_page.Goals as goal

pub returns-clause-read : goal.returns-clause-read
returns-clause-read g c =
    let len : length c.read_at.new.buf ≡ length c.args.page.now = search rules in
    on_ok_weaker c.read_at.result (λ holds clean. held_is_part _ _ _ _ (holds clean c.requires.some) len) c.read_at.ensures.read
