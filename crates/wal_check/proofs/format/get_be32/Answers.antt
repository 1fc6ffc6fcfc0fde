use Rattle.std.proofs.Common.{refl}
use Rattle.sqlite_wal.specs.Format.{be32}
use Rattle.wal_check.proofs.format.get_be32.Goals as goal

pub returns : goal.returns
unfolding be32
returns c = refl
