use Rattle.keepers.proofs.Taking.{taken}
use Rattle.keepers.proofs.Leaving.{left_behind}
use Rattle.keepers.proofs.Asked.{known_is, new_unleft}
use Rattle.keepers.proofs.Told.{buckets_told, rows_told}
use Rattle.keepers.proofs.laws.taken_and_left.Goals as goal

pub returns-clause-load : goal.returns-clause-load
returns-clause-load c = taken

pub returns-clause-commit : goal.returns-clause-commit
returns-clause-commit c = left_behind

pub returns-clause-known : goal.returns-clause-known
returns-clause-known c = known_is

pub returns-clause-new : goal.returns-clause-new
returns-clause-new c = new_unleft

pub returns-clause-buckets : goal.returns-clause-buckets
returns-clause-buckets c = buckets_told

pub returns-clause-lists : goal.returns-clause-lists
returns-clause-lists c = rows_told
