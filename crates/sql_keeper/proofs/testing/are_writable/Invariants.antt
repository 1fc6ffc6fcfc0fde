use Rattle.std.proofs.Common.{drop}
use Rattle.sql_keeper.specs.Content.{shelf_names}
use Rattle.sql_keeper.specs.Tests.{AreWritable}
use Rattle.sql_keeper.proofs.testing.are_writable.Given as goal

-- rule: database-writes.writable
abbrev pub invariant-groups : goal.invariant-groups
invariant-groups l =
    (AreWritable (shelf_names l.books) l.sessions (drop l.group-index l.groups) →
    AreWritable (shelf_names l.books) l.sessions l.groups)
    × (AreWritable (shelf_names l.books) l.sessions l.groups →
    AreWritable (shelf_names l.books) l.sessions (drop l.group-index l.groups))
