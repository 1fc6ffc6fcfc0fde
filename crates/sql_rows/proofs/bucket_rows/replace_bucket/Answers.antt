use Rattle.std.proofs.Common.{refl}
use Rattle.sql_rows.specs.Values.{plain_bucket}
use Rattle.sql_rows.proofs.puts.ReplaceBucket.{replaces_bucket}
use Rattle.sql_rows.proofs.bucket_rows.replace_bucket.Goals as goal

pub returns-clause-replaces : goal.returns-clause-replaces
returns-clause-replaces g c =
    replaces_bucket c.args.account.now (plain_bucket c.args.bucket.now) refl _ _
    c.in_ok-count.count c.requires.tables c.in_ok-count.ensures.makes
