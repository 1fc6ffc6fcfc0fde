use Rattle.sql_keeper.proofs.kept.SeenFirst.{first_alone, first_beside}
use Rattle.sql_keeper.proofs.seen_first.first_noted.Goals as goal

pub returns-then-not-is_same_account : goal.returns-then-not-is_same_account
returns-then-not-is_same_account c = λ trees seen read.
    first_alone c.args.account.now c.args.first c.first_alone.result c.first_alone.ensures trees
    read

pub returns : goal.returns
returns c = λ trees seen read.
    first_beside c.args.seen c.with_first.result c.args.account.now c.args.first
    c.with_first.ensures c.if-not-is_same_account.ensures trees seen read
