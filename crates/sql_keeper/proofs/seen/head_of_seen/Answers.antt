use Rattle.sql_rows.specs.Content.{rows_in}
use Rattle.sql_keeper.proofs.kept.SeenRows.{head_told, of_account}
use Rattle.std.proofs.Common.{◌≡◌, Some}
use Rattle.std.specs.Prelude.{IfSome}
use Rattle.sql_rows.specs.declared.head.HeadColumns.{HeadColumns}
use Rattle.sql_keeper.proofs.seen.head_of_seen.Goals as goal

pub returns : goal.returns
returns c = λ trees seen.
    of_account c.args.seen.now.account c.args.account.now c.if-not-is_same_account.ensures
    (λ a. IfSome c.args.seen.now.head (λ (h : HeadColumns). (rows_in trees a).head ≡ Some h))
    (head_told (rows_in trees c.args.seen.now.account) c.args.seen.now seen)
