use Rattle.std.proofs.Common.{Option}
use Rattle.std.specs.Prelude.{IfSome}
use Rattle.sql_rows.specs.Content.{rows_in}
use Rattle.sql_keeper.specs.KeptRows.{AreOf}
use Rattle.sql_keeper.specs.declared.live_rows.LiveRows.{LiveRows}
use Rattle.sql_keeper.proofs.reads.HandedOn.{value_taken}
use Rattle.sql_keeper.proofs.kept.KeptRows.{copied}
use Rattle.sql_keeper.proofs.kept.SeenRows.{of_account}
use Rattle.sql_keeper.proofs.kept_rows.copy_if_of.Goals as goal

pub returns : goal.returns
returns c = λ names trees keeps.
    value_taken (λ (o : Option LiveRows). IfSome o (AreOf names (rows_in trees c.args.account.now)))
    c.copied.result c.ok.result c.ok.ensures.value c.copied.ensures tt
    (λ x is. of_account c.args.kept.now.account c.args.account.now c.if-not-is_of.ensures
    (λ a. AreOf names (rows_in trees a) x)
    (copied names (rows_in trees c.args.kept.now.account) c.args.kept.now.rows x is keeps))
