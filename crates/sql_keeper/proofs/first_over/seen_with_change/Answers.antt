use Rattle.std.specs.Prelude.{IfSome}
use Rattle.sql_rows.specs.Content.{rows_in}
use Rattle.sql_keeper.specs.SeenFirst.{IsFirstRead}
use Rattle.sql_keeper.specs.declared.seen_first.SeenFirst.{SeenFirst}
use Rattle.sql_keeper.proofs.kept.SeenRows.{of_account}
use Rattle.sql_keeper.proofs.first_over.seen_with_change.Goals as goal

pub returns : goal.returns
returns c = λ names text old new becomes seen.
    let change = c.args.change.now in
    c.seen_alone.ensures new
    (c.first_changed-first.ensures names text old new becomes
    (of_account c.args.seen.account change.number c.if-not-is_same_account.ensures
    (λ a. IfSome c.args.seen.first (λ (y : SeenFirst).
    IsFirstRead y.asked (rows_in old a) y.read)) seen.first))
