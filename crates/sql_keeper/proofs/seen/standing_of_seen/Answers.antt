use Rattle.std.proofs.Common.{subst, sym}
use Rattle.std.specs.Prelude.{IfSome}
use Rattle.sql_rows.specs.Content.{rows_in}
use Rattle.sql_keeper.specs.Seen.{IsStanding}
use Rattle.sql_keeper.proofs.kept.SeenRows.{of_account, standing_told}
use Rattle.sql_keeper.proofs.seen.standing_of_seen.Goals as goal

pub returns : goal.returns
returns c = λ trees seen.
    of_account c.args.seen.now.account c.args.account.now c.if-not-is_same_account.ensures
    (λ a. IfSome c.standing_in.result (IsStanding (rows_in trees a) c.args.session.now))
    (subst (λ o. IfSome o
    (IsStanding (rows_in trees c.args.seen.now.account) c.args.session.now))
    (sym c.standing_in.ensures)
    (standing_told (rows_in trees c.args.seen.now.account) c.args.seen.now c.args.session.now
    seen))
