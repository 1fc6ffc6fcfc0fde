use Rattle.std.proofs.Common.{subst}
use Rattle.reserving.specs.Stored.{StoredRows}
use Rattle.keepers.specs.Naming.{named_of}
use Rattle.keepers.specs.Overlaying.{IsAccountOf}
use Rattle.keepers.proofs.Overlaid.{account_given}
use Rattle.keepers.proofs.PartsKept.{if_ok}
use Rattle.keepers.proofs.overlaying.rows_alone.Goals as goal

pub returns : goal.returns
returns c = if_ok c.account_of.result c.account_of.ensures.account (λ v of.
    subst (λ (w : StoredRows). IsAccountOf w v) c.named.view_is
    (account_given (named_of c.named.inside) c.in_ok-purse_of.field-0 v c.in_ok-purse_of.ensures
    of))
