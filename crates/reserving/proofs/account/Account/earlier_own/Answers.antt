use Rattle.std.proofs.Common.{sym, subst}
use Rattle.reserving.specs.Earlier.{AreEarlier}
use Rattle.reserving.specs.Inside.{stored_of, rows_inside}
use Rattle.reserving.proofs.OwnEarlier.{own_earlier, account_earlier}
use Rattle.reserving.proofs.account.Account.earlier_own.Goals as goal

pub invariant_of-result : goal.invariant_of-result
invariant_of-result c =
    subst AreEarlier (sym c.in_ok-rows.ensures)
    (own_earlier c.args.session.now (stored_of c.self.inside.rows)
    (account_earlier (rows_inside c.self.inside) c.self.invariant.priced))
