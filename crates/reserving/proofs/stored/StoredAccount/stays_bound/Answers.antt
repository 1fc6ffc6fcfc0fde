use Rattle.std.proofs.Common.{◌≡◌, true, sym, subst, ◌∙◌}
use Rattle.reserving.specs.Calm.{are_groups_quiet}
use Rattle.reserving.specs.Inside.{stored_of}
use Rattle.reserving.specs.Restored.{given}
use Rattle.reserving.specs.Stored.{StoredRows}
use Rattle.reserving.specs.Written.{sessions_written, groups_written}
use Rattle.reserving.proofs.Bound.{bound_written}
use Rattle.reserving.proofs.stored.StoredAccount.stays_bound.Goals as goal

pub fits-requires : goal.fits-requires
fits-requires c = c.self.invariant.rows.keys.by_name

pub returns-then-fits : goal.returns-then-fits
returns-then-fits c = λ e.
    subst (λ (w : StoredRows).
    are_groups_quiet (sessions_written (given c.args.rows.now).sessions w.sessions)
    (groups_written (given c.args.rows.now).groups w.groups) ≡ true) c.self.view_is
    (bound_written (given c.args.rows.now) (stored_of c.self.inside.rows)
    (sym c.are_keys_ascending.ensures ∙ c.if-are_keys_ascending.true)
    (sym c.fits.ensures ∙ c.if-fits.true) (c.self.invariant.bound c.if-bound.true))
