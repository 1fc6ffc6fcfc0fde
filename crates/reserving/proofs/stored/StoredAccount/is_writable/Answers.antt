use Rattle.std.proofs.Common.{sym, ap, subst, ◌∙◌}
use Rattle.reserving.specs.Restored.{given}
use Rattle.reserving.specs.Stored.{IsStoredInOrder}
use Rattle.reserving.specs.Written.{is_writable}
use Rattle.reserving.proofs.WrittenOver.{writable_told}
use Rattle.reserving.proofs.stored.StoredAccount.is_writable.Goals as goal

pub returns-clause-value : goal.returns-clause-value
returns-clause-value c =
    c.admits.ensures ∙ ap (is_writable (given c.args.rows.now)) c.self.view_is

pub returns-clause-kept : goal.returns-clause-kept
returns-clause-kept c = λ e.
    writable_told (given c.args.rows.now) c.args.self.now c.buckets-sound.ensures.sound
    (subst IsStoredInOrder c.self.view_is c.self.invariant.rows)
    (sym (returns-clause-value c) ∙ e)
