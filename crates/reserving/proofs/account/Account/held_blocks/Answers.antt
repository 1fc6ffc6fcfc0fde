use Rattle.std.proofs.Common.{sym, subst}
use Rattle.buckets.specs.Holding.{IsWithin}
use Rattle.reserving.specs.Changes.{reserved_in}
use Rattle.reserving.proofs.kept.Settled.{within_of}
use Rattle.reserving.proofs.account.Account.held_blocks.Goals as goal

pub held_blocks_of-requires-clause-within : goal.held_blocks_of-requires-clause-within
held_blocks_of-requires-clause-within c =
    subst (λ rows. IsWithin (reserved_in c.args.session.now c.args.group rows)
    c.self.inside.rows.purse) (sym c.deref.ensures.value)
    (within_of c.args.session.now c.args.group c.self.inside.rows.groups.items
    c.self.inside.rows.purse c.self.invariant.priced.account.held)
