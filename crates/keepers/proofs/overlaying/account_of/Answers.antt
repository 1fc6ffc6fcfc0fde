use Rattle.std.proofs.lemmas.List.Sorted.{IsPermutation-refl}
use Rattle.reserving.specs.Restored.{given}
use Rattle.keepers.proofs.Overlaid.{account_reordered}
use Rattle.keepers.proofs.overlaying.account_of.Goals as goal

pub returns-clause-account : goal.returns-clause-account
returns-clause-account c =
    account_reordered (given c.args.rows) c.in-Some.account c.args.rows.sessions.items
    c.args.rows.groups.items c.in-Some.ensures.rows c.in-Some.ensures.reordered
    (IsPermutation-refl c.args.rows.sessions.items) (IsPermutation-refl c.args.rows.groups.items)

pub returns-clause-reordered : goal.returns-clause-reordered
returns-clause-reordered c = λ sessions groups s g.
    account_reordered (given c.args.rows) c.in-Some.account sessions groups
    c.in-Some.ensures.rows c.in-Some.ensures.reordered s g
