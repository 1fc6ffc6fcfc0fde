use Rattle.std.proofs.Common.{sym, ap, ◌∙◌, arith}
use Rattle.std.specs.Prelude.{unwrap_or, option_copied}
use Rattle.buckets.specs.Holding.{held_in}
use Rattle.reserving.specs.Sessions.{holds_in}
use Rattle.reserving.specs.Changes.{new_group}
use Rattle.reserving.proofs.kept.Settled.{held_in_le}
use Rattle.reserving.proofs.writing.held_under.Goals as goal

pub returns-in-Some-clause-value : goal.returns-in-Some-clause-value
returns-in-Some-clause-value c =
    c.held_of.ensures
    ∙ ap (λ o. held_in (holds_in (unwrap_or o
    (new_group c.args.group.now.session c.args.group.now.group)).reservation) c.args.bucket.now)
    (ap option_copied (sym c.in-Some.is) ∙ c.group_row.ensures)

pub returns-in-Some-clause-most : goal.returns-in-Some-clause-most
returns-in-Some-clause-most c = omega (
  arith,
  returns-in-Some-clause-value c,
  held_in_le c.args.group.now.session c.args.group.now.group c.args.rows.now c.args.bucket.now,
  c.requires.within,
)

pub returns-in-None-clause-value : goal.returns-in-None-clause-value
returns-in-None-clause-value c =
    ap (λ o. held_in (holds_in (unwrap_or o
    (new_group c.args.group.now.session c.args.group.now.group)).reservation) c.args.bucket.now)
    (ap option_copied (sym c.in-None.is) ∙ c.group_row.ensures)
