use Rattle.std.proofs.Common.{rules, of_calls}
use Rattle.std.specs.Prelude.{not}
use Rattle.std.proofs.lemmas.Fn.{always_returns_same}
use Rattle.reserving.specs.Others.{is_later}
use Rattle.reserving.proofs.OwnRows.{later_parted}
use Rattle.reserving.proofs.own_rows.count_unlater.Goals as goal

pub returns-clause-parted : goal.returns-clause-parted
returns-clause-parted c =
    c.partition_point.ensures.partitioned (λ r. not (is_later c.args.session.now r))
    (always_returns_same _ _ _ (λ a r f k. search (rules, of_calls)))
    (later_parted c.args.session.now c.args.groups.now c.requires)
