use Rattle.std.proofs.Common.{subst}
use Rattle.std.specs.Prelude.{IfSome}
use Rattle.sql_keeper.specs.SeenFirst.{IsFirstRead}
use Rattle.sql_keeper.specs.declared.seen_first.SeenFirst.{SeenFirst}
use Rattle.sql_keeper.proofs.seen_first.first_among.Goals as goal

pub returns-in-Some : goal.returns-in-Some
returns-in-Some c = λ r read.
    c.copy_if_asked.ensures r
    (subst (λ o. IfSome o (λ (y : SeenFirst). IsFirstRead y.asked r y.read)) c.in-Some.is read)
