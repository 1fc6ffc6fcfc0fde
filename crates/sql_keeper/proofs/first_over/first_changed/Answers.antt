use Rattle.std.proofs.Common.{Option, subst}
use Rattle.std.specs.Prelude.{IfSome}
use Rattle.sql_rows.specs.Content.{rows_in}
use Rattle.sql_keeper.specs.SeenFirst.{IsFirstRead}
use Rattle.sql_keeper.specs.declared.seen_first.SeenFirst.{SeenFirst}
use Rattle.sql_keeper.proofs.kept.FirstOver.{seen_changed}
use Rattle.sql_keeper.proofs.reads.HandedOn.{value_taken}
use Rattle.sql_keeper.proofs.first_over.first_changed.Goals as goal

pub returns-in-Some : goal.returns-in-Some
returns-in-Some c = λ names text old new becomes read.
    value_taken (λ (o : Option SeenFirst). IfSome o (λ (y : SeenFirst).
    IsFirstRead y.asked (rows_in new c.args.change.now.number) y.read)) c.first_over.result
    c.ok.result c.ok.ensures.value c.first_over.ensures tt
    (λ y is. seen_changed names text c.args.change.now old new c.in-Some.first y becomes is
    (subst (λ o. IfSome o (λ (x : SeenFirst).
    IsFirstRead x.asked (rows_in old c.args.change.now.number) x.read)) c.in-Some.is read))
