use Rattle.tariffs.specs.Names.{texts}
use Rattle.tariffs.proofs.NameFacts.{named_back}
use Rattle.tariffs.proofs.names.PeriodNames.named.Goals as goal

pub returns-clause-back : goal.returns-clause-back
returns-clause-back c =
    rw (← c.self.view_is)
    (named_back (texts c.self.inside.names.items) c.args.text.now c.period_among.result
    (rw c.deref.ensures.value at c.period_among.ensures.value))
