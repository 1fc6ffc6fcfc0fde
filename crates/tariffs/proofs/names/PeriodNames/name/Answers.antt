use Rattle.std.proofs.Common.{◌≡◌, Some, None, IfSome, slice_get, sym}
use Rattle.std.specs.Option.{option_copied}
use Rattle.tariffs.specs.Names.{texts, period_named}
use Rattle.tariffs.proofs.names.PeriodNames.name.Goals as goal

pub returns-clause-back : goal.returns-clause-back
returns-clause-back c =
    let names = texts c.self.inside.names.items in
    let place = c.args.period.0 in
    rw (← c.self.view_is)
    ((elim c.name_among.result as (λ r. option_copied r ≡ slice_get names place →
    IfSome r (λ s. period_named names s.now ≡ Some c.args.period)) [
      | Some s ↦ λ found. c.self.invariant.distinct place s.now (sym found)
      | None ↦ λ found. tt
    ]) (rw c.deref.ensures.value at c.name_among.ensures))
