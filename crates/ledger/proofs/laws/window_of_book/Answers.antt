use Rattle.std.proofs.Common.{◌≡◌, ◌≤◌, ap, arith}
use Rattle.calendar.specs.Timetable.{switch_within, validity_from}
use Rattle.ledger.specs.Pricing.{reach}
use Rattle.ledger.proofs.laws.window_of_book.Goals as goal

pub returns : goal.returns
returns c = λ b t book early.
    let short : b.validity ≤ 43_200 = book.validity in
    let whole : reach b t ≡ b.validity = omega (arith, short, early) in
    record {
      switch = ap (switch_within b.calendar t) whole;
      validity = ap (validity_from b.calendar t) whole;
    }
