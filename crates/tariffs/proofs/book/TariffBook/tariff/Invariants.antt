use Rattle.std.proofs.Common.{◌≡◌, drop, ◌==◌}
use Rattle.std.specs.Prelude.{find}
use Rattle.tariffs.proofs.book.TariffBook.tariff.Given as goal

abbrev pub invariant-loop-tariff : goal.invariant-loop-tariff
invariant-loop-tariff l =
    find (λ t. t.group == l.group) (drop l.tariff-index l.self.tariffs)
    ≡ find (λ t. t.group == l.group) l.self.tariffs
