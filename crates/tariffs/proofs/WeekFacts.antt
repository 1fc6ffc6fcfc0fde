-- Periods of a week.
use Rattle.std.proofs.Common.{ℕ, ◌<◌, ◌≤◌, Bool, true, false, List, [], ◌∷◌, arith}
use Rattle.std.specs.Prelude.{All, if◌then◌else◌}
use Rattle.std.proofs.lemmas.List.Elements.{All-head, All-tail}
use Rattle.calendar.specs.declared.week.Entry.{Entry}
use Rattle.calendar.specs.declared.week.Period.{Period}
use Rattle.calendar.specs.Week.{covers, period_in}

choice_below : (test : Bool) (here rest : Period) (n : ℕ) → here.0 < n → rest.0 < n →
    (if test then here else rest).0 < n
choice_below true here rest n a b = a
choice_below false here rest n a b = b

-- the period of a minute is one of the entries', or the first one
pub period_below : (entries : List Entry) (weekday minute n : ℕ) → 1 ≤ n →
    All (λ e. e.period.0 < n) entries → (period_in entries weekday minute).0 < n
period_below [] weekday minute n some all = omega arith
period_below (e ∷ entries) weekday minute n some all =
    choice_below (covers weekday minute e) e.period (period_in entries weekday minute) n
    (All-head (λ e. e.period.0 < n) e entries all)
    (period_below entries weekday minute n some (All-tail (λ e. e.period.0 < n) e entries all))
