use Rattle.std.proofs.Common.{◌≡◌, drop}
use Rattle.std.specs.List.{list_any}
use Rattle.tariffs.specs.Names.{same_text}
use Rattle.sql_rules.proofs.periods.is_named.Given as goal

abbrev pub invariant-periods : goal.invariant-periods
invariant-periods l = list_any (λ n. same_text n l.name) (drop l.at l.book.periods)
    ≡ list_any (λ n. same_text n l.name) l.book.periods
