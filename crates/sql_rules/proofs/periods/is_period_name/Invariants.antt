use Rattle.std.proofs.Common.{◌≡◌, drop}
use Rattle.std.specs.List.{list_any}
use Rattle.shelves.specs.Shelves.{dated_books}
use Rattle.sql_rules.specs.Rules.{has_period}
use Rattle.sql_rules.proofs.periods.is_period_name.Given as goal

abbrev pub invariant-books : goal.invariant-books
invariant-books l = list_any (has_period l.name) (drop l.before (dated_books l.shelf))
    ≡ list_any (has_period l.name) (dated_books l.shelf)
