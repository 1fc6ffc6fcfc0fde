-- What is proved of definitions alone.
-- Source: profile.
use Rattle.std.specs.Prelude.{◌≡◌, List, [], Option}
use Rattle.units.specs.Words.{Moment}
use Rattle.shelves.specs.Words.{BookText}
use Rattle.shelves.specs.Shelves.{Shelf, IsShelf}
use Rattle.ledger.specs.Lists.{EachIn}
use Rattle.reserving.specs.declared.session.Session.{Session}
use Rattle.reserving.specs.declared.session.SessionGroup.{SessionGroup}
use Rattle.reserving.specs.Rows.{AreApart}
use Rattle.keepers.specs.declared.loaded.Change.{Change}
use Rattle.keepers.specs.Tables.{no_tables}
use Rattle.keepers.specs.Change.{IsSwept, changed}
use Rattle.keepers.specs.Keyed.{same_session}
use Rattle.keepers.specs.Naming.{IsNamed}
use Rattle.sql_rows.specs.Values.{Meta, Kept}
use Rattle.sql_rows.specs.Content.{TableRows, TablesContent, tables_content}
use Rattle.sql_keeper.specs.Content.{tables_of, Names}
use Rattle.sql_keeper.specs.Sweeps.{AreAllSwept, with_sweep}
use Rattle.sql_keeper.specs.Writes.{AreTexts, with_change}
use Rattle.sql_keeper.specs.Tests.{AreSettled, IsSettled, MayBeMade}
use Rattle.sql_keeper.specs.declared.swept_rows.SweptAccount.{SweptAccount}

-- the rows that a change writes, put one after another, read as the change over the tables that
-- were there
-- rule: database-writes.tables-of
abbrev pub AreChangesRead : Type 0
AreChangesRead =
    (names : Names) (m : Meta) (change : Change) (texts : Option Kept) (c : TablesContent)
    → IsNamed change.rows → MayBeMade names change (c.rows change.number)
    → AreTexts change.number change.kept texts → m.last ≡ change.moment
    → tables_of names (with_change names m change texts c) ≡ changed change (tables_of names c)

-- sessions are settled where each of them is by itself; and only there, if each comes once
-- rule: database-writes.writable
abbrev pub AreEachSettled : Type 0
AreEachSettled =
    (sessions : List Session) (groups : List SessionGroup) (r : TableRows)
    → (EachIn (IsSettled groups r) sessions → AreSettled sessions groups r)
    × (AreApart same_session sessions → AreSettled sessions groups r
    → EachIn (IsSettled groups r) sessions)

-- the rows that a sweep writes, one account after another, read as a sweep of the tables that were
-- there
abbrev pub AreSweepsRead : Type 0
AreSweepsRead =
    (names : Names) (text : BookText) (shelf : Shelf) (t : Moment) (c : TablesContent)
    (xs : List SweptAccount)
    → IsShelf shelf → AreAllSwept names shelf t c xs
    → IsSwept shelf t (tables_of names c) (tables_of names (with_sweep names text t xs c))

-- tables without rows hold nothing
-- rule: database-made.new-tables-empty: tables without rows hold nothing
abbrev pub AreNewTablesEmpty : Type 0
AreNewTablesEmpty = (names : Names) → tables_of names (tables_content (λ t. [])) ≡ no_tables
