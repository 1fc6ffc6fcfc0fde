-- Each reservation that accepted commands leave has its prices on the shelf by which they were
-- answered.
-- Source: profile.
use Rattle.std.specs.Prelude.{◌≡◌, true, List, Some, is_some}
use Rattle.units.specs.Words.{GroupId}
use Rattle.identifiers.specs.Words.{SessionName, AccountName}
use Rattle.shelves.specs.Shelves.{Shelf, IsShelf}
use Rattle.ledger.specs.declared.terms.Terms.{Terms}
use Rattle.reserving.specs.Placed.{prices_on, ArePlaced}
use Rattle.reserving.specs.Stored.{StoredRows, IsStored}
use Rattle.keepers.specs.Tables.{GroupRow, Tables, AreListed}
use Rattle.charging.specs.Accepted.{Accepted}
use Rattle.charging.specs.Served.{AreTables}

-- by the row of a session's group: its book is on the shelf, and has the group and both periods
-- rule: grant-terms.reservations-are-priced: each reservation has its prices on the shelf, so that
--   no account is refused for another book
abbrev pub ReservationsArePriced : Type 0
ReservationsArePriced =
    (shelf : Shelf) → IsShelf shelf → (list : List Accepted) (tables : Tables) →
    AreTables shelf list tables →
    (a : AccountName) (s : SessionName) (g : GroupId) (row : GroupRow) (x : Terms) →
    (tables.rows a).groups s g ≡ Some row → row.terms ≡ Some x →
    is_some (prices_on shelf g x) ≡ true

-- so no list of an account's rows is refused for another book
-- rule: grant-terms.reservations-are-priced
abbrev pub NoBookIsMissing : Type 0
NoBookIsMissing =
    (shelf : Shelf) → IsShelf shelf → (list : List Accepted) (tables : Tables) →
    AreTables shelf list tables → (a : AccountName) (w : StoredRows) → AreListed w (tables.rows a) →
    IsStored w → ArePlaced shelf w.groups
