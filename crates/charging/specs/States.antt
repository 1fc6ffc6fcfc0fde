-- What of an account is found for its balance.
-- Source: profile.
use Rattle.std.specs.Prelude.{◌≡◌, ◌++◌, ◌≤◌, List, true, false, Option, Some, None, max}
use Rattle.units.specs.Words.{Moment}
use Rattle.identifiers.specs.Words.{AccountName}
use Rattle.buckets.specs.Row.{BucketRow}
use Rattle.shelves.specs.Shelves.{Shelf}
use Rattle.ledger.specs.Ledger.{Ledger, is_barred}
use Rattle.ledger.specs.Balance.{buckets_at}
use Rattle.reserving.specs.Rows.{AccountRows, IsAccount}
use Rattle.reserving.specs.Changes.{advanced}
use Rattle.ledger.specs.Pricing.{validity_of}
use Rattle.keepers.specs.Tables.{Tables}
use Rattle.charging.specs.Accepted.{Accepted, last_moment, IsInTime}
use Rattle.charging.specs.Balances.{by_number, AreByNumber}
use Rattle.charging.specs.Histories.{History}
use Rattle.charging.specs.Served.{AreTables, history, moment_of}
use Rattle.charging.specs.declared.balances.AccountState.{AccountState}

-- the buckets are the ledger's at the moment, by number
pub record IsStateAt (b : Shelf) (t : Moment) (ledger : Ledger) (s : AccountState) : Type 0 where
  pub moment : s.moment ≡ t
  pub barred : s.barred ≡ is_barred ledger
  pub buckets : s.buckets.items ≡ by_number (buckets_at (validity_of b) t ledger)

-- an account that was opened has a state
-- rule: balance
abbrev pub IsState : Shelf → Moment → History → Option AccountState → Type 0
IsState b t h None = h.opened ≡ false
IsState b t h (Some s) = (h.opened ≡ true) × IsStateAt b t h.ledger s

-- so at a moment that isn't before that of the last accepted command, for every list of accepted
-- commands whose tables a keeper holds
abbrev pub TellsStateAt : Shelf → AccountName → Moment → Tables → Option AccountState → Type 0
TellsStateAt b a t tables found = (list : List Accepted) → IsInTime list →
    AreTables b list tables → last_moment list ≤ t → IsState b t (history b a list) found

-- and at the moment of a command
-- rule: balance
abbrev pub TellsState : Shelf → AccountName → Moment → Tables → Option AccountState → Type 0
TellsState b a t tables found = (list : List Accepted) → IsInTime list →
    AreTables b list tables → IsState b (moment_of list t) (history b a list) found

-- ---- of the rows

-- what was loaded, brought to the later of the moment and its own, with the dead buckets
pub record IsStateOf (t : Moment) (a : AccountRows) (dead : List BucketRow) (s : AccountState)
    : Type 0 where
  pub account : IsAccount a
  pub moment : s.moment ≡ max t a.as_of
  pub barred : s.barred ≡ a.barred
  pub buckets : AreByNumber ((advanced (max t a.as_of) a).buckets ++ dead) s.buckets.items
