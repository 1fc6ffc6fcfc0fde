-- What a step concludes from what it loaded and what the call gave.
use Rattle.std.specs.Prelude.{◌≡◌, ◌++◌, None}
use Rattle.std.specs.Prelude.{false, is_some}
use Rattle.units.specs.Words.{Moment, GroupId}
use Rattle.identifiers.specs.Words.{SessionName}
use Rattle.buckets.specs.Words.{BucketNumber}
use Rattle.shelves.specs.Shelves.{Shelf, IsShelf}
use Rattle.ledger.specs.Ledger.{Ledger, has_group, last_recording}
use Rattle.reserving.specs.Sessions.{group_in}
use Rattle.reserving.specs.Rows.{AccountRows, IsAccount, IsRowsOf}
use Rattle.reserving.specs.Stored.{StoredRows, IsStored, stored, priced}
use Rattle.reserving.specs.Left.{IsWith, left_of, bucket_in}
use Rattle.keepers.specs.Tables.{Rows, AreListed}
use Rattle.ledger.specs.Balance.{buckets_at}
use Rattle.buckets.specs.Spend.{Each}
use Rattle.buckets.specs.Row.{IsBalanced}
use Rattle.ledger.specs.Pricing.{validity_of}
use Rattle.keepers.specs.Change.{IsLoadedFrom, AreRowsAt, over}
use Rattle.keepers.specs.Differing.{named_rows}

-- a ledger only grows
-- rule: ledger.extends: a ledger only grows
pub record Extends (old new : Ledger) : Type 0 where
  pub front : Ledger
  pub is : new ≡ front ++ old

-- what is loaded and what was left: the rows that a call gets
-- rule: database-loads.load-step: what is loaded and what was left are together the rows of the
--   ledger, before a commit and after it
abbrev pub IsLoadStep : Type 0
IsLoadStep =
    (shelf : Shelf) (ledger : Ledger) (u t : Moment) (r : Rows) (a : AccountRows)
    (h : AreRowsAt shelf ledger u r) → IsAccount a → IsLoadedFrom shelf t r a →
    IsWith ledger (left_of t (priced shelf h.listed)) t a

-- what a call left beside the same rows: the tables after the commit of the rows that differ
-- rule: database-loads.load-step
abbrev pub IsCommitStep : Type 0
IsCommitStep =
    (shelf : Shelf) (before after : Ledger) (u t : Moment) (r : Rows) (a x : AccountRows)
    (h : AreRowsAt shelf before u r) → IsAccount a → IsLoadedFrom shelf t r a → x.shelf ≡ shelf →
    Extends before after →
    IsWith after (left_of t (priced shelf h.listed)) t x →
    AreRowsAt shelf after x.as_of (over (named_rows (stored a) (stored x)) r)

-- ---- what a request asks of a session

abbrev pub HasNoGroups : SessionName → Ledger → Type 0
HasNoGroups s ledger = (g : GroupId) → has_group s g ledger ≡ false

-- rule: database-loads.load-step
abbrev pub IsKnownStep : Type 0
IsKnownStep = (shelf : Shelf) (ledger : Ledger) (u : Moment) (r : Rows) (s : SessionName) →
    AreRowsAt shelf ledger u r → is_some (r.sessions s) ≡ is_some (last_recording s ledger)

-- rule: database-loads.load-step
abbrev pub IsNewStep : Type 0
IsNewStep = (shelf : Shelf) (ledger : Ledger) (u t : Moment) (r : Rows) (s : SessionName)
    (g : GroupId)
    (h : AreRowsAt shelf ledger u r) → IsShelf shelf → HasNoGroups s ledger →
    group_in s g (left_of t (priced shelf h.listed)).groups ≡ None

-- ---- what a run promises of an account's rows

-- rule: database-loads.load-step
abbrev pub IsBucketsTold : Type 0
IsBucketsTold = (shelf : Shelf) (ledger : Ledger) (t : Moment) (r : Rows) →
    AreRowsAt shelf ledger t r →
    ((n : BucketNumber) → r.buckets n ≡ bucket_in n (buckets_at (validity_of shelf) t ledger))
    × Each IsBalanced (buckets_at (validity_of shelf) t ledger)

-- rule: database-loads.load-step
abbrev pub IsListTold : Type 0
IsListTold = (shelf : Shelf) (ledger : Ledger) (t : Moment) (r : Rows) (v : StoredRows) →
    AreRowsAt shelf ledger t r → AreListed v r → IsStored v → IsRowsOf ledger (priced shelf v)
    × (v.as_of ≡ t)
