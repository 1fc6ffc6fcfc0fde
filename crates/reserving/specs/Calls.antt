-- What each call on an account says: by its rows, whatever they are, of each ledger whose rows they
-- are, and of each ledger whose rows they are together with those that were left. Settlements,
-- debits and reservations say it by the rows alone; what they are of a ledger follows (`ByLedger`).
-- Source: RFC 8506 sections 5.2 to 5.4 and 6.3; TS 32.296, account balance management function; TS
-- 32.299, session charging with unit reservation and immediate event charging.
use Rattle.std.specs.Prelude.{◌≡◌, ◌≤◌, ◌<◌, ◌↔◌, Bool, true, false, nat_lt}
use Rattle.std.specs.Prelude.{List, [], Option, Result, Err, OnOk, OnErr, IsOk, IfOk}
use Rattle.std.specs.Prelude.{IfSome, IfNone, IsErrOf}
use Rattle.units.specs.Words.{Moment, BlockCount, UnitCount, GroupId, greatest_number}
use Rattle.identifiers.specs.Words.{SessionName}
use Rattle.units.specs.declared.blocks.UsedPart.{UsedPart}
use Rattle.buckets.specs.Words.{BucketNumber, BucketAmount}
use Rattle.buckets.specs.Kinds.{most_blocks_in_all}
use Rattle.buckets.specs.declared.kind.BucketKind.{BucketKind}
use Rattle.buckets.specs.Spend.{funds, allowance}
use Rattle.shelves.specs.Shelves.{Shelf}
use Rattle.reserving.specs.declared.fault.AccountFault.{AccountFault}
use Rattle.reserving.specs.declared.fault.AccountFault.TheVariants.{Limit, Memory}
use Rattle.reserving.specs.declared.fault.LoadFault.{LoadFault}
use Rattle.reserving.specs.declared.fault.LoadFault.TheVariants.{OtherBook}
use Rattle.reserving.specs.declared.reserve.Granted.{Granted}
use Rattle.reserving.specs.declared.session.Counter.{Counter}
use Rattle.reserving.specs.declared.settle.Settled.{Settled}
use Rattle.ledger.specs.Ledger.{Ledger, is_barred, is_live}
use Rattle.ledger.specs.Pricing.{tariff_at, cycle_at, periods_at, grant_with, validity_of}
use Rattle.ledger.specs.Balance.{buckets_at}
use Rattle.reserving.specs.Sessions.{is_live_in}
use Rattle.ledger.specs.Reservation.{grant_for}
use Rattle.ledger.specs.Requests.{credited}
use Rattle.reserving.specs.Rows.{AccountRows, IsRowsOf}
use Rattle.reserving.specs.Placed.{ArePlaced}
use Rattle.reserving.specs.Stored.{StoredRows, IsStored, priced}
use Rattle.reserving.specs.Restored.{in_key_order, FindsSame, AreReordered}
use Rattle.reserving.specs.Changes.{advanced, count_in, price_in, missing_in, passes_in}
use Rattle.reserving.specs.Changes.{settled_by_rows, is_covered_in, debit_passes_in}
use Rattle.reserving.specs.Changes.{credited_account}
use Rattle.reserving.specs.Left.{LeftRows, NotLeft, left_of, IsWith}
use Rattle.reserving.specs.Live.{live_part, with_counters}
use Rattle.reserving.specs.Results.{IsAnswered, GivesGrantIn, GivesDebitIn}

-- ---- what is read of an account

-- a value: by its rows, and of a ledger
pub record Tells {T : Type 0} (t : Moment) (a : AccountRows) (given by_rows : T)
    (by_ledger : Ledger → T) : Type 0 where
  pub rows : given ≡ by_rows
  pub ledger : (ledger : Ledger) → IsRowsOf ledger a → given ≡ by_ledger ledger
  -- rule: database-loads, database-loads.with
  pub left : (ledger : Ledger) (left : LeftRows) → IsWith ledger left t a →
      given ≡ by_ledger ledger

-- the blocks of an allowance
pub record TellsAllowance (group : GroupId) (t : Moment) (a : AccountRows) (given : BlockCount)
    : Type 0 where
  pub rows : given ≡ allowance group t (advanced t a).buckets
  pub ledger : (ledger : Ledger) → IsRowsOf ledger a →
      given ≡ allowance group t (buckets_at (validity_of a.shelf) t ledger)
  pub left : (ledger : Ledger) (left : LeftRows) → IsWith ledger left t a →
      given ≡ allowance group t (buckets_at (validity_of a.shelf) t ledger)
  pub most : given ≤ most_blocks_in_all

-- whether a session is live
pub record TellsLive (session : SessionName) (t : Moment) (a : AccountRows) (live : Bool)
    : Type 0 where
  pub rows : live ≡ is_live_in (validity_of a.shelf) t a.sessions session
  pub ledger : (ledger : Ledger) → IsRowsOf ledger a → a.as_of ≤ t →
      live ≡ is_live (validity_of a.shelf) t ledger session
  pub left : (ledger : Ledger) (left : LeftRows) → IsWith ledger left t a → a.as_of ≤ t →
      live ≡ is_live (validity_of a.shelf) t ledger session

-- whether it is barred
pub record TellsBar (a : AccountRows) (barred : Bool) : Type 0 where
  pub value : barred ≡ a.barred
  pub ledger : (ledger : Ledger) → IsRowsOf ledger a → barred ≡ is_barred ledger
  pub left : (ledger : Ledger) (left : LeftRows) (t : Moment) → IsWith ledger left t a →
      barred ≡ is_barred ledger

-- whether a session that used nothing of a group yet would be granted units
pub record TellsGrant (group : GroupId) (requested : Option UnitCount) (t : Moment)
    (a : AccountRows) (some : Bool) : Type 0 where
  pub rows : some
      ≡ nat_lt 0
      (grant_with (tariff_at a.shelf t group) (periods_at a.shelf t) 0
      (count_in group (cycle_at a.shelf group t) a.counters) requested
      (funds group t (advanced t a).buckets) (allowance group t (advanced t a).buckets)).units.0
  pub ledger : (ledger : Ledger) → IsRowsOf ledger a →
      some ≡ nat_lt 0 (grant_for a.shelf t group 0 requested ledger).units.0
  pub left : (ledger : Ledger) (left : LeftRows) → IsWith ledger left t a →
      some ≡ nat_lt 0 (grant_for a.shelf t group 0 requested ledger).units.0

-- ---- calls that can't fail

-- what becomes of an account: by its rows, and of its ledger
pub record Becomes (t : Moment) (before after by_rows : AccountRows) (by_ledger : Ledger → Ledger)
    : Type 0 where
  pub rows : after ≡ by_rows
  pub ledger : (ledger : Ledger) → IsRowsOf ledger before → IsRowsOf (by_ledger ledger) after
  pub left : (ledger : Ledger) (left : LeftRows) → IsWith ledger left t before →
      IsWith (by_ledger ledger) left t after

-- ---- sessions

-- a session that has no row yet gets one; at an error nothing has changed
pub record Records {T E : Type 0} (session : SessionName) (t : Moment)
    (before after by_rows : AccountRows) (by_ledger : Ledger → Ledger) (result : Result T E)
    : Type 0 where
  pub rows : OnOk result (after ≡ by_rows)
  pub ledger : OnOk result ((ledger : Ledger) → IsRowsOf ledger before →
      IsRowsOf (by_ledger ledger) after)
  pub left : OnOk result ((ledger : Ledger) (left : LeftRows) → NotLeft session left →
      IsWith ledger left t before → IsWith (by_ledger ledger) left t after)
  pub err : OnErr result (after ≡ before)

-- ---- credits

-- a bucket is added, where its number has 32 bits; at an error nothing has changed
pub record Credits (kind : BucketKind) (from until : Moment) (scope : Option GroupId)
    (amount : BucketAmount) (t : Moment) (before after : AccountRows)
    (result : Result BucketNumber AccountFault) : Type 0 where
  pub rows : OnOk result (after ≡ advanced t (credited_account kind from until scope amount before))
  pub number : IfOk result (λ n. n ≡ before.next_bucket)
  pub ledger : OnOk result ((ledger : Ledger) → IsRowsOf ledger before →
      IsRowsOf (credited t kind from until scope amount ledger) after)
  pub left : OnOk result ((ledger : Ledger) (left : LeftRows) → IsWith ledger left t before →
      IsWith (credited t kind from until scope amount ledger) left t after)
  pub limit : IsErrOf result Limit ↔ (greatest_number < before.next_bucket)
  pub err : OnErr result (after ≡ before)

-- ---- settlements

-- a report is settled by the account's rows, whatever they are, within the limits, and its
-- reservation ends; at an error nothing has changed
-- rule: grant-units.passes-in
pub record Settles (session : SessionName) (group : GroupId) (used_parts : List UsedPart)
    (t : Moment) (before after : AccountRows) (result : Result Settled AccountFault) : Type 0 where
  pub rows : OnOk result (after ≡ settled_by_rows session group used_parts (advanced t before))
  pub settled : IfOk result (IsAnswered (price_in session group t used_parts before)
      (missing_in session group t used_parts before))
  pub within : OnOk result (passes_in session group t used_parts before ≡ false)
  pub limit : result ≡ Err Limit → passes_in session group t used_parts before ≡ true
  pub ended : used_parts ≡ [] → IsOk result
  pub err : OnErr result (after ≡ before)

-- ---- debits

-- an event's units are charged, where they are covered and stay within the limits; else nothing has
-- changed
-- rule: grant-units.passes-in
pub record Debits (session : SessionName) (group : GroupId) (units : UnitCount) (t : Moment)
    (before after : AccountRows) (result : Result (Option Settled) AccountFault) : Type 0 where
  pub debit : IfOk result (GivesDebitIn session group units t before after)
  pub limit : result ≡ Err Limit →
      (is_covered_in group units t before ≡ true) ×
      (debit_passes_in session group units t before ≡ true)
  pub err : OnErr result (after ≡ before)

-- ---- reservations

-- as much is reserved as the funds cover; at an error, which is lack of memory, nothing has changed
pub record Reserves (session : SessionName) (group : GroupId) (requested : Option UnitCount)
    (t : Moment) (before after : AccountRows) (result : Result Granted AccountFault) : Type 0 where
  pub granted : IfOk result (GivesGrantIn session group t requested before after)
  pub memory : OnErr result (result ≡ Err Memory)
  pub err : OnErr result (after ≡ before)

-- ---- rows that are loaded

-- the rows that may still change at a moment are loaded, on the shelf that placed their
-- reservations
-- rule: database-loads
pub record Loads (shelf : Shelf) (t : Moment) (others : List Counter) (w : StoredRows)
    (result : Result AccountRows LoadFault) : Type 0 where
  pub rows : IfOk result (λ account. account ≡ live_part shelf t others w)
  pub left : IfOk result (λ account. (ledger : Ledger) →
      IsRowsOf ledger (with_counters shelf others w) →
      IsWith ledger (left_of t (with_counters shelf others w)) t account)
  pub placed : IfOk result (λ account. ArePlaced shelf w.groups)
  pub other : result ≡ Err OtherBook → ArePlaced shelf w.groups → ⊥
  pub told : (ArePlaced shelf w.groups → ⊥) → result ≡ Err OtherBook

-- all rows are loaded, on the shelf that placed their reservations
pub record LoadsAll (shelf : Shelf) (w : StoredRows) (result : Result AccountRows LoadFault)
    : Type 0 where
  pub rows : IfOk result (λ account. account ≡ priced shelf w)
  pub placed : IfOk result (λ account. ArePlaced shelf w.groups)
  pub other : result ≡ Err OtherBook → ArePlaced shelf w.groups → ⊥
  pub told : (ArePlaced shelf w.groups → ⊥) → result ≡ Err OtherBook

-- rows that are given are an account's, in the order of their keys, or they are none's
pub record Restores (w : StoredRows) (result : Option StoredRows) : Type 0 where
  pub rows : IfSome result (λ account. account ≡ in_key_order w)
  pub found : IfSome result (FindsSame w)
  pub reordered : IfSome result
      (λ account. (other : StoredRows) → AreReordered other w → FindsSame other account)
  pub refused : IfNone result (IsStored w → ⊥)

-- ---- what a call asks for

-- the account's session is live at a moment
abbrev pub IsLive : AccountRows → Moment → SessionName → Type 0
IsLive a t session = is_live_in (validity_of a.shelf) t a.sessions session ≡ true
