-- The calls that use no counter leave an account's rows and those that were left together, whatever
-- the cycles of the counters among them.
-- Source: profile.
use Rattle.std.specs.Prelude.{◌≡◌, ◌≤◌, Bool, true, Option, None}
use Rattle.units.specs.Words.{Moment, GroupId, CcRequestNumber, greatest_number}
use Rattle.identifiers.specs.Words.{SessionName}
use Rattle.buckets.specs.Words.{BucketAmount}
use Rattle.buckets.specs.declared.kind.BucketKind.{BucketKind}
use Rattle.buckets.specs.Kinds.{most_of, IsScopeOf}
use Rattle.buckets.specs.Spend.{funds, allowance}
use Rattle.reserving.specs.declared.session.SessionState.TheVariants.{Open, NeverOpened}
use Rattle.ledger.specs.Ledger.{Ledger, is_live, is_barred}
use Rattle.ledger.specs.Pricing.{validity_of}
use Rattle.ledger.specs.Balance.{buckets_at}
use Rattle.reserving.specs.Sessions.{session_in, is_live_in}
use Rattle.ledger.specs.Requests.{recorded, touched, closed, with_bar, credited}
use Rattle.reserving.specs.Changes.{advanced, with_session, touched_account, closed_account}
use Rattle.reserving.specs.Changes.{credited_account}
use Rattle.reserving.specs.Rows.{AccountRows}
use Rattle.reserving.specs.Left.{LeftRows, NotLeft, IsJoined}

-- `advance`
-- rule: database-loads.joined
abbrev pub StaysAdvanced : Type 0
StaysAdvanced = (ledger : Ledger) (left : LeftRows) (t : Moment) (a : AccountRows) → a.as_of ≤ t →
    IsJoined ledger left a → IsJoined ledger left (advanced t a)

-- `open`
abbrev pub StaysOpened : Type 0
StaysOpened = (ledger : Ledger) (left : LeftRows) (t : Moment) (a : AccountRows) (s : SessionName)
    (n : CcRequestNumber) →
    a.as_of ≤ t → session_in s a.sessions ≡ None → NotLeft s left → IsJoined ledger left a →
    IsJoined (touched t s n ledger) left (advanced t (with_session s n t Open a))

-- `deny`
abbrev pub StaysDenied : Type 0
StaysDenied = (ledger : Ledger) (left : LeftRows) (t : Moment) (a : AccountRows) (s : SessionName)
    (n : CcRequestNumber) →
    a.as_of ≤ t → session_in s a.sessions ≡ None → NotLeft s left → IsJoined ledger left a →
    IsJoined (recorded t s n ledger) left (advanced t (with_session s n t NeverOpened a))

-- `touch`
abbrev pub StaysTouched : Type 0
StaysTouched = (ledger : Ledger) (left : LeftRows) (t : Moment) (a : AccountRows) (s : SessionName)
    (n : CcRequestNumber) →
    a.as_of ≤ t → is_live_in (validity_of a.shelf) t a.sessions s ≡ true →
    IsJoined ledger left a →
    IsJoined (touched t s n ledger) left (touched_account s n (advanced t a))

-- `close`
abbrev pub StaysClosed : Type 0
StaysClosed = (ledger : Ledger) (left : LeftRows) (t : Moment) (a : AccountRows) (s : SessionName) →
    a.as_of ≤ t → is_live_in (validity_of a.shelf) t a.sessions s ≡ true →
    IsJoined ledger left a → IsJoined (closed t s ledger) left (closed_account s (advanced t a))

-- `set_barred`
abbrev pub StaysBarred : Type 0
StaysBarred = (ledger : Ledger) (left : LeftRows) (t : Moment) (a : AccountRows) (barred : Bool) →
    a.as_of ≤ t → IsJoined ledger left a →
    IsJoined (with_bar t barred ledger) left
    (let x : AccountRows = advanced t a in record x { barred = barred })

-- `credit` and `allow`
abbrev pub StaysCredited : Type 0
StaysCredited = (ledger : Ledger) (left : LeftRows) (t : Moment) (a : AccountRows)
    (kind : BucketKind)
    (from until : Moment) (scope : Option GroupId) (amount : BucketAmount) →
    a.next_bucket ≤ greatest_number →
    amount ≤ most_of kind → IsScopeOf kind scope → a.as_of ≤ t → IsJoined ledger left a →
    IsJoined (credited t kind from until scope amount ledger) left
    (advanced t (credited_account kind from until scope amount a))

-- `funds` and `allowance`
-- rule: database-loads.joined
pub record IsReadJoined (ledger : Ledger) (left : LeftRows) (t : Moment) (a : AccountRows)
    : Type 0 where
  pub funds_are : (g : GroupId) →
      funds g t (advanced t a).buckets ≡ funds g t (buckets_at (validity_of a.shelf) t ledger)
  pub allowances_are : (g : GroupId) →
      allowance g t (advanced t a).buckets
      ≡ allowance g t (buckets_at (validity_of a.shelf) t ledger)
  -- `is_live`
  pub live : (s : SessionName) →
      is_live_in (validity_of a.shelf) t a.sessions s ≡ is_live (validity_of a.shelf) t ledger s
  -- `is_barred`
  pub bar : a.barred ≡ is_barred ledger

abbrev pub IsRead : Type 0
IsRead = (ledger : Ledger) (left : LeftRows) (t : Moment) (a : AccountRows) → a.as_of ≤ t →
    IsJoined ledger left a → IsReadJoined ledger left t a

-- all calls
pub record StaysJoined : Type 0 where
  pub advanced : StaysAdvanced
  pub opened : StaysOpened
  pub denied : StaysDenied
  pub touched : StaysTouched
  pub closed : StaysClosed
  pub barred : StaysBarred
  pub credited : StaysCredited
