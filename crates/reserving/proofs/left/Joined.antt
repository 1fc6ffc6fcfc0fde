-- Rows and those left, at no moment: the counters that were left are taken as the account's own,
-- and then none is left of any cycle.
use Rattle.std.proofs.Common.{◌≡◌, ℕ, ◌≤◌, ◌<◌, ◌++◌, true, List, [], refl, arith}
use Rattle.shelves.proofs.Begun.{validity_some}
use Rattle.reserving.specs.declared.session.SessionState.TheVariants.{Open, NeverOpened}
use Rattle.ledger.specs.Ledger.{Ledger}
use Rattle.ledger.specs.Pricing.{validity_of}
use Rattle.ledger.specs.Requests.{recorded, touched, closed, with_bar, credited}
use Rattle.reserving.specs.Changes.{advanced, with_session, touched_account, closed_account}
use Rattle.reserving.specs.Changes.{credited_account}
use Rattle.reserving.specs.Rows.{AccountRows}
use Rattle.reserving.specs.Left.{LeftRows, IsWith, IsJoined}
use Rattle.reserving.specs.Joined.{StaysAdvanced, StaysOpened, StaysDenied, StaysTouched}
use Rattle.reserving.specs.Joined.{StaysClosed, StaysBarred, StaysCredited, IsRead}
use Rattle.reserving.proofs.LeftMore.{with_advanced}
use Rattle.reserving.proofs.LeftReadings.{funds_told, allowance_told, live_told}
use Rattle.reserving.proofs.left.Credited.{with_credited}
use Rattle.reserving.proofs.left.Sessions.{with_opened, with_denied, with_touched, with_closed}
use Rattle.reserving.proofs.left.Sessions.{with_barred}
use Rattle.reserving.proofs.left.Settled.{IsLiveBeside, live_beside}

abbrev bare : LeftRows → LeftRows
bare left = record left { counters = [] }

abbrev counted : LeftRows → AccountRows → AccountRows
counted left a = record a { counters = left.counters ++ a.counters }

-- rule: database-loads.joined
with_of : (ledger : Ledger) (left : LeftRows) (t : ℕ) (a : AccountRows) → IsJoined ledger left a →
    IsWith ledger (bare left) t (counted left a)
with_of ledger left t a h = record {
  apart = record {
    dead = h.apart.dead;
    over = h.apart.over;
    apart = h.apart.apart;
    free = h.apart.free;
    others = h.apart.others;
    whole = h.apart.whole;
  };
  cycles = tt;
  rows = h.rows;
}

-- rule: database-loads.joined
joined_of : (ledger : Ledger) (left : LeftRows) (t : ℕ) (a : AccountRows) →
    IsWith ledger (bare left) t (counted left a) → IsJoined ledger left a
joined_of ledger left t a h = record {
  apart = record {
    dead = h.apart.dead;
    over = h.apart.over;
    apart = h.apart.apart;
    free = h.apart.free;
    others = h.apart.others;
    whole = h.apart.whole;
  };
  rows = h.rows;
}

positive : (ledger : Ledger) (left : LeftRows) (t : ℕ) (a : AccountRows) → IsJoined ledger left a →
    0 < validity_of a.shelf t
positive ledger left t a h = omega (arith, validity_some a.shelf t h.apart.whole.shelf)

pub stays_advanced : StaysAdvanced
stays_advanced ledger left t a le h =
    joined_of ledger left t (advanced t a)
    (with_advanced ledger (bare left) t (counted left a) le (with_of ledger left t a h))

pub stays_opened : StaysOpened
stays_opened ledger left t a s n le new gone h =
    let opened : IsWith (touched t s n ledger) (bare left) t
    (with_session s n t Open (counted left a)) =
    with_opened ledger (bare left) t (counted left a) s n new le (positive ledger left t a h)
    (record { session = gone.session; groups = gone.groups }) (with_of ledger left t a h) in
    joined_of (touched t s n ledger) left t (advanced t (with_session s n t Open a))
    (with_advanced (touched t s n ledger) (bare left) t (with_session s n t Open (counted left a))
    le opened)

pub stays_denied : StaysDenied
stays_denied ledger left t a s n le new gone h =
    let denied : IsWith (recorded t s n ledger) (bare left) t
    (with_session s n t NeverOpened (counted left a)) =
    with_denied ledger (bare left) t (counted left a) s n new
    (record { session = gone.session; groups = gone.groups }) (with_of ledger left t a h) in
    joined_of (recorded t s n ledger) left t (advanced t (with_session s n t NeverOpened a))
    (with_advanced (recorded t s n ledger) (bare left) t
    (with_session s n t NeverOpened (counted left a)) le denied)

later : (ledger : Ledger) (left : LeftRows) (t : ℕ) (a : AccountRows) (s : List ℕ) → a.as_of ≤ t →
    Rattle.reserving.specs.Sessions.is_live_in (validity_of a.shelf) t a.sessions s ≡ true →
    IsJoined ledger left a → IsLiveBeside ledger (bare left) (counted left a) s t
later ledger left t a s le alive h =
    live_beside ledger (bare left) (counted left a) (advanced t (counted left a)) s t refl
    (with_of ledger left t a h)
    (with_advanced ledger (bare left) t (counted left a) le (with_of ledger left t a h)) le alive

pub stays_touched : StaysTouched
stays_touched ledger left t a s n le alive h =
    let is : IsLiveBeside ledger (bare left) (counted left a) s t =
    later ledger left t a s le alive h in
    joined_of (touched t s n ledger) left t (touched_account s n (advanced t a))
    (with_touched ledger (bare left) (advanced t (counted left a)) s n
    (positive ledger left t a h) is.rows is.live)

pub stays_closed : StaysClosed
stays_closed ledger left t a s le alive h =
    let is : IsLiveBeside ledger (bare left) (counted left a) s t =
    later ledger left t a s le alive h in
    joined_of (closed t s ledger) left t (closed_account s (advanced t a))
    (with_closed ledger (bare left) (advanced t (counted left a)) s is.rows is.live)

pub stays_barred : StaysBarred
stays_barred ledger left t a barred le h =
    joined_of (with_bar t barred ledger) left t
    (let x : AccountRows = advanced t a in record x { barred = barred })
    (with_barred ledger (bare left) t (advanced t (counted left a)) barred
    (with_advanced ledger (bare left) t (counted left a) le (with_of ledger left t a h)))

pub stays_credited : StaysCredited
stays_credited ledger left t a kind from until scope amount few most scoped le h =
    joined_of (credited t kind from until scope amount ledger) left t
    (advanced t (credited_account kind from until scope amount a))
    (with_credited ledger (bare left) t (counted left a) kind from until scope amount few most
    scoped le (with_of ledger left t a h))

pub is_read : IsRead
is_read ledger left t a le h =
    let w : IsWith ledger (bare left) t (counted left a) = with_of ledger left t a h in
    record {
      funds_are = λ g. funds_told ledger (bare left) t (counted left a) g le w;
      allowances_are = λ g. allowance_told ledger (bare left) t (counted left a) g le w;
      live = λ s. live_told ledger (bare left) t t (counted left a) s le w;
      bar = h.rows.barred;
    }
