-- A ledger's rows at a moment, within their rules: each step of a ledger that opens no bucket with
-- more than its kind's most leaves such rows.
use Rattle.std.proofs.Common.{◌≡◌, ℕ, ◌+◌, ◌<◌, ◌≤◌, Bool, true, false, List, [], ◌∷◌, refl, sym, ap}
use Rattle.std.proofs.Common.{subst, ◌∙◌, arith, Option, None}
use Rattle.std.specs.Prelude.{if◌then◌else◌, ◌||◌, nat_lt}
use Rattle.std.proofs.lemmas.Bool.{or_parts}
use Rattle.std.proofs.lemmas.Bool.Decides.{nat_tests}
use Rattle.units.specs.declared.blocks.UsedPart.{UsedPart}
use Rattle.shelves.specs.Shelves.{Shelf, IsShelf}
use Rattle.shelves.proofs.Begun.{validity_some}
use Rattle.rating.specs.declared.report.Rated.{Rated}
use Rattle.buckets.specs.Holding.{holds_of, paid}
use Rattle.buckets.specs.Kinds.{most_of, IsScopeOf}
use Rattle.buckets.specs.Row.{BucketRow, new_row}
use Rattle.buckets.specs.Share.{parts}
use Rattle.buckets.specs.Spend.{Each, inserted}
use Rattle.buckets.specs.declared.kind.BucketKind.{BucketKind}
use Rattle.buckets.specs.declared.kind.Due.{Due}
use Rattle.ledger.specs.Ledger.{Ledger, is_live, last_recording, next_bucket}
use Rattle.ledger.specs.Ledger.{next_charge, used}
use Rattle.ledger.specs.Balance.{buckets_at, credits}
use Rattle.ledger.specs.Debiting.{debited, debit_passes, rest_price}
use Rattle.ledger.specs.Pricing.{cycle_at, place_at, validity_of}
use Rattle.ledger.specs.Requests.{closed, credited, recorded, touched, with_bar}
use Rattle.ledger.specs.Ledger.Fact.{Grant}
use Rattle.ledger.specs.Reservation.{grant_at, reserved}
use Rattle.ledger.specs.Settlement.{due_of, passes, passes_limit, report_price, reported}
use Rattle.ledger.specs.Settlement.{settled_by}
use Rattle.reserving.specs.declared.session.SessionState.TheVariants.{Open, NeverOpened}
use Rattle.reserving.specs.Changes.{advanced, closed_account, count_in, credited_account}
use Rattle.reserving.specs.Changes.{debited_account, ended_rows}
use Rattle.reserving.specs.Changes.{settled_account, touched_account, used_in, with_session}
use Rattle.reserving.specs.Rows.{AccountRows, IsAccount, IsRowsOf}
use Rattle.reserving.specs.Sessions.{session_in, session_row, state_at}
use Rattle.reserving.proofs.Advanced.{IsAccount-advanced}
use Rattle.reserving.proofs.Advancing.{IsRowsOf-advanced}
use Rattle.reserving.proofs.Crediting.{IsAccount-credited, IsRowsOf-credited}
use Rattle.reserving.proofs.SettledRows.{count_in_is, IsRowsOf-ended, IsRowsOf-settled, parts_paid}
use Rattle.reserving.proofs.SettledRows.{used_in_is}
use Rattle.ledger.proofs.Fronts.{credits-charge_facts, credits-hold_facts}
use Rattle.reserving.proofs.kept.Debited.{IsAccount-debited}
use Rattle.reserving.proofs.kept.Sessions.{IsAccount-closed, IsAccount-touched}
use Rattle.reserving.proofs.kept.Sessions.{IsAccount-with_session}
use Rattle.reserving.proofs.kept.Settled.{IsAccount-ended, IsAccount-settled}
use Rattle.reserving.proofs.rows.Barring.{IsAccount-barred, IsRowsOf-barred}
use Rattle.reserving.proofs.rows.Closing.{IsRowsOf-closed, IsRowsOf-touched}
use Rattle.reserving.proofs.rows.Debited.{IsRowsOf-debited}
use Rattle.reserving.proofs.rows.Empty.{IsRowsOf-new}
use Rattle.reserving.proofs.rows.Touching.{IsRowsOf-denied, IsRowsOf-opened}
use Rattle.charging.proofs.lists.HeldAgain.{again_account, IsAccount-again, IsRowsOf-again}

-- an account on the shelf, as of the moment, whose rows are the ledger's
pub record HasRows (b : Shelf) (t : ℕ) (ledger : Ledger) : Type 0 where
  pub account : AccountRows
  pub shelf : account.shelf ≡ b
  pub moment : account.as_of ≡ t
  pub kept : IsAccount account
  pub rows : IsRowsOf ledger account

-- what holds of the account's own shelf and moment
by_account : (P : Shelf → ℕ → Type 0) (b : Shelf) (t : ℕ) (ledger : Ledger) → HasRows b t ledger →
    ((a : AccountRows) → IsAccount a → IsRowsOf ledger a → P a.shelf a.as_of) → P b t
by_account P b t ledger h f =
    subst (λ (x : Shelf). P x t) h.shelf
    (subst (λ (u : ℕ). P h.account.shelf u) h.moment (f h.account h.kept h.rows))

-- no bucket was opened with more than its kind's most
abbrev pub AreWithin : Ledger → Type 0
AreWithin ledger = Each (λ c. c.credited ≤ most_of c.kind) (credits ledger)

-- then the ledger has rows
abbrev pub AreRows : Shelf → ℕ → Ledger → Type 0
AreRows b t ledger = AreWithin ledger → HasRows b t ledger

-- ---- before any command, and as time goes on

pub rows_none : (b : Shelf) → IsShelf b → AreRows b 0 []
rows_none b shelf = λ within. record {
  account = record {
    shelf = b;
    as_of = 0;
    barred = false;
    buckets = [];
    counters = [];
    sessions = [];
    groups = [];
    next_bucket = 1;
    next_charge = 1;
  };
  shelf = refl;
  moment = refl;
  kept = record {
    shelf = shelf;
    sound = record { order = tt; distinct = tt; balanced = tt };
    below = tt;
    next_bucket = omega arith;
    next_charge = omega arith;
    sessions = tt;
    groups = tt;
    counters = tt;
    used = tt;
    counted = tt;
    held = tt;
    named = λ b le. refl;
    order = tt;
  };
  rows = IsRowsOf-new b;
}

pub rows_later : (b : Shelf) (t u : ℕ) (ledger : Ledger) → t ≤ u → AreRows b t ledger →
    AreRows b u ledger
rows_later b t u ledger le h = λ within.
    by_account (λ x y. y ≤ u → HasRows x u ledger) b t ledger (h within)
    (λ a kept rows early. record {
      account = advanced u a;
      shelf = refl;
      moment = refl;
      kept = IsAccount-advanced a u kept;
      rows = IsRowsOf-advanced ledger a u kept rows early;
    }) le

-- ---- bars and buckets

pub rows_barred : (b : Shelf) (t : ℕ) (barred : Bool) (ledger : Ledger) → AreRows b t ledger →
    AreRows b t (with_bar t barred ledger)
rows_barred b t barred ledger h = λ within.
    by_account (λ x u. HasRows x u (with_bar u barred ledger)) b t ledger (h within)
    (λ a kept rows. record {
      account = record a { barred = barred };
      shelf = refl;
      moment = refl;
      kept = IsAccount-barred a barred kept;
      rows = IsRowsOf-barred ledger a a.as_of barred rows;
    })

-- a bucket more, and those before it
each_inserted : (P : BucketRow → Type 0) (b : BucketRow) (xs : List BucketRow) →
    Each P (inserted b xs) → P b × Each P xs
each_inserted P b [] h = (h.0, tt)
each_inserted P b (x ∷ xs) h = at (nat_lt b.until x.until) h (each_inserted P b xs)
  where
    at : (t : Bool) → Each P (if t then b ∷ x ∷ xs else x ∷ inserted b xs) →
        (Each P (inserted b xs) → P b × Each P xs) → P b × Each P (x ∷ xs)
    at true k rest = (k.0, k.1)
    at false k rest = let both = rest k.1 in (both.0, (k.0, both.1))

pub rows_credited : (b : Shelf) (t : ℕ) (kind : BucketKind) (from until : ℕ) (scope : Option ℕ)
    (amount : ℕ) (ledger : Ledger) → next_bucket ledger ≤ 4294967295 → IsScopeOf kind scope →
    AreRows b t ledger → AreRows b t (credited t kind from until scope amount ledger)
rows_credited b t kind from until scope amount ledger few scoped h = λ within.
    let both = each_inserted (λ c. c.credited ≤ most_of c.kind)
    (new_row kind (next_bucket ledger) from until scope amount) (credits ledger) within in
    by_account (λ x u. HasRows x u (credited u kind from until scope amount ledger)) b t ledger
    (h both.1)
    (λ a kept rows.
    let numbered : a.next_bucket ≤ 4294967295 =
    subst (λ (n : ℕ). n ≤ 4294967295) (sym rows.next_bucket) few in
    record {
      account = advanced a.as_of (credited_account kind from until scope amount a);
      shelf = refl;
      moment = refl;
      kept = IsAccount-advanced (credited_account kind from until scope amount a) a.as_of
          (IsAccount-credited a kind from until scope amount numbered both.0 scoped kept);
      rows = IsRowsOf-credited ledger a a.as_of kind from until scope amount kept rows
          (omega arith);
    })

-- ---- sessions

-- a session without a record has no row
no_row : (ledger : Ledger) (a : AccountRows) (s : List ℕ) → IsRowsOf ledger a →
    last_recording s ledger ≡ None → session_in s a.sessions ≡ None
no_row ledger a s rows new =
    rows.sessions s ∙ ap (session_row s (state_at (validity_of a.shelf) a.as_of ledger s)) new

some_validity : (a : AccountRows) → IsAccount a → 0 < validity_of a.shelf a.as_of
some_validity a kept = let some = validity_some a.shelf a.as_of kept.shelf in omega (arith, some)

pub rows_recorded : (b : Shelf) (t : ℕ) (s : List ℕ) (n : ℕ) (ledger : Ledger) →
    last_recording s ledger ≡ None → AreRows b t ledger → AreRows b t (recorded t s n ledger)
rows_recorded b t s n ledger new h = λ within.
    by_account (λ x u. HasRows x u (recorded u s n ledger)) b t ledger (h within)
    (λ a kept rows. record {
      account = with_session s n a.as_of NeverOpened a;
      shelf = refl;
      moment = refl;
      kept = IsAccount-with_session a s n a.as_of NeverOpened (no_row ledger a s rows new) kept;
      rows = IsRowsOf-denied ledger a s n a.as_of rows (no_row ledger a s rows new);
    })

pub rows_opened : (b : Shelf) (t : ℕ) (s : List ℕ) (n : ℕ) (ledger : Ledger) →
    last_recording s ledger ≡ None → AreRows b t ledger → AreRows b t (touched t s n ledger)
rows_opened b t s n ledger new h = λ within.
    by_account (λ x u. HasRows x u (touched u s n ledger)) b t ledger (h within)
    (λ a kept rows. record {
      account = with_session s n a.as_of Open a;
      shelf = refl;
      moment = refl;
      kept = IsAccount-with_session a s n a.as_of Open (no_row ledger a s rows new) kept;
      rows = IsRowsOf-opened ledger a s n a.as_of rows (no_row ledger a s rows new) (omega arith)
          (some_validity a kept);
    })

pub rows_touched : (b : Shelf) (t : ℕ) (s : List ℕ) (n : ℕ) (ledger : Ledger) →
    is_live (validity_of b) t ledger s ≡ true → AreRows b t ledger →
    AreRows b t (touched t s n ledger)
rows_touched b t s n ledger live h = λ within.
    by_account (λ x u. is_live (validity_of x) u ledger s ≡ true →
    HasRows x u (touched u s n ledger)) b t ledger (h within)
    (λ a kept rows alive. record {
      account = touched_account s n a;
      shelf = refl;
      moment = refl;
      kept = IsAccount-touched a s n kept;
      rows = IsRowsOf-touched ledger a s n rows alive (some_validity a kept);
    }) live

pub rows_closed : (b : Shelf) (t : ℕ) (s : List ℕ) (ledger : Ledger) →
    is_live (validity_of b) t ledger s ≡ true → AreRows b t ledger → AreRows b t (closed t s ledger)
rows_closed b t s ledger live h = λ within.
    by_account (λ x u. is_live (validity_of x) u ledger s ≡ true → HasRows x u (closed u s ledger))
    b t ledger (h within)
    (λ a kept rows alive. record {
      account = closed_account s a;
      shelf = refl;
      moment = refl;
      kept = IsAccount-closed a s kept;
      rows = IsRowsOf-closed ledger a s kept rows alive;
    }) live

-- ---- what is used

-- the stored numbers stay within their limits
record IsWithinLimits (before units count blocks number : ℕ) : Type 0 where
  pub used : before + units ≤ 1000000000000000000
  pub counted : count + blocks ≤ 4000000000000000000
  pub charge : number < 4294967296

pub not_above : (most n : ℕ) → nat_lt most n ≡ false → n ≤ most
not_above most n e = grind (arith, nat_tests)

within_limits : (before units count blocks number : ℕ) →
    passes before units count blocks number ≡ false →
    IsWithinLimits before units count blocks number
within_limits before units count blocks number h =
    let first = or_parts (nat_lt 1000000000000000000 (before + units))
    (nat_lt 4000000000000000000 (count + blocks) || nat_lt 4294967295 number) h in
    let rest = or_parts (nat_lt 4000000000000000000 (count + blocks)) (nat_lt 4294967295 number)
    first.1 in
    let last : number ≤ 4294967295 = not_above 4294967295 number rest.1 in
    record {
      used = not_above 1000000000000000000 (before + units) first.0;
      counted = not_above 4000000000000000000 (count + blocks) rest.0;
      charge = omega (arith, last);
    }

-- so do those of the rows
within_rows : (ledger : Ledger) (a : AccountRows) (s : List ℕ) (g units blocks : ℕ) →
    IsRowsOf ledger a →
    passes (used s g ledger) units (place_at a.shelf a.as_of g ledger) blocks (next_charge ledger)
    ≡ false →
    IsWithinLimits (used_in s g a.groups) units (count_in g (cycle_at a.shelf g a.as_of) a.counters)
    blocks a.next_charge
within_rows ledger a s g units blocks rows within =
    within_limits (used_in s g a.groups) units
    (count_in g (cycle_at a.shelf g a.as_of) a.counters) blocks a.next_charge
    ((λ i. passes (used_in_is ledger a s g rows i) units
    (count_in_is ledger a g (cycle_at a.shelf g a.as_of) rows i) blocks (rows.next_charge i))
    ∙ within)

pub rows_settled : (b : Shelf) (t : ℕ) (s : List ℕ) (g : ℕ) (used_parts : List UsedPart)
    (ledger : Ledger) → is_live (validity_of b) t ledger s ≡ true →
    passes_limit b t s g used_parts ledger ≡ false → AreRows b t ledger →
    AreRows b t (settled_by b t s g used_parts ledger)
rows_settled b t s g [] ledger live few h = λ within.
    by_account (λ x u. is_live (validity_of x) u ledger s ≡ true →
    HasRows x u (settled_by x u s g [] ledger)) b t ledger (h within)
    (λ a kept rows alive. record {
      account = ended_rows s g a;
      shelf = refl;
      moment = refl;
      kept = IsAccount-ended a s g kept;
      rows = IsRowsOf-ended ledger a s g kept rows alive;
    }) live
rows_settled b t s g (p ∷ ps) ledger live few h = λ within.
    by_account (λ x u. is_live (validity_of x) u ledger s ≡ true →
    passes_limit x u s g (p ∷ ps) ledger ≡ false →
    HasRows x u (settled_by x u s g (p ∷ ps) ledger)) b t ledger
    (h (subst (Each (λ c. c.credited ≤ most_of c.kind))
    (credits-charge_facts t (parts_paid (validity_of b) t s g
    (due_of (report_price b t s g (p ∷ ps) ledger)) ledger) ledger) within))
    (λ a kept rows alive fits.
    let price : Rated = report_price a.shelf a.as_of s g (p ∷ ps) ledger in
    let limits : IsWithinLimits (used_in s g a.groups) (reported (p ∷ ps))
    (count_in g (cycle_at a.shelf g a.as_of) a.counters) price.blocks a.next_charge =
    within_rows ledger a s g (reported (p ∷ ps)) price.blocks rows fits in
    record {
      account = settled_account s g (reported (p ∷ ps)) price.blocks (due_of price) a;
      shelf = refl;
      moment = refl;
      kept = IsAccount-settled a s g (reported (p ∷ ps)) price.blocks (due_of price) limits.used
          limits.counted limits.charge kept;
      rows = IsRowsOf-settled ledger a s g (reported (p ∷ ps)) price.blocks (due_of price) kept
          rows alive;
    }) live few

pub rows_debited : (b : Shelf) (t : ℕ) (s : List ℕ) (g units : ℕ) (ledger : Ledger) →
    debit_passes b t s g units ledger ≡ false → AreRows b t ledger →
    AreRows b t (debited b t s g units ledger)
rows_debited b t s g units ledger few h = λ within.
    let now : List BucketRow = buckets_at (validity_of b) t ledger in
    by_account (λ x u. debit_passes x u s g units ledger ≡ false →
    HasRows x u (debited x u s g units ledger)) b t ledger
    (h (subst (Each (λ c. c.credited ≤ most_of c.kind))
    (credits-charge_facts t (parts (paid [] g t (due_of (rest_price b t g units ledger)) now) now)
    ledger) within))
    (λ a kept rows fits.
    let price : Rated = rest_price a.shelf a.as_of g units ledger in
    let limits : IsWithinLimits (used_in s g a.groups) units
    (count_in g (cycle_at a.shelf g a.as_of) a.counters) price.blocks a.next_charge =
    within_rows ledger a s g units price.blocks rows fits in
    record {
      account = debited_account s g units price.blocks (due_of price) a;
      shelf = refl;
      moment = refl;
      kept = IsAccount-debited a s g units price.blocks (due_of price) limits.used limits.counted
          limits.charge kept;
      rows = IsRowsOf-debited ledger a s g units price.blocks (due_of price) kept rows;
    }) few

-- ---- what is held

pub rows_reserved : (b : Shelf) (t : ℕ) (s : List ℕ) (g units : ℕ) (due : Due) (ledger : Ledger) →
    is_live (validity_of b) t ledger s ≡ true → AreRows b t ledger →
    AreRows b t (reserved b t s g units due ledger)
rows_reserved b t s g units due ledger live h = λ within.
    by_account (λ x u. is_live (validity_of x) u ledger s ≡ true →
    HasRows x u (reserved x u s g units due ledger)) b t ledger
    (h (subst (Each (λ c. c.credited ≤ most_of c.kind))
    (credits-hold_facts t s g (holds_of g t due (buckets_at (validity_of b) t ledger))
    (record { at = t; fact = Grant (grant_at b t s g units ledger) } ∷ ledger)) within))
    (λ a kept rows alive. record {
      account = again_account s g due ledger a;
      shelf = refl;
      moment = refl;
      kept = IsAccount-again ledger a s g due kept rows alive;
      rows = IsRowsOf-again ledger a s g units due kept rows alive;
    }) live
