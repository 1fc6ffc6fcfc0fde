-- A book that is added to the shelf changes nothing of a ledger whose facts are all before it.
use Rattle.std.proofs.Common.{◌≡◌, ℕ, ◌+◌, ◌*◌, ◌<◌, Bool, true, false, List, [], ◌∷◌, refl, sym}
use Rattle.std.proofs.Common.{ap, subst, ◌∙◌, Option, Some, None}
use Rattle.std.specs.Prelude.{◌==◌, ◌&&◌, ◌||◌, not, nat_lt, if◌then◌else◌, is_some, map}
use Rattle.ledger.specs.Ledger.{Ledger, UseOf, counts, test_of, is_same, last_touch}
use Rattle.ledger.specs.Parts.{touched_at}
use Rattle.ledger.specs.Ledger.{is_closed, is_live, or_else, charged, held, counter}
use Rattle.ledger.specs.Parts.{is_within}
use Rattle.ledger.specs.Ledger.{has_counter, last_recording, has_group, only}
use Rattle.ledger.specs.Parts.{blocks_in, is_use_in}
use Rattle.ledger.specs.Ledger.{open_grant, used}
use Rattle.ledger.specs.Balance.{buckets_at, balance_of, credits}
use Rattle.buckets.specs.Share.{parts}
use Rattle.buckets.specs.Row.{BucketRow}
use Rattle.reserving.specs.declared.session.SessionState.TheVariants.{Open, Ended, NeverOpened}
use Rattle.reserving.specs.Sessions.{session_at, session_row, group_at, reservation_of}
use Rattle.shelves.specs.Shelves.{Shelf}
use Rattle.shelves.specs.Laws.{GoesOnFrom}
use Rattle.ledger.specs.Pricing.{validity_of, cycle_at, cycle_with, tariff_of}
use Rattle.reserving.specs.Rows.{AccountRows, IsRowsOf}
use Rattle.tariffs.specs.Books.{Book}
use Rattle.reserving.proofs.Lists.{no_some, some_of}

-- each fact is dated before a moment
abbrev pub IsBefore : ℕ → Ledger → Type 0
IsBefore from [] = Unit {0}
IsBefore from (d ∷ older) = (d.at < from) × IsBefore from older

-- two functions of moments agree before a moment
abbrev pub AgreeBefore : ℕ → (ℕ → ℕ) → (ℕ → ℕ) → Type 0
AgreeBefore from v w = (x : ℕ) → x < from → v x ≡ w x

-- ---- touches

touch_before : (from : ℕ) (s : List ℕ) (ledger : Ledger) (x : ℕ) → IsBefore from ledger →
    last_touch s ledger ≡ Some x → x < from
touch_before from s [] x h e = absurd (no_some x e)
touch_before from s (d ∷ older) x h e =
    by_touch (counts d.fact).touch (touch_before from s older x h.1) e
  where
    at : (b : Bool) → (last_touch s older ≡ Some x → x < from) →
        or_else (if b then Some d.at else None) (last_touch s older) ≡ Some x → x < from
    at true rest e = subst (λ n. n < from) (some_of d.at x e) h.0
    at false rest e = rest e

    by_touch : (o : Option (List ℕ)) → (last_touch s older ≡ Some x → x < from) →
        or_else (touched_at s d.at o) (last_touch s older) ≡ Some x → x < from
    by_touch None rest e = rest e
    by_touch (Some session) rest e = at (is_same session s) rest e

within_same : (from : ℕ) (v w : ℕ → ℕ) (t : ℕ) (o : Option ℕ) → AgreeBefore from v w →
    ((x : ℕ) → o ≡ Some x → x < from) → is_within v t o ≡ is_within w t o
within_same from v w t None agree before = refl
within_same from v w t (Some x) agree before =
    ap (λ n. nat_lt t (x + 2 * n)) (agree x (before x refl))

module _ (from : ℕ) (v w : ℕ → ℕ) (t : ℕ) (ledger : Ledger) (agree : AgreeBefore from v w)
    (before : IsBefore from ledger) where
  -- the same sessions are live
  pub live_same : is_live v t ledger ≡ is_live w t ledger
  live_same = λ i s. within_same from v w t (last_touch s ledger) agree
      (λ x e. touch_before from s ledger x before e) i && not (is_closed s ledger)

  pub buckets_same : buckets_at v t ledger ≡ buckets_at w t ledger
  buckets_same = λ i. map
      (λ c. balance_of t c (charged c.number ledger)
      (held (λ s g. live_same i s) c.number ledger)) (credits ledger)

  pub session_same : (s : List ℕ) → session_at v t ledger s ≡ session_at w t ledger s
  session_same s = λ i. session_row s
      (if live_same i s then Open
      else (if is_some (last_touch s ledger) then Ended else NeverOpened))
      (last_recording s ledger)

  pub group_same : (s : List ℕ) (g : ℕ) → group_at v t ledger s g ≡ group_at w t ledger s g
  group_same s g = λ i.
      if has_group s g ledger
      then Some
      (record {
        session = s;
        group = g;
        used = used s g ledger;
        reservation = if live_same i s
            then reservation_of
            (parts (λ (b : BucketRow). held (only s g) b.number ledger) (buckets_same i))
            (open_grant s g ledger)
            else None;
      })
      else None

-- ---- counters

pub count_same : (from : ℕ) (f h : ℕ → ℕ) (g c : ℕ) (ledger : Ledger) → AgreeBefore from f h →
    IsBefore from ledger → counter f g c ledger ≡ counter h g c ledger
count_same from f h g c [] agree before = refl
count_same from f h g c (d ∷ older) agree before =
    λ i. (if agree d.at before.0 i == c then blocks_in g d.fact else 0)
    + count_same from f h g c older agree before.1 i

counts_same : (f h : ℕ → ℕ) (g c t : ℕ) → f t ≡ h t → (o : Option UseOf) →
    test_of (is_use_in f g c t) o ≡ test_of (is_use_in h g c t) o
counts_same f h g c t same None = refl
counts_same f h g c t same (Some u) = λ i. u.group == g && same i == c

pub has_same : (from : ℕ) (f h : ℕ → ℕ) (g c : ℕ) (ledger : Ledger) → AgreeBefore from f h →
    IsBefore from ledger → has_counter f g c ledger ≡ has_counter h g c ledger
has_same from f h g c [] agree before = refl
has_same from f h g c (d ∷ older) agree before =
    λ i. counts_same f h g c d.at (agree d.at before.0) (counts d.fact).usage i
    || has_same from f h g c older agree before.1 i

-- ---- the rows of a ledger

-- with the books that began before the moment and others from it on
-- rule: later-books.leave-the-same
pub rows_go_on : (from : ℕ) (ledger : Ledger) (a : AccountRows) (u : Shelf) →
    GoesOnFrom from a.shelf u → IsBefore from ledger → IsRowsOf ledger a →
    IsRowsOf ledger (record a { shelf = u })
rows_go_on from ledger a u on before rows = record {
  barred = rows.barred;
  buckets = rows.buckets ∙ buckets_same from v w a.as_of ledger valid before;
  sessions = λ s. rows.sessions s ∙ session_same from v w a.as_of ledger valid before s;
  groups = λ s g. rows.groups s g ∙ group_same from v w a.as_of ledger valid before s g;
  counters = λ g c. rows.counters g c
      ∙ (λ i. if has_same from (cycle_at a.shelf g) (cycle_at u g) g c ledger (cycles g) before i
      then Some (record {
        group = g;
        cycle = c;
        blocks = count_same from (cycle_at a.shelf g) (cycle_at u g) g c ledger (cycles g) before i;
      }) else None);
  next_bucket = rows.next_bucket;
  next_charge = rows.next_charge;
  sound = rows.sound;
}
  where
    v : ℕ → ℕ
    v = validity_of a.shelf

    w : ℕ → ℕ
    w = validity_of u

    valid : AgreeBefore from v w
    valid x lt = ap (λ (b : Book). b.validity) (sym (on.before x lt).book)

    cycles : (g : ℕ) → AgreeBefore from (cycle_at a.shelf g) (cycle_at u g)
    cycles g x lt =
        ap (λ (b : Book). cycle_with b.calendar.zone (tariff_of b g) x) (sym (on.before x lt).book)
