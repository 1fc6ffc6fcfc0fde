-- The rows of a ledger whose facts are before books that are added later are the same over both
-- shelves.
use Rattle.std.proofs.Common.{◌≡◌, ℕ, sym, ap, ◌∙◌, Some, None}
use Rattle.std.specs.Prelude.{if◌then◌else◌}
use Rattle.tariffs.specs.Books.{Book}
use Rattle.shelves.specs.Shelves.{Shelf}
use Rattle.shelves.specs.Laws.{GoesOnFrom}
use Rattle.ledger.specs.Ledger.{Ledger}
use Rattle.ledger.specs.Pricing.{validity_of, cycle_at, cycle_with, tariff_of}
use Rattle.reserving.specs.Sessions.{counter_at}
use Rattle.reserving.specs.Rows.{IsRowsOf}
use Rattle.reserving.specs.Stored.{StoredRows, priced}
use Rattle.reserving.proofs.LaterBooks.{IsBefore, AgreeBefore, buckets_same, session_same}
use Rattle.reserving.proofs.LaterBooks.{group_same, count_same, has_same, rows_go_on}

-- ---- counters

counter_same : (from : ℕ) (f h : ℕ → ℕ) (g c : ℕ) (ledger : Ledger) → AgreeBefore from f h →
    IsBefore from ledger → counter_at f ledger g c ≡ counter_at h ledger g c
counter_same from f h g c ledger agree before =
    λ i. if has_same from f h g c ledger agree before i
    then Some (record {
      group = g;
      cycle = c;
      blocks = count_same from f h g c ledger agree before i;
    }) else None

-- ---- all rows

module _ (from : ℕ) (b u : Shelf) (on : GoesOnFrom from b u) (ledger : Ledger)
    (before : IsBefore from ledger) (listed : StoredRows) where
  pub rows_on : IsRowsOf ledger (priced b listed) → IsRowsOf ledger (priced u listed)
  rows_on rows = rows_go_on from ledger (priced b listed) u on before rows

  valid : AgreeBefore from (validity_of b) (validity_of u)
  valid x lt = ap (λ (y : Book). y.validity) (sym (on.before x lt).book)

  cycles : (g : ℕ) → AgreeBefore from (cycle_at b g) (cycle_at u g)
  cycles g x lt =
      ap (λ (y : Book). cycle_with y.calendar.zone (tariff_of y g) x) (sym (on.before x lt).book)

  pub rows_back : IsRowsOf ledger (priced u listed) → IsRowsOf ledger (priced b listed)
  rows_back rows = record {
    barred = rows.barred;
    buckets = rows.buckets
        ∙ sym (buckets_same from (validity_of b) (validity_of u) listed.as_of ledger valid before);
    sessions = λ s. rows.sessions s ∙ sym
        (session_same from (validity_of b) (validity_of u) listed.as_of ledger valid before s);
    groups = λ s g. rows.groups s g ∙ sym
        (group_same from (validity_of b) (validity_of u) listed.as_of ledger valid before s g);
    counters = λ g c. rows.counters g c
        ∙ sym (counter_same from (cycle_at b g) (cycle_at u g) g c ledger (cycles g) before);
    next_bucket = rows.next_bucket;
    next_charge = rows.next_charge;
    sound = rows.sound;
  }
