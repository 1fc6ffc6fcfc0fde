-- Each row of the tables of accepted commands is what its account's ledger sums to.
use Rattle.std.proofs.Common.{◌≡◌, ℕ, [], refl, sym, ◌∙◌, Option, Some, None}
use Rattle.std.specs.Prelude.{if◌then◌else◌, option_map}
use Rattle.shelves.specs.Shelves.{Shelf}
use Rattle.ledger.specs.Ledger.{Ledger}
use Rattle.ledger.specs.Pricing.{validity_of}
use Rattle.ledger.specs.Balance.{buckets_at}
use Rattle.reserving.specs.Left.{bucket_in}
use Rattle.reserving.specs.Sessions.{session_at, group_at}
use Rattle.keepers.specs.Tables.{Head, Rows, no_rows, group_row, held_of}
use Rattle.keepers.specs.Change.{AreRowsAt}
use Rattle.charging.specs.Histories.{History}
use Rattle.charging.specs.Accepted.{IsRow, as_of}
use Rattle.charging.specs.Outcomes.{book_days, outcome}
use Rattle.charging.specs.Served.{history}
use Rattle.charging.specs.TablesAfter.{rows_at, TablesAreAFunction, RunsFromNothing}
use Rattle.charging.specs.Promise.{rows_of}
use Rattle.charging.proofs.runs.AcceptedTables.{row_none, row_some, tables_none}

rows_are : (shelf : Shelf) (t : ℕ) (ledger : Ledger) (r : Rows) → AreRowsAt shelf ledger t r →
    r ≡ rows_at shelf t ledger
rows_are shelf t ledger r h =
    let head : r.head ≡ (rows_at shelf t ledger).head = h.are.head ∙ (λ i. Some (record {
      as_of = h.moment i;
      barred = h.rows.barred i;
      next_bucket = h.rows.next_bucket i;
      next_charge = h.rows.next_charge i;
    })) in
    λ i. record {
      head = head i;
      buckets = λ n. (h.are.buckets n ∙ (λ j. bucket_in n (h.rows.buckets j))
          ∙ (λ j. bucket_in n (buckets_at (validity_of shelf) (h.moment j) ledger))) i;
      counters = λ g c. (h.are.counters g c ∙ h.rows.counters g c) i;
      sessions = λ s. (h.are.sessions s ∙ h.rows.sessions s
          ∙ (λ j. session_at (validity_of shelf) (h.moment j) ledger s)) i;
      groups = λ s g. (h.are.groups s g ∙ (λ j. option_map group_row (h.rows.groups s g j))
          ∙ (λ j. option_map group_row (group_at (validity_of shelf) (h.moment j) ledger s g))) i;
      holds = λ s g n. (h.are.holds s g n ∙ (λ j. held_of n (h.rows.groups s g j))
          ∙ (λ j. held_of n (group_at (validity_of shelf) (h.moment j) ledger s g))) i;
    }

row_is : (shelf : Shelf) (t : ℕ) (h : History) (r : Rows) → IsRow shelf t h r →
    r ≡ rows_of shelf t h
row_is shelf t h r is = at r.head refl
  where
    at : (o : Option Head) → r.head ≡ o → r ≡ rows_of shelf t h
    at None e =
        let was = row_none shelf t h r e is in
        was.1 ∙ (λ i. if sym was.0 i then rows_at shelf t h.ledger else no_rows)
    at (Some head) e =
        let was = row_some shelf t h r head e is in
        rows_are shelf t h.ledger r was.1
        ∙ (λ i. if sym was.0 i then rows_at shelf t h.ledger else no_rows)

pub tables_are_a_function : TablesAreAFunction
tables_are_a_function shelf list tables h = λ i. record {
  last = h.last i;
  rows = λ a. row_is shelf (as_of a list) (history shelf a list) (tables.rows a) (h.accounts a) i;
  answers = λ a k. h.answers a k i;
  charges = λ a n. h.charges a n i;
  vouchers = λ code. h.vouchers code i;
  count = h.count i;
}

pub runs_from_nothing : RunsFromNothing
runs_from_nothing shelf commands new given runs =
    let run = runs [] tt (tables_none (book_days shelf) (outcome shelf) shelf) in
    record { answers = run.answers; tables = tables_are_a_function shelf _ new run.tables }
