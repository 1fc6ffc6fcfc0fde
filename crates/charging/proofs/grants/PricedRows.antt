-- Each grant that isn't ended has its prices on the shelf, so that each reservation has.
use Rattle.std.proofs.Common.{◌≡◌, ℕ, ◌<◌, Bool, true, false, true≢false, List, [], ◌∷◌, ◌++◌, refl}
use Rattle.std.proofs.Common.{sym, ap, subst, ◌∙◌, Option, Some, None}
use Rattle.std.specs.Prelude.{if◌then◌else◌, ◌==◌, ◌&&◌, nat_lt, is_some, option_map}
use Rattle.std.specs.Prelude.{option_and_then}
use Rattle.units.specs.declared.blocks.UsedPart.{UsedPart}
use Rattle.calendar.specs.Clock.{weekday, minute}
use Rattle.calendar.specs.Timetable.{minute_start}
use Rattle.tariffs.specs.Books.{Book, IsBook}
use Rattle.tariffs.specs.BookPrices.{prices_at}
use Rattle.tariffs.specs.Tariffs.{GroupTariff}
use Rattle.tariffs.proofs.WeekFacts.{period_below}
use Rattle.shelves.specs.Shelves.{Shelf, IsShelf, book_at}
use Rattle.shelves.proofs.Begun.{book_is, last_begun_holds}
use Rattle.buckets.specs.declared.holds.HeldAmount.{HeldAmount}
use Rattle.buckets.specs.declared.kind.Due.{Due}
use Rattle.buckets.specs.Row.{BucketRow}
use Rattle.buckets.specs.Share.{parts}
use Rattle.buckets.specs.Spend.{funds, allowance}
use Rattle.buckets.specs.Holding.{holds_of, paid}
use Rattle.reserving.specs.declared.session.Reservation.{Reservation}
use Rattle.reserving.specs.declared.session.SessionGroup.{SessionGroup}
use Rattle.ledger.specs.declared.terms.Terms.{Terms}
use Rattle.ledger.specs.Ledger.{Fact, Ledger, is_same, inner, or_else, newest, open_grant}
use Rattle.ledger.specs.Parts.{grant_in}
use Rattle.ledger.specs.Ledger.{used, counter, has_group, is_live}
use Rattle.ledger.specs.Ledger.Fact.{End}
use Rattle.ledger.specs.Pricing.{tariff_at, periods_at, switch_by, terms_at, cycle_at, validity_of}
use Rattle.ledger.specs.Pricing.{grant_with}
use Rattle.ledger.specs.Balance.{holds_at, buckets_at}
use Rattle.reserving.specs.Sessions.{group_in, group_at, reservation_of}
use Rattle.reserving.specs.Sessions.{reservation_at}
use Rattle.ledger.specs.Settlement.{charge_facts, report_price, due_of, settled_by}
use Rattle.ledger.specs.Reservation.{hold_facts, reserved, grant_for, held_due}
use Rattle.ledger.specs.Debiting.{rest_price}
use Rattle.ledger.specs.Lists.{EachIn}
use Rattle.reserving.specs.Placed.{AreOfBook, prices_on, is_placed}
use Rattle.reserving.proofs.Lists.{no_some, some_of, EachIn-weaker}
use Rattle.reserving.proofs.Keys.{second_true, same_number, found_own}
use Rattle.ledger.proofs.Fronts.{newest-front, each_charge, each_hold}
use Rattle.reserving.proofs.kept.Placed.{prices_there}
use Rattle.keepers.specs.Tables.{Head, GroupRow, Rows, group_row}
use Rattle.keepers.specs.Change.{AreRowsAt}
use Rattle.charging.specs.Accepted.{Accepted, IsRowOf, as_of}
use Rattle.charging.specs.Histories.{History}
use Rattle.charging.specs.PricedRows.{ReservationsArePriced, NoBookIsMissing}
use Rattle.charging.specs.Served.{history}
use Rattle.charging.proofs.steps.KeptHistories.{kept_history}
use Rattle.charging.proofs.steps.Steps.{is_quiet, with_grant, Keeps}
use Rattle.reserving.proofs.Counted.{quiet, quiet_money}

-- ---- the terms of a grant of a moment

module _ (b : Shelf) (ranges : IsShelf b) (t : ℕ) where
  abbrev book : Book
  book = book_at b t

  kept : IsBook book
  kept = book_is b t ranges

  below : (m : ℕ) → (Rattle.calendar.specs.Timetable.period_at book.calendar m).0
      < Rattle.std.specs.Prelude.length book.periods
  below m = period_below book.calendar.entries (weekday book.calendar.zone (minute_start m))
      (minute book.calendar.zone (minute_start m)) _ kept.periods.some kept.entries

  of_book : AreOfBook book (periods_at b t)
  of_book = record { before = below t; after = at (switch_by book t) }
    where
      at : (o : Option ℕ) →
          (Rattle.ledger.specs.Pricing.period_after book.calendar t o).0
          < Rattle.std.specs.Prelude.length book.periods
      at None = below t
      at (Some m) = below m

  pub terms_priced : (g : ℕ) → is_some (tariff_at b t g) ≡ true →
      is_some (prices_on b g (terms_at b t)) ≡ true
  terms_priced g some =
      ap (λ (o : Option Book). is_some (option_and_then
      (λ (x : Book). prices_at x g (periods_at b t).before.0 (periods_at b t).after.0) o))
      (last_begun_holds b t ranges).book
      ∙ prices_there book g (periods_at b t) of_book some

-- a grant of some units is of a group with a tariff
tariff_there : (b : Shelf) (t g before : ℕ) (asked : Option ℕ) (ledger : Ledger) →
    nat_lt 0 (grant_for b t g before asked ledger).units.0 ≡ true →
    is_some (tariff_at b t g) ≡ true
tariff_there b t g before asked ledger some = at (tariff_at b t g) refl
  where
    at : (o : Option GroupTariff) → tariff_at b t g ≡ o → is_some o ≡ true
    at (Some x) e = refl
    at None e =
        let none : (grant_for b t g before asked ledger).units.0 ≡ 0 =
        ap (λ o. (grant_with o (periods_at b t) before
        (counter (cycle_at b g) g (cycle_at b g t) ledger) asked
        (funds g t (buckets_at (validity_of b) t ledger))
        (allowance g t (buckets_at (validity_of b) t ledger))).units.0) e in
        absurd (true≢false (sym some ∙ ap (nat_lt 0) none))

-- ---- each grant that isn't ended

abbrev IsPricedLedger : Shelf → Ledger → Type 0
IsPricedLedger b ledger = (s : List ℕ) (g : ℕ) (x : Terms) → open_grant s g ledger ≡ Some x →
    is_some (prices_on b g x) ≡ true

-- facts that neither grant nor end
passed : (b : Shelf) (front ledger : Ledger) →
    ((s : List ℕ) (g : ℕ) → EachIn (λ d. grant_in s g d ≡ None) front) →
    IsPricedLedger b ledger → IsPricedLedger b (front ++ ledger)
passed b front ledger none h s g x e =
    h s g x (sym (ap inner (newest-front (grant_in s g) front ledger (none s g))) ∙ e)

-- an end
not_ended : (c : Bool) (o : Option (Option Terms)) (x : Terms) (P : Type 0) →
    (inner o ≡ Some x → P) → inner (or_else (if c then Some None else None) o) ≡ Some x → P
not_ended true o x P h e = absurd (no_some x e)
not_ended false o x P h e = h e

ended : (b : Shelf) (t : ℕ) (session : List ℕ) (group : ℕ) (ledger : Ledger) →
    IsPricedLedger b ledger →
    IsPricedLedger b (record { at = t; fact = End session group } ∷ ledger)
ended b t session group ledger h s g x e =
    not_ended (is_same session s && group == g) (newest (grant_in s g) ledger) x
    (is_some (prices_on b g x) ≡ true) (h s g x) e

-- a grant
granted_on : (b : Shelf) → IsShelf b → (t : ℕ) (session : List ℕ) (group units : ℕ)
    (ledger : Ledger) → is_some (tariff_at b t group) ≡ true → IsPricedLedger b ledger →
    IsPricedLedger b (with_grant b t session group units ledger)
granted_on b ranges t session group units ledger some h s g x e =
    at (is_same session s && group == g) refl e
  where
    at : (c : Bool) → (is_same session s && group == g) ≡ c →
        inner (or_else (if c then Some (Some (terms_at b t)) else None)
        (newest (grant_in s g) ledger)) ≡ Some x → is_some (prices_on b g x) ≡ true
    at true f k =
        let of : group ≡ g =
        same_number group g (second_true (is_same session s) (group == g) f) in
        subst (λ (y : Terms). is_some (prices_on b g y) ≡ true) (some_of (terms_at b t) x k)
        (subst (λ n. is_some (prices_on b n (terms_at b t)) ≡ true) of
        (terms_priced b ranges t group some))
    at false f k = h s g x k

quiet_priced : (b : Shelf) (t : ℕ) (f : Fact) (ledger : Ledger) → is_quiet f ≡ true →
    IsPricedLedger b ledger → IsPricedLedger b (record { at = t; fact = f } ∷ ledger)
quiet_priced b t f ledger q h s g x e =
    h s g x (sym ((quiet_money t f ledger (quiet f q)).open_grant s g) ∙ e)

charges_priced : (b : Shelf) (t : ℕ) (hs : List HeldAmount) (ledger : Ledger) →
    IsPricedLedger b ledger →
    IsPricedLedger b (charge_facts t hs ++ ledger)
charges_priced b t hs ledger h =
    passed b (charge_facts t hs) ledger
    (λ s g. each_charge (λ d. grant_in s g d ≡ None) t hs (λ x n. refl)) h

settled_priced : (b : Shelf) (t : ℕ) (s : List ℕ) (g : ℕ) (used_parts : List UsedPart)
    (ledger : Ledger) → IsPricedLedger b ledger →
    IsPricedLedger b (settled_by b t s g used_parts ledger)
settled_priced b t s g [] ledger h = ended b t s g ledger h
settled_priced b t s g (p ∷ ps) ledger h = λ x y z e.
    let rows : List BucketRow = buckets_at (validity_of b) t ledger in
    let hs : List HeldAmount = parts (paid (holds_at (validity_of b) t s g ledger) g t
    (due_of (report_price b t s g (p ∷ ps) ledger)) rows) rows in
    not_ended (is_same s x && g == y) (newest (grant_in x y) (charge_facts t hs ++ ledger)) z
    (is_some (prices_on b y z) ≡ true) (charges_priced b t hs ledger h x y z) e

reserved_priced : (b : Shelf) → IsShelf b → (t : ℕ) (s : List ℕ) (g units : ℕ) (due : Due)
    (ledger : Ledger) → is_some (tariff_at b t g) ≡ true → IsPricedLedger b ledger →
    IsPricedLedger b (reserved b t s g units due ledger)
reserved_priced b ranges t s g units due ledger some h =
    let hs : List HeldAmount = holds_of g t due (buckets_at (validity_of b) t ledger) in
    passed b (hold_facts t s g hs) (with_grant b t s g units ledger)
    (λ x y. each_hold (λ d. grant_in x y d ≡ None) t s g hs (λ z. refl))
    (granted_on b ranges t s g units ledger some h)

-- rule: grant-terms.reservations-are-priced
keeps_priced : (b : Shelf) → IsShelf b → Keeps b (λ reports ledger. IsPricedLedger b ledger)
keeps_priced b ranges = record {
  quiet = λ t f reports ledger q n fits h. quiet_priced b t f ledger q h;
  touch = λ t s n reports ledger h. h;
  credit = λ t kind from until scope amount reports ledger h. h;
  settle = λ t s g used_parts reports ledger touches h. settled_priced b t s g used_parts ledger h;
  grant = λ t s g asked reports ledger has some h.
      reserved_priced b ranges t s g (grant_for b t g (used s g ledger) asked ledger).units.0
      (held_due (grant_for b t g (used s g ledger) asked ledger)) ledger
      (tariff_there b t g (used s g ledger) asked ledger some) h;
  event = λ t s g units n reports ledger new covered h.
      let rows : List BucketRow = buckets_at (validity_of b) t ledger in
      charges_priced b t (parts (paid [] g t (due_of (rest_price b t g units ledger)) rows) rows)
      ledger h;
}

priced_history : (b : Shelf) → IsShelf b → (a : List ℕ) (list : List Accepted) →
    IsPricedLedger b (history b a list).ledger
priced_history b ranges a list =
    kept_history b (λ reports ledger. IsPricedLedger b ledger) (keeps_priced b ranges)
    (λ s g x e. absurd (no_some x e)) a list

-- ---- rows

-- what is known of a group's reservation is the terms of its grant
terms_told : (v : ℕ → ℕ) (t : ℕ) (ledger : Ledger) (s : List ℕ) (g : ℕ) (row : GroupRow)
    (x : Terms) → option_map group_row (group_at v t ledger s g) ≡ Some row →
    row.terms ≡ Some x → open_grant s g ledger ≡ Some x
terms_told v t ledger s g row x e k =
    at (has_group s g ledger) e
  where
    of_live : (l : Bool) (o : Option Terms) →
        option_map (λ (r : Reservation). r.terms)
        (if l then reservation_of (holds_at v t s g ledger) o else None) ≡ Some x → o ≡ Some x
    of_live true None f = absurd (no_some x f)
    of_live true (Some y) f = f
    of_live false o f = absurd (no_some x f)

    at : (c : Bool) → option_map group_row (if c then Some (record {
      session = s;
      group = g;
      used = used s g ledger;
      reservation = reservation_at v t ledger s g;
    }) else None) ≡ Some row → open_grant s g ledger ≡ Some x
    at false f = absurd (no_some row f)
    at true f =
        of_live (is_live v t ledger s) (open_grant s g ledger)
        (ap (λ (r : GroupRow). r.terms) (some_of _ row f) ∙ k)

row_priced : (b : Shelf) → IsShelf b → (t : ℕ) (h : History) (r : Rows) →
    IsPricedLedger b h.ledger → (o : Option Head) → IsRowOf o b t h r → (s : List ℕ) (g : ℕ)
    (row : GroupRow) (x : Terms) → r.groups s g ≡ Some row → row.terms ≡ Some x →
    is_some (prices_on b g x) ≡ true
row_priced b ranges t h r priced None is s g row x e k =
    absurd (no_some row (ap (λ (y : Rows). y.groups s g) (sym is.1) ∙ e))
row_priced b ranges t h r priced (Some head) is s g row x e k =
    let are : AreRowsAt b h.ledger t r = is.1 in
    priced s g x
    (terms_told (validity_of b) are.listed.as_of h.ledger s g row x
    (sym (are.are.groups s g ∙ ap (option_map group_row) (are.rows.groups s g)) ∙ e) k)

pub reservations_are_priced : ReservationsArePriced
reservations_are_priced b ranges list tables are a =
    row_priced b ranges (as_of a list) (history b a list) (tables.rows a)
    (priced_history b ranges a list) (tables.rows a).head (are.accounts a)

-- rule: grant-terms.reservations-are-priced
pub no_book_is_missing : NoBookIsMissing
no_book_is_missing b ranges list tables are a w listed stored =
    EachIn-weaker (λ r. group_in r.session r.group w.groups ≡ Some r)
    (λ r. is_placed b r.group r.reservation ≡ true) w.groups each
    (found_own w.groups stored.groups)
  where
    each : (r : SessionGroup) → group_in r.session r.group w.groups ≡ Some r →
        is_placed b r.group r.reservation ≡ true
    each r e = at r.reservation refl
      where
        at : (o : Option Reservation) → r.reservation ≡ o → is_placed b r.group o ≡ true
        at None k = refl
        at (Some y) k =
            reservations_are_priced b ranges list tables are a r.session r.group (group_row r)
            y.terms (listed.groups r.session r.group ∙ ap (option_map group_row) e)
            (ap (option_map (λ (z : Reservation). z.terms)) k)
