-- Each charge of an account is within its bounds, and so are their sums.
use Rattle.std.proofs.Common.{◌≡◌, ℕ, zero, suc, ◌+◌, ◌*◌, ◌<◌, ◌≤◌, ◌^◌, Bool, true, false}
use Rattle.std.proofs.Common.{cond, List, [], ◌∷◌, ◌++◌, length, refl, sym, subst, arith}
use Rattle.std.proofs.Common.{Option, Some, None}
use Rattle.std.specs.Prelude.{if◌then◌else◌, ◌==◌, filter, find, sum_by, slice_get}
use Rattle.std.specs.Prelude.{option_map, option_and_then, unwrap_or}
use Rattle.std.specs.Prelude.{IfSome}
use Rattle.std.specs.List.{All}
use Rattle.std.proofs.lemmas.List.Elements.{All-head, All-tail}
use Rattle.std.proofs.lemmas.List.Sums.{sum_by-cons}
use Rattle.units.specs.declared.blocks.UsedPart.{UsedPart}
use Rattle.tariffs.specs.Tariffs.{GroupTariff, IsTariff}
use Rattle.rating.specs.declared.report.Rated.{Rated}
use Rattle.rating.specs.declared.grant.Periods.{Periods}
use Rattle.shelves.specs.declared.dated.DatedBook.{DatedBook}
use Rattle.shelves.specs.Shelves.{Shelf, IsShelf, tariff_of, tariff_in}
use Rattle.shelves.proofs.Begun.{book_within}
use Rattle.buckets.specs.declared.holds.HeldAmount.{HeldAmount}
use Rattle.buckets.specs.Row.{BucketRow}
use Rattle.buckets.specs.Share.{parts}
use Rattle.buckets.specs.Holding.{paid, holds_of}
use Rattle.ledger.specs.declared.charge.ChargeRow.{ChargeRow}
use Rattle.reserving.specs.declared.session.Counter.{Counter}
use Rattle.ledger.specs.declared.terms.Terms.{Terms}
use Rattle.ledger.specs.Ledger.{Fact, Dated, Ledger, counter, used, open_grant, next_charge}
use Rattle.ledger.specs.Ledger.{UseOf, number_of, counts}
use Rattle.ledger.specs.Parts.{uses_in, blocks_by}
use Rattle.ledger.specs.Charges.{charge_of, charge_rows, charge_by}
use Rattle.ledger.specs.Pricing.{cycle_at, terms_now, rated_with, validity_of}
use Rattle.ledger.specs.Settlement.{charge_facts, due_of, price_of, report_price, settled_by}
use Rattle.ledger.specs.Settlement.{coverable}
use Rattle.ledger.specs.Reservation.{grant_for, held_due, hold_facts}
use Rattle.ledger.specs.Debiting.{rest_price}
use Rattle.ledger.specs.Balance.{buckets_at, holds_at}
use Rattle.reserving.specs.Sessions.{counter_in, is_counter}
use Rattle.reserving.specs.Changes.{count_in}
use Rattle.ledger.specs.Lists.{EachIn}
use Rattle.reserving.specs.Stored.{priced}
use Rattle.ledger.proofs.Names.{number_same}
use Rattle.reserving.proofs.Lists.{EachIn-found}
use Rattle.reserving.proofs.LeftTests.{each_append}
use Rattle.ledger.proofs.Fronts.{each_charge, each_hold}
use Rattle.reserving.proofs.SettledRows.{count_in_is}
use Rattle.keepers.specs.Tables.{Head, Rows}
use Rattle.keepers.specs.Change.{AreRowsAt}
use Rattle.charging.specs.Histories.{History}
use Rattle.charging.specs.Accepted.{Accepted, IsRowOf, as_of}
use Rattle.charging.specs.Served.{history}
use Rattle.charging.specs.BoundedCharges.{IsBounded, FitTogether, AreBounded, ChargesAreBounded}
use Rattle.charging.proofs.steps.Steps.{Keeps, is_quiet, with_grant}
use Rattle.charging.proofs.steps.KeptHistories.{kept_history}
use Rattle.charging.proofs.accounts.NeverOpened.{unopened-ledger}
use Rattle.reserving.proofs.Counted.{has_none, quiet}
use Rattle.decisions.proofs.Priced.{report_bound}

-- ---- no block costs more than 10^9

abbrev IsTariffOrNone : Option GroupTariff → Type 0
IsTariffOrNone None = Unit {0}
IsTariffOrNone (Some t) = IsTariff t

found_tariff : (g : ℕ) (tariffs : List GroupTariff) → All IsTariff tariffs →
    IsTariffOrNone (find (λ t. t.group == g) tariffs)
found_tariff g [] h = tt
found_tariff g (x ∷ xs) h = at (x.group == g) (found_tariff g xs (All-tail IsTariff x xs h))
  where
    is : IsTariff x
    is = All-head IsTariff x xs h

    at : (t : Bool) → IsTariffOrNone (find (λ y. y.group == g) xs) →
        IsTariffOrNone (if t then Some x else find (λ y. y.group == g) xs)
    at true rest = is
    at false rest = rest

is_tariff : (b : Shelf) → IsShelf b → (n g : ℕ) → IsTariffOrNone (tariff_in b n g)
is_tariff b is zero g = tt
is_tariff b is (suc zero) g = found_tariff g b.first.tariffs is.first.tariffs
is_tariff b is (suc (suc i)) g = at (slice_get b.later i) refl
  where
    at : (o : Option DatedBook) → slice_get b.later i ≡ o →
        IsTariffOrNone (option_and_then (λ y. tariff_of y g) (option_map (λ d. d.book) o))
    at None e = tt
    at (Some d) e =
        found_tariff g d.book.tariffs (book_within b.first 0 b.first b.later i d is.later e).tariffs

abbrev IsWithin : Rated → Type 0
IsWithin r = r.amount.0 ≤ r.blocks * 1_000_000_000

rated_within : (o : Option GroupTariff) (p : Periods) (used place covered : ℕ)
    (used_parts : List UsedPart) → IsTariffOrNone o →
    IsWithin (rated_with o p used place covered used_parts)
rated_within None p used place covered used_parts is = omega arith
rated_within (Some t) p used place covered used_parts is =
    report_bound t p used place covered _ is

price_within : (b : Shelf) → IsShelf b → (t g : ℕ) (o : Option Terms) (used place covered : ℕ)
    (used_parts : List UsedPart) → IsWithin (price_of b t g o used place covered used_parts)
price_within b is t g o used place covered used_parts =
    let x : Terms = unwrap_or o (terms_now b t) in
    rated_within (tariff_in b x.book g) x.periods used place covered used_parts
    (is_tariff b is x.book g)

-- ---- each use of a ledger

abbrev IsFair : UseOf → Type 0
IsFair u = (u.rated ≤ u.blocks * 1_000_000_000) × (u.uncollected ≤ u.rated)

abbrev IsFairUse : Fact → Type 0
IsFairUse f = IfSome (counts f).usage IsFair

abbrev AreFair : Ledger → Type 0
AreFair ledger = EachIn (λ d. IsFairUse d.fact) ledger

charges_fair : (t : ℕ) (hs : List HeldAmount) (ledger : Ledger) → AreFair ledger →
    AreFair (charge_facts t hs ++ ledger)
charges_fair t hs ledger h =
    each_append (λ d. IsFairUse d.fact) (charge_facts t hs) ledger
    (each_charge (λ d. IsFairUse d.fact) t hs (λ n m. tt)) h

quiet_fair : (t : ℕ) (f : Fact) (ledger : Ledger) → is_quiet f ≡ true → AreFair ledger →
    AreFair (record { at = t; fact = f } ∷ ledger)
quiet_fair t f ledger q h = (has_none IsFair (counts f).usage (quiet f q).usage, h)

settled_fair : (b : Shelf) → IsShelf b → (t : ℕ) (s : List ℕ) (g : ℕ) (used_parts : List UsedPart)
    (ledger : Ledger) → AreFair ledger → AreFair (settled_by b t s g used_parts ledger)
settled_fair b is t s g [] ledger h = (tt, h)
settled_fair b is t s g (p ∷ ps) ledger h =
    let rows : List BucketRow = buckets_at (validity_of b) t ledger in
    let price : Rated = report_price b t s g (p ∷ ps) ledger in
    let within : IsWithin price =
    price_within b is t g (open_grant s g ledger) (used s g ledger)
    (counter (cycle_at b g) g (cycle_at b g t) ledger) (coverable (validity_of b) t s g ledger)
    (p ∷ ps) in (
      tt,
      (
        (within, omega arith),
        charges_fair t
            (parts (paid (holds_at (validity_of b) t s g ledger) g t (due_of price) rows) rows)
            ledger h,
      ),
    )

-- rule: stored-limits.bounded
keeps_fair : (b : Shelf) → IsShelf b → Keeps b (λ reports ledger. AreFair ledger)
keeps_fair b is = record {
  quiet = λ t f reports ledger q n fits h. quiet_fair t f ledger q h;
  touch = λ t s n reports ledger h. (tt, (tt, h));
  credit = λ t kind from until scope amount reports ledger h. (tt, h);
  settle = λ t s g used_parts reports ledger touches h. settled_fair b is t s g used_parts ledger h;
  grant = λ t s g asked reports ledger has some h.
      let given : ℕ = (grant_for b t g (used s g ledger) asked ledger).units.0 in
      let hs : List HeldAmount =
      holds_of g t (held_due (grant_for b t g (used s g ledger) asked ledger))
      (buckets_at (validity_of b) t ledger) in
      each_append (λ d. IsFairUse d.fact) (hold_facts t s g hs) (with_grant b t s g given ledger)
      (each_hold (λ d. IsFairUse d.fact) t s g hs (λ x. tt)) (tt, h);
  event = λ t s g units n reports ledger new covered h.
      let rows : List BucketRow = buckets_at (validity_of b) t ledger in
      let price : Rated = rest_price b t g units ledger in
      let within : IsWithin price = price_within b is t g None 0 _ _ _ in (
        tt,
        (
          (within, omega arith),
          charges_fair t (parts (paid [] g t (due_of price) rows) rows) ledger h,
        ),
      );
}

fair_history : (b : Shelf) → IsShelf b → (a : List ℕ) (list : List Accepted) →
    AreFair (history b a list).ledger
fair_history b is a list =
    kept_history b (λ reports ledger. AreFair ledger) (keeps_fair b is) tt a list

-- ---- its blocks are counted

abbrev CountsWithin : Shelf → Ledger → Type 0
CountsWithin b ledger = (g c : ℕ) →
    counter (cycle_at b g) g c ledger ≤ 4_000_000_000_000_000_000

older_within : (b : Shelf) (d : Dated) (older : Ledger) → CountsWithin b (d ∷ older) →
    CountsWithin b older
older_within b d older h g c = let most = h g c in omega (arith, most)

one_bounded : (b : Shelf) (n : ℕ) (d : Dated) (older : Ledger) → CountsWithin b (d ∷ older) →
    IsFairUse d.fact → EachIn IsBounded (charge_of n d)
one_bounded b n d older h fair = at (counts d.fact).usage h fair
  where
    counted : (g blocks : ℕ) (own : Bool) (same : Bool) → own ≡ true → same ≡ true →
        blocks ≤ (if own then (if same then blocks else 0) else 0)
    counted g blocks true true e f = omega arith
    counted g blocks true false e f = cc
    counted g blocks false same e f = cc

    at : (o : Option UseOf) →
        ((g c : ℕ) → (if cycle_at b g d.at == c then number_of (blocks_by g) o else 0)
        + counter (cycle_at b g) g c older ≤ 4_000_000_000_000_000_000) → IfSome o IsFair →
        EachIn IsBounded (charge_by n d.at o)
    at None most fair = tt
    at (Some u) most fair =
        let g = u.group in
        let bound = most g (cycle_at b g d.at) in
        let here = counted g u.blocks (cycle_at b g d.at == cycle_at b g d.at) (g == g)
        (number_same (cycle_at b g d.at)) (number_same g) in
        let price = fair.0 in
        let short = fair.1 in (
          record {
            blocks = omega (arith, bound, here);
            rated = price;
            collected = omega arith;
            uncollected = short;
          },
          tt,
        )

charges_bounded : (b : Shelf) (ledger : Ledger) → CountsWithin b ledger → AreFair ledger →
    EachIn IsBounded (charge_rows ledger)
charges_bounded b [] h fair = tt
charges_bounded b (d ∷ older) h fair =
    each_append IsBounded (charge_rows older) (charge_of (next_charge older) d)
    (charges_bounded b older (older_within b d older h) fair.1)
    (one_bounded b (next_charge older) d older h fair.0)

-- ---- how many there are

length_more : (xs : List ChargeRow) (n : ℕ) (d : Dated) →
    length (xs ++ charge_of n d) ≡ length xs + uses_in d.fact
length_more [] n d = at (counts d.fact).usage
  where
    at : (o : Option UseOf) → length (charge_by n d.at o) ≡ 0 + number_of (λ u. 1) o
    at None = refl
    at (Some u) = refl
length_more (x ∷ xs) n d = let more = length_more xs n d in omega (arith, more)

charge_count : (ledger : Ledger) → length (charge_rows ledger) + 1 ≡ next_charge ledger
charge_count [] = refl
charge_count (d ∷ older) =
    let more = length_more (charge_rows older) (next_charge older) d in
    let before = charge_count older in
    omega (arith, more, before)

-- ---- sums

filtered : (P : ChargeRow → Type 0) (p : ChargeRow → Bool) (xs : List ChargeRow) → EachIn P xs →
    EachIn P (filter p xs)
filtered P p [] h = tt
filtered P p (x ∷ xs) h = at (p x) (filtered P p xs h.1)
  where
    at : (t : Bool) → EachIn P (filter p xs) → EachIn P (cond t (x ∷ filter p xs) (filter p xs))
    at true rest = (h.0, rest)
    at false rest = rest

no_longer : (p : ChargeRow → Bool) (xs : List ChargeRow) → length (filter p xs) ≤ length xs
no_longer p [] = omega arith
no_longer p (x ∷ xs) = at (p x) (no_longer p xs)
  where
    at : (t : Bool) → length (filter p xs) ≤ length xs →
        length (cond t (x ∷ filter p xs) (filter p xs)) ≤ suc (length xs)
    at true rest = omega (arith, rest)
    at false rest = omega (arith, rest)

sum_within : (f : ChargeRow → ℕ) (xs : List ChargeRow) →
    EachIn (λ c. f c ≤ 4_000_000_000_000_000_000_000_000_000) xs →
    sum_by f xs ≤ length xs * 4_000_000_000_000_000_000_000_000_000
sum_within f [] h = omega arith
sum_within f (x ∷ xs) h =
    let here = h.0 in
    let more = sum_by-cons f x xs in
    omega (arith, here, more, sum_within f xs h.1)

fits : (f : ChargeRow → ℕ) (xs : List ChargeRow) →
    EachIn (λ c. f c ≤ 4_000_000_000_000_000_000_000_000_000) xs →
    length xs ≤ 4_294_967_295 → sum_by f xs < 2 ^ 128
fits f xs h few = let most = sum_within f xs h in omega (arith, most, few)

weaker : (P Q : ChargeRow → Type 0) (xs : List ChargeRow) → ((c : ChargeRow) → P c → Q c) →
    EachIn P xs → EachIn Q xs
weaker P Q [] h e = tt
weaker P Q (x ∷ xs) h e = (h x e.0, weaker P Q xs h e.1)

together : (xs : List ChargeRow) → EachIn IsBounded xs → length xs ≤ 4_294_967_295 →
    FitTogether xs
together xs h few = record {
  blocks = fits (λ c. c.blocks.0) xs
      (weaker IsBounded (λ c. c.blocks.0 ≤ _) xs
      (λ c k. let one = k.blocks in omega (arith, one)) h) few;
  rated = fits (λ c. c.rated.0) xs
      (weaker IsBounded (λ c. c.rated.0 ≤ _) xs
      (λ c k. let one = k.blocks in let two = k.rated in omega (arith, one, two)) h) few;
  collected = fits (λ c. c.collected.0) xs
      (weaker IsBounded (λ c. c.collected.0 ≤ _) xs
      (λ c k. let one = k.blocks in let two = k.rated in let three = k.collected in
      omega (arith, one, two, three)) h) few;
  uncollected = fits (λ c. c.uncollected.0) xs
      (weaker IsBounded (λ c. c.uncollected.0 ≤ _) xs
      (λ c k. let one = k.blocks in let two = k.rated in let three = k.uncollected in
      omega (arith, one, two, three)) h) few;
}

bounded : (xs : List ChargeRow) → EachIn IsBounded xs → length xs ≤ 4_294_967_295 → AreBounded xs
bounded xs h few = record {
  each = h;
  few = few;
  sums = λ p. let less = no_longer p xs in
      together (filter p xs) (filtered IsBounded p xs h) (omega (arith, less, few));
}

-- ---- an account's rows

counts_within : (b : Shelf) (ledger : Ledger) (t : ℕ) (r : Rows) → AreRowsAt b ledger t r →
    CountsWithin b ledger
counts_within b ledger t r are g c =
    let is : count_in g c are.listed.counters ≡ counter (cycle_at b g) g c ledger =
    count_in_is ledger (priced b are.listed) g c are.rows in
    let most = at (counter_in g c are.listed.counters) refl in
    omega (arith, is, most)
  where
    at : (o : Option Counter) → counter_in g c are.listed.counters ≡ o →
        unwrap_or (option_map (λ (x : Counter). x.blocks) o) 0 ≤ 4_000_000_000_000_000_000
    at None e = omega arith
    at (Some x) e =
        EachIn-found (λ (y : Counter). y.blocks ≤ 4000000000000000000) (is_counter g c)
        are.listed.counters x are.kept.counted e

row_bounded : (b : Shelf) (t : ℕ) (h : History) (r : Rows) → AreFair h.ledger →
    (h.opened ≡ false → h.ledger ≡ []) → (o : Option Head) → IsRowOf o b t h r →
    AreBounded (charge_rows h.ledger)
row_bounded b t h r fair empty None is =
    subst (λ l. AreBounded (charge_rows l)) (sym (empty is.0)) (bounded [] tt (omega arith))
row_bounded b t h r fair empty (Some head) is =
    let are : AreRowsAt b h.ledger t r = is.1 in
    let next : are.listed.next_charge ≡ next_charge h.ledger = are.rows.next_charge in
    let most = are.kept.next_charge in
    let count = charge_count h.ledger in
    bounded (charge_rows h.ledger)
    (charges_bounded b h.ledger (counts_within b h.ledger t r are) fair)
    (omega (arith, next, most, count))

-- rule: stored-limits.bounded
pub charges_are_bounded : ChargesAreBounded
charges_are_bounded b is list tables are a =
    row_bounded b (as_of a list) (history b a list) (tables.rows a) (fair_history b is a list)
    (unopened-ledger b a list) (tables.rows a).head (are.accounts a)
