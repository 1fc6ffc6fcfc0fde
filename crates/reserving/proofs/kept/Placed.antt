-- The periods of each reservation stay the book's, whatever a call makes of the rows.
use Rattle.std.proofs.Common.{◌≡◌, ℕ, ◌+◌, ◌≤◌, ◌<◌, Bool, true, false, cond, List, [], ◌∷◌, ◌++◌}
use Rattle.std.proofs.Common.{map, refl, sym, ap, subst, ◌∙◌, arith, Option, Some, None}
use Rattle.std.specs.Prelude.{if◌then◌else◌, ◌&&◌, is_some, length, nat_lt, option_map, unwrap_or}
use Rattle.std.specs.List.{list_all}
use Rattle.std.proofs.lemmas.Bool.{false≢true}
use Rattle.std.proofs.lemmas.Bool.Decides.{nat_tests}
use Rattle.tariffs.specs.Books.{Book}
use Rattle.shelves.specs.Shelves.{Shelf, IsShelf}
use Rattle.tariffs.specs.Tariffs.{GroupTariff}
use Rattle.tariffs.specs.GroupPrices.{prices_in}
use Rattle.tariffs.specs.BookPrices.{prices_at}
use Rattle.rating.specs.declared.grant.Periods.{Periods}
use Rattle.ledger.specs.declared.terms.Terms.{Terms}
use Rattle.shelves.specs.Shelves.{book_at, book_numbered}
use Rattle.shelves.proofs.Begun.{last_begun_holds}
use Rattle.std.specs.Prelude.{option_and_then}
use Rattle.reserving.specs.declared.session.SessionState.{SessionState}
use Rattle.reserving.specs.declared.session.SessionGroup.{SessionGroup}
use Rattle.reserving.specs.declared.session.Reservation.{Reservation}
use Rattle.reserving.specs.declared.session.Counter.{Counter}
use Rattle.ledger.specs.Pricing.{tariff_of, tariff_at, cycle_at, periods_at, terms_at}
use Rattle.ledger.specs.Pricing.{validity_of}
use Rattle.reserving.specs.Sessions.{session_in, is_of, group_in, is_counter, is_live_in}
use Rattle.buckets.specs.Holding.{holds_of}
use Rattle.buckets.specs.declared.kind.BucketKind.{BucketKind}
use Rattle.buckets.specs.Kinds.{most_of, IsScopeOf}
use Rattle.buckets.specs.declared.kind.Due.{Due}
use Rattle.reserving.specs.Keyed.{put}
use Rattle.reserving.specs.Changes.{advanced, with_session, touched_account, closed_account}
use Rattle.reserving.specs.Changes.{lapse_group, is_other, new_group, group_or_new, ended_group}
use Rattle.reserving.specs.Changes.{ended_rows, settled_account, debited_account, reserved_account}
use Rattle.reserving.specs.Changes.{credited_account, used_in, count_in, terms_in}
use Rattle.reserving.specs.Changes.{with_use, with_event}
use Rattle.reserving.specs.Prepared.{with_group_row, with_rows, reservation_in, with_group}
use Rattle.reserving.specs.Prepared.{counter_or_new}
use Rattle.ledger.specs.Lists.{EachIn}
use Rattle.reserving.specs.Rows.{AccountRows, AreApart}
use Rattle.reserving.specs.Placed.{AreOfBook, AreOfShelf, is_placed, prices_on, ArePlaced, IsPriced}
use Rattle.reserving.specs.Stored.{StoredRows, IsStoredInOrder, priced}
use Rattle.reserving.specs.Live.{is_live_group, live_part}
use Rattle.reserving.specs.Sessions.{group_before}
use Rattle.reserving.proofs.Lists.{EachIn-map, EachIn-put}
use Rattle.reserving.proofs.LeftTests.{each_filter}
use Rattle.reserving.proofs.Keys.{key_group, own_key, own_cycle}
use Rattle.reserving.proofs.StoredRows.{IsAccount-priced}
use Rattle.reserving.proofs.Advanced.{IsAccount-advanced}
use Rattle.reserving.proofs.Crediting.{IsAccount-credited}
use Rattle.reserving.proofs.kept.Sessions.{IsAccount-with_session, IsAccount-touched}
use Rattle.reserving.proofs.kept.Sessions.{IsAccount-closed}
use Rattle.reserving.proofs.kept.Settled.{IsAccount-settled, IsAccount-ended}
use Rattle.reserving.proofs.kept.Settled.{IsAccount-with_group_row, IsAccount-with_rows}
use Rattle.reserving.proofs.kept.Settled.{or_new_key, or_new_cycle}
use Rattle.reserving.proofs.kept.Ordered.{ordered_advanced, ordered_touched, ordered_closed}
use Rattle.reserving.proofs.kept.Ordered.{ordered_session, ordered_group, ordered_counter}
use Rattle.reserving.proofs.kept.Ordered.{ordered_ended, ordered_live}
use Rattle.reserving.proofs.kept.Debited.{IsAccount-debited}
use Rattle.reserving.proofs.kept.LivePart.{IsAccount-live}
use Rattle.reserving.proofs.rows.Reserved.{IsAccount-reserved}

-- ---- the prices of a group in two periods

prices_known : (b : Book) (g : ℕ) (p : Periods) →
    is_some (prices_at b g p.before.0 p.after.0) ≡ true → AreOfBook b p
prices_known b g p h =
    by_tests (nat_lt p.before.0 (length b.periods))
    (nat_lt p.after.0 (length b.periods)) refl refl h
  where
    by_tests : (x y : Bool) → nat_lt p.before.0 (length b.periods) ≡ x →
        nat_lt p.after.0 (length b.periods) ≡ y →
        is_some
        (if x && y then option_map (λ t. prices_in t p.before.0 p.after.0) (tariff_of b g)
        else None)
        ≡ true → AreOfBook b p
    by_tests true true ex ey h =
        record { before = grind (arith, nat_tests); after = grind (arith, nat_tests) }
    by_tests true false ex ey h = absurd (false≢true h)
    by_tests false y ex ey h = absurd (false≢true h)

pub prices_there : (b : Book) (g : ℕ) (p : Periods) → AreOfBook b p →
    is_some (tariff_of b g) ≡ true → is_some (prices_at b g p.before.0 p.after.0) ≡ true
prices_there b g p of some =
    let lower = of.before in
    let upper = of.after in
    let x : nat_lt p.before.0 (length b.periods) ≡ true = grind (arith, nat_tests) in
    let y : nat_lt p.after.0 (length b.periods) ≡ true = grind (arith, nat_tests) in
    (λ i. is_some
    (if x i && y i
    then option_map (λ t. prices_in t p.before.0 p.after.0) (tariff_of b g) else None))
    ∙ by_tariff (tariff_of b g) some
  where
    by_tariff : (o : Option GroupTariff) → is_some o ≡ true →
        is_some (option_map (λ t. prices_in t p.before.0 p.after.0) o) ≡ true
    by_tariff None e = absurd (false≢true e)
    by_tariff (Some t) e = refl

-- ---- the prices of a group by the terms of a grant

terms_known : (s : Shelf) (g : ℕ) (x : Terms) → is_some (prices_on s g x) ≡ true → AreOfShelf s x
terms_known s g x h = by_book (book_numbered s x.book) refl h
  where
    by_book : (o : Option Book) → book_numbered s x.book ≡ o →
        is_some
        (option_and_then (λ b. prices_at b g x.periods.before.0 x.periods.after.0) o) ≡ true →
        AreOfShelf s x
    by_book None e h = absurd (false≢true h)
    by_book (Some b) e h = record { book = b; there = e; periods = prices_known b g x.periods h }

terms_there : (s : Shelf) (g : ℕ) (x : Terms) (of : AreOfShelf s x) →
    is_some (tariff_of of.book g) ≡ true → is_some (prices_on s g x) ≡ true
terms_there s g x of some =
    ap (λ (o : Option Book).
    is_some (option_and_then (λ b. prices_at b g x.periods.before.0 x.periods.after.0) o)) of.there
    ∙ prices_there of.book g x.periods of.periods some

-- the terms of a grant at a moment
abbrev pub terms_at-of : (s : Shelf) (t : ℕ) → IsShelf s →
    AreOfBook (book_at s t) (periods_at s t) →
    AreOfShelf s (terms_at s t)
terms_at-of s t shelf of =
    record { book = book_at s t; there = (last_begun_holds s t shelf).book; periods = of }

-- ---- the terms of a row's reservation

of_placed : (b : Shelf) (g : ℕ) (o : Option Reservation) (p : Terms) → is_placed b g o ≡ true →
    option_map (λ (r : Reservation). r.terms) o ≡ Some p → AreOfShelf b p
of_placed b g None p h e = cc
of_placed b g (Some r) p h e =
    subst (AreOfShelf b) (ap (λ (o : Option Terms). unwrap_or o p) e)
    (terms_known b g r.terms h)

placed_at : (b : Shelf) (s : List ℕ) (g : ℕ) (rows : List SessionGroup) → ArePlaced b rows →
    is_placed b g (reservation_in s g rows) ≡ true
placed_at b s g [] h = refl
placed_at b s g (y ∷ ys) h = by_test (is_of s g y) refl (placed_at b s g ys h.1)
  where
    by_test : (t : Bool) → is_of s g y ≡ t → is_placed b g (reservation_in s g ys) ≡ true →
        is_placed b g (unwrap_or (cond t (Some y) (group_in s g ys)) (new_group s g)).reservation
        ≡ true
    by_test true e rest = subst (λ n. is_placed b n y.reservation ≡ true)
        (key_group y.session y.group s g e) h.0
    by_test false e rest = rest

placed_or_new : (b : Shelf) (s : List ℕ) (g : ℕ) (rows : List SessionGroup) → ArePlaced b rows →
    is_placed b (group_or_new s g rows).group (group_or_new s g rows).reservation ≡ true
placed_or_new b s g [] h = refl
placed_or_new b s g (y ∷ ys) h = by_test (is_of s g y) (placed_or_new b s g ys h.1)
  where
    by_test : (t : Bool) →
        is_placed b (group_or_new s g ys).group (group_or_new s g ys).reservation ≡ true →
        is_placed b (unwrap_or (cond t (Some y) (group_in s g ys)) (new_group s g)).group
        (unwrap_or (cond t (Some y) (group_in s g ys)) (new_group s g)).reservation ≡ true
    by_test true rest = h.0
    by_test false rest = rest

-- a reservation's terms are the shelf's
-- rule: grant-terms
pub terms_of_shelf : (b : Shelf) (s : List ℕ) (g : ℕ) (rows : List SessionGroup) (p : Terms) →
    ArePlaced b rows → terms_in s g rows ≡ Some p → AreOfShelf b p
terms_of_shelf b s g rows p h e =
    of_placed b g (reservation_in s g rows) p (placed_at b s g rows h) e

-- ---- rows that are written

kept_or_over : (b : Shelf) (t : Bool) (r : SessionGroup) →
    is_placed b r.group r.reservation ≡ true →
    is_placed b (if t then r else record r { reservation = None }).group
    (if t then r else record r { reservation = None }).reservation ≡ true
kept_or_over b true r h = h
kept_or_over b false r h = refl

over_or_kept : (b : Shelf) (t : Bool) (r : SessionGroup) →
    is_placed b r.group r.reservation ≡ true →
    is_placed b (if t then record r { reservation = None } else r).group
    (if t then record r { reservation = None } else r).reservation ≡ true
over_or_kept b true r h = refl
over_or_kept b false r h = h

placed_lapsed : (b : Shelf) (keeps : List ℕ → Bool) (rows : List SessionGroup) → ArePlaced b rows →
    ArePlaced b (map (lapse_group keeps) rows)
placed_lapsed b keeps rows h =
    EachIn-map (λ r. is_placed b r.group r.reservation ≡ true)
    (λ r. is_placed b r.group r.reservation ≡ true) (lapse_group keeps) rows
    (λ r k. kept_or_over b (keeps r.session) r k) h

placed_put : (b : Shelf) (s : List ℕ) (g : ℕ) (x : SessionGroup) (rows : List SessionGroup) →
    is_placed b x.group x.reservation ≡ true → ArePlaced b rows →
    ArePlaced b (put group_before (is_of s g) x rows)
placed_put b s g x rows k h =
    EachIn-put (λ r. is_placed b r.group r.reservation ≡ true) group_before (is_of s g) x rows k h

-- a group's row with more units
placed_used : (a : AccountRows) (s : List ℕ) (g units : ℕ) (reservation : Option Reservation) →
    is_placed a.shelf g reservation ≡ true → ArePlaced a.shelf a.groups →
    ArePlaced a.shelf
    (put group_before (is_of s g)
    (record {
      session = s;
      group = g;
      used = used_in s g a.groups + units;
      reservation = reservation;
    }) a.groups)
placed_used a s g units reservation k h = placed_put a.shelf s g _ a.groups k h

-- ---- what each call keeps

pub IsPriced-advanced : (a : AccountRows) (t : ℕ) → IsPriced a → IsPriced (advanced t a)
IsPriced-advanced a t is = record {
  account = IsAccount-advanced a t is.account;
  placed = placed_lapsed a.shelf (is_live_in (validity_of a.shelf) t a.sessions) a.groups is.placed;
  order = ordered_advanced a t is.order;
}

pub IsPriced-with_session : (a : AccountRows) (s : List ℕ) (n t : ℕ) (state : SessionState) →
    session_in s a.sessions ≡ None → IsPriced a → IsPriced (with_session s n t state a)
IsPriced-with_session a s n t state new is = record {
  account = IsAccount-with_session a s n t state new is.account;
  placed = is.placed;
  order = ordered_session a.sessions a.groups a.counters
      (record { id = s; last_number = n; touched = t; state = state }) is.order;
}

pub IsPriced-touched : (a : AccountRows) (s : List ℕ) (n : ℕ) → IsPriced a →
    IsPriced (touched_account s n a)
IsPriced-touched a s n is =
    record {
      account = IsAccount-touched a s n is.account;
      placed = is.placed;
      order = ordered_touched a s n is.order;
    }

pub IsPriced-closed : (a : AccountRows) (s : List ℕ) → IsPriced a → IsPriced (closed_account s a)
IsPriced-closed a s is = record {
  account = IsAccount-closed a s is.account;
  placed = placed_lapsed a.shelf (is_other s) a.groups is.placed;
  order = ordered_closed a s is.order;
}

pub IsPriced-settled : (a : AccountRows) (session : List ℕ) (group units blocks : ℕ) (due : Due) →
    used_in session group a.groups + units ≤ 1000000000000000000 →
    count_in group (cycle_at a.shelf group a.as_of) a.counters + blocks ≤ 4000000000000000000 →
    a.next_charge < 4294967296 →
    IsPriced a → IsPriced (settled_account session group units blocks due a)
IsPriced-settled a session group units blocks due used_fits count_fits charge_fits is = record {
  account = IsAccount-settled a session group units blocks due used_fits count_fits charge_fits
      is.account;
  placed = placed_used a session group units None refl is.placed;
  order = ordered_counter a.sessions (with_use session group units a.groups) a.counters group
      (cycle_at a.shelf group a.as_of) _ (own_cycle group (cycle_at a.shelf group a.as_of))
      (ordered_group a.sessions a.groups a.counters session group _ (own_key session group)
      is.order);
}

pub IsPriced-debited : (a : AccountRows) (session : List ℕ) (group units blocks : ℕ) (due : Due) →
    used_in session group a.groups + units ≤ 1000000000000000000 →
    count_in group (cycle_at a.shelf group a.as_of) a.counters + blocks ≤ 4000000000000000000 →
    a.next_charge < 4294967296 →
    IsPriced a → IsPriced (debited_account session group units blocks due a)
IsPriced-debited a session group units blocks due used_fits count_fits charge_fits is = record {
  account = IsAccount-debited a session group units blocks due used_fits count_fits charge_fits
      is.account;
  placed = placed_used a session group units (group_or_new session group a.groups).reservation
      (placed_at a.shelf session group a.groups is.placed) is.placed;
  order = ordered_counter a.sessions (with_event session group units a.groups) a.counters group
      (cycle_at a.shelf group a.as_of) _ (own_cycle group (cycle_at a.shelf group a.as_of))
      (ordered_group a.sessions a.groups a.counters session group _ (own_key session group)
      is.order);
}

pub IsPriced-ended : (a : AccountRows) (session : List ℕ) (group : ℕ) → IsPriced a →
    IsPriced (ended_rows session group a)
IsPriced-ended a session group is = record {
  account = IsAccount-ended a session group is.account;
  placed = EachIn-map (λ r. is_placed a.shelf r.group r.reservation ≡ true)
      (λ r. is_placed a.shelf r.group r.reservation ≡ true) (ended_group session group) a.groups
      (λ r k. over_or_kept a.shelf (is_of session group r) r k) is.placed;
  order = ordered_ended a.sessions a.groups a.counters session group is.order;
}

pub IsPriced-with_group_row : (a : AccountRows) (session : List ℕ) (group : ℕ) → IsPriced a →
    IsPriced (with_group_row session group a)
IsPriced-with_group_row a session group is = record {
  account = IsAccount-with_group_row a session group is.account;
  placed = placed_put a.shelf session group (group_or_new session group a.groups) a.groups
      (placed_or_new a.shelf session group a.groups is.placed) is.placed;
  order = ordered_group a.sessions a.groups a.counters session group
      (group_or_new session group a.groups) (or_new_key session group a.groups) is.order;
}

pub IsPriced-with_rows : (a : AccountRows) (session : List ℕ) (group cycle : ℕ) → IsPriced a →
    IsPriced (with_rows session group cycle a)
IsPriced-with_rows a session group cycle is = record {
  account = IsAccount-with_rows a session group cycle is.account;
  placed = placed_put a.shelf session group (group_or_new session group a.groups) a.groups
      (placed_or_new a.shelf session group a.groups is.placed) is.placed;
  order = ordered_counter a.sessions (with_group session group a.groups) a.counters group cycle
      (counter_or_new group cycle a.counters) (or_new_cycle group cycle a.counters)
      (ordered_group a.sessions a.groups a.counters session group
      (group_or_new session group a.groups) (or_new_key session group a.groups) is.order);
}

pub IsPriced-credited : (a : AccountRows) (kind : BucketKind) (from until : ℕ) (scope : Option ℕ)
    (amount : ℕ) →
    a.next_bucket ≤ 4294967295 → amount ≤ most_of kind → IsScopeOf kind scope → IsPriced a →
    IsPriced (credited_account kind from until scope amount a)
IsPriced-credited a kind from until scope amount le most scoped is = record {
  account = IsAccount-credited a kind from until scope amount le most scoped is.account;
  placed = is.placed;
  order = is.order;
}

-- rule: grant-terms
pub IsPriced-reserved : (a : AccountRows) (session : List ℕ) (group : ℕ) (due : Due) →
    reservation_in session group a.groups ≡ None →
    AreOfBook (book_at a.shelf a.as_of) (periods_at a.shelf a.as_of) →
    is_some (tariff_at a.shelf a.as_of group) ≡ true →
    IsPriced a → IsPriced (reserved_account session group due a)
IsPriced-reserved a session group due none of some is = record {
  account = IsAccount-reserved a session group due none is.account;
  placed = placed_put a.shelf session group
      (record {
        session = session;
        group = group;
        used = used_in session group a.groups;
        reservation = Some (record {
          terms = terms_at a.shelf a.as_of;
          holds = holds_of group a.as_of due a.buckets;
        });
      }) a.groups (terms_there a.shelf group (terms_at a.shelf a.as_of)
      (terms_at-of a.shelf a.as_of is.account.shelf of) some) is.placed;
  order = ordered_group a.sessions a.groups a.counters session group _ (own_key session group)
      is.order;
}

-- ---- what is loaded

-- the test of a load, and what it says
pub all_placed : (b : Shelf) (rows : List SessionGroup) →
    list_all (λ r. is_placed b r.group r.reservation) rows ≡ true → ArePlaced b rows
all_placed b [] h = tt
all_placed b (y ∷ ys) h = by_test (is_placed b y.group y.reservation) refl h (all_placed b ys)
  where
    by_test : (t : Bool) → is_placed b y.group y.reservation ≡ t →
        (t && list_all (λ r. is_placed b r.group r.reservation) ys) ≡ true →
        (list_all (λ r. is_placed b r.group r.reservation) ys ≡ true → ArePlaced b ys) →
        ArePlaced b (y ∷ ys)
    by_test true e all rest = (e, rest all)
    by_test false e all rest = absurd (false≢true all)

pub each_placed : (b : Shelf) (rows : List SessionGroup) → ArePlaced b rows →
    list_all (λ r. is_placed b r.group r.reservation) rows ≡ true
each_placed b [] h = refl
each_placed b (y ∷ ys) h = rw h.0 (each_placed b ys h.1)

-- as the code makes the test
pub placed_by : (b : Shelf) (given rows : List SessionGroup) (t : Bool) → given ≡ rows →
    t ≡ list_all (λ r. is_placed b r.group r.reservation) given → t ≡ true → ArePlaced b rows
placed_by b given rows t same is all =
    all_placed b rows
    (sym (ap (list_all (λ (r : SessionGroup). is_placed b r.group r.reservation)) same)
    ∙ sym is ∙ all)

-- the same of rows that are kept so
pub rows_placed : (b : Shelf) (given : List SessionGroup) (kept rows : StoredRows) (t : Bool) →
    given ≡ kept.groups → t ≡ list_all (λ r. is_placed b r.group r.reservation) given →
    kept ≡ rows → t ≡ true → ArePlaced b rows.groups
rows_placed b given kept rows t same is view all =
    subst (λ (r : StoredRows). ArePlaced b r.groups) view
    (placed_by b given kept.groups t same is all)

pub not_placed : (b : Shelf) (given : List SessionGroup) (kept rows : StoredRows) (t : Bool) →
    given ≡ kept.groups → t ≡ list_all (λ r. is_placed b r.group r.reservation) given →
    kept ≡ rows → t ≡ false → ArePlaced b rows.groups → ⊥
not_placed b given kept rows t same is view none placed =
    false≢true
    (sym none ∙ is ∙ ap (list_all (λ (r : SessionGroup). is_placed b r.group r.reservation)) same
    ∙ each_placed b kept.groups
    (subst (λ (r : StoredRows). ArePlaced b r.groups) (sym view) placed))

pub IsPriced-priced : (shelf : Shelf) (r : StoredRows) → IsShelf shelf → IsStoredInOrder r →
    ArePlaced shelf r.groups → IsPriced (priced shelf r)
IsPriced-priced shelf r ranges is placed =
    record { account = IsAccount-priced shelf r ranges is.stored; placed = placed; order = is.keys }

pub IsPriced-live : (shelf : Shelf) (t : ℕ) (others : List Counter) (w : StoredRows) →
    IsShelf shelf →
    IsStoredInOrder w → ArePlaced shelf w.groups →
    AreApart (λ x y. is_counter x.group x.cycle y) (others ++ w.counters) →
    EachIn (λ c. c.blocks ≤ 4000000000000000000) others → IsPriced (live_part shelf t others w)
IsPriced-live shelf t others w ranges is placed apart counted = record {
  account = IsAccount-live shelf t others w ranges is.stored apart counted;
  placed = each_filter (λ r. is_placed shelf r.group r.reservation ≡ true)
      (is_live_group w.sessions) w.groups placed;
  order = ordered_live shelf t others w apart is.keys;
}
