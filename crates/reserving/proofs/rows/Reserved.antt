-- What a grant makes of a ledger's buckets, groups and counters, and of an account's rows: of any
-- amounts that its group holds then, and of those of a group that held nothing.
use Rattle.std.proofs.Common.{◌≡◌, ℕ, ◌+◌, ◌-◌, ◌≤◌, Bool, true, false, List, [], ◌∷◌, ◌++◌, map}
use Rattle.std.proofs.Common.{refl, sym, ap, subst, ◌∙◌, arith, Option, Some, None}
use Rattle.std.specs.Prelude.{if◌then◌else◌, ◌==◌, ◌&&◌, ◌||◌, not, nat_lt, is_some}
use Rattle.std.specs.Prelude.{option_map}
use Rattle.buckets.specs.declared.holds.HeldAmount.{HeldAmount}
use Rattle.buckets.specs.Row.{BucketRow, eligible_amount, is_eligible, with_hold}
use Rattle.buckets.specs.Share.{share, parts}
use Rattle.buckets.specs.Spend.{Each, AreDistinct, IsSound, IsBelow, held_rows}
use Rattle.buckets.specs.Holding.{held_in, holds_of}
use Rattle.buckets.proofs.Parts.{sum_at, sum_at-parts, held_in-sum_at, sum_at_none}
use Rattle.buckets.proofs.SharesAlong.{by_shares-along}
use Rattle.buckets.proofs.Kept.{IsSound-hold, eligible_within}
use Rattle.buckets.specs.declared.kind.Due.{Due}
use Rattle.reserving.specs.declared.session.SessionGroup.{SessionGroup}
use Rattle.reserving.specs.declared.session.Reservation.{Reservation}
use Rattle.reserving.specs.declared.session.Counter.{Counter}
use Rattle.ledger.specs.Ledger.{Ledger, or_else, charged, held, only, used, counter, has_group}
use Rattle.ledger.specs.Ledger.{has_counter, open_grant, inner, is_live, is_same}
use Rattle.ledger.specs.Parts.{is_within}
use Rattle.ledger.specs.Ledger.{is_closed}
use Rattle.ledger.specs.Parts.{units_in, names_group, grant_in, counts_group, blocks_in}
use Rattle.ledger.specs.Ledger.{newest, last_touch, last_recording}
use Rattle.ledger.specs.Parts.{uses_in, credits_in}
use Rattle.ledger.specs.Ledger.{next_bucket}
use Rattle.ledger.specs.Ledger.Fact.{Grant}
use Rattle.shelves.specs.Shelves.{Shelf}
use Rattle.ledger.specs.declared.terms.Terms.{Terms}
use Rattle.ledger.specs.Pricing.{terms_at, cycle_at, validity_of}
use Rattle.reserving.specs.Keyed.{put}
use Rattle.ledger.specs.Balance.{credits, balance_of, bucket_at, buckets_at, holds_at}
use Rattle.reserving.specs.Sessions.{is_of, group_in, group_at, counter_at, holds_in}
use Rattle.reserving.specs.Sessions.{held_by, reservation_of, reservation_at}
use Rattle.ledger.specs.Reservation.{grant_at, hold_facts, reserved}
use Rattle.reserving.specs.Changes.{used_in, reserved_in, with_reservation, reserved_account}
use Rattle.reserving.specs.Prepared.{reservation_in}
use Rattle.ledger.specs.SoundLedger.{IsUnknown, IsSoundLedger}
use Rattle.reserving.specs.Rows.{AccountRows, IsAccount, IsRowsOf}
use Rattle.reserving.specs.Sessions.{group_before}
use Rattle.reserving.proofs.InOrder.{order_map, order_changed, in_order_of}
use Rattle.reserving.proofs.LeftMerged.{each_both}
use Rattle.reserving.proofs.Lists.{find-put, find-put_other, EachIn-put, no_some}
use Rattle.reserving.proofs.Keys.{is_key, own_key, key_session, key_group, other_row, not_true}
use Rattle.reserving.proofs.Keys.{first_true}
use Rattle.ledger.proofs.Holds.{same_from}
use Rattle.ledger.proofs.Fronts.{is_barred-front, total-front, newest-front, any-front}
use Rattle.ledger.proofs.Fronts.{any_dated-front, each_hold, held-hold_facts, held-hold_facts_other}
use Rattle.ledger.proofs.Fronts.{credits-hold_facts, charged-hold_facts, SameSessions, same_live}
use Rattle.ledger.proofs.Fronts.{same_touched}
use Rattle.reserving.proofs.SettledFacts.{IsMoved, SameGroup}
use Rattle.reserving.proofs.SettledFacts.{same_session, same_group}
use Rattle.ledger.proofs.Columns.{balance_by, with_columns}
use Rattle.reserving.proofs.rows.Complete.{held_free}
use Rattle.reserving.proofs.SettledRows.{own_row, used_in_is, if_none, differs_above}
use Rattle.reserving.proofs.SettledRows.{made_in}
use Rattle.reserving.proofs.kept.Settled.{held_by-put, held_by_number, AreApart-put_group, used_le}
use Rattle.reserving.proofs.kept.Settled.{IsBelow-map}

-- ---- the buckets

balance_by-held : (b : Bool) (c : BucketRow) (ch h s : ℕ) → s ≤
    (if b then c.credited - ch - h else 0) →
    balance_by b c ch (s + h) ≡ with_hold (balance_by b c ch h) s
balance_by-held true c ch h s q =
    with_columns c _ _ _ _ _ _ _ _ (omega arith) (omega arith) refl refl
balance_by-held false c ch h s q =
    with_columns c _ _ _ _ _ _ _ _ (omega arith) (omega arith) refl (omega arith)

abbrev pub holds_for : Shelf → ℕ → ℕ → Due → Ledger → List HeldAmount
holds_for shelf t group due ledger = holds_of group t due (buckets_at (validity_of shelf) t ledger)

abbrev granted : Shelf → ℕ → List ℕ → ℕ → ℕ → Ledger → Ledger
granted shelf t session group units ledger =
    record { at = t; fact = Grant (grant_at shelf t session group units ledger) } ∷ ledger

same_sessions-reserved : (shelf : Shelf) (t : ℕ) (session : List ℕ) (group units : ℕ) (due : Due)
    (ledger : Ledger) → SameSessions ledger (reserved shelf t session group units due ledger)
same_sessions-reserved shelf t session group units due ledger =
    let hs : List HeldAmount = holds_for shelf t group due ledger in
    let before : Ledger = granted shelf t session group units ledger in
    record {
      touch = λ s. newest-front _ (hold_facts t session group hs) before
          (each_hold _ t session group hs (λ x. refl));
      closed = λ s. any-front _ (hold_facts t session group hs) before
          (each_hold _ t session group hs (λ x. refl));
      recording =
          λ s. newest-front _ (hold_facts t session group hs) before
          (each_hold _ t session group hs (λ x. refl));
    }

bucket_at-reserved : (shelf : Shelf) (t : ℕ) (session : List ℕ) (group units : ℕ) (due : Due)
    (ledger : Ledger) (c : BucketRow) →
    (let rows : List BucketRow = buckets_at (validity_of shelf) t ledger in
    is_live (validity_of shelf) t ledger session ≡ true →
    sum_at c.number (holds_of group t due rows)
    ≡ share (eligible_amount group t) rows due (bucket_at (validity_of shelf) t ledger c) →
    bucket_at (validity_of shelf) t (reserved shelf t session group units due ledger) c
    ≡ with_hold (bucket_at (validity_of shelf) t ledger c)
    (share (eligible_amount group t) rows due (bucket_at (validity_of shelf) t ledger c)))
bucket_at-reserved shelf t session group units due ledger c live sum =
    let v : ℕ → ℕ = (validity_of shelf) in
    let rows : List BucketRow = buckets_at v t ledger in
    let n : ℕ = c.number in
    let hs : List HeldAmount = holds_of group t due rows in
    let before : Ledger = granted shelf t session group units ledger in
    let after : Ledger = reserved shelf t session group units due ledger in
    let all : List ℕ → ℕ → Bool = λ s g. is_live v t ledger s in
    let all' : List ℕ → ℕ → Bool = λ s g. is_live v t after s in
    let same : all' ≡ all =
    λ i s g. same_live v t ledger after
    (same_sessions-reserved shelf t session group units due ledger) s i in
    let s : ℕ = share (eligible_amount group t) rows due (bucket_at v t ledger c) in
    let held' : held all' n (hold_facts t session group hs ++ before) ≡ s + held all n ledger =
    ap (λ p. held p n (hold_facts t session group hs ++ before)) same
    ∙ omega (arith, held-hold_facts all n t session group hs before live, sum) in
    let charged' : charged n (hold_facts t session group hs ++ before) ≡ charged n ledger =
    omega (arith, charged-hold_facts n t session group hs before) in
    let within : s
    ≤ (if nat_lt t c.until then c.credited - charged n ledger - held all n ledger else 0) =
    eligible_within (is_eligible group t (bucket_at v t ledger c)) _ _ in
    ap (λ x. balance_of t c (charged n (hold_facts t session group hs ++ before)) x) held'
    ∙ ap (λ x. balance_of t c x (s + held all n ledger)) charged'
    ∙ balance_by-held (nat_lt t c.until) c (charged n ledger) (held all n ledger) s within

each_reserved : (shelf : Shelf) (t : ℕ) (session : List ℕ) (group units : ℕ)
    (due : Due) (ledger : Ledger)
    (cs : List BucketRow) →
    (let rows : List BucketRow = buckets_at (validity_of shelf) t ledger in
    is_live (validity_of shelf) t ledger session ≡ true →
    Each (λ b. sum_at b.number (holds_of group t due rows)
    ≡ share (eligible_amount group t) rows due b)
    (map (bucket_at (validity_of shelf) t ledger) cs)
    →
    map (bucket_at (validity_of shelf) t (reserved shelf t session group units due ledger)) cs
    ≡ map (λ b. with_hold b (share (eligible_amount group t) rows due b))
    (map (bucket_at (validity_of shelf) t ledger) cs))
each_reserved shelf t session group units due ledger [] live sums = refl
each_reserved shelf t session group units due ledger (c ∷ cs) live sums =
    λ i. bucket_at-reserved shelf t session group units due ledger c live sums.0 i
    ∷ each_reserved shelf t session group units due ledger cs live sums.1 i

-- the buckets of a ledger with a grant
buckets_at-reserved : (shelf : Shelf) (t : ℕ) (session : List ℕ) (group units : ℕ) (due : Due)
    (ledger : Ledger) →
    is_live (validity_of shelf) t ledger session ≡ true →
    AreDistinct (buckets_at (validity_of shelf) t ledger) →
    buckets_at (validity_of shelf) t (reserved shelf t session group units due ledger)
    ≡ held_rows group t due (buckets_at (validity_of shelf) t ledger)
buckets_at-reserved shelf t session group units due ledger live distinct =
    let rows : List BucketRow = buckets_at (validity_of shelf) t ledger in
    let hs : List HeldAmount = holds_of group t due rows in
    ap (map (bucket_at (validity_of shelf) t (reserved shelf t session group units due ledger)))
    (credits-hold_facts t session group hs (granted shelf t session group units ledger))
    ∙ each_reserved shelf t session group units due ledger (credits ledger) live
    (sum_at-parts (share (eligible_amount group t) rows due) rows distinct)

-- ---- the groups

other_reserved : (shelf : Shelf) (t : ℕ) (session : List ℕ) (group units : ℕ)
    (due : Due) (ledger : Ledger)
    (s : List ℕ) (g : ℕ) → is_key session group s g ≡ false →
    SameGroup s g ledger (reserved shelf t session group units due ledger)
other_reserved shelf t session group units due ledger s g h =
    let hs : List HeldAmount = holds_for shelf t group due ledger in
    let before : Ledger = granted shelf t session group units ledger in
    let p : Terms = terms_at shelf t in
    record {
      named = any-front (names_group s g) (hold_facts t session group hs) before
          (each_hold _ t session group hs (λ x. refl)) ∙ (λ i. h i || has_group s g ledger);
      used = omega (
        arith,
        total-front (λ d. units_in s g d.fact) (hold_facts t session group hs) before
            (each_hold _ t session group hs (λ x. refl)),
      );
      grant = ap inner
          (newest-front (grant_in s g) (hold_facts t session group hs) before
          (each_hold _ t session group hs (λ x. refl)))
          ∙ (λ i. inner
          (or_else (if h i then Some (Some p) else None) (newest (grant_in s g) ledger)));
      held = λ n. omega (arith, held-hold_facts_other (only s g) n t session group hs before h);
    }

-- parts by number of changed buckets are other parts of the buckets before
parts_each : (F : ℕ → ℕ) (G : BucketRow → ℕ) (does : BucketRow → BucketRow)
    (rows : List BucketRow) →
    ((b : BucketRow) → (does b).number ≡ b.number) → Each (λ b. F b.number ≡ G b) rows →
    parts (λ b. F b.number) (map does rows) ≡ parts G rows
parts_each F G does [] k e = refl
parts_each F G does (b ∷ bs) k e =
    let amount : F (does b).number ≡ G b = ap F (k b) ∙ e.0 in
    let one : (let h : HeldAmount = record { bucket = (does b).number; amount = F (does b).number }
    in h)
    ≡ (let h : HeldAmount = record { bucket = b.number; amount = G b } in h) =
    λ i. record { bucket = k b i; amount = amount i } in
    λ i. (if nat_lt 0 (amount i) then one i ∷ parts_each F G does bs k e.1 i
    else parts_each F G does bs k e.1 i)

-- what the group holds is more by its shares of what is due
pub each_own : (shelf : Shelf) (t : ℕ) (session : List ℕ) (group units : ℕ) (due : Due)
    (ledger : Ledger) (G : BucketRow → ℕ) (xs : List BucketRow) →
    Each (λ b. sum_at b.number (holds_for shelf t group due ledger) ≡ G b) xs →
    Each (λ b. held (only session group) b.number
    (reserved shelf t session group units due ledger)
    ≡ held (only session group) b.number ledger + G b) xs
each_own shelf t session group units due ledger G [] h = tt
each_own shelf t session group units due ledger G (b ∷ bs) h = (
  omega (
    arith,
    held-hold_facts (only session group) b.number t session group
        (holds_for shelf t group due ledger) (granted shelf t session group units ledger)
        (own_key session group),
    h.0,
  ),
  each_own shelf t session group units due ledger G bs h.1,
)

abbrev reservation_for : Shelf → ℕ → List HeldAmount → Reservation
reservation_for shelf t holds = record { terms = terms_at shelf t; holds = holds }

-- each bucket has of the group's holds an amount
abbrev pub AreOwn : Shelf → ℕ → List ℕ → ℕ → ℕ → Due → Ledger → (BucketRow → ℕ) → Type 0
AreOwn shelf t session group units due ledger all =
    Each (λ b. held (only session group) b.number
    (reserved shelf t session group units due ledger) ≡ all b)
    (buckets_at (validity_of shelf) t ledger)

own_reserved : (shelf : Shelf) (t : ℕ) (session : List ℕ) (group units : ℕ)
    (due : Due) (ledger : Ledger) (all : BucketRow → ℕ) →
    is_live (validity_of shelf) t ledger session ≡ true →
    AreDistinct (buckets_at (validity_of shelf) t ledger) →
    AreOwn shelf t session group units due ledger all →
    group_at (validity_of shelf) t (reserved shelf t session group units due ledger) session
    group
    ≡ Some (record {
      session = session;
      group = group;
      used = used session group ledger;
      reservation = Some (reservation_for shelf t
          (parts all (buckets_at (validity_of shelf) t ledger)));
    })
own_reserved shelf t session group units due ledger all live distinct each =
    let v : ℕ → ℕ = (validity_of shelf) in
    let after : Ledger = reserved shelf t session group units due ledger in
    let before : Ledger = granted shelf t session group units ledger in
    let rows : List BucketRow = buckets_at v t ledger in
    let hs : List HeldAmount = holds_for shelf t group due ledger in
    let own : is_key session group session group ≡ true = own_key session group in
    let p : Terms = terms_at shelf t in
    let G : BucketRow → ℕ = share (eligible_amount group t) rows due in
    let named : has_group session group after ≡ true =
    any-front (names_group session group) (hold_facts t session group hs) before
    (each_hold _ t session group hs (λ x. refl))
    ∙ (λ i. own i || has_group session group ledger) in
    let so_far : used session group after ≡ used session group ledger =
    omega (
      arith,
      total-front (λ d. units_in session group d.fact) (hold_facts t session group hs) before
          (each_hold _ t session group hs (λ x. refl)),
    ) in
    let grant : open_grant session group after ≡ Some p =
    ap inner (newest-front (grant_in session group) (hold_facts t session group hs) before
    (each_hold _ t session group hs (λ x. refl)))
    ∙ (λ i. inner
    (or_else (if own i then Some (Some p) else None) (newest (grant_in session group) ledger)))
    in
    let is_live' : is_live v t after session ≡ true =
    same_live v t ledger after (same_sessions-reserved shelf t session group units due ledger)
    session ∙ live in
    let holds : holds_at v t session group after ≡ parts all rows =
    ap (parts (λ b. held (only session group) b.number after))
    (buckets_at-reserved shelf t session group units due ledger live distinct)
    ∙ parts_each (λ n. held (only session group) n after) all (λ b. with_hold b (G b)) rows
    (λ b. refl) each in
    let reservation : reservation_at v t after session group
    ≡ Some (reservation_for shelf t (parts all rows)) =
    λ i. (if is_live' i then reservation_of (holds i) (grant i) else None) in
    own_row session group _ _ _ _ _ named so_far reservation

groups-reserved : (shelf : Shelf) (t : ℕ) (session : List ℕ) (group units : ℕ) (due : Due)
    (ledger : Ledger) (rows : List SessionGroup) (holds : List HeldAmount) (all : BucketRow → ℕ) →
    is_live (validity_of shelf) t ledger session ≡ true →
    AreDistinct (buckets_at (validity_of shelf) t ledger) →
    AreOwn shelf t session group units due ledger all →
    holds ≡ parts all (buckets_at (validity_of shelf) t ledger) →
    used_in session group rows ≡ used session group ledger →
    ((s : List ℕ) (g : ℕ) → group_in s g rows ≡ group_at (validity_of shelf) t ledger s g) →
    (s : List ℕ) (g : ℕ) →
    group_in s g (with_reservation session group (terms_at shelf t) holds rows)
    ≡ group_at (validity_of shelf) t (reserved shelf t session group units due ledger) s g
groups-reserved shelf t session group units due ledger rows holds all live distinct each eh so_far
    h s g = by_test (is_key session group s g) refl
  where
    after : Ledger
    after = reserved shelf t session group units due ledger

    row : SessionGroup
    row = record {
      session = session;
      group = group;
      used = used_in session group rows;
      reservation = Some (reservation_for shelf t holds);
    }

    moved : IsMoved
        (λ b. with_hold b
        (share (eligible_amount group t) (buckets_at (validity_of shelf) t ledger) due b))
        (validity_of shelf) t ledger after
    moved = record {
      rows = buckets_at-reserved shelf t session group units due ledger live distinct;
      number = λ b. refl;
    }

    by_test : (e : Bool) → is_key session group s g ≡ e →
        group_in s g (put group_before (is_of session group) row rows)
        ≡ group_at (validity_of shelf) t after s g
    by_test true q =
        let es : session ≡ s = key_session session group s g q in
        let eg : group ≡ g = key_group session group s g q in
        let same : row
        ≡ (let r : SessionGroup =
        record {
          session = session;
          group = group;
          used = used session group ledger;
          reservation = Some (reservation_for shelf t
              (parts all (buckets_at (validity_of shelf) t ledger)));
        } in
        r) = λ i. record {
          session = session;
          group = group;
          used = so_far i;
          reservation =
              Some (reservation_for shelf t (eh i));
        } in
        (λ i. group_in (sym es i) (sym eg i) (put group_before (is_of session group) row rows))
        ∙ find-put group_before (is_of session group) row rows (own_key session group)
        ∙ (λ i. Some (same i))
        ∙ sym (own_reserved shelf t session group units due ledger all live distinct each)
        ∙ (λ i. group_at (validity_of shelf) t after (es i) (eg i))
    by_test false q =
        find-put_other group_before (is_of session group) (is_of s g) row rows q
        (other_row session group s g q)
        ∙ h s g
        ∙ sym (same_group
        (λ b. with_hold b
        (share (eligible_amount group t) (buckets_at (validity_of shelf) t ledger) due b))
        (validity_of shelf) t ledger after s g moved
        (same_sessions-reserved shelf t session group units due ledger)
        (other_reserved shelf t session group units due ledger s g q))

-- ---- counters, and what isn't known

counter_reserved : (shelf : Shelf) (cycle_of : ℕ → ℕ) (t : ℕ) (session : List ℕ)
    (group units : ℕ) (due : Due) (ledger : Ledger) (g c : ℕ) →
    counter_at cycle_of ledger g c
    ≡ counter_at cycle_of (reserved shelf t session group units due ledger) g c
counter_reserved shelf cycle_of t session group units due ledger g c =
    let hs : List HeldAmount = holds_for shelf t group due ledger in
    let before : Ledger = granted shelf t session group units ledger in
    let after : Ledger = reserved shelf t session group units due ledger in
    let count : counter cycle_of g c ledger ≡ counter cycle_of g c after =
    omega (
      arith,
      if_none (cycle_of t == c),
      total-front (λ d. if cycle_of d.at == c then blocks_in g d.fact else 0)
          (hold_facts t session group hs) before
          (each_hold _ t session group hs (λ x. if_none (cycle_of t == c))),
    ) in
    let named : has_counter cycle_of g c after ≡ has_counter cycle_of g c ledger =
    any_dated-front (counts_group cycle_of g c) (hold_facts t session group hs) before
    (each_hold _ t session group hs (λ x. refl)) in
    let same :
    (let r : Counter = record { group = g; cycle = c; blocks = counter cycle_of g c ledger } in
    r) ≡ (let r : Counter =
    record { group = g; cycle = c; blocks = counter cycle_of g c after } in r) =
    λ i. record { group = g; cycle = c; blocks = count i } in
    λ i. (if sym named i then Some (same i) else None)

-- a live session is recorded
touched_live : (v : ℕ → ℕ) (t : ℕ) (ledger : Ledger) (s : List ℕ) →
    ((x : ℕ) → last_touch s ledger ≡ Some x →
    option_map (λ r. r.at) (last_recording s ledger) ≡ Some x) → is_live v t ledger s ≡ true →
    last_recording s ledger ≡ None → ⊥
touched_live v t ledger s h live none = by_touch (last_touch s ledger) refl
  where
    by_touch : (o : Option ℕ) → last_touch s ledger ≡ o → ⊥
    by_touch None e =
        let within : is_within v t (last_touch s ledger) ≡ true =
        first_true (is_within v t (last_touch s ledger)) (not (is_closed s ledger)) live in
        let out : is_within v t (last_touch s ledger) ≡ false = ap (is_within v t) e in
        cc
    by_touch (Some x) e = no_some x (sym (ap (option_map (λ r. r.at)) none) ∙ h x e)

unknown-reserved : (shelf : Shelf) (t : ℕ) (session : List ℕ) (group units : ℕ) (due : Due)
    (ledger : Ledger) (s : List ℕ) → is_same session s ≡ false → IsUnknown s ledger →
    IsUnknown s (reserved shelf t session group units due ledger)
unknown-reserved shelf t session group units due ledger s other h =
    let hs : List HeldAmount = holds_for shelf t group due ledger in
    let before : Ledger = granted shelf t session group units ledger in
    let p : List ℕ → ℕ → Bool = λ x g. is_same x s in
    record {
      closed = (same_sessions-reserved shelf t session group units due ledger).closed s
          ∙ h.closed;
      held = λ n. omega (
        arith,
        held-hold_facts_other p n t session group hs before other,
        h.held n,
      );
      granted =
          λ g. (other_reserved shelf t session group units due ledger s g
          (ap (λ x. x && group == g) other)).grant ∙ h.granted g;
    }

held_above : (shelf : Shelf) (t : ℕ) (session : List ℕ) (group units : ℕ) (due : Due)
    (ledger : Ledger)
    (n : ℕ) (p : List ℕ → ℕ → Bool) → sum_at n (holds_for shelf t group due ledger) ≡ 0 →
    held p n ledger ≡ 0 → held p n (reserved shelf t session group units due ledger) ≡ 0
held_above shelf t session group units due ledger n p sum none = by_test (p session group) refl
  where
    by_test : (b : Bool) → p session group ≡ b →
        held p n (reserved shelf t session group units due ledger) ≡ 0
    by_test true e =
        omega (
          arith,
          held-hold_facts p n t session group (holds_for shelf t group due ledger)
              (granted shelf t session group units ledger) e,
          sum,
          none,
        )
    by_test false e =
        omega (
          arith,
          held-hold_facts_other p n t session group (holds_for shelf t group due ledger)
              (granted shelf t session group units ledger) e,
          none,
        )

-- ---- the ledger stays sound: a grant is of a recorded session

pub IsSoundLedger-reserved : (shelf : Shelf) (t : ℕ) (session : List ℕ)
    (group units : ℕ) (due : Due)
    (ledger : Ledger) → IsBelow (next_bucket ledger) (buckets_at (validity_of shelf) t ledger) →
    (last_recording session ledger ≡ None → ⊥) → IsSoundLedger ledger →
    IsSoundLedger (reserved shelf t session group units due ledger)
IsSoundLedger-reserved shelf t session group units due ledger below has sound =
    let now : List BucketRow = buckets_at (validity_of shelf) t ledger in
    let hs : List HeldAmount = holds_for shelf t group due ledger in
    let before : Ledger = granted shelf t session group units ledger in
    let after : Ledger = reserved shelf t session group units due ledger in
    let same : SameSessions ledger after =
    same_sessions-reserved shelf t session group units due ledger in
    let next : next_bucket after ≡ next_bucket ledger =
    omega (
      arith,
      total-front (λ d. credits_in d.fact) (hold_facts t session group hs) before
          (each_hold _ t session group hs (λ x. refl)),
    ) in
    record {
      touched = same_touched ledger after same sound.touched;
      unknown = λ s e.
          let nothing : last_recording s ledger ≡ None = sym (same.recording s) ∙ e in
          unknown-reserved shelf t session group units due ledger s
          (not_true (is_same session s)
          (λ q. has (ap (λ x. last_recording x ledger) (same_from session s q) ∙ nothing)))
          (sound.unknown s nothing);
      fresh = λ n le. omega (
        arith,
        charged-hold_facts n t session group hs before,
        sound.fresh n (subst (λ (m : ℕ). m ≤ n) next le),
      );
      free = λ n counts le.
          let made : next_bucket ledger ≤ n = subst (λ (m : ℕ). m ≤ n) next le in
          held_above shelf t session group units due ledger n counts
          (sum_at_none (share (eligible_amount group t) now due) n now
          (differs_above (next_bucket ledger) n now below made)) (sound.free n counts made);
    }

-- ---- the rows of the ledger with the grant

-- an account whose group holds these, of which those that are due are new
abbrev pub holding_account : List ℕ → ℕ → Due → List HeldAmount → AccountRows → AccountRows
holding_account session group due holds a = record a {
  buckets = held_rows group a.as_of due a.buckets;
  groups = with_reservation session group (terms_at a.shelf a.as_of) holds a.groups;
}

pub IsRowsOf-holding : (ledger : Ledger) (a : AccountRows) (session : List ℕ)
    (group units : ℕ) (due : Due) (holds : List HeldAmount) (all : BucketRow → ℕ) →
    IsAccount a → IsRowsOf ledger a → is_live (validity_of a.shelf) a.as_of ledger session ≡ true →
    AreOwn a.shelf a.as_of session group units due ledger all →
    holds ≡ parts all (buckets_at (validity_of a.shelf) a.as_of ledger) →
    IsRowsOf (reserved a.shelf a.as_of session group units due ledger)
    (holding_account session group due holds a)
IsRowsOf-holding ledger a session group units due holds all account rows live own is =
    let shelf : Shelf = a.shelf in
    let v : ℕ → ℕ = (validity_of shelf) in
    let t : ℕ = a.as_of in
    let after : Ledger = reserved shelf t session group units due ledger in
    let before : Ledger = granted shelf t session group units ledger in
    let now : List BucketRow = buckets_at v t ledger in
    let hs : List HeldAmount = holds_for shelf t group due ledger in
    let sound : IsSound now = subst IsSound rows.buckets account.sound in
    let same : SameSessions ledger after =
    same_sessions-reserved shelf t session group units due ledger in
    record {
      barred = rows.barred
          ∙ sym (is_barred-front (hold_facts t session group hs) before
          (each_hold _ t session group hs (λ x. refl)));
      buckets =
          ap (held_rows group t due) rows.buckets
          ∙ sym (buckets_at-reserved shelf t session group units due ledger live sound.distinct);
      sessions = λ s. rows.sessions s ∙ sym (same_session v t ledger after same s);
      groups = groups-reserved shelf t session group units due ledger a.groups holds all live
          sound.distinct own is (used_in_is ledger a session group rows) rows.groups;
      counters =
          λ g c. rows.counters g c
          ∙ counter_reserved shelf (cycle_at shelf g) t session group units due ledger g c;
      next_bucket =
          rows.next_bucket
          ∙ omega (
            arith,
            total-front (λ d. credits_in d.fact) (hold_facts t session group hs) before
                (each_hold _ t session group hs (λ x. refl)),
          );
      next_charge =
          rows.next_charge
          ∙ omega (
            arith,
            total-front (λ d. uses_in d.fact) (hold_facts t session group hs) before
                (each_hold _ t session group hs (λ x. refl)),
          );
      sound = IsSoundLedger-reserved shelf t session group units due ledger
          (made_in ledger a account rows)
          (touched_live v t ledger session (rows.sound.touched session) live) rows.sound;
    }

-- where the group held nothing, it holds its shares
-- rule: grant-terms.terms-at, grant-held
pub IsRowsOf-reserved : (ledger : Ledger) (a : AccountRows) (session : List ℕ)
    (group units : ℕ) (due : Due) →
    IsAccount a → IsRowsOf ledger a → is_live (validity_of a.shelf) a.as_of ledger session ≡ true →
    reservation_in session group a.groups ≡ None →
    IsRowsOf (reserved a.shelf a.as_of session group units due ledger)
    (reserved_account session group due a)
IsRowsOf-reserved ledger a session group units due account rows live none =
    let t : ℕ = a.as_of in
    let now : List BucketRow = buckets_at (validity_of a.shelf) t ledger in
    let after : Ledger = reserved a.shelf t session group units due ledger in
    let sound : IsSound now = subst IsSound rows.buckets account.sound in
    let G : BucketRow → ℕ = share (eligible_amount group t) now due in
    let own : AreOwn a.shelf t session group units due ledger G =
    each_both (λ b. held (only session group) b.number ledger ≡ 0)
    (λ b. held (only session group) b.number after
    ≡ held (only session group) b.number ledger + G b)
    (λ b. held (only session group) b.number after ≡ G b) now
    (λ b nothing sum. omega (arith, nothing, sum))
    (held_free ledger a session group account rows live (ap is_some none))
    (each_own a.shelf t session group units due ledger G now (sum_at-parts G now sound.distinct)) in
    IsRowsOf-holding ledger a session group units due (holds_of group t due a.buckets) G account
    rows live own (ap (holds_of group t due) rows.buckets)

-- ---- what each account keeps

each_held : (rows after : List SessionGroup) (old hs : List HeldAmount) (all G : BucketRow → ℕ)
    (xs : List BucketRow) →
    ((b : BucketRow) → held_by (λ s. true) after b + held_in old b
    ≡ held_by (λ s. true) rows b + held_in hs b) →
    Each (λ b. sum_at b.number old + G b ≡ all b) xs → Each (λ b. sum_at b.number hs ≡ all b) xs →
    Each (λ b. held_by (λ s. true) rows b ≡ b.reserved) xs →
    Each (λ b. held_by (λ s. true) after b ≡ b.reserved) (map (λ b. with_hold b (G b)) xs)
each_held rows after old hs all G [] e o s h = tt
each_held rows after old hs all G (b ∷ bs) e o s h =
    let is : held_by (λ s. true) rows b ≡ b.reserved = h.0 in (
      omega (
        arith,
        is,
        held_by_number after b (with_hold b (G b)) refl,
        e b,
        held_in-sum_at hs b,
        held_in-sum_at old b,
        o.0,
        s.0,
      ),
      each_held rows after old hs all G bs e o.1 s.1 h.1,
    )

pub IsAccount-holding : (a : AccountRows) (session : List ℕ) (group : ℕ) (due : Due)
    (all : BucketRow → ℕ) →
    Each (λ b. sum_at b.number (reserved_in session group a.groups)
    + share (eligible_amount group a.as_of) a.buckets due b ≡ all b) a.buckets → IsAccount a →
    IsAccount (holding_account session group due (parts all a.buckets) a)
IsAccount-holding a session group due all each h =
    let t : ℕ = a.as_of in
    let hs : List HeldAmount = parts all a.buckets in
    let G : BucketRow → ℕ = share (eligible_amount group t) a.buckets due in
    let row : SessionGroup =
    record {
      session = session;
      group = group;
      used = used_in session group a.groups;
      reservation = Some (reservation_for a.shelf t hs);
    } in
    let after : List SessionGroup = put group_before (is_of session group) row a.groups in
    record {
      shelf = h.shelf;
      sound = subst IsSound
          (sym (by_shares-along with_hold (eligible_amount group t) a.buckets due h.sound.order))
          (IsSound-hold group t due a.buckets h.sound);
      below = IsBelow-map a.next_bucket (λ b. with_hold b (G b)) a.buckets (λ b. refl) h.below;
      next_bucket = h.next_bucket;
      next_charge = h.next_charge;
      sessions = h.sessions;
      groups = AreApart-put_group session group row a.groups (own_key session group) h.groups;
      counters = h.counters;
      used = EachIn-put (λ r. r.used ≤ 1000000000000000000) group_before (is_of session group) row
          a.groups
          (used_le session group 1000000000000000000 a.groups h.used) h.used;
      counted = h.counted;
      held = each_held a.groups after (reserved_in session group a.groups) hs all G a.buckets
          (λ b. held_by-put session group row a.groups b) each
          (sum_at-parts all a.buckets h.sound.distinct) h.held;
      named = λ b le. omega (
        arith,
        held_by-put session group row a.groups b,
        h.named b le,
        held_in-sum_at hs b,
        sum_at_none all b.number a.buckets
            (differs_above a.next_bucket b.number a.buckets h.below le),
      );
      order = EachIn-put _ group_before (is_of session group) row a.groups
          (order_changed (λ b. with_hold b (G b)) a.buckets hs (λ b. refl)
          (in_order_of all a.buckets h.sound.distinct))
          (order_map (λ b. with_hold b (G b)) a.buckets a.groups (λ b. refl) h.order);
    }

-- nothing is held, and what is due comes
each_free : (old : List HeldAmount) (G : BucketRow → ℕ) (xs : List BucketRow) → old ≡ [] →
    Each (λ b. sum_at b.number old + G b ≡ G b) xs
each_free old G [] e = tt
each_free old G (b ∷ bs) e =
    let none : sum_at b.number old ≡ 0 = ap (sum_at b.number) e in
    (omega (arith, none), each_free old G bs e)

pub IsAccount-reserved : (a : AccountRows) (session : List ℕ) (group : ℕ) (due : Due) →
    reservation_in session group a.groups ≡ None → IsAccount a →
    IsAccount (reserved_account session group due a)
IsAccount-reserved a session group due none h =
    let G : BucketRow → ℕ = share (eligible_amount group a.as_of) a.buckets due in
    IsAccount-holding a session group due G
    (each_free (reserved_in session group a.groups) G a.buckets (ap holds_in none)) h
