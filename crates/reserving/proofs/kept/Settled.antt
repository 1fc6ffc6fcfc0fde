-- What each account keeps is kept by a settlement, by the end of a reservation, and by rows without
-- facts.
use Rattle.std.proofs.Common.{◌≡◌, ℕ, ◌+◌, ◌-◌, ◌<◌, ◌≤◌, Bool, true, false, cond, List, [], ◌∷◌}
use Rattle.std.proofs.Common.{map, refl, sym, ap, subst, ◌∙◌, arith, Option, Some, None}
use Rattle.std.specs.Prelude.{if◌then◌else◌, unwrap_or, sum_by, ◌==◌, not, ◌&&◌}
use Rattle.std.specs.List.{list_any}
use Rattle.buckets.specs.declared.holds.HeldAmount.{HeldAmount}
use Rattle.buckets.specs.Row.{BucketRow, with_charge, with_charge_of_hold, with_release}
use Rattle.buckets.specs.Spend.{Each, IsSound}
use Rattle.buckets.specs.Holding.{held_in, IsWithin, paid_of_hold, paid_of_rest}
use Rattle.buckets.specs.Holding.{settled_row, settled_rows, unheld}
use Rattle.buckets.proofs.SharesAlong.{with_release_number}
use Rattle.buckets.proofs.Kept.{IsSound-charge, IsSound-charge_of_hold, IsSound-release}
use Rattle.buckets.proofs.Settling.{left_within, settled_rows-along, IsSound-release_rest}
use Rattle.buckets.specs.declared.kind.Due.{Due}
use Rattle.reserving.specs.declared.session.SessionGroup.{SessionGroup}
use Rattle.reserving.specs.declared.session.Counter.{Counter}
use Rattle.ledger.specs.Pricing.{cycle_at}
use Rattle.reserving.specs.Keyed.{put}
use Rattle.reserving.specs.Sessions.{is_of, group_in, is_counter, counter_in, holds_in, held_by}
use Rattle.reserving.specs.Changes.{new_group, group_or_new, used_in, reserved_in, count_in}
use Rattle.reserving.specs.Changes.{with_use, ended_group, ended_rows, settled_account}
use Rattle.reserving.specs.Prepared.{with_group, with_counter, counter_or_new, with_rows}
use Rattle.reserving.specs.Prepared.{with_group_row}
use Rattle.ledger.specs.Lists.{EachIn}
use Rattle.reserving.specs.Rows.{AreApart, AccountRows, IsAccount}
use Rattle.reserving.specs.Sessions.{group_before, counter_before}
use Rattle.reserving.proofs.Lists.{EachIn-put, EachIn-map, AreApart-map, AreApart-put, find-passes}
use Rattle.reserving.proofs.Lists.{none_passing, each_none}
use Rattle.reserving.proofs.Keys.{is_key, is_key-sym, own_key, key_session, key_group, is_cycle}
use Rattle.reserving.proofs.Keys.{own_cycle, cycle_group, cycle_cycle, same_tests}
use Rattle.reserving.proofs.KeysFound.{ended_put, ended_unnamed}
use Rattle.reserving.proofs.kept.Parts.{IsAccount-with}
use Rattle.reserving.proofs.InOrder.{order_map, order_none, order_either, order_or_new}
pub use Rattle.reserving.proofs.rows.Lapsing.{IsBelow-map, released_reserved}

-- ---- the purse

pub IsSound-settled : (holds : List HeldAmount) (group t : ℕ) (due : Due) (rows : List BucketRow) →
    IsWithin holds rows → IsSound rows → IsSound (settled_rows holds group t due rows)
IsSound-settled holds group t due rows w h =
    let left : Due = unheld holds due rows in
    subst IsSound (settled_rows-along holds group t due rows h.order)
    (IsSound-release_rest holds t due _ (left_within holds group t due left rows w)
    (IsSound-charge group t left _ (IsSound-charge_of_hold holds due rows w h)))

pub settled_reserved : (holds : List HeldAmount) (group t : ℕ) (due : Due) (rows : List BucketRow)
    (b : BucketRow) →
    (settled_row holds group t due rows b).reserved ≡ b.reserved - held_in holds b
settled_reserved holds group t due rows b =
    let part : paid_of_hold holds due rows b ≤ held_in holds b = omega arith in
    released_reserved t
    (with_charge (with_charge_of_hold b (paid_of_hold holds due rows b))
    (paid_of_rest holds group t due rows b))
    (held_in holds b - paid_of_hold holds due rows b) ∙ omega arith

pub settled_number : (holds : List HeldAmount) (group t : ℕ) (due : Due) (rows : List BucketRow)
    (b : BucketRow) →
    (settled_row holds group t due rows b).number ≡ b.number
settled_number holds group t due rows b =
    with_release_number t
    (with_charge (with_charge_of_hold b (paid_of_hold holds due rows b))
    (paid_of_rest holds group t due rows b)) (held_in holds b - paid_of_hold holds due rows b)

-- ---- what the rows hold

pub held_by_number : (rows : List SessionGroup) (b x : BucketRow) → x.number ≡ b.number →
    held_by (λ s. true) rows x ≡ held_by (λ s. true) rows b
held_by_number [] b x e = refl
held_by_number (r ∷ rs) b x e =
    let one : held_in (holds_in r.reservation) x ≡ held_in (holds_in r.reservation) b =
    ap (λ n. sum_by (λ h. if h.bucket == n then h.amount else 0) (holds_in r.reservation)) e in
    omega (arith, held_by_number rs b x e)

-- a row is put in the place of another
pub held_by-put : (s : List ℕ) (g : ℕ) (r : SessionGroup) (rows : List SessionGroup)
    (b : BucketRow) →
    held_by (λ s. true) (put group_before (is_of s g) r rows) b + held_in (reserved_in s g rows) b
    ≡ held_by (λ s. true) rows b + held_in (holds_in r.reservation) b
held_by-put s g r [] b = omega arith
held_by-put s g r (y ∷ ys) b =
    by_test (is_of s g y) (group_before r y) (list_any (is_of s g) ys) refl
    (held_by-put s g r ys b)
  where
    by_test : (t u a : Bool) → list_any (is_of s g) ys ≡ a →
        held_by (λ s. true) (put group_before (is_of s g) r ys) b + held_in (reserved_in s g ys) b
        ≡ held_by (λ s. true) ys b + held_in (holds_in r.reservation) b →
        held_by (λ s. true)
        (if t then r ∷ ys
        else (if u && not a then r ∷ y ∷ ys else y ∷ put group_before (is_of s g) r ys)) b
        + held_in
        (holds_in (unwrap_or (cond t (Some y) (group_in s g ys)) (new_group s g)).reservation) b
        ≡ held_in (holds_in y.reservation) b + held_by (λ s. true) ys b
        + held_in (holds_in r.reservation) b
    by_test true u a e rest = omega arith
    by_test false true false e rest =
        let none : held_in (reserved_in s g ys) b ≡ 0 =
        ap (λ o. held_in (holds_in (unwrap_or o (new_group s g)).reservation) b)
        (each_none (is_of s g) ys (none_passing (is_of s g) ys e)) in
        omega (arith, none)
    by_test false true true e rest = omega (arith, rest)
    by_test false false a e rest = omega (arith, rest)

pub held_in_le : (s : List ℕ) (g : ℕ) (rows : List SessionGroup) (b : BucketRow) →
    held_in (reserved_in s g rows) b ≤ held_by (λ s. true) rows b
held_in_le s g [] b = omega arith
held_in_le s g (y ∷ ys) b = by_test (is_of s g y) (held_in_le s g ys b)
  where
    by_test : (t : Bool) → held_in (reserved_in s g ys) b ≤ held_by (λ s. true) ys b →
        held_in (holds_in
        (unwrap_or (cond t (Some y) (group_in s g ys)) (new_group s g)).reservation) b
        ≤ held_in (holds_in y.reservation) b + held_by (λ s. true) ys b
    by_test true rest = omega arith
    by_test false rest = omega arith

-- what a row has reserved is within what the buckets have
pub within_of : (s : List ℕ) (g : ℕ) (rows : List SessionGroup) (xs : List BucketRow) →
    Each (λ b. held_by (λ s. true) rows b ≡ b.reserved) xs → IsWithin (reserved_in s g rows) xs
within_of s g rows [] h = tt
within_of s g rows (b ∷ bs) h = (
  let is : held_by (λ s. true) rows b ≡ b.reserved = h.0 in omega (arith, held_in_le s g rows b),
  within_of s g rows bs h.1,
)

-- the rows without what one of them held
pub record IsEnded (s : List ℕ) (g : ℕ) (rows after : List SessionGroup) : Type 0 where
  pub held : (b : BucketRow) →
      held_by (λ s. true) after b + held_in (reserved_in s g rows) b ≡ held_by (λ s. true) rows b

each_ended : (s : List ℕ) (g : ℕ) (rows after : List SessionGroup) (does : BucketRow → BucketRow)
    (xs : List BucketRow) → IsEnded s g rows after →
    ((b : BucketRow) → (does b).number ≡ b.number) →
    ((b : BucketRow) → (does b).reserved ≡ b.reserved - held_in (reserved_in s g rows) b) →
    Each (λ b. held_by (λ s. true) rows b ≡ b.reserved) xs →
    Each (λ b. held_by (λ s. true) after b ≡ b.reserved) (map does xs)
each_ended s g rows after does [] e k r h = tt
each_ended s g rows after does (b ∷ bs) e k r h =
    let is : held_by (λ s. true) rows b ≡ b.reserved = h.0 in (
      omega (arith, held_by_number after b (does b) (k b), r b, e.held b),
      each_ended s g rows after does bs e k r h.1,
    )

-- ---- keys

pub AreApart-put_group : (s : List ℕ) (g : ℕ) (r : SessionGroup) (rows : List SessionGroup) →
    is_of s g r ≡ true → AreApart (λ x y. is_of x.session x.group y) rows →
    AreApart (λ x y. is_of x.session x.group y) (put group_before (is_of s g) r rows)
AreApart-put_group s g r rows key h =
    AreApart-put (λ x y. is_of x.session x.group y) group_before (is_of s g) r
    (λ y z e i. is_of ((key_session y.session y.group s g e ∙ sym es) i)
    ((key_group y.session y.group s g e ∙ sym eg) i) z)
    (λ y e. (λ i. is_of (es i) (eg i) y) ∙ e)
    (λ y e. (λ i. is_key (es i) (eg i) y.session y.group) ∙ is_key-sym s g y.session y.group ∙ e)
    rows h
  where
    es : r.session ≡ s
    es = key_session r.session r.group s g key

    eg : r.group ≡ g
    eg = key_group r.session r.group s g key

pub is_cycle-sym : (g c g' c' : ℕ) → is_cycle g c g' c' ≡ is_cycle g' c' g c
is_cycle-sym g c g' c' = same_tests (is_cycle g c g' c') (is_cycle g' c' g c)
    (λ h. (λ i. is_cycle (sym (cycle_group g c g' c' h) i) (sym (cycle_cycle g c g' c' h) i) g c)
    ∙ own_cycle g c)
    (λ h. (λ i. is_cycle (sym (cycle_group g' c' g c h) i) (sym (cycle_cycle g' c' g c h) i) g' c')
    ∙ own_cycle g' c')

pub AreApart-put_counter : (g c : ℕ) (r : Counter) (rows : List Counter) → is_counter g c r ≡ true →
    AreApart (λ x y. is_counter x.group x.cycle y) rows →
    AreApart (λ x y. is_counter x.group x.cycle y) (put counter_before (is_counter g c) r rows)
AreApart-put_counter g c r rows key h =
    AreApart-put (λ x y. is_counter x.group x.cycle y) counter_before (is_counter g c) r
    (λ y z e i. is_counter ((cycle_group y.group y.cycle g c e ∙ sym eg) i)
    ((cycle_cycle y.group y.cycle g c e ∙ sym ec) i) z)
    (λ y e. (λ i. is_counter (eg i) (ec i) y) ∙ e)
    (λ y e. (λ i. is_cycle (eg i) (ec i) y.group y.cycle) ∙ is_cycle-sym g c y.group y.cycle ∙ e)
    rows h
  where
    eg : r.group ≡ g
    eg = cycle_group r.group r.cycle g c key

    ec : r.cycle ≡ c
    ec = cycle_cycle r.group r.cycle g c key

-- ---- a settlement

-- rule: holds.held
pub IsAccount-settled : (a : AccountRows) (session : List ℕ) (group units blocks : ℕ) (due : Due) →
    used_in session group a.groups + units ≤ 1000000000000000000 →
    count_in group (cycle_at a.shelf group a.as_of) a.counters + blocks ≤ 4000000000000000000 →
    a.next_charge < 4294967296 →
    IsAccount a → IsAccount (settled_account session group units blocks due a)
IsAccount-settled a session group units blocks due used_fits count_fits charge_fits h =
    let holds : List HeldAmount = reserved_in session group a.groups in
    let within : IsWithin holds a.buckets = within_of session group a.groups a.buckets h.held in
    let cycle : ℕ = cycle_at a.shelf group a.as_of in
    record {
      shelf = h.shelf;
      sound = IsSound-settled holds group a.as_of due a.buckets within h.sound;
      below = IsBelow-map a.next_bucket (settled_row holds group a.as_of due a.buckets) a.buckets
          (settled_number holds group a.as_of due a.buckets) h.below;
      next_bucket = h.next_bucket;
      next_charge = omega arith;
      sessions = h.sessions;
      groups = AreApart-put_group session group
          (record {
            session = session;
            group = group;
            used = used_in session group a.groups + units;
            reservation = None;
          }) a.groups (own_key session group) h.groups;
      counters =
          AreApart-put_counter group cycle
          (record {
            group = group;
            cycle = cycle;
            blocks = count_in group cycle a.counters + blocks;
          }) a.counters (own_cycle group cycle)
          h.counters;
      used = EachIn-put (λ r. r.used ≤ 1000000000000000000) group_before (is_of session group)
          (record {
            session = session;
            group = group;
            used = used_in session group a.groups + units;
            reservation = None;
          }) a.groups used_fits h.used;
      counted =
          EachIn-put (λ r. r.blocks ≤ 4000000000000000000) counter_before (is_counter group cycle)
          (record {
            group = group;
            cycle = cycle;
            blocks = count_in group cycle a.counters + blocks;
          }) a.counters count_fits h.counted;
      held = each_ended session group a.groups (with_use session group units a.groups)
          (settled_row holds group a.as_of due a.buckets) a.buckets
          (record {
            held =
                λ b. held_by-put session group
                (record {
                  session = session;
                  group = group;
                  used = used_in session group a.groups + units;
                  reservation = None;
                }) a.groups b
                ∙ omega arith;
          })
          (settled_number holds group a.as_of due a.buckets)
          (settled_reserved holds group a.as_of due a.buckets) h.held;
      named = λ b le. omega (
        arith,
        held_by-put session group
            (record {
              session = session;
              group = group;
              used = used_in session group a.groups + units;
              reservation = None;
            }) a.groups b,
        h.named b le,
      );
      order = order_map (settled_row holds group a.as_of due a.buckets) a.buckets
          (with_use session group units a.groups)
          (settled_number holds group a.as_of due a.buckets)
          (EachIn-put _ group_before (is_of session group)
          (record {
            session = session;
            group = group;
            used = used_in session group a.groups + units;
            reservation = None;
          }) a.groups
          (order_none a.buckets) h.order);
    }

-- ---- the end of a reservation

ended_keys : (t : Bool) (r : SessionGroup) →
    (let x : SessionGroup = if t then record r { reservation = None } else r in
    (x.session ≡ r.session) × (x.group ≡ r.group) × (x.used ≡ r.used))
ended_keys true r = (refl, refl, refl)
ended_keys false r = (refl, refl, refl)

pub held_ended : (s : List ℕ) (g : ℕ) (rows : List SessionGroup) →
    AreApart (λ x y. is_of x.session x.group y) rows → IsEnded s g rows (map (ended_group s g) rows)
held_ended s g rows apart = by_row (group_in s g rows) refl
  where
    by_row : (o : Option SessionGroup) → group_in s g rows ≡ o →
        IsEnded s g rows (map (ended_group s g) rows)
    by_row (Some x) e =
        let ended : SessionGroup = record x { reservation = None } in
        let same : map (ended_group s g) rows ≡ put group_before (is_of s g) ended rows =
        ended_put s g x rows apart e in
        record {
          held = λ b. ap (λ rs. held_by (λ s. true) rs b + held_in (reserved_in s g rows) b)
              same ∙ held_by-put s g ended rows b ∙ omega arith;
        }
    by_row None e =
        let none : reserved_in s g rows ≡ [] =
        ap (λ o. holds_in (unwrap_or o (new_group s g)).reservation) e in
        record {
          held =
              λ b. (λ i. held_by (λ s. true) (ended_unnamed s g rows e i) b + held_in (none i) b)
              ∙ omega arith;
        }

pub IsAccount-ended : (a : AccountRows) (session : List ℕ) (group : ℕ) → IsAccount a →
    IsAccount (ended_rows session group a)
IsAccount-ended a session group h =
    let holds : List HeldAmount = reserved_in session group a.groups in
    let within : IsWithin holds a.buckets = within_of session group a.groups a.buckets h.held in
    record {
      shelf = h.shelf;
      sound = IsSound-release holds a.as_of a.buckets within h.sound;
      below = IsBelow-map a.next_bucket (λ b. with_release a.as_of b (held_in holds b)) a.buckets
          (λ b. with_release_number a.as_of b (held_in holds b)) h.below;
      next_bucket = h.next_bucket;
      next_charge = h.next_charge;
      sessions = h.sessions;
      groups = AreApart-map (λ x y. is_of x.session x.group y) (ended_group session group) a.groups
          (λ x y. (λ i. is_key ((ended_keys (is_of session group y) y).0 i)
          ((ended_keys (is_of session group y) y).1 i)
          ((ended_keys (is_of session group x) x).0 i)
          ((ended_keys (is_of session group x) x).1 i))) h.groups;
      counters = h.counters;
      used = EachIn-map (λ r. r.used ≤ 1000000000000000000) (λ r. r.used ≤ 1000000000000000000)
          (ended_group session group) a.groups
          (λ x le. omega (arith, (ended_keys (is_of session group x) x).2)) h.used;
      counted = h.counted;
      held = each_ended session group a.groups (map (ended_group session group) a.groups)
          (λ b. with_release a.as_of b (held_in holds b)) a.buckets
          (held_ended session group a.groups h.groups)
          (λ b. with_release_number a.as_of b (held_in holds b))
          (λ b. released_reserved a.as_of b (held_in holds b)) h.held;
      named = λ b le. omega (
        arith,
        (held_ended session group a.groups h.groups).held b,
        h.named b le,
      );
      order = order_map (λ b. with_release a.as_of b (held_in holds b)) a.buckets
          (map (ended_group session group) a.groups)
          (λ b. with_release_number a.as_of b (held_in holds b))
          (EachIn-map _ _ (ended_group session group) a.groups
          (λ r o. order_either (is_of session group r) r a.buckets o) h.order);
    }

-- ---- rows without facts

pub or_new_key : (s : List ℕ) (g : ℕ) (rows : List SessionGroup) →
    is_of s g (group_or_new s g rows) ≡ true
or_new_key s g rows = by_row (group_in s g rows) refl
  where
    by_row : (o : Option SessionGroup) → group_in s g rows ≡ o →
        is_of s g (unwrap_or o (new_group s g)) ≡ true
    by_row (Some x) e = find-passes (is_of s g) rows x e
    by_row None e = own_key s g

pub used_le : (s : List ℕ) (g most : ℕ) (rows : List SessionGroup) →
    EachIn (λ r. r.used ≤ most) rows → used_in s g rows ≤ most
used_le s g most [] h = omega arith
used_le s g most (y ∷ ys) h = by_test (is_of s g y) (used_le s g most ys h.1)
  where
    by_test : (t : Bool) → used_in s g ys ≤ most →
        (unwrap_or (cond t (Some y) (group_in s g ys)) (new_group s g)).used ≤ most
    by_test true rest = h.0
    by_test false rest = rest

pub or_new_cycle : (g c : ℕ) (rows : List Counter) → is_counter g c (counter_or_new g c rows) ≡ true
or_new_cycle g c rows = by_row (counter_in g c rows) refl
  where
    by_row : (o : Option Counter) → counter_in g c rows ≡ o →
        is_counter g c (unwrap_or o (record { group = g; cycle = c; blocks = 0 })) ≡ true
    by_row (Some x) e = find-passes (is_counter g c) rows x e
    by_row None e = own_cycle g c

counted_le : (g c most : ℕ) (rows : List Counter) → EachIn (λ r. r.blocks ≤ most) rows →
    (counter_or_new g c rows).blocks ≤ most
counted_le g c most [] h = omega arith
counted_le g c most (y ∷ ys) h = by_test (is_counter g c y) (counted_le g c most ys h.1)
  where
    by_test : (t : Bool) → (counter_or_new g c ys).blocks ≤ most →
        (unwrap_or (cond t (Some y) (counter_in g c ys))
        (record { group = g; cycle = c; blocks = 0 })).blocks ≤ most
    by_test true rest = h.0
    by_test false rest = rest

each_kept : (rows after : List SessionGroup) (xs : List BucketRow) →
    ((b : BucketRow) → held_by (λ s. true) after b ≡ held_by (λ s. true) rows b) →
    Each (λ b. held_by (λ s. true) rows b ≡ b.reserved) xs →
    Each (λ b. held_by (λ s. true) after b ≡ b.reserved) xs
each_kept rows after [] k h = tt
each_kept rows after (b ∷ bs) k h = (k b ∙ h.0, each_kept rows after bs k h.1)

pub IsAccount-with_group_row : (a : AccountRows) (session : List ℕ) (group : ℕ) → IsAccount a →
    IsAccount (with_group_row session group a)
IsAccount-with_group_row a session group h =
    let row : SessionGroup = group_or_new session group a.groups in
    record {
      shelf = h.shelf;
      sound = h.sound;
      below = h.below;
      next_bucket = h.next_bucket;
      next_charge = h.next_charge;
      sessions = h.sessions;
      groups = AreApart-put_group session group row a.groups (or_new_key session group a.groups)
          h.groups;
      counters = h.counters;
      used = EachIn-put (λ r. r.used ≤ 1000000000000000000) group_before (is_of session group) row
          a.groups
          (used_le session group 1000000000000000000 a.groups h.used) h.used;
      counted = h.counted;
      held = each_kept a.groups (with_group session group a.groups) a.buckets
          (λ b. let same : held_by (λ s. true) (with_group session group a.groups) b
          + held_in (reserved_in session group a.groups) b
          ≡ held_by (λ s. true) a.groups b + held_in (reserved_in session group a.groups) b =
          held_by-put session group row a.groups b in omega arith) h.held;
      named = λ b le. let same : held_by (λ s. true) (with_group session group a.groups) b
          + held_in (reserved_in session group a.groups) b
          ≡ held_by (λ s. true) a.groups b + held_in (reserved_in session group a.groups) b =
          held_by-put session group row a.groups b in omega (arith, h.named b le);
      order = EachIn-put _ group_before (is_of session group) row a.groups
          (order_or_new session group a.buckets a.groups h.order) h.order;
    }

pub IsAccount-with_rows : (a : AccountRows) (session : List ℕ) (group cycle : ℕ) → IsAccount a →
    IsAccount (with_rows session group cycle a)
IsAccount-with_rows a session group cycle h =
    let row : Counter = counter_or_new group cycle a.counters in
    IsAccount-with (with_group_row session group a) a.barred a.sessions
    (with_counter group cycle a.counters) h.sessions
    (AreApart-put_counter group cycle row a.counters (or_new_cycle group cycle a.counters)
    h.counters)
    (EachIn-put (λ r. r.blocks ≤ 4000000000000000000) counter_before (is_counter group cycle) row
    a.counters
    (counted_le group cycle 4000000000000000000 a.counters h.counted) h.counted)
    (IsAccount-with_group_row a session group h)
