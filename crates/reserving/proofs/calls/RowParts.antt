-- The rows as a call leaves them, part by part; and time going on in rows without facts.
use Rattle.std.proofs.Common.{◌≡◌, ℕ, ◌+◌, Bool, true, false, List, ◌∷◌, map, refl, sym}
use Rattle.std.proofs.Common.{ap, ◌∙◌, arith, Option, Some, None}
use Rattle.std.specs.Prelude.{if◌then◌else◌, unwrap_or, option_map, not}
use Rattle.buckets.specs.declared.holds.HeldAmount.{HeldAmount}
use Rattle.buckets.specs.Row.{BucketRow, with_release, with_end}
use Rattle.buckets.specs.Holding.{held_in, settled_rows, released_rows}
use Rattle.buckets.specs.declared.kind.Due.{Due}
use Rattle.reserving.specs.declared.session.SessionGroup.{SessionGroup}
use Rattle.reserving.specs.declared.session.Reservation.{Reservation}
use Rattle.reserving.specs.declared.session.Counter.{Counter}
use Rattle.ledger.specs.Pricing.{cycle_at, validity_of}
use Rattle.reserving.specs.Keyed.{put}
use Rattle.reserving.specs.Sessions.{is_of, group_in, is_counter, counter_in, holds_in, held_by}
use Rattle.reserving.specs.Sessions.{is_live_in}
use Rattle.reserving.specs.Changes.{lapse_group, lapsed_in, advanced, new_group, group_or_new}
use Rattle.reserving.specs.Changes.{used_in, reserved_in, terms_in, count_in, with_use}
use Rattle.reserving.specs.Changes.{with_count, ended_group, ended_rows, settled_account}
use Rattle.reserving.specs.Prepared.{with_group, counter_or_new, with_counter, with_rows}
use Rattle.reserving.specs.Rows.{AccountRows}
use Rattle.reserving.specs.Sessions.{group_before, counter_before}
use Rattle.reserving.proofs.Lists.{find-map, find-put, put-put, map-put, any_none}
use Rattle.reserving.proofs.Keys.{key_session, key_group, cycle_group, cycle_cycle}
use Rattle.reserving.proofs.order.KeyRows.{group_before_alike, counter_before_alike, held_reordered}
use Rattle.reserving.proofs.Reordered.{put_new}
use Rattle.reserving.proofs.KeysFound.{kept_group, found_session}
use Rattle.reserving.proofs.kept.Settled.{or_new_key, or_new_cycle}

-- ---- part by part

pub ended_parts : (a : AccountRows) (s : List ℕ) (g : ℕ) (holds : List HeldAmount)
    (buckets : List BucketRow)
    (groups : List SessionGroup) →
    holds ≡ reserved_in s g a.groups → buckets ≡ released_rows holds a.as_of a.buckets →
    groups ≡ map (ended_group s g) a.groups →
    (let x : AccountRows = record a { buckets = buckets; groups = groups } in x) ≡ ended_rows s g a
ended_parts a s g holds buckets groups h b k =
    let moved : buckets ≡ released_rows (reserved_in s g a.groups) a.as_of a.buckets =
    b ∙ ap (λ x. released_rows x a.as_of a.buckets) h in
    λ i. record a { buckets = moved i; groups = k i }

-- what a charge leaves: the buckets, the counters, the groups and the next charge's number
pub charged_parts : (a : AccountRows) (g cycle blocks : ℕ) (due : Due)
    (holds given : List HeldAmount)
    (buckets : List BucketRow) (counters : List Counter) (groups leaves : List SessionGroup) →
    cycle ≡ cycle_at a.shelf g a.as_of →
    holds ≡ given → buckets ≡ settled_rows holds g a.as_of due a.buckets →
    counters ≡ with_count g cycle blocks a.counters → groups ≡ leaves →
    (let x : AccountRows = record a {
      buckets = buckets;
      counters = counters;
      groups = groups;
      next_charge = a.next_charge + 1;
    } in x)
    ≡ (let y : AccountRows = record a {
      buckets = settled_rows given g a.as_of due a.buckets;
      counters = with_count g (cycle_at a.shelf g a.as_of) blocks a.counters;
      groups = leaves;
      next_charge = a.next_charge + 1;
    } in y)
charged_parts a g cycle blocks due holds given buckets counters groups leaves e h b c k =
    let moved : buckets ≡ settled_rows given g a.as_of due a.buckets =
    b ∙ ap (λ x. settled_rows x g a.as_of due a.buckets) h in
    let counted : counters ≡ with_count g (cycle_at a.shelf g a.as_of) blocks a.counters =
    c ∙ ap (λ x. with_count g x blocks a.counters) e in
    λ i. record a {
      buckets = moved i;
      counters = counted i;
      groups = k i;
      next_charge = a.next_charge + 1;
    }

pub settled_parts : (a : AccountRows) (s : List ℕ) (g cycle units blocks : ℕ) (due : Due)
    (holds : List HeldAmount) (buckets : List BucketRow) (counters : List Counter)
    (groups : List SessionGroup)
    →
    cycle ≡ cycle_at a.shelf g a.as_of →
    holds ≡ reserved_in s g a.groups → buckets ≡ settled_rows holds g a.as_of due a.buckets →
    counters ≡ with_count g cycle blocks a.counters → groups ≡ with_use s g units a.groups →
    (let x : AccountRows = record a {
      buckets = buckets;
      counters = counters;
      groups = groups;
      next_charge = a.next_charge + 1;
    } in x) ≡ settled_account s g units blocks due a
settled_parts a s g cycle units blocks due holds buckets counters groups e h b c k =
    charged_parts a g cycle blocks due holds (reserved_in s g a.groups) buckets counters groups
    (with_use s g units a.groups) e h b c k

-- ---- rows without facts

lapsed_key : (t : Bool) (r : SessionGroup) (s : List ℕ) (g : ℕ) →
    is_of s g (if t then r else record r { reservation = None }) ≡ is_of s g r
lapsed_key true r s g = refl
lapsed_key false r s g = refl

pub key_kept : (keeps : List ℕ → Bool) (s : List ℕ) (g : ℕ) (r : SessionGroup) →
    is_of s g (lapse_group keeps r) ≡ is_of s g r
key_kept keeps s g r = lapsed_key (keeps r.session) r s g

session_kept : (keeps : List ℕ → Bool) (r : SessionGroup) →
    (lapse_group keeps r).session ≡ r.session
session_kept keeps r = at (keeps r.session)
  where
    at : (t : Bool) → (if t then r else record r { reservation = None }).session ≡ r.session
    at true = refl
    at false = refl

group_kept : (keeps : List ℕ → Bool) (r : SessionGroup) → (lapse_group keeps r).group ≡ r.group
group_kept keeps r = at (keeps r.session)
  where
    at : (t : Bool) → (if t then r else record r { reservation = None }).group ≡ r.group
    at true = refl
    at false = refl

-- time leaves the order of rows
pub before_kept : (keeps : List ℕ → Bool) (x y : SessionGroup) →
    group_before (lapse_group keeps x) (lapse_group keeps y) ≡ group_before x y
before_kept keeps x y =
    group_before_alike (lapse_group keeps x) x (lapse_group keeps y) y (session_kept keeps x)
    (group_kept keeps x) (session_kept keeps y) (group_kept keeps y)

-- a group's row, as time goes on
pub lapsed_group : (keeps : List ℕ → Bool) (s : List ℕ) (g : ℕ) (rows : List SessionGroup) →
    map (lapse_group keeps) (with_group s g rows)
    ≡ put group_before (is_of s g) (lapse_group keeps (group_or_new s g rows))
    (map (lapse_group keeps) rows)
lapsed_group keeps s g rows =
    map-put group_before (lapse_group keeps) (is_of s g) (group_or_new s g rows) rows
    (key_kept keeps s g) (before_kept keeps (group_or_new s g rows))

pub put_later : (keeps : List ℕ → Bool) (s : List ℕ) (g : ℕ) (x : SessionGroup)
    (rows : List SessionGroup) → x.session ≡ s → x.group ≡ g →
    put group_before (is_of s g) x (map (lapse_group keeps) (with_group s g rows))
    ≡ put group_before (is_of s g) x (map (lapse_group keeps) rows)
put_later keeps s g x rows es eg =
    let y : SessionGroup = lapse_group keeps (group_or_new s g rows) in
    let own : is_of s g y ≡ true =
    key_kept keeps s g (group_or_new s g rows) ∙ or_new_key s g rows in
    ap (put group_before (is_of s g) x) (lapsed_group keeps s g rows)
    ∙ put-put group_before (is_of s g) x y (map (lapse_group keeps) rows) own
    (λ z. group_before_alike x y z z (es ∙ sym (key_session y.session y.group s g own))
    (eg ∙ sym (key_group y.session y.group s g own)) refl refl)

pub group_later : (keeps : List ℕ → Bool) (s : List ℕ) (g : ℕ) (rows : List SessionGroup) →
    group_in s g (map (lapse_group keeps) (with_group s g rows))
    ≡ Some (lapse_group keeps (group_or_new s g rows))
group_later keeps s g rows =
    ap (group_in s g) (lapsed_group keeps s g rows)
    ∙ find-put group_before (is_of s g) (lapse_group keeps (group_or_new s g rows))
    (map (lapse_group keeps) rows)
    (key_kept keeps s g (group_or_new s g rows) ∙ or_new_key s g rows)

lapsed_new : (t : Bool) (s : List ℕ) (g : ℕ) →
    (let n : SessionGroup = new_group s g in (if t then n else record n { reservation = None }) ≡ n)
lapsed_new true s g = refl
lapsed_new false s g = refl

-- the row that a group has or would have, as time goes on
pub or_new_later : (keeps : List ℕ → Bool) (s : List ℕ) (g : ℕ) (rows : List SessionGroup) →
    group_or_new s g (map (lapse_group keeps) (with_group s g rows))
    ≡ group_or_new s g (map (lapse_group keeps) rows)
or_new_later keeps s g rows =
    ap (λ o. unwrap_or o (new_group s g)) (group_later keeps s g rows)
    ∙ by_row (group_in s g rows)
    ∙ sym (ap (λ o. unwrap_or o (new_group s g))
    (find-map (is_of s g) (lapse_group keeps) rows (key_kept keeps s g)))
  where
    by_row : (o : Option SessionGroup) →
        lapse_group keeps (unwrap_or o (new_group s g))
        ≡ unwrap_or (option_map (lapse_group keeps) o) (new_group s g)
    by_row (Some x) = refl
    by_row None = lapsed_new (keeps s) s g

lapsed_used : (t : Bool) (r : SessionGroup) →
    (if t then r else record r { reservation = None }).used ≡ r.used
lapsed_used true r = refl
lapsed_used false r = refl

-- time doesn't change what is used
pub used_later : (keeps : List ℕ → Bool) (s : List ℕ) (g : ℕ) (rows : List SessionGroup) →
    used_in s g (map (lapse_group keeps) rows) ≡ used_in s g rows
used_later keeps s g rows =
    ap (λ o. (unwrap_or o (new_group s g)).used)
    (find-map (is_of s g) (lapse_group keeps) rows (key_kept keeps s g))
    ∙ by_row (group_in s g rows)
  where
    by_row : (o : Option SessionGroup) →
        (unwrap_or (option_map (lapse_group keeps) o) (new_group s g)).used
        ≡ (unwrap_or o (new_group s g)).used
    by_row (Some x) = lapsed_used (keeps x.session) x
    by_row None = refl

kept_periods : (t : Bool) (r : SessionGroup) → t ≡ true →
    (let x : SessionGroup = if t then r else record r { reservation = None } in
    option_map (λ (y : Reservation). y.terms) x.reservation
    ≡ option_map (λ (y : Reservation). y.terms) r.reservation)
kept_periods true r h = refl
kept_periods false r h = cc

-- a session that keeps its reservations keeps their periods
kept_holds : (b : Bool) (x : SessionGroup) → b ≡ true →
    holds_in (if b then x else record x { reservation = None }).reservation ≡ holds_in x.reservation
kept_holds b x e = ap (λ t. holds_in (if t then x else record x { reservation = None }).reservation)
    e

-- a live session's reservation stays
pub reserved_later : (keeps : List ℕ → Bool) (s : List ℕ) (g : ℕ) (rows : List SessionGroup) →
    keeps s ≡ true → reserved_in s g (map (lapse_group keeps) rows) ≡ reserved_in s g rows
reserved_later keeps s g rows h =
    ap (λ o. holds_in (unwrap_or o (new_group s g)).reservation)
    (find-map (is_of s g) (lapse_group keeps) rows (key_kept keeps s g))
    ∙ by_row (group_in s g rows) refl
  where
    by_row : (o : Option SessionGroup) → group_in s g rows ≡ o →
        holds_in (unwrap_or (option_map (lapse_group keeps) o) (new_group s g)).reservation
        ≡ holds_in (unwrap_or o (new_group s g)).reservation
    by_row (Some x) e = kept_holds (keeps x.session) x (ap keeps (found_session s g rows x e) ∙ h)
    by_row None e = refl

pub periods_later : (keeps : List ℕ → Bool) (s : List ℕ) (g : ℕ) (rows : List SessionGroup) →
    keeps s ≡ true → terms_in s g (map (lapse_group keeps) rows) ≡ terms_in s g rows
periods_later keeps s g rows h =
    ap (λ o. option_map (λ (y : Reservation). y.terms) (unwrap_or o (new_group s g)).reservation)
    (find-map (is_of s g) (lapse_group keeps) rows (key_kept keeps s g))
    ∙ by_row (group_in s g rows) refl
  where
    by_row : (o : Option SessionGroup) → group_in s g rows ≡ o →
        option_map (λ (y : Reservation). y.terms)
        (unwrap_or (option_map (lapse_group keeps) o) (new_group s g)).reservation
        ≡ option_map (λ (y : Reservation). y.terms) (unwrap_or o (new_group s g)).reservation
    by_row (Some x) e = kept_periods (keeps x.session) x (ap keeps (found_session s g rows x e) ∙ h)
    by_row None e = refl

-- an empty row holds nothing
held_by-new : (q : List ℕ → Bool) (s : List ℕ) (g : ℕ) (rows : List SessionGroup) (b : BucketRow) →
    held_by q (new_group s g ∷ rows) b ≡ held_by q rows b
held_by-new q s g rows b =
    elim (q s) as
    (λ t. (if t then held_in (holds_in None) b else 0) + held_by q rows b ≡ held_by q rows b)
    [ true ↦ omega arith | false ↦ omega arith ]

pub held_by-with_group : (q : List ℕ → Bool) (s : List ℕ) (g : ℕ) (rows : List SessionGroup)
    (b : BucketRow) → held_by q (with_group s g rows) b ≡ held_by q rows b
held_by-with_group q s g rows b = by_row (group_in s g rows) refl
  where
    by_row : (o : Option SessionGroup) → group_in s g rows ≡ o →
        held_by q (with_group s g rows) b ≡ held_by q rows b
    by_row (Some x) e = ap (λ rs. held_by q rs b) (sym (kept_group s g rows x e))
    by_row None e =
        let new : SessionGroup = new_group s g in
        ap (λ rs. held_by q rs b)
        (ap (λ o. put group_before (is_of s g) (unwrap_or o (new_group s g)) rows) e)
        ∙ held_reordered q (new ∷ rows) (put group_before (is_of s g) new rows) b
        (put_new group_before (is_of s g) new rows (any_none (is_of s g) rows e))
        ∙ held_by-new q s g rows b

pub count_later : (g c : ℕ) (rows : List Counter) →
    count_in g c (with_counter g c rows) ≡ count_in g c rows
count_later g c rows =
    ap (λ o. unwrap_or (option_map (λ (r : Counter). r.blocks) o) 0)
    (find-put counter_before (is_counter g c) (counter_or_new g c rows) rows
    (or_new_cycle g c rows))
    ∙ by_row (counter_in g c rows)
  where
    by_row : (o : Option Counter) →
        (unwrap_or o (record { group = g; cycle = c; blocks = 0 })).blocks
        ≡ unwrap_or (option_map (λ (r : Counter). r.blocks) o) 0
    by_row (Some x) = refl
    by_row None = refl

-- a use is counted alike with the counter's empty row and without
pub counted_later : (g c blocks : ℕ) (rows : List Counter) →
    with_count g c blocks (with_counter g c rows) ≡ with_count g c blocks rows
counted_later g c blocks rows =
    (λ i. put counter_before (is_counter g c)
    (record { group = g; cycle = c; blocks = count_later g c rows i + blocks })
    (with_counter g c rows))
    ∙ put-put counter_before (is_counter g c)
    (record { group = g; cycle = c; blocks = count_in g c rows + blocks })
    (counter_or_new g c rows) rows (or_new_cycle g c rows)
    (λ z. counter_before_alike
    (record { group = g; cycle = c; blocks = count_in g c rows + blocks })
    (counter_or_new g c rows) z
    (sym (cycle_group (counter_or_new g c rows).group (counter_or_new g c rows).cycle g c
    (or_new_cycle g c rows)))
    (sym (cycle_cycle (counter_or_new g c rows).group (counter_or_new g c rows).cycle g c
    (or_new_cycle g c rows))))

-- a settlement finds the empty rows as none
pub settled_later : (a : AccountRows) (s : List ℕ) (g t units blocks : ℕ) (due : Due) →
    settled_account s g units blocks due (advanced t (with_rows s g (cycle_at a.shelf g t) a))
    ≡ settled_account s g units blocks due (advanced t a)
settled_later a s g t units blocks due =
    let keeps : List ℕ → Bool = is_live_in (validity_of a.shelf) t a.sessions in
    let c : ℕ = cycle_at a.shelf g t in
    let row : group_or_new s g (map (lapse_group keeps) (with_group s g a.groups))
    ≡ group_or_new s g (map (lapse_group keeps) a.groups) = or_new_later keeps s g a.groups in
    let groups : with_use s g units (map (lapse_group keeps) (with_group s g a.groups))
    ≡ with_use s g units (map (lapse_group keeps) a.groups) =
    (λ i. put group_before (is_of s g)
    (record { session = s; group = g; used = (row i).used + units; reservation = None })
    (map (lapse_group keeps) (with_group s g a.groups)))
    ∙ put_later keeps s g
    (record {
      session = s;
      group = g;
      used = used_in s g (map (lapse_group keeps) a.groups) + units;
      reservation = None;
    })
    a.groups refl refl in
    let given : (b : BucketRow) →
    lapsed_in keeps (with_group s g a.groups) b ≡ lapsed_in keeps a.groups b =
    λ b. held_by-with_group (λ x. not (keeps x)) s g a.groups b in
    let x : AccountRows = settled_account s g units blocks due (advanced t a) in
    λ i. record x {
      buckets =
          settled_rows (holds_in (row i).reservation) g t due
          (map (λ b. with_end t (with_release t b (given b i))) a.buckets);
      counters = counted_later g c blocks a.counters i;
      groups = groups i;
    }
