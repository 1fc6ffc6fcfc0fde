-- A bucket is made: what that adds to the rows.
use Rattle.std.proofs.Common.{◌≡◌, ℕ, ◌+◌, ◌-◌, ◌<◌, ◌≤◌, Bool, true, false, List, [], ◌∷◌, map}
use Rattle.std.proofs.Common.{refl, sym, ap, ◌∙◌, arith, Option, Some, None}
use Rattle.std.specs.Prelude.{if◌then◌else◌, ◌==◌, nat_lt}
use Rattle.buckets.specs.Row.{BucketRow, new_row}
use Rattle.buckets.specs.Spend.{IsBelow, inserted}
use Rattle.buckets.specs.Share.{parts}
use Rattle.buckets.proofs.Kept.{IsSound-inserted, Each-inserted}
use Rattle.ledger.specs.Ledger.{Ledger, is_live, charged, held, only, used, counter, has_group}
use Rattle.ledger.specs.Ledger.{has_counter, open_grant, next_bucket}
use Rattle.ledger.specs.Balance.{credits, bucket_at, balance_of, holds_at}
use Rattle.reserving.specs.Sessions.{held_by, group_at, reservation_of, counter_at}
use Rattle.ledger.specs.Pricing.{cycle_at, validity_of}
use Rattle.ledger.specs.SoundLedger.{IsUnknown, IsSoundLedger}
use Rattle.reserving.specs.Rows.{AccountRows, IsAccount, IsRowsOf}
use Rattle.ledger.specs.Requests.{credited}
use Rattle.reserving.specs.Changes.{credited_account}
use Rattle.buckets.specs.Row.{with_end, with_release}
use Rattle.buckets.specs.declared.kind.BucketKind.{BucketKind}
use Rattle.buckets.specs.Kinds.{most_of, IsScopeOf}
use Rattle.reserving.specs.Sessions.{is_live_in}
use Rattle.reserving.specs.Changes.{advanced, lapsed_in}
use Rattle.reserving.proofs.InOrder.{parts-inserted, order_inserted}
use Rattle.ledger.proofs.Columns.{with_columns}
use Rattle.ledger.proofs.Positions.{parts-at}
use Rattle.reserving.proofs.rows.Lapsing.{ends_keep}
use Rattle.reserving.proofs.Advancing.{held_by-split, IsRowsOf-advanced}

-- ---- at its place

map-inserted : (f : BucketRow → BucketRow) (b : BucketRow) (rows : List BucketRow) →
    ((x : BucketRow) → (f x).until ≡ x.until) →
    map f (inserted b rows) ≡ inserted (f b) (map f rows)
map-inserted f b [] k = refl
map-inserted f b (x ∷ xs) k = at (nat_lt b.until x.until) refl (map-inserted f b xs k)
  where
    test : nat_lt (f b).until (f x).until ≡ nat_lt b.until x.until
    test = λ i. nat_lt (k b i) (k x i)

    at : (e : Bool) → nat_lt b.until x.until ≡ e →
        map f (inserted b xs) ≡ inserted (f b) (map f xs) →
        map f (if e then b ∷ x ∷ xs else x ∷ inserted b xs) ≡ inserted (f b) (f x ∷ map f xs)
    at true e rest =
        sym (ap (λ t. if t then f b ∷ f x ∷ map f xs else f x ∷ inserted (f b) (map f xs))
        (test ∙ e))
    at false e rest =
        ap (λ ys. f x ∷ ys) rest
        ∙ sym (ap (λ t. if t then f b ∷ f x ∷ map f xs else f x ∷ inserted (f b) (map f xs))
        (test ∙ e))

pub IsBelow-inserted : (next : ℕ) (b : BucketRow) (rows : List BucketRow) → b.number < next + 1 →
    IsBelow next rows → IsBelow (next + 1) (inserted b rows)
IsBelow-inserted next b [] lt h = (lt, tt)
IsBelow-inserted next b (x ∷ xs) lt h =
    elim (nat_lt b.until x.until) as
    (λ e. IsBelow (next + 1) (if e then b ∷ x ∷ xs else x ∷ inserted b xs)) [
      | true ↦ (lt, (let less : x.number < next = h.0 in omega arith, more xs h.1))
      | false ↦ (
        let less : x.number < next = h.0 in
            omega arith,
        IsBelow-inserted next b xs lt h.1,
      )
    ]
  where
    more : (ys : List BucketRow) → IsBelow next ys → IsBelow (next + 1) ys
    more [] q = tt
    more (y ∷ ys) q = (let less : y.number < next = q.0 in omega arith, more ys q.1)

-- ---- what each account keeps

pub IsAccount-credited : (a : AccountRows) (kind : BucketKind) (from until : ℕ) (scope : Option ℕ)
    (amount : ℕ) →
    a.next_bucket ≤ 4294967295 → amount ≤ most_of kind → IsScopeOf kind scope → IsAccount a →
    IsAccount (credited_account kind from until scope amount a)
IsAccount-credited a kind from until scope amount le most scoped is =
    let b : BucketRow = new_row kind a.next_bucket from until scope amount in
    record {
      shelf = is.shelf;
      sound = IsSound-inserted b a.buckets is.below
          (record { sum = omega arith; most = most; scope = scoped; number = omega arith })
          is.sound;
      below = IsBelow-inserted a.next_bucket b a.buckets (omega arith) is.below;
      next_bucket = omega arith;
      next_charge = is.next_charge;
      sessions = is.sessions;
      groups = is.groups;
      counters = is.counters;
      used = is.used;
      counted = is.counted;
      held = Each-inserted (λ x. held_by (λ s. true) a.groups x ≡ x.reserved) b a.buckets
          (is.named b (omega arith)) is.held;
      named = λ x h. is.named x (omega arith);
      order = order_inserted b a.buckets a.groups (is.named b (omega arith)) is.order;
    }

-- ---- the ledger

abbrev later_row : AccountRows → ℕ → BucketRow → BucketRow
later_row a t b =
    with_end t (with_release t b (lapsed_in (is_live_in (validity_of a.shelf) t a.sessions) a.groups
    b))

-- a new bucket at a moment
new_later : (t n : ℕ) (kind : BucketKind) (from until : ℕ) (scope : Option ℕ)
    (amount lapsed ch h : ℕ) → lapsed ≡ 0 → ch ≡ 0 →
    h ≡ 0 → with_end t (with_release t (new_row kind n from until scope amount) lapsed)
    ≡ balance_of t (new_row kind n from until scope amount) ch h
new_later t n kind from until scope amount lapsed ch h el ec eh =
    rw (el, ec, eh) (at (nat_lt t until) refl)
  where
    b : BucketRow
    b = new_row kind n from until scope amount

    at : (e : Bool) → nat_lt t until ≡ e →
        with_end t (if e then record b { reserved = 0 - 0; available = amount + 0 }
        else record b { reserved = 0 - 0; expired = 0 + 0 })
        ≡ record b {
          available = (if e then amount - 0 - 0 else 0);
          reserved = 0;
          charged = 0;
          expired = (if e then 0 else amount - 0 - 0);
        }
    at true e =
        rw e (with_columns b (amount + 0) (amount - 0 - 0) (0 - 0) 0 0 0 0 0 (omega arith)
        (omega arith) refl refl)
    at false e =
        rw e (with_columns b 0 0 (0 - 0) 0 0 0 (0 + 0 + amount) (amount - 0 - 0) refl (omega arith)
        refl (omega arith))

-- a bucket more leaves the ledger sound
pub IsSoundLedger-credited : (t : ℕ) (kind : BucketKind) (from until : ℕ)
    (scope : Option ℕ) (amount : ℕ)
    (ledger : Ledger) → IsSoundLedger ledger →
    IsSoundLedger (credited t kind from until scope amount ledger)
IsSoundLedger-credited t kind from until scope amount ledger sound = record {
  touched = sound.touched;
  unknown = λ s e. let u : IsUnknown s ledger = sound.unknown s e in
      record { closed = u.closed; held = λ n. omega (arith, u.held n); granted = u.granted };
  fresh = λ n le. omega (arith, sound.fresh n (omega (arith, le)));
  free = λ n p le. omega (arith, sound.free n p (omega (arith, le)));
}

-- rule: credit
pub IsRowsOf-credited : (ledger : Ledger) (a : AccountRows) (t : ℕ) (kind : BucketKind)
    (from until : ℕ) (scope : Option ℕ)
    (amount : ℕ) → IsAccount a → IsRowsOf ledger a → a.as_of ≤ t →
    IsRowsOf (credited t kind from until scope amount ledger)
    (advanced t (credited_account kind from until scope amount a))
IsRowsOf-credited ledger a t kind from until scope amount is rows le = record {
  barred = rows.barred;
  buckets =
      map-inserted (later_row a t) b a.buckets
      (λ x. (ends_keep t (lapsed_in (is_live_in v t a.sessions) a.groups)).until x)
      ∙ (λ i. inserted (first i) (later.buckets i))
      ∙ (λ i. inserted (bucket_at v t more b') (others (credits ledger) i))
      ∙ sym (map-inserted (bucket_at v t more) b' (credits ledger) (λ x. refl));
  sessions = later.sessions;
  groups = λ s g. later.groups s g ∙ grouped s g;
  counters = λ g c. rows.counters g c ∙ counted g c;
  next_bucket = omega (arith, rows.next_bucket);
  next_charge = omega (arith, rows.next_charge);
  sound = IsSoundLedger-credited t kind from until scope amount ledger rows.sound;
}
  where
    v : ℕ → ℕ
    v = (validity_of a.shelf)

    more : Ledger
    more = credited t kind from until scope amount ledger

    b : BucketRow
    b = new_row kind a.next_bucket from until scope amount

    b' : BucketRow
    b' = new_row kind (next_bucket ledger) from until scope amount

    later : IsRowsOf ledger (advanced t a)
    later = IsRowsOf-advanced ledger a t is rows le

    next : next_bucket ledger ≤ next_bucket ledger
    next = omega arith

    unheld : (p : List ℕ → ℕ → Bool) → held p (next_bucket ledger) ledger ≡ 0
    unheld p = rows.sound.free (next_bucket ledger) p next

    given : lapsed_in (is_live_in v t a.sessions) a.groups b ≡ 0
    given = omega (
      arith,
      is.named b (omega arith),
      held_by-split (is_live_in v t a.sessions) b a.groups,
    )

    first : later_row a t b ≡ bucket_at v t more b'
    first = new_later t a.next_bucket kind from until scope amount
        (lapsed_in (is_live_in v t a.sessions) a.groups b) (charged (next_bucket ledger) more)
        (held (λ s g. is_live v t more s) (next_bucket ledger) more) given
        (omega (arith, rows.sound.fresh (next_bucket ledger) next))
        (omega (arith, unheld (λ s g. is_live v t more s)))
        ∙ ap (λ n. balance_of t (new_row kind n from until scope amount)
        (charged (next_bucket ledger) more)
        (held (λ s g. is_live v t more s) (next_bucket ledger) more)) rows.next_bucket

    others : (cs : List BucketRow) → map (bucket_at v t ledger) cs ≡ map (bucket_at v t more) cs
    others [] = refl
    others (c ∷ cs) =
        let ch : charged c.number ledger ≡ charged c.number more = omega arith in
        let h : held (λ s g. is_live v t ledger s) c.number ledger
        ≡ held (λ s g. is_live v t more s) c.number more = omega arith in
        λ i. balance_of t c (ch i) (h i) ∷ others cs i

    holds : (s : List ℕ) (g : ℕ) → holds_at v t s g ledger ≡ holds_at v t s g more
    holds s g =
        parts-at (λ n. held (only s g) n ledger) v t ledger (credits ledger)
        ∙ sym (parts-inserted (λ x. held (only s g) x.number ledger) b' (credits ledger)
        (unheld (only s g)))
        ∙ (λ i. parts (λ x. plain (held (only s g) x.number ledger) i)
        (inserted b' (credits ledger)))
        ∙ sym (parts-at (λ n. held (only s g) n more) v t more (credits more))
      where
        plain : (n : ℕ) → n ≡ 0 + n
        plain n = omega arith

    grouped : (s : List ℕ) (g : ℕ) → group_at v t ledger s g ≡ group_at v t more s g
    grouped s g =
        let number : used s g ledger ≡ used s g more = omega arith in
        λ i. if has_group s g ledger
        then Some
        (record {
          session = s;
          group = g;
          used = number i;
          reservation =
              (if is_live v t ledger s then reservation_of (holds s g i) (open_grant s g ledger)
              else None);
        }) else None

    counted : (g c : ℕ) →
        counter_at (cycle_at a.shelf g) ledger g c ≡ counter_at (cycle_at a.shelf g) more g c
    counted g c =
        let number : counter (cycle_at a.shelf g) g c ledger ≡ counter
        (cycle_at a.shelf g) g c more =
        plain (cycle_at a.shelf g t == c) (counter (cycle_at a.shelf g) g c ledger) in
        λ i. if has_counter (cycle_at a.shelf g) g c ledger
        then Some (record { group = g; cycle = c; blocks = number i }) else None
      where
        plain : (e : Bool) (n : ℕ) → n ≡ (if e then 0 else 0) + n
        plain true n = omega arith
        plain false n = omega arith
