-- Laws over the definitions alone.
-- Source: profile.
use Rattle.std.specs.Prelude.{◌≡◌, ◌≤◌, ◌&&◌, Bool, not, ◌+◌, true, List, [], ◌∷◌, ◌++◌, length}
use Rattle.units.specs.Words.{Moment, Seconds, GroupId, UnitCount, BlockCount}
use Rattle.identifiers.specs.Words.{SessionName}
use Rattle.buckets.specs.Row.{BucketRow, IsBalanced, with_end, with_release}
use Rattle.ledger.specs.Ledger.{Ledger, is_live, held, Fact, counts as counts_of, test_of}
use Rattle.ledger.specs.Parts.{ends_of}
use Rattle.ledger.specs.Ledger.{next_charge}
use Rattle.ledger.specs.Parts.{any, hold_of}
use Rattle.ledger.specs.Balance.{bucket_at, buckets_at}
use Rattle.buckets.specs.Words.{BucketNumber, BucketAmount}
use Rattle.buckets.specs.declared.kind.Due.{Due}
use Rattle.buckets.specs.Spend.{Each, AreDistinct}
use Rattle.ledger.specs.Settlement.{settled}
use Rattle.ledger.specs.Words.{ChargeNumber}
use Rattle.ledger.specs.declared.charge.ChargeRow.{ChargeRow}
use Rattle.ledger.specs.Charges.{charge_rows}

-- the reservations of sessions that ended between two moments
abbrev pub ended_between : (Moment → Seconds) → Moment → Moment → Ledger → SessionName → GroupId →
    Bool
ended_between v t1 t2 ledger s g = is_live v t1 ledger s && not (is_live v t2 ledger s)

-- a bucket that is brought from a moment to a later one: what sessions that ended between them held
-- is given up, and from its end on what is left is expired
abbrev pub brought : (Moment → Seconds) → Moment → Moment → Ledger → BucketRow → BucketRow
brought v t1 t2 ledger b =
    with_end t2 (with_release t2 b (held (ended_between v t1 t2 ledger) b.number ledger))

-- a bucket's position, brought to a later moment, is its position then
-- rule: going-on: two steps in time bring a bucket to where one does
-- rule: sweep-unseen: an account that was swept is brought on as one that wasn't
abbrev pub IsBroughtOn : Type 0
IsBroughtOn = (v : Moment → Seconds) (t1 t2 : Moment) (ledger : Ledger) (c : BucketRow) → t1 ≤ t2 →
    IsBalanced (bucket_at v t1 ledger c) →
    brought v t1 t2 ledger (bucket_at v t1 ledger c) ≡ bucket_at v t2 ledger c

-- and in two steps it is brought to where one step brings it
-- rule: going-on
abbrev pub IsBroughtAlike : Type 0
IsBroughtAlike =
    (v : Moment → Seconds) (t1 t2 t3 : Moment) (ledger : Ledger) (c : BucketRow) → t1 ≤ t2 →
    t2 ≤ t3 →
    IsBalanced (bucket_at v t1 ledger c) →
    brought v t2 t3 ledger (brought v t1 t2 ledger (bucket_at v t1 ledger c))
    ≡ brought v t1 t3 ledger (bucket_at v t1 ledger c)

-- ---- a dead bucket never changes again: a law of the ledger

-- nothing of a dead bucket can be used any more
-- rule: dead-rows.dead-for-good
pub record IsDead (b : BucketRow) : Type 0 where
  pub available : b.available ≡ 0
  pub reserved : b.reserved ≡ 0

abbrev pub AreDeadKept : List BucketRow → List BucketRow → Type 0
AreDeadKept [] [] = Unit {0}
AreDeadKept [] (y ∷ ys) = Unit {0}
AreDeadKept (x ∷ xs) [] = ⊥
AreDeadKept (x ∷ xs) (y ∷ ys) = (IsDead x → y ≡ x) × AreDeadKept xs ys

-- as time goes on
-- rule: dead-rows: a dead bucket never changes again, as time goes on and by a settlement; of each
--   other call that changes an account its clause `left` says that it leaves such rows as they are
abbrev pub IsDeadLater : Type 0
IsDeadLater = (v : Moment → Seconds) (t u : Moment) (ledger : Ledger) → t ≤ u →
    Each IsBalanced (buckets_at v t ledger) →
    AreDeadKept (buckets_at v t ledger) (buckets_at v u ledger)

-- and by a settlement
-- rule: dead-rows
abbrev pub IsDeadSettled : Type 0
IsDeadSettled =
    (v : Moment → Seconds) (t : Moment) (session : SessionName) (group : GroupId)
    (units : UnitCount) (blocks : BlockCount) (due : Due) (ledger : Ledger) →
    is_live v t ledger session ≡ true → Each IsBalanced (buckets_at v t ledger) →
    AreDistinct (buckets_at v t ledger) →
    AreDeadKept (buckets_at v t ledger)
    (buckets_at v t (settled v t session group units blocks due ledger))

-- ---- what is reserved of a bucket, in the words of its holds

-- the fact ends this reservation
abbrev pub is_end_of : SessionName → GroupId → Fact → Bool
is_end_of s g f = test_of (ends_of s g) (counts_of f).end

-- the sum of a bucket's holds that count, of reservations that no fact after the hold ended
-- rule: holds.held-unended: what is reserved of a bucket is the sum of its holds whose session is
--   live and whose reservation hasn't ended
abbrev pub held_unended : (SessionName → GroupId → Bool) → BucketNumber → Ledger → Ledger →
    BucketAmount
held_unended counts n newer [] = 0
held_unended counts n newer (d ∷ older) =
    hold_of (λ s g. counts s g && not (any (is_end_of s g) newer)) n d.fact
    + held_unended counts n (d ∷ newer) older

-- what is held of a bucket is that sum
-- rule: holds.held-unended
abbrev pub IsHeldUnended : Type 0
IsHeldUnended = (counts : SessionName → GroupId → Bool) (n : BucketNumber) (ledger : Ledger) →
    held counts n ledger ≡ held_unended counts n [] ledger

-- so what is reserved of it is the sum of its holds whose session is live and whose reservation
-- hasn't ended
-- rule: holds.held-unended
abbrev pub IsReservedUnended : Type 0
IsReservedUnended = (v : Moment → Seconds) (t : Moment) (ledger : Ledger) (c : BucketRow) →
    (bucket_at v t ledger c).reserved
    ≡ held_unended (λ s g. is_live v t ledger s) c.number [] ledger

-- ---- charges

-- so numbered, one after another
abbrev pub AreNumberedFrom : ChargeNumber → List ChargeRow → Type 0
AreNumberedFrom n [] = Unit {0}
AreNumberedFrom n (c ∷ cs) = (c.number ≡ n) × AreNumberedFrom (n + 1) cs

-- the charges of newer facts come after those of the older ones, and their numbers go on from the
-- ledger's next
-- rule: database-loads.go-on: an account's charges are numbered on, which its rows owe to who
--   stores them
pub record GoOn (newer older : Ledger) : Type 0 where
  pub added : List ChargeRow
  pub are : charge_rows (newer ++ older) ≡ charge_rows older ++ added
  pub numbered : AreNumberedFrom (next_charge older) added
  pub next : next_charge (newer ++ older) ≡ next_charge older + length added

abbrev pub ChargesGoOn : Type 0
ChargesGoOn = (newer older : Ledger) → GoOn newer older
