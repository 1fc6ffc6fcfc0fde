-- Sums over buckets, and what is held of them together.
use Rattle.std.proofs.Common.{◌≡◌, ℕ, ◌+◌, ◌≤◌, Bool, true, false, List, [], ◌∷◌, map, refl, sym}
use Rattle.std.proofs.Common.{ap}
use Rattle.std.proofs.Common.{◌∙◌, arith}
use Rattle.std.specs.Prelude.{if◌then◌else◌, nat_lt, sum_by}
use Rattle.std.proofs.lemmas.List.Sums.{sum_by-cons}
use Rattle.buckets.specs.declared.holds.HeldAmount.{HeldAmount}
use Rattle.buckets.specs.declared.kind.BucketKind.{BucketKind}
use Rattle.buckets.specs.Kinds.{is_alike}
use Rattle.buckets.specs.Row.{BucketRow}
use Rattle.buckets.specs.Share.{sum_in, parts}
use Rattle.buckets.specs.Spend.{AreDistinct, Each, inserted}
use Rattle.buckets.specs.Holding.{held_in, held_sum}
use Rattle.buckets.proofs.Dues.{sum_in-cons}
use Rattle.buckets.proofs.Parts.{sum_at, sum_at-parts, held_in-sum_at}
use Rattle.ledger.specs.Ledger.{Ledger}
use Rattle.ledger.specs.Balance.{bucket_at}

-- ---- sums over the buckets of a kind

if_most : (t : Bool) (n m : ℕ) → n ≤ m → (if t then n else 0) ≤ (if t then m else 0)
if_most true n m le = le
if_most false n m le = omega arith

pub sum_in-most : (k : BucketKind) (f g : BucketRow → ℕ) (rows : List BucketRow) →
    ((b : BucketRow) → f b ≤ g b) → sum_in k f rows ≤ sum_in k g rows
sum_in-most k f g [] le = omega arith
sum_in-most k f g (b ∷ bs) le =
    omega (
      arith,
      if_most (is_alike b.kind k) (f b) (g b) (le b),
      sum_in-cons k f b bs,
      sum_in-cons k g b bs,
      sum_in-most k f g bs le,
    )

pub sum_in-each : (k : BucketKind) (f g : BucketRow → ℕ) (rows : List BucketRow) →
    Each (λ b. f b ≡ g b) rows → sum_in k f rows ≡ sum_in k g rows
sum_in-each k f g [] h = refl
sum_in-each k f g (b ∷ bs) h =
    omega (
      arith,
      sum_in-cons k f b bs,
      sum_in-cons k g b bs,
      ap (λ n. if is_alike b.kind k then n else 0) h.0,
      sum_in-each k f g bs h.1,
    )

pub sum_in-alike : (k : BucketKind) (f g : BucketRow → ℕ) (rows : List BucketRow) →
    ((b : BucketRow) → f b ≡ g b) → sum_in k f rows ≡ sum_in k g rows
sum_in-alike k f g [] h = refl
sum_in-alike k f g (b ∷ bs) h =
    omega (
      arith,
      sum_in-cons k f b bs,
      sum_in-cons k g b bs,
      ap (λ n. if is_alike b.kind k then n else 0) (h b),
      sum_in-alike k f g bs h,
    )

sum_by-inserted : (f : BucketRow → ℕ) (b : BucketRow) (rows : List BucketRow) →
    sum_by f (inserted b rows) ≡ f b + sum_by f rows
sum_by-inserted f b [] = sum_by-cons f b []
sum_by-inserted f b (x ∷ xs) =
    elim (nat_lt b.until x.until) as
    (λ t. sum_by f (if t then b ∷ x ∷ xs else x ∷ inserted b xs) ≡ f b + sum_by f (x ∷ xs)) [
      | true ↦ sum_by-cons f b (x ∷ xs)
      | false ↦ omega (
        arith,
        sum_by-cons f x xs,
        sum_by-cons f x (inserted b xs),
        sum_by-inserted f b xs,
      )
    ]

-- a bucket more
pub sum_in-inserted : (k : BucketKind) (f : BucketRow → ℕ) (b : BucketRow) (rows : List BucketRow) →
    sum_in k f (inserted b rows) ≡ (if is_alike b.kind k then f b else 0) + sum_in k f rows
sum_in-inserted k f b rows =
    sum_by-inserted (λ x. if is_alike x.kind k then f x else 0) b rows

-- what is said by a bucket's number doesn't change with its position
pub sum_in-moved : (k : BucketKind) (f : ℕ → ℕ) (v : ℕ → ℕ) (t : ℕ) (ledger : Ledger)
    (cs : List BucketRow) →
    sum_in k (λ b. f b.number) (map (bucket_at v t ledger) cs) ≡ sum_in k (λ c. f c.number) cs
sum_in-moved k f v t ledger [] = refl
sum_in-moved k f v t ledger (c ∷ cs) =
    sum_in-cons k (λ b. f b.number) (bucket_at v t ledger c) (map (bucket_at v t ledger) cs)
    ∙ ap (λ n. (if is_alike c.kind k then f c.number else 0) + n)
    (sum_in-moved k f v t ledger cs)
    ∙ sym (sum_in-cons k (λ c. f c.number) c cs)

-- ---- holds

held_sum-each : (k : BucketKind) (holds : List HeldAmount) (f : BucketRow → ℕ)
    (rows : List BucketRow) →
    Each (λ b. sum_at b.number holds ≡ f b) rows → held_sum k holds rows ≡ sum_in k f rows
held_sum-each k holds f [] h = refl
held_sum-each k holds f (b ∷ bs) h =
    omega (
      arith,
      sum_in-cons k (held_in holds) b bs,
      sum_in-cons k f b bs,
      ap (λ n. if is_alike b.kind k then n else 0) (held_in-sum_at holds b ∙ h.0),
      held_sum-each k holds f bs h.1,
    )

-- parts have together what was asked for them
pub held_sum-parts : (k : BucketKind) (f : BucketRow → ℕ) (rows : List BucketRow) →
    AreDistinct rows →
    held_sum k (parts f rows) rows ≡ sum_in k f rows
held_sum-parts k f rows distinct =
    held_sum-each k (parts f rows) f rows (sum_at-parts f rows distinct)
