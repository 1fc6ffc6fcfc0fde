-- What each purse keeps is kept by what is done to its buckets.
use Rattle.std.proofs.Common.{◌≢◌, ℕ, ◌+◌, ◌-◌, ◌<◌, ◌≤◌, Bool, true, false, List, [], ◌∷◌, map}
use Rattle.std.proofs.Common.{sym, ◌∙◌, arith}
use Rattle.std.specs.Prelude.{if◌then◌else◌, nat_lt, min}
use Rattle.buckets.specs.declared.kind.Due.{Due}
use Rattle.buckets.specs.declared.holds.HeldAmount.{HeldAmount}
use Rattle.buckets.specs.Kinds.{due_in, less}
use Rattle.buckets.specs.Row.{BucketRow, IsBalanced, eligible_amount, is_eligible, with_hold}
use Rattle.buckets.specs.Row.{with_charge}
use Rattle.buckets.specs.Row.{with_charge_of_hold, with_release, with_end}
use Rattle.buckets.specs.Share.{along}
use Rattle.buckets.specs.Spend.{Each, DiffersFromAll, AreDistinct, IsSound, IsBelow, inserted}
use Rattle.buckets.specs.Holding.{held_in, IsWithin}
use Rattle.buckets.proofs.SharesAlong.{KeepsPlace, KeepsPlaces, IsInOrder-along, IsInOrder-map}
use Rattle.buckets.proofs.SharesAlong.{IsInOrder-inserted, with_hold_keeps, with_charge_keeps}
use Rattle.buckets.proofs.SharesAlong.{with_charge_of_hold_keeps, with_end_keeps, released_keeps}

-- ---- numbers

DiffersFromAll-along : (does : BucketRow → ℕ → BucketRow) (f : BucketRow → ℕ) (n : ℕ) (left : Due)
    (rows : List BucketRow) →
    KeepsPlaces does → DiffersFromAll n rows → DiffersFromAll n (along does f left rows)
DiffersFromAll-along does f n left [] k h = tt
DiffersFromAll-along does f n left (b ∷ bs) k h = (
  λ e. h.0 (sym (k.number b (min (f b) (due_in b.kind left))) ∙ e),
  DiffersFromAll-along does f n (less b.kind (f b) left) bs k h.1,
)

pub AreDistinct-along : (does : BucketRow → ℕ → BucketRow) (f : BucketRow → ℕ) (left : Due)
    (rows : List BucketRow) →
    KeepsPlaces does → AreDistinct rows → AreDistinct (along does f left rows)
AreDistinct-along does f left [] k h = tt
AreDistinct-along does f left (b ∷ bs) k h = (
  rw (k.number b (min (f b) (due_in b.kind left)))
      (DiffersFromAll-along does f b.number (less b.kind (f b) left) bs k h.0),
  AreDistinct-along does f (less b.kind (f b) left) bs k h.1,
)

DiffersFromAll-map : (does : BucketRow → BucketRow) (n : ℕ) (rows : List BucketRow) →
    KeepsPlace does →
    DiffersFromAll n rows → DiffersFromAll n (map does rows)
DiffersFromAll-map does n [] k h = tt
DiffersFromAll-map does n (b ∷ bs) k h =
    (λ e. h.0 (sym (k.number b) ∙ e), DiffersFromAll-map does n bs k h.1)

pub AreDistinct-map : (does : BucketRow → BucketRow) (rows : List BucketRow) → KeepsPlace does →
    AreDistinct rows →
    AreDistinct (map does rows)
AreDistinct-map does [] k h = tt
AreDistinct-map does (b ∷ bs) k h =
    (rw (k.number b) (DiffersFromAll-map does b.number bs k h.0), AreDistinct-map does bs k h.1)

DiffersFromAll-below : (n : ℕ) (rows : List BucketRow) → IsBelow n rows → DiffersFromAll n rows
DiffersFromAll-below n [] h = tt
DiffersFromAll-below n (b ∷ bs) h =
    (λ e. let less : b.number < n = h.0 in omega arith, DiffersFromAll-below n bs h.1)

DiffersFromAll-inserted : (n : ℕ) (b : BucketRow) (rows : List BucketRow) → b.number ≢ n →
    DiffersFromAll n rows → DiffersFromAll n (inserted b rows)
DiffersFromAll-inserted n b [] e h = (e, tt)
DiffersFromAll-inserted n b (x ∷ xs) e h =
    elim (nat_lt b.until x.until) as
    (λ t. DiffersFromAll n (if t then b ∷ x ∷ xs else x ∷ inserted b xs))
    [ true ↦ (e, h) | false ↦ (h.0, DiffersFromAll-inserted n b xs e h.1) ]

pub AreDistinct-inserted : (b : BucketRow) (rows : List BucketRow) → IsBelow b.number rows →
    AreDistinct rows →
    AreDistinct (inserted b rows)
AreDistinct-inserted b [] new h = (tt, tt)
AreDistinct-inserted b (x ∷ xs) new h =
    elim (nat_lt b.until x.until) as
    (λ t. AreDistinct (if t then b ∷ x ∷ xs else x ∷ inserted b xs)) [
      | true ↦ (DiffersFromAll-below b.number (x ∷ xs) new, h)
      | false ↦ (
        DiffersFromAll-inserted x.number b xs (λ e. let less : x.number < b.number = new.0 in
            omega arith) h.0,
        AreDistinct-inserted b xs new.1 h.1,
      )
    ]

-- ---- the four columns

pub Each-inserted : (P : BucketRow → Type 0) (b : BucketRow) (rows : List BucketRow) → P b →
    Each P rows →
    Each P (inserted b rows)
Each-inserted P b [] p h = (p, tt)
Each-inserted P b (x ∷ xs) p h =
    elim (nat_lt b.until x.until) as (λ t. Each P (if t then b ∷ x ∷ xs else x ∷ inserted b xs))
    [ true ↦ (p, h) | false ↦ (h.0, Each-inserted P b xs p h.1) ]

balanced_hold : (b : BucketRow) (n : ℕ) → n ≤ b.available → IsBalanced b →
    IsBalanced (with_hold b n)
balanced_hold b n le h = record
    { sum = omega arith; most = h.most; scope = h.scope; number = h.number }

-- rule: bucket-columns
balanced_charge : (b : BucketRow) (n : ℕ) → n ≤ b.available → IsBalanced b →
    IsBalanced (with_charge b n)
balanced_charge b n le h = record
    { sum = omega arith; most = h.most; scope = h.scope; number = h.number }

balanced_charge_of_hold : (b : BucketRow) (n : ℕ) → n ≤ b.reserved → IsBalanced b →
    IsBalanced (with_charge_of_hold b n)
balanced_charge_of_hold b n le h = record
    { sum = omega arith; most = h.most; scope = h.scope; number = h.number }

-- rule: bucket-columns
pub balanced_release : (t : ℕ) (b : BucketRow) (n : ℕ) → n ≤ b.reserved → IsBalanced b →
    IsBalanced (with_release t b n)
balanced_release t b n le h =
    elim (nat_lt t b.until) as
    (λ e. IsBalanced (if e then record b { reserved = b.reserved - n; available = b.available + n }
    else record b { reserved = b.reserved - n; expired = b.expired + n })) [
      | true ↦ record { sum = omega arith; most = h.most; scope = h.scope; number = h.number }
      | false ↦ record { sum = omega arith; most = h.most; scope = h.scope; number = h.number }
    ]

-- rule: bucket-columns
pub balanced_end : (t : ℕ) (b : BucketRow) → IsBalanced b → IsBalanced (with_end t b)
balanced_end t b h =
    elim (nat_lt t b.until) as
    (λ e. IsBalanced
    (if e then b else record b { available = 0; expired = b.expired + b.available })) [
      | true ↦ h
      | false ↦ record {
        sum = omega arith;
        most = h.most;
        scope = h.scope;
        number = h.number;
      }
    ]

pub eligible_within : (e : Bool) (a m : ℕ) → min (if e then a else 0) m ≤ a
eligible_within true a m = omega arith
eligible_within false a m = omega arith

balanced_along-hold : (group t : ℕ) (left : Due) (rows : List BucketRow) → Each IsBalanced rows →
    Each IsBalanced (along with_hold (eligible_amount group t) left rows)
balanced_along-hold group t left [] h = tt
balanced_along-hold group t left (b ∷ bs) h = (
  balanced_hold b _ (eligible_within (is_eligible group t b) b.available (due_in b.kind left)) h.0,
  balanced_along-hold group t (less b.kind (eligible_amount group t b) left) bs h.1,
)

balanced_along-charge : (group t : ℕ) (left : Due) (rows : List BucketRow) → Each IsBalanced rows →
    Each IsBalanced (along with_charge (eligible_amount group t) left rows)
balanced_along-charge group t left [] h = tt
balanced_along-charge group t left (b ∷ bs) h = (
  balanced_charge b _ (eligible_within (is_eligible group t b) b.available (due_in b.kind left))
      h.0,
  balanced_along-charge group t (less b.kind (eligible_amount group t b) left) bs h.1,
)

balanced_along-charge_of_hold : (holds : List HeldAmount) (left : Due) (rows : List BucketRow) →
    IsWithin holds rows → Each IsBalanced rows →
    Each IsBalanced (along with_charge_of_hold (held_in holds) left rows)
balanced_along-charge_of_hold holds left [] w h = tt
balanced_along-charge_of_hold holds left (b ∷ bs) w h =
    let le : held_in holds b ≤ b.reserved = w.0 in (
      balanced_charge_of_hold b _ (omega arith) h.0,
      balanced_along-charge_of_hold holds (less b.kind (held_in holds b) left) bs w.1 h.1,
    )

balanced_released : (holds : List HeldAmount) (t : ℕ) (rows : List BucketRow) →
    IsWithin holds rows →
    Each IsBalanced rows → Each IsBalanced (map (λ b. with_release t b (held_in holds b)) rows)
balanced_released holds t [] w h = tt
balanced_released holds t (b ∷ bs) w h =
    (balanced_release t b (held_in holds b) w.0 h.0, balanced_released holds t bs w.1 h.1)

balanced_ended : (t : ℕ) (rows : List BucketRow) → Each IsBalanced rows →
    Each IsBalanced (map (with_end t) rows)
balanced_ended t [] h = tt
balanced_ended t (b ∷ bs) h = (balanced_end t b h.0, balanced_ended t bs h.1)

-- ---- all of it

pub IsSound-hold : (group t : ℕ) (left : Due) (rows : List BucketRow) → IsSound rows →
    IsSound (along with_hold (eligible_amount group t) left rows)
IsSound-hold group t left rows h = record {
  order = IsInOrder-along with_hold (eligible_amount group t) rows left with_hold_keeps h.order;
  distinct =
      AreDistinct-along with_hold (eligible_amount group t) left rows with_hold_keeps h.distinct;
  balanced = balanced_along-hold group t left rows h.balanced;
}

pub IsSound-charge : (group t : ℕ) (left : Due) (rows : List BucketRow) → IsSound rows →
    IsSound (along with_charge (eligible_amount group t) left rows)
IsSound-charge group t left rows h = record {
  order = IsInOrder-along with_charge (eligible_amount group t) rows left with_charge_keeps h.order;
  distinct =
      AreDistinct-along with_charge (eligible_amount group t) left rows with_charge_keeps
      h.distinct;
  balanced = balanced_along-charge group t left rows h.balanced;
}

pub IsSound-charge_of_hold : (holds : List HeldAmount) (left : Due) (rows : List BucketRow) →
    IsWithin holds rows → IsSound rows →
    IsSound (along with_charge_of_hold (held_in holds) left rows)
IsSound-charge_of_hold holds left rows w h = record {
  order = IsInOrder-along with_charge_of_hold (held_in holds) rows left with_charge_of_hold_keeps
      h.order;
  distinct =
      AreDistinct-along with_charge_of_hold (held_in holds) left rows with_charge_of_hold_keeps
      h.distinct;
  balanced = balanced_along-charge_of_hold holds left rows w h.balanced;
}

-- rule: bucket-end
pub IsSound-release : (holds : List HeldAmount) (t : ℕ) (rows : List BucketRow) →
    IsWithin holds rows →
    IsSound rows → IsSound (map (λ b. with_release t b (held_in holds b)) rows)
IsSound-release holds t rows w h = record {
  order = IsInOrder-map (λ b. with_release t b (held_in holds b)) rows (released_keeps holds t)
      h.order;
  distinct =
      AreDistinct-map (λ b. with_release t b (held_in holds b)) rows (released_keeps holds t)
      h.distinct;
  balanced = balanced_released holds t rows w h.balanced;
}

-- rule: bucket-end
pub IsSound-end : (t : ℕ) (rows : List BucketRow) → IsSound rows → IsSound (map (with_end t) rows)
IsSound-end t rows h = record {
  order = IsInOrder-map (with_end t) rows (with_end_keeps t) h.order;
  distinct = AreDistinct-map (with_end t) rows (with_end_keeps t) h.distinct;
  balanced = balanced_ended t rows h.balanced;
}

pub IsSound-inserted : (b : BucketRow) (rows : List BucketRow) → IsBelow b.number rows →
    IsBalanced b →
    IsSound rows → IsSound (inserted b rows)
IsSound-inserted b rows new p h = record {
  order = IsInOrder-inserted b rows new h.order;
  distinct = AreDistinct-inserted b rows new h.distinct;
  balanced = Each-inserted IsBalanced b rows p h.balanced;
}
