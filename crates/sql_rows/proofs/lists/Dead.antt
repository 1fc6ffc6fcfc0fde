-- Those of buckets whose numbers rise that pass a test.
use Rattle.std.proofs.Common.{◌≡◌, ℕ, ◌<◌, ◌≤◌, List, [], ◌∷◌, Bool, true, false, None}
use Rattle.std.proofs.Common.{refl, sym, ap, ◌∙◌, arith, nat_eq, eqb-true, map, subst, Ok}
use Rattle.std.proofs.Common.{Err, Result, OnOk}
use Rattle.std.specs.Prelude.{filter, IfOk}
use Rattle.std.specs.List.{find}
use Rattle.buckets.specs.Row.{BucketRow}
use Rattle.sql_tables.specs.Selects.{passing}
use Rattle.sql_tables.proofs.ByKey.{only_all}
use Rattle.sql_rows.specs.Content.{TableRows}
use Rattle.sql_rows.specs.Lists.{AreBuckets, BucketsRise, is_dead_bucket}

abbrev has : ℕ → BucketRow → Bool
has n b = nat_eq b.number n

rise_tail : (b : BucketRow) (bs : List BucketRow) → BucketsRise (b ∷ bs) → BucketsRise bs
rise_tail b [] rise = tt
rise_tail b (x ∷ xs) rise = rise.1

rise_over : (l m : BucketRow) (bs : List BucketRow) → l.number < m.number → BucketsRise (m ∷ bs) →
    BucketsRise (l ∷ bs)
rise_over l m [] less rise = tt
rise_over l m (b ∷ bs) less rise = (omega (arith, less, rise.0), rise.1)

module _ (test : BucketRow → Bool) where
  -- a number that isn't above the first isn't among the others
  none_later : (n : ℕ) (m : BucketRow) (bs : List BucketRow) → n ≤ m.number → BucketsRise (m ∷ bs)
      → find (has n) (filter test bs) ≡ None
  none_later n m [] less rise = refl
  none_later n m (b ∷ bs) less rise =
      go (test b) refl (nat_eq b.number n) refl
      (none_later n b bs (omega (arith, less, rise.0)) rise.1)
    where
      go : (p : Bool) → test b ≡ p → (q : Bool) → nat_eq b.number n ≡ q
          → find (has n) (filter test bs) ≡ None → find (has n) (filter test (b ∷ bs)) ≡ None
      go p e true k none = absurd (let same : b.number ≡ n = eqb-true b.number n k in
          omega (arith, same, less, rise.0))
      go true e false k none = rw (e, k) none
      go false e false k none = rw e none

  -- under each number the bucket that was there, if it passes the test
  pub found_among : (n : ℕ) (bs : List BucketRow) → BucketsRise bs
      → find (has n) (filter test bs) ≡ passing test (find (has n) bs)
  found_among n [] rise = refl
  found_among n (b ∷ bs) rise =
      go (test b) refl (nat_eq b.number n) refl (found_among n bs (rise_tail b bs rise))
    where
      go : (p : Bool) → test b ≡ p → (q : Bool) → nat_eq b.number n ≡ q
          → find (has n) (filter test bs) ≡ passing test (find (has n) bs)
          → find (has n) (filter test (b ∷ bs)) ≡ passing test (find (has n) (b ∷ bs))
      go true e true k same = rw (e, k, e) refl
      go true e false k same = rw (e, k) same
      go false e true k same =
          let later : find (has n) (filter test bs) ≡ None = none_later n b bs
          (let is : b.number ≡ n = eqb-true b.number n k in omega (arith, is)) rise in
          rw (e, k, e) later
      go false e false k same = rw (e, k) same

  rise_after : (m : BucketRow) (bs : List BucketRow) → BucketsRise (m ∷ bs) →
      BucketsRise (m ∷ filter test bs)
  rise_after m [] rise = tt
  rise_after m (b ∷ bs) rise =
      go (test b) refl (rise_after b bs rise.1) (rise_after m bs (rise_over m b bs rise.0 rise.1))
    where
      go : (p : Bool) → test b ≡ p → BucketsRise (b ∷ filter test bs)
          → BucketsRise (m ∷ filter test bs) → BucketsRise (m ∷ filter test (b ∷ bs))
      go true e taken left = rw e (rise.0, taken)
      go false e taken left = rw e left

  pub rise_among : (bs : List BucketRow) → BucketsRise bs → BucketsRise (filter test bs)
  rise_among [] rise = tt
  rise_among (b ∷ bs) rise =
      go (test b) refl (rise_after b bs rise) (rise_among bs (rise_tail b bs rise))
    where
      go : (p : Bool) → test b ≡ p → BucketsRise (b ∷ filter test bs) → BucketsRise (filter test bs)
          → BucketsRise (filter test (b ∷ bs))
      go true e taken left = rw e taken
      go false e taken left = rw e left

pub filter_rows : {X : Type 0} (f : X → BucketRow) (xs : List X)
    → map f (filter (λ x. is_dead_bucket (f x)) xs) ≡ filter is_dead_bucket (map f xs)
filter_rows f [] = refl
filter_rows f (x ∷ xs) = go (is_dead_bucket (f x)) refl (filter_rows f xs)
  where
    go : (p : Bool) → is_dead_bucket (f x) ≡ p
        → map f (filter (λ x. is_dead_bucket (f x)) xs) ≡ filter is_dead_bucket (map f xs)
        → map f (filter (λ x. is_dead_bucket (f x)) (x ∷ xs)) ≡ filter is_dead_bucket
        (map f (x ∷ xs))
    go true e same = rw e (ap (λ bs. f x ∷ bs) same)
    go false e same = rw e same

module _ {V E : Type 0} (row : V → List BucketRow) (all : List BucketRow) where
  pub dead_told : (rows : TableRows) (r : Result V E) → IfOk r
      (λ v. row v ≡ filter is_dead_bucket all)
      → OnOk r (BucketsRise all) → AreBuckets (λ b. true) rows all
      → IfOk r (λ v. AreBuckets is_dead_bucket rows (row v))
  dead_told rows (Ok v) is rise found = λ n. ap (find (has n)) is ∙ found_among is_dead_bucket n all
      rise
      ∙ ap (passing is_dead_bucket) (found n ∙ only_all _)
  dead_told rows (Err e) is rise found = tt

  pub dead_rise : (r : Result V E) → IfOk r (λ v. row v ≡ filter is_dead_bucket all)
      → OnOk r (BucketsRise all) → IfOk r (λ v. BucketsRise (row v))
  dead_rise (Ok v) is rise = subst BucketsRise (sym is) (rise_among is_dead_bucket all rise)
  dead_rise (Err e) is rise = tt
