-- Rows found by number among those that pass, and among merged ones.
use Rattle.std.proofs.Common.{◌≡◌, ℕ, Bool, true, false, cond, List, [], ◌∷◌, ◌++◌, refl, sym}
use Rattle.std.proofs.Common.{ap, ◌∙◌, Option, Some, None}
use Rattle.std.specs.Prelude.{if◌then◌else◌, ◌==◌, ◌≢◌, filter}
use Rattle.buckets.specs.Row.{BucketRow, precedes}
use Rattle.buckets.specs.Spend.{AreDistinct, DiffersFromAll}
use Rattle.ledger.specs.Lists.{EachIn}
use Rattle.reserving.specs.Rows.{AreApart}
use Rattle.reserving.proofs.Lists.{no_some}
use Rattle.reserving.proofs.Keys.{same_number}
use Rattle.reserving.specs.Left.{bucket_in, placed, merged, only, first_of}
use Rattle.reserving.proofs.LeftTests.{find_filter}
use Rattle.keepers.specs.Keyed.{same_bucket}

-- ---- what one of two lists alone says

pub told_by_one : {A : Type 0} (o l x : Option A) → (x ≡ None → o ≡ l) →
    ((y : A) → l ≡ Some y → x ≡ None) → first_of x o ≡ first_of l x
told_by_one o None None h k = h refl
told_by_one o None (Some x) h k = refl
told_by_one o (Some y) None h k = h refl
told_by_one o (Some y) (Some x) h k = absurd (no_some x (sym (k y refl)))

-- ---- one number each

number_apart : (x : BucketRow) (xs : List BucketRow) → DiffersFromAll x.number xs →
    EachIn (λ y. (y.number == x.number) ≡ false) xs
number_apart x [] h = tt
number_apart x (y ∷ ys) h = (at (y.number == x.number) refl, number_apart x ys h.1)
  where
    at : (t : Bool) → (y.number == x.number) ≡ t → t ≡ false
    at true e = absurd (h.0 (same_number y.number x.number e))
    at false e = refl

pub distinct_apart : (xs : List BucketRow) → AreDistinct xs → AreApart same_bucket xs
distinct_apart [] h = tt
distinct_apart (x ∷ xs) h = (number_apart x xs h.0, distinct_apart xs h.1)

pub one_bucket : (n : ℕ) (x y : BucketRow) → (x.number == n) ≡ true → (y.number == n) ≡ true →
    same_bucket x y ≡ true
one_bucket n x y e k = (λ i. y.number == same_number x.number n e i) ∙ k

pub bucket_filter : (n : ℕ) (p : BucketRow → Bool) (xs : List BucketRow) → AreDistinct xs →
    bucket_in n (filter p xs) ≡ only p (bucket_in n xs)
bucket_filter n p xs h = find_filter same_bucket (λ b. b.number == n) (one_bucket n) p xs
    (distinct_apart xs h)

-- ---- merged

differs_placed : (n : ℕ) (b : BucketRow) (xs : List BucketRow) → DiffersFromAll n (placed b xs) →
    (b.number ≢ n) × DiffersFromAll n xs
differs_placed n b [] h = (h.0, tt)
differs_placed n b (x ∷ xs) h = at (precedes b x) h (differs_placed n b xs)
  where
    at : (t : Bool) → DiffersFromAll n (if t then b ∷ x ∷ xs else x ∷ placed b xs) →
        (DiffersFromAll n (placed b xs) → (b.number ≢ n) × DiffersFromAll n xs) →
        (b.number ≢ n) × DiffersFromAll n (x ∷ xs)
    at true k rest = (k.0, k.1)
    at false k rest = let r = rest k.1 in (r.0, (k.0, r.1))

pub distinct_placed : (b : BucketRow) (xs : List BucketRow) → AreDistinct (placed b xs) →
    DiffersFromAll b.number xs × AreDistinct xs
distinct_placed b [] h = (tt, tt)
distinct_placed b (x ∷ xs) h = at (precedes b x) h (distinct_placed b xs)
  where
    turned : b.number ≢ x.number → x.number ≢ b.number
    turned n e = n (sym e)

    at : (t : Bool) → AreDistinct (if t then b ∷ x ∷ xs else x ∷ placed b xs) →
        (AreDistinct (placed b xs) → DiffersFromAll b.number xs × AreDistinct xs) →
        DiffersFromAll b.number (x ∷ xs) × AreDistinct (x ∷ xs)
    at true k rest = (k.0, k.1)
    at false k rest = let r = rest k.1 in let d =
        differs_placed x.number b xs k.0 in ((turned d.0, r.0), (d.1, r.1))

bucket_placed : (n : ℕ) (b : BucketRow) (xs : List BucketRow) → DiffersFromAll b.number xs →
    bucket_in n (placed b xs) ≡ first_of (bucket_in n xs) (cond (b.number == n) (Some b) None)
bucket_placed n b [] h = refl
bucket_placed n b (x ∷ xs) h =
    at (precedes b x) (b.number == n) (x.number == n) refl refl (bucket_placed n b xs h.1)
  where
    none : (b.number == n) ≡ true → (ys : List BucketRow) → DiffersFromAll b.number ys →
        bucket_in n ys ≡ None
    none e [] d = refl
    none e (y ∷ ys) d = by (y.number == n) refl (none e ys d.1)
      where
        by : (t : Bool) → (y.number == n) ≡ t → bucket_in n ys ≡ None →
            cond t (Some y) (bucket_in n ys) ≡ None
        by true k rest = absurd (d.0 (same_number y.number n k ∙ sym (same_number b.number n e)))
        by false k rest = rest

    both : {A : Type 0} (o : Option A) → first_of o None ≡ o
    both None = refl
    both (Some y) = refl

    at : (p u v : Bool) → (b.number == n) ≡ u → (x.number == n) ≡ v →
        bucket_in n (placed b xs) ≡ first_of (bucket_in n xs) (cond (b.number == n) (Some b) None) →
        bucket_in n (if p then b ∷ x ∷ xs else x ∷ placed b xs) ≡
        first_of (cond v (Some x) (bucket_in n xs)) (cond u (Some b) None)
    at true true v e k rest =
        rw e
        (sym (ap (λ o. first_of o (Some b)) (ap (λ t. cond t (Some x) (bucket_in n xs)) (sym k)
        ∙ none e (x ∷ xs) h)))
    at true false v e k rest = rw (e, k) (sym (both (cond v (Some x) (bucket_in n xs))))
    at false true true e k rest =
        absurd (h.0 (same_number x.number n k ∙ sym (same_number b.number n e)))
    at false true false e k rest =
        rw k (rest ∙ ap (λ t. first_of (bucket_in n xs) (cond t (Some b) None)) e)
    at false false true e k rest = rw k refl
    at false false false e k rest =
        rw k (rest ∙ ap (λ t. first_of (bucket_in n xs) (cond t (Some b) None)) e)

later_first : {A : Type 0} (o p q : Option A) →
    first_of (first_of o p) q ≡ first_of o (first_of p q)
later_first None p q = refl
later_first (Some x) p q = refl

cond_first : (t : Bool) (b : BucketRow) (o : Option BucketRow) → (t ≡ true → o ≡ None) →
    first_of o (cond t (Some b) None) ≡ cond t (Some b) o
cond_first true b o h = ap (λ p. first_of p (Some b)) (h refl)
cond_first false b None h = refl
cond_first false b (Some x) h = refl

pub distinct_merged : (left rows : List BucketRow) → AreDistinct (merged left rows) →
    AreDistinct rows
distinct_merged [] rows h = h
distinct_merged (b ∷ bs) rows h = distinct_merged bs rows (distinct_placed b (merged bs rows) h).1

-- found among those loaded, or among those left
pub bucket_merged : (n : ℕ) (left rows : List BucketRow) → AreDistinct (merged left rows) →
    bucket_in n (merged left rows) ≡ first_of (bucket_in n rows) (bucket_in n left)
bucket_merged n [] rows h = sym (both (bucket_in n rows))
  where
    both : {A : Type 0} (o : Option A) → first_of o None ≡ o
    both None = refl
    both (Some y) = refl
bucket_merged n (b ∷ bs) rows h =
    let d = distinct_placed b (merged bs rows) h in
    let rest : bucket_in n (merged bs rows) ≡ first_of (bucket_in n rows) (bucket_in n bs) =
    bucket_merged n bs rows d.1 in
    bucket_placed n b (merged bs rows) d.0
    ∙ ap (λ o. first_of o (cond (b.number == n) (Some b) None)) rest
    ∙ later_first (bucket_in n rows) (bucket_in n bs) (cond (b.number == n) (Some b) None)
    ∙ at (sym rest) (b.number == n) refl
  where
    none : (ys : List BucketRow) → (b.number == n) ≡ true → DiffersFromAll b.number ys →
        bucket_in n ys ≡ None
    none [] e d = refl
    none (y ∷ ys) e d = by (y.number == n) refl (none ys e d.1)
      where
        by : (t : Bool) → (y.number == n) ≡ t → bucket_in n ys ≡ None →
            cond t (Some y) (bucket_in n ys) ≡ None
        by true k rest = absurd (d.0 (same_number y.number n k ∙ sym (same_number b.number n e)))
        by false k rest = rest

    second_none : (o p : Option BucketRow) → first_of o p ≡ None → p ≡ None
    second_none None p e = e
    second_none (Some x) p e = absurd (no_some x (sym e))

    at : first_of (bucket_in n rows) (bucket_in n bs) ≡ bucket_in n (merged bs rows) → (t : Bool) →
        (b.number == n) ≡ t → first_of (bucket_in n rows)
        (first_of (bucket_in n bs) (cond t (Some b) None)) ≡
        first_of (bucket_in n rows) (cond t (Some b) (bucket_in n bs))
    at is t e = ap (first_of (bucket_in n rows)) (cond_first t b (bucket_in n bs) (λ k.
        second_none (bucket_in n rows) (bucket_in n bs)
        (is ∙ none (merged bs rows) (e ∙ k) (distinct_placed b (merged bs rows) h).0)))

-- ---- two lists of which no row has the key of another

pub apart_first : {A : Type 0} (same : A → A → Bool) (xs ys : List A) → AreApart same (xs ++ ys) →
    AreApart same xs
apart_first same [] ys h = tt
apart_first same (x ∷ xs) ys h =
    (each_first (λ y. same x y ≡ false) xs ys h.0, apart_first same xs ys h.1)
  where
    each_first : {A : Type 0} (P : A → Type 0) (xs ys : List A) → EachIn P (xs ++ ys) → EachIn P xs
    each_first P [] ys k = tt
    each_first P (x ∷ xs) ys k = (k.0, each_first P xs ys k.1)

pub apart_rest : {A : Type 0} (same : A → A → Bool) (xs ys : List A) → AreApart same (xs ++ ys) →
    AreApart same ys
apart_rest same [] ys h = h
apart_rest same (x ∷ xs) ys h = apart_rest same xs ys h.1
