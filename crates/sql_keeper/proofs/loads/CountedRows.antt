-- Buckets that are made of rows with what each counts.
use Rattle.std.proofs.Common.{◌≡◌, ◌<◌, ℕ, Bool, true, false, cond, not, List, [], ◌∷◌, ◌++◌, map}
use Rattle.std.proofs.Common.{Option, Some, None, Result, Ok, Err, IfOk, refl, sym, ap, ◌∙◌, subst}
use Rattle.std.specs.Prelude.{if◌then◌else◌, ◌||◌, nat_eq, option_map, is_some}
use Rattle.std.specs.List.{find, list_any}
use Rattle.std.proofs.Common.{◌+◌, length, get_or, take, drop}
use Rattle.std.proofs.lemmas.List.{map_more}
use Rattle.buckets.specs.Row.{BucketRow}
use Rattle.buckets.specs.declared.bucket.columns.Columns.{Columns}
use Rattle.reserving.specs.Left.{is_dead, only, bucket_in}
use Rattle.sql_tables.specs.Selects.{passing}
use Rattle.sql_rows.specs.Content.{TableRows}
use Rattle.sql_rows.specs.Lists.{AreAllowances, AreBuckets, BucketsRise, is_live_bucket}
use Rattle.sql_rows.specs.Lists as lists
use Rattle.sql_rows.specs.Texts.{AreLive, bucket_row, columns_of}
use Rattle.sql_rows.specs.declared.live_bucket_rows.LiveBucket.{LiveBucket}
use Rattle.sql_keeper.specs.Content as content
use Rattle.sql_keeper.specs.Content.{told_buckets}
use Rattle.sql_keeper.specs.Dead.{AreDead}
use Rattle.sql_keeper.specs.Kinds.{counted_by, counted_live}
use Rattle.sql_keeper.specs.LiveRows.{AreLiveBuckets}
use Rattle.sql_keeper.proofs.loads.DeadRows.{apart, spent_is_dead, in_order}
use Rattle.sql_keeper.proofs.puts.Overlays.{number_from}

-- as the row under its number says
abbrev counted_row : TableRows → BucketRow → BucketRow
counted_row rows b = content.bucket_in (rows.allowances b.number) b

-- ---- found by its number

counted_found : (rows : TableRows) (n : ℕ) (bs : List BucketRow)
    → bucket_in n (map (counted_row rows) bs)
    ≡ option_map (content.bucket_in (rows.allowances n)) (bucket_in n bs)
counted_found rows n [] = refl
counted_found rows n (b ∷ bs) = at (nat_eq b.number n) refl (counted_found rows n bs)
  where
    at : (t : Bool) → nat_eq b.number n ≡ t
        → bucket_in n (map (counted_row rows) bs)
        ≡ option_map (content.bucket_in (rows.allowances n)) (bucket_in n bs)
        → cond t (Some (counted_row rows b)) (bucket_in n (map (counted_row rows) bs))
        ≡ option_map (content.bucket_in (rows.allowances n)) (cond t (Some b) (bucket_in n bs))
    at true e rest =
        ap (λ m. Some (content.bucket_in (rows.allowances m) b)) (number_from b.number n e)
    at false e rest = rest

-- of those that pass a test, which asks nothing of what is counted
module _ (p q : BucketRow → Bool) (same : (k : Bool) (b : BucketRow) →
    p b ≡ q (content.bucket_in k b))
    (rows : TableRows) (bs : List BucketRow) (found : AreBuckets p rows bs) where
  passed : (k : Bool) (o : Option BucketRow)
      → option_map (content.bucket_in k) (passing p o) ≡ only q (option_map (content.bucket_in k) o)
  passed k None = refl
  passed k (Some b) =
      at (p b) ∙ ap (λ t. if t then Some (content.bucket_in k b) else None) (same k b)
    where
      at : (t : Bool) → option_map (content.bucket_in k) (if t then Some b else None)
          ≡ (if t then Some (content.bucket_in k b) else None)
      at true = refl
      at false = refl

  counted_told : (n : ℕ)
      → bucket_in n (map (counted_row rows) bs) ≡ only q (told_buckets rows n)
  counted_told n =
      counted_found rows n bs
      ∙ ap (option_map (content.bucket_in (rows.allowances n))) (found n)
      ∙ passed (rows.allowances n) (rows.buckets n)

-- ---- live ones

live_is : (k : Bool) (b : BucketRow) → is_live_bucket b ≡ not (is_dead (content.bucket_in k b))
live_is k b = sym (twice (is_live_bucket b)) ∙ ap not (spent_is_dead b)
  where
    twice : (t : Bool) → not (not t) ≡ t
    twice true = refl
    twice false = refl

-- as is read with each
by_kinds : (rows : TableRows) (xs : List LiveBucket)
    → map (λ x. x.counts_blocks) xs ≡ map (λ x. rows.allowances x.number) (columns_of xs)
    → map counted_live xs ≡ map (counted_row rows) (map bucket_row (columns_of xs))
by_kinds rows [] kinds = refl
by_kinds rows (x ∷ xs) kinds = λ i.
    content.bucket_in (get_or (kinds i) 0 false) (bucket_row x.columns)
    ∷ by_kinds rows xs (ap (drop 1) kinds) i

live_told : (rows : TableRows) (xs : List LiveBucket) → AreLive rows xs
    → AreLiveBuckets rows (map counted_live xs)
live_told rows xs live n =
    ap (bucket_in n) (by_kinds rows xs live.kinds)
    ∙ counted_told is_live_bucket (λ b. not (is_dead b)) live_is rows
    (map bucket_row (columns_of xs)) live.buckets n

-- as a purse
pub purse_told : {E : Type 0} (rows : TableRows) (xs ys : List LiveBucket)
    (r : Result (List BucketRow) E) → AreLive rows xs → ys ≡ xs
    → IfOk r (λ purse. purse ≡ map counted_live ys) → IfOk r (AreLiveBuckets rows)
purse_told rows xs ys (Ok purse) live same is =
    subst (AreLiveBuckets rows) (sym (is ∙ ap (map counted_live) same)) (live_told rows xs live)
purse_told rows xs ys (Err e) live same is = tt

-- ---- dead ones

any_found : {A : Type 0} (p : A → Bool) (xs : List A) → list_any p xs ≡ is_some (find p xs)
any_found p [] = refl
any_found p (x ∷ xs) = at (p x) (any_found p xs)
  where
    at : (t : Bool) → list_any p xs ≡ is_some (find p xs)
        → (t || list_any p xs) ≡ is_some (cond t (Some x) (find p xs))
    at true rest = refl
    at false rest = rest

by_numbers : (rows : TableRows) (numbers : List ℕ) → AreAllowances rows numbers →
    (xs : List Columns)
    → map (counted_by numbers) xs ≡ map (counted_row rows) (map bucket_row xs)
by_numbers rows numbers are [] = refl
by_numbers rows numbers are (x ∷ xs) = λ i.
    content.bucket_in ((any_found (λ n. nat_eq n x.number) numbers ∙ are x.number) i) (bucket_row x)
    ∷ by_numbers rows numbers are xs i

rise_counted : (rows : TableRows) (bs : List BucketRow) → BucketsRise bs →
    BucketsRise (map (counted_row rows) bs)
rise_counted rows [] rise = tt
rise_counted rows (b ∷ []) rise = tt
rise_counted rows (b ∷ c ∷ ds) rise = (rise.0, rise_counted rows (c ∷ ds) rise.1)

dead_told : (rows : TableRows) (xs : List Columns) (numbers : List ℕ) (bs : List BucketRow)
    → AreBuckets lists.is_dead_bucket rows (map bucket_row xs) → BucketsRise (map bucket_row xs)
    → AreAllowances rows numbers → bs ≡ map (counted_by numbers) xs
    → AreDead (told_buckets rows) bs
dead_told rows xs numbers bs found rise are made =
    let cs : List BucketRow = map bucket_row xs in
    let is : bs ≡ map (counted_row rows) cs = made ∙ by_numbers rows numbers are xs in
    subst (AreDead (told_buckets rows)) (sym is) (record {
      found = counted_told lists.is_dead_bucket is_dead (λ k b. spent_is_dead b) rows cs found;
      apart = apart (map (counted_row rows) cs) (rise_counted rows cs rise);
      order = in_order (map (counted_row rows) cs) (rise_counted rows cs rise);
    })

-- of rows and numbers that are handed on
pub dead_made : {V E : Type 0} (items : V → List BucketRow) (rows : TableRows)
    (xs ys : List Columns)
    (numbers others : List ℕ) (r : Result V E) → ys ≡ xs → others ≡ numbers
    → AreBuckets lists.is_dead_bucket rows (map bucket_row xs) → BucketsRise (map bucket_row xs)
    → AreAllowances rows numbers → IfOk r (λ v. items v ≡ map (counted_by others) ys)
    → IfOk r (λ v. AreDead (told_buckets rows) (items v))
dead_made items rows xs ys numbers others (Ok v) is same found rise are made =
    dead_told rows xs numbers (items v) found rise are
    (made ∙ (λ i. map (counted_by (same i)) (is i)))
dead_made items rows xs ys numbers others (Err e) is same found rise are made = tt

-- ---- the next of them

pub next_counted : (numbers : List ℕ) (rows : List Columns) (i : ℕ) (x : Columns)
    (is_allowance : Bool) (bs cs : List BucketRow) (b : BucketRow) → i < length rows →
    x ≡ get_or rows i x
    → cs ≡ bs ++ b ∷ [] → bs ≡ map (counted_by numbers) (take i rows)
    → is_allowance ≡ list_any (λ n. nat_eq n x.number) numbers
    → b ≡ content.bucket_in is_allowance (bucket_row x)
    → cs ≡ map (counted_by numbers) (take (i + 1) rows)
next_counted numbers rows i x is_allowance bs cs b less at more before is made =
    let one : b ≡ counted_by numbers (get_or rows i x) =
    made ∙ ap (λ t. content.bucket_in t (bucket_row x)) is ∙ ap (counted_by numbers) at in
    more ∙ (λ j. before j ++ one j ∷ []) ∙ sym (map_more (counted_by numbers) rows i x less)

pub next_live : (rows : List LiveBucket) (i : ℕ) (x : LiveBucket) (bs cs : List BucketRow)
    (b : BucketRow) → i < length rows → x ≡ get_or rows i x
    → cs ≡ bs ++ b ∷ [] → bs ≡ map counted_live (take i rows) → b ≡ counted_live x
    → cs ≡ map counted_live (take (i + 1) rows)
next_live rows i x bs cs b less at more before made =
    more ∙ (λ j. before j ++ (made ∙ ap counted_live at) j ∷ [])
    ∙ sym (map_more counted_live rows i x less)
