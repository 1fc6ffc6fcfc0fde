-- Buckets with what they count and charges with covered blocks, put one after another.
use Rattle.std.proofs.Common.{◌≡◌, ℕ, Bool, true, false, cond, List, [], ◌∷◌, refl, ap}
use Rattle.std.proofs.Common.{◌∙◌, sym, Option, Some, None}
use Rattle.std.specs.Prelude.{if◌then◌else◌, ◌==◌, ◌&&◌, nat_eq, option_map, is_some}
use Rattle.std.specs.List.{find}
use Rattle.buckets.specs.Row.{BucketRow, IsBalanced}
use Rattle.buckets.specs.Kinds.{IsScopeOf}
use Rattle.buckets.specs.Spend.{Each}
use Rattle.buckets.specs.declared.kind.BucketKind.{BucketKind}
use Rattle.buckets.specs.declared.kind.BucketKind.TheVariants.{Money, Blocks}
use Rattle.ledger.specs.declared.charge.ChargeRow.{ChargeRow}
use Rattle.ledger.specs.Lists.{EachIn}
use Rattle.reserving.specs.Rows.{AreApart}
use Rattle.reserving.specs.Left.{bucket_in, first_of}
use Rattle.reserving.proofs.Lists.{EachIn-found}
use Rattle.reserving.proofs.LeftTests.{none_more}
use Rattle.keepers.specs.Tables.{charge_in}
use Rattle.keepers.specs.Keyed.{same_bucket}
use Rattle.keepers.proofs.Found.{one_bucket}
use Rattle.sql_rows.specs.Content.{TableRows, TablesContent, with_rows, with_bucket}
use Rattle.sql_rows.specs.Content.{with_charge_row}
use Rattle.sql_rows.specs.Content.{with_covered, without_covered}
use Rattle.sql_rows.specs.Values.{plain_bucket, plain_charge}
use Rattle.sql_keeper.specs.Content as content
use Rattle.sql_keeper.specs.Content.{kind_in, covered_in, told_buckets, told_charge}
use Rattle.sql_keeper.specs.Writes.{with_kind, with_scoped, with_counted, with_all_counted}
use Rattle.sql_keeper.specs.Writes.{with_blocks, with_paid, with_all_paid}
use Rattle.sql_keeper.proofs.puts.Overlays.{each, each_over, not_both, number_from, one_charge}
use Rattle.sql_keeper.proofs.puts.Overlays.{same_charge, with_twice}

-- ---- one row over those after it, as another value

module _ {X Y : Type 0} (same : X → X → Bool) (is : X → Bool)
    (one : (x y : X) → is x ≡ true → is y ≡ true → same x y ≡ true) (told : Option X → Y → Y)
    (none : (y : Y) → told None y ≡ y) (value : X → Y → Y)
    (some : (x : X) (y : Y) → told (Some x) y ≡ value x y) where
  pub told_over : (x : X) (xs : List X) (before : Y) → EachIn (λ y. same x y ≡ false) xs
      → told (find is xs) (if is x then value x before else before)
      ≡ told (find is (x ∷ xs)) before
  told_over x xs before h = at (is x) refl
    where
      at : (t : Bool) → is x ≡ t → told (find is xs) (if t then value x before else before)
          ≡ told (cond t (Some x) (find is xs)) before
      at true e = ap (λ o. told o (value x before)) (none_more same is one x xs e h)
          ∙ none (value x before) ∙ sym (some x before)
      at false e = refl

-- ---- buckets

abbrev pub counts_blocks : BucketKind → Bool
counts_blocks Money = false
counts_blocks Blocks = true

kind_back : (k : BucketKind) → kind_in (counts_blocks k) ≡ k
kind_back Money = refl
kind_back Blocks = refl

kind_put : (k : BucketKind) (n : ℕ) (r : TableRows) → with_kind k n r
    ≡ record r { allowances = λ m. if nat_eq n m then counts_blocks k else r.allowances m }
kind_put Money n r = refl
kind_put Blocks n r = refl

-- whether the row beside a bucket is there
abbrev pub counts_scoped : Option ℕ → BucketKind → Bool → Bool
counts_scoped None k before = before
counts_scoped (Some g) k before = counts_blocks k

abbrev scoped_rows : Option ℕ → BucketKind → ℕ → TableRows → TableRows
scoped_rows None k n r = r
scoped_rows (Some g) k n r = with_kind k n r

scoped_put : (o : Option ℕ) (k : BucketKind) (n : ℕ) (r : TableRows) →
    scoped_rows o k n r ≡ record r {
      allowances = λ m. if nat_eq n m then counts_scoped o k (r.allowances m) else r.allowances m;
    }
scoped_put None k n r = λ i. record r {
  allowances = λ m. either (nat_eq n m) (r.allowances m) i;
}
  where
    either : (t b : Bool) → b ≡ (if t then b else b)
    either true b = refl
    either false b = refl
scoped_put (Some g) k n r = kind_put k n r

abbrev put_counted : BucketRow → TableRows → TableRows
put_counted b r = scoped_rows b.scope b.kind b.number (with_bucket (plain_bucket b) r)

counted_one : (a : List ℕ) (o : Option ℕ) (k : BucketKind) (n : ℕ) (f : TableRows → TableRows)
    (c : TablesContent)
    → with_scoped a o k n (with_rows a f c) ≡ with_rows a (λ r. scoped_rows o k n (f r)) c
counted_one a None k n f c = refl
counted_one a (Some g) k n f c = with_twice a (with_kind k n) f c

-- one bucket, put with what it counts
pub counted_put : (a : List ℕ) (b : BucketRow) (c : TablesContent) →
    with_counted a b c ≡ with_rows a (λ r. record (with_bucket (plain_bucket b) r) {
      allowances = λ n. if nat_eq b.number n then counts_scoped b.scope b.kind (r.allowances n)
          else r.allowances n;
    }) c
counted_put a b c =
    counted_one a b.scope b.kind b.number (with_bucket (plain_bucket b)) c
    ∙ (λ i. with_rows a (λ r. scoped_put b.scope b.kind b.number (with_bucket (plain_bucket b) r) i)
    c)

abbrev pub counted_in : Option BucketRow → Option BucketRow → Option BucketRow
counted_in None before = before
counted_in (Some b) before = Some (plain_bucket b)

abbrev pub counts_in : Option BucketRow → Bool → Bool
counts_in None before = before
counts_in (Some b) before = counts_scoped b.scope b.kind before

-- what is under each number once the buckets are put
abbrev pub over_counted : List BucketRow → TableRows → TableRows
over_counted xs r = record r {
  buckets = λ n. counted_in (bucket_in n xs) (r.buckets n);
  allowances = λ n. counts_in (bucket_in n xs) (r.allowances n);
}

counted_each : (a : List ℕ) (xs : List BucketRow) (c : TablesContent) →
    with_all_counted a xs c ≡ each a put_counted xs c
unfolding each
counted_each a [] c = refl
counted_each a (x ∷ xs) c =
    counted_each a xs (with_counted a x c)
    ∙ ap (each a put_counted xs)
    (counted_one a x.scope x.kind x.number (with_bucket (plain_bucket x)) c)

counted_step : (x : BucketRow) (xs : List BucketRow) (r : TableRows) →
    EachIn (λ y. same_bucket x y ≡ false) xs
    → over_counted xs (put_counted x r) ≡ over_counted (x ∷ xs) r
counted_step x xs r apart =
    ap (over_counted xs) (scoped_put x.scope x.kind x.number (with_bucket (plain_bucket x) r))
    ∙ (λ i. record r {
      buckets = λ n. told_over same_bucket (λ b. nat_eq b.number n) (one_bucket n) counted_in
          (λ y. refl) (λ b y. Some (plain_bucket b)) (λ b y. refl) x xs (r.buckets n) apart i;
      allowances = λ n. told_over same_bucket (λ b. nat_eq b.number n) (one_bucket n) counts_in
          (λ y. refl) (λ b y. counts_scoped b.scope b.kind y) (λ b y. refl) x xs (r.allowances n)
          apart i;
    })

pub counted_over : (a : List ℕ) (xs : List BucketRow) (c : TablesContent) →
    AreApart same_bucket xs →
    with_all_counted a xs c ≡ with_rows a (over_counted xs) c
counted_over a xs c h =
    counted_each a xs c
    ∙ each_over a same_bucket put_counted over_counted (λ r. refl) counted_step xs c h

-- each allowance is of one rating group
abbrev pub AreScoped : List BucketRow → Type 0
AreScoped xs = EachIn (λ (b : BucketRow). IsScopeOf b.kind b.scope) xs

pub scoped : (xs : List BucketRow) → Each IsBalanced xs → AreScoped xs
scoped [] h = tt
scoped (x ∷ xs) h = (h.0.scope, scoped xs h.1)

scoped_back : (k : BucketKind) (o : Option ℕ) (before : Bool) → IsScopeOf k o
    → kind_in (is_some o && counts_scoped o k before) ≡ k
scoped_back k (Some g) before h = kind_back k
scoped_back Money None before h = refl
scoped_back Blocks None before h = not_both (sym h)

-- they read as they were put
pub counted_told : (n : ℕ) (xs : List BucketRow) (r : TableRows) → AreScoped xs
    → told_buckets (over_counted xs r) n ≡ first_of (bucket_in n xs) (told_buckets r n)
counted_told n xs r each = at (bucket_in n xs) (λ b e.
    EachIn-found (λ (b : BucketRow). IsScopeOf b.kind b.scope) (λ b. nat_eq b.number n) xs b each e)
    refl
  where
    at : (o : Option BucketRow)
        → ((b : BucketRow) → bucket_in n xs ≡ Some b → IsScopeOf b.kind b.scope)
        → bucket_in n xs ≡ o
        → option_map (content.bucket_in (counts_in o (r.allowances n))) (counted_in o (r.buckets n))
        ≡ first_of o (told_buckets r n)
    at None scope e = refl
    at (Some b) scope e = λ i. Some (record b {
      kind = scoped_back b.kind b.scope (r.allowances n) (scope b e) i;
    })

-- ---- charges

abbrev row_of_blocks : ℕ → Option ℕ
row_of_blocks m = if m == 0 then None else Some m

blocks_back : (m : ℕ) → covered_in (row_of_blocks m) ≡ m
blocks_back m = at (m == 0) refl
  where
    at : (t : Bool) → (m == 0) ≡ t → covered_in (if t then None else Some m) ≡ m
    at true e = sym (number_from m 0 e)
    at false e = refl

blocks_put : (n m : ℕ) (r : TableRows) → with_blocks n m r
    ≡ record r { covered = λ k. if nat_eq n k then row_of_blocks m else r.covered k }
blocks_put n m r = at (m == 0)
  where
    at : (t : Bool)
        → (if t then without_covered n r
        else with_covered (record { number = n; blocks = m }) r)
        ≡ record r {
          covered = λ k. if nat_eq n k then (if t then None else Some m) else r.covered k;
        }
    at true = refl
    at false = refl

abbrev put_paid : ChargeRow → TableRows → TableRows
put_paid x r = with_blocks x.number x.covered.0 (with_charge_row (plain_charge x) r)

abbrev pub paid_in : Option ChargeRow → Option ChargeRow → Option ChargeRow
paid_in None before = before
paid_in (Some x) before = Some (plain_charge x)

abbrev pub blocks_in : Option ChargeRow → Option ℕ → Option ℕ
blocks_in None before = before
blocks_in (Some x) before = row_of_blocks x.covered.0

abbrev pub over_paid : List ChargeRow → TableRows → TableRows
over_paid xs r = record r {
  charges = λ n. paid_in (charge_in n xs) (r.charges n);
  covered = λ n. blocks_in (charge_in n xs) (r.covered n);
}

paid_each : (a : List ℕ) (xs : List ChargeRow) (c : TablesContent) →
    with_all_paid a xs c ≡ each a put_paid xs c
unfolding each
paid_each a [] c = refl
paid_each a (x ∷ xs) c =
    paid_each a xs (with_paid a x c)
    ∙ ap (each a put_paid xs)
    (with_twice a (with_blocks x.number x.covered.0) (with_charge_row (plain_charge x)) c)

paid_step : (x : ChargeRow) (xs : List ChargeRow) (r : TableRows)
    → EachIn (λ y. same_charge x y ≡ false) xs
    → over_paid xs (put_paid x r) ≡ over_paid (x ∷ xs) r
paid_step x xs r apart =
    ap (over_paid xs) (blocks_put x.number x.covered.0 (with_charge_row (plain_charge x) r))
    ∙ (λ i. record r {
      charges = λ n. told_over same_charge (λ b. nat_eq b.number n) (one_charge n) paid_in
          (λ y. refl) (λ b y. Some (plain_charge b)) (λ b y. refl) x xs (r.charges n) apart i;
      covered = λ n. told_over same_charge (λ b. nat_eq b.number n) (one_charge n) blocks_in
          (λ y. refl) (λ b y. row_of_blocks b.covered.0) (λ b y. refl) x xs (r.covered n)
          apart i;
    })

pub paid_over : (a : List ℕ) (xs : List ChargeRow) (c : TablesContent) → AreApart same_charge xs →
    with_all_paid a xs c ≡ with_rows a (over_paid xs) c
paid_over a xs c h =
    paid_each a xs c ∙ each_over a same_charge put_paid over_paid (λ r. refl) paid_step xs c h

pub paid_told : (n : ℕ) (xs : List ChargeRow) (r : TableRows)
    → told_charge (over_paid xs r) n ≡ first_of (charge_in n xs) (told_charge r n)
paid_told n xs r = at (charge_in n xs)
  where
    at : (o : Option ChargeRow)
        → option_map (content.charge_in (blocks_in o (r.covered n))) (paid_in o (r.charges n))
        ≡ first_of o (told_charge r n)
    at None = refl
    at (Some x) =
        λ i. Some (record x { covered = record { 0 = blocks_back x.covered.0 i } })
