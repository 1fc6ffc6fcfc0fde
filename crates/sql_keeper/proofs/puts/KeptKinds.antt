-- Buckets of which it is kept what they count, put without what is beside them.
use Rattle.std.proofs.Common.{◌≡◌, ℕ, Bool, true, false, List, [], ◌∷◌, refl, sym, ap, subst}
use Rattle.std.proofs.Common.{◌∙◌, Option, Some, None, Result}
use Rattle.std.specs.Prelude.{if◌then◌else◌, ◌&&◌, nat_eq, not, option_map, is_some}
use Rattle.std.specs.Borrow.{MutBor}
use Rattle.std.proofs.lemmas.Bool.{and_parts}
use Rattle.sqlite.specs.Held.{Held}
use Rattle.sqlite_trees.specs.Tree.{Trees}
use Rattle.sqlite_trees.specs.declared.store.Store.{Ghosts}
use Rattle.sql_tables.specs.Statements.{AttemptsOver}
use Rattle.identifiers.specs.Texts.{same_name}
use Rattle.buckets.specs.Kinds.{is_alike}
use Rattle.buckets.specs.Row.{BucketRow}
use Rattle.buckets.specs.declared.kind.BucketKind.{BucketKind}
use Rattle.buckets.specs.declared.kind.BucketKind.TheVariants.{Money, Blocks}
use Rattle.ledger.specs.Lists.{EachIn}
use Rattle.reserving.specs.Rows.{AreApart}
use Rattle.reserving.specs.Left.{bucket_in, is_dead, only}
use Rattle.reserving.proofs.Lists.{find-passes, no_some, not_both}
use Rattle.keepers.specs.Keyed.{same_bucket}
use Rattle.keepers.proofs.Found.{one_bucket}
use Rattle.sql_rows.specs.Content.{TableRows, TablesContent, rows_in, with_account, with_bucket}
use Rattle.sql_rows.specs.Content.{with_head, with_rows}
use Rattle.sql_rows.specs.Makes.{Makes}
use Rattle.sql_rows.specs.Values.{plain_bucket}
use Rattle.sql_rows.specs.declared.head.HeadColumns.{HeadColumns}
use Rattle.sql_keeper.specs.Content as content
use Rattle.sql_keeper.specs.Content.{kind_in, Names}
use Rattle.sql_keeper.specs.KeptKinds.{is_alike_in, is_counted}
use Rattle.sql_keeper.specs.KeptRows.{Keeps}
use Rattle.sql_keeper.specs.Writes.{with_all_counted, with_all_counted_over, with_counted}
use Rattle.sql_keeper.specs.Writes.{with_counted_over}
use Rattle.sql_keeper.specs.declared.kept_rows.KeptRows.{KeptRows}
use Rattle.sql_keeper.proofs.puts.CountedPuts.{counted_in, counted_over, counted_put, counts_blocks}
use Rattle.sql_keeper.proofs.puts.CountedPuts.{counts_in, counts_scoped, over_counted, told_over}
use Rattle.sql_keeper.proofs.puts.Overlays.{each, each_over, name_from, number_from, opened_same}
use Rattle.sql_keeper.proofs.puts.Overlays.{with_opened}
use Rattle.sql_keeper.proofs.puts.Puts.{made_as}

-- ---- how one is put

module _ {B E S : Type 0} {g : Ghosts S} (a : List ℕ) (kept : Option KeptRows) (b : BucketRow)
    {old new : MutBor (Held S)} {z : Result B E} where
  pub over_known : is_counted kept a b ≡ true
      → AttemptsOver {A = B} {E = E} g (Makes (with_rows a (with_bucket (plain_bucket b)))) old new z
      → AttemptsOver {A = B} {E = E} g (Makes (with_counted_over a kept b)) old new z
  over_known e = made_as
      (λ i c. if sym e i then with_rows a (with_bucket (plain_bucket b)) c else with_counted a b c)

  pub over_unknown : is_counted kept a b ≡ false
      → AttemptsOver {A = B} {E = E} g (Makes (with_counted a b)) old new z
      → AttemptsOver {A = B} {E = E} g (Makes (with_counted_over a kept b)) old new z
  over_unknown e = made_as
      (λ i c. if sym e i then with_rows a (with_bucket (plain_bucket b)) c else with_counted a b c)

-- ---- what is put, some of it over what stays

module _ (k : BucketRow → Bool) where
  abbrev counts_mixed : BucketRow → Bool → Bool
  counts_mixed b before = if k b then before else counts_scoped b.scope b.kind before

  abbrev put_mixed : BucketRow → TableRows → TableRows
  put_mixed b r = record r {
    buckets = λ n. if nat_eq b.number n then Some (plain_bucket b) else r.buckets n;
    allowances = λ n. if nat_eq b.number n then counts_mixed b (r.allowances n)
        else r.allowances n;
  }

  abbrev mixed_in : Option BucketRow → Bool → Bool
  mixed_in None before = before
  mixed_in (Some b) before = counts_mixed b before

  abbrev over_mixed : List BucketRow → TableRows → TableRows
  over_mixed xs r = record r {
    buckets = λ n. counted_in (bucket_in n xs) (r.buckets n);
    allowances = λ n. mixed_in (bucket_in n xs) (r.allowances n);
  }

  mixed_step : (x : BucketRow) (xs : List BucketRow) (r : TableRows) →
      EachIn (λ y. same_bucket x y ≡ false) xs
      → over_mixed xs (put_mixed x r) ≡ over_mixed (x ∷ xs) r
  mixed_step x xs r apart = λ i. record r {
    buckets = λ n. told_over same_bucket (λ b. nat_eq b.number n) (one_bucket n) counted_in
        (λ y. refl) (λ b y. Some (plain_bucket b)) (λ b y. refl) x xs (r.buckets n) apart i;
    allowances = λ n. told_over same_bucket (λ b. nat_eq b.number n) (one_bucket n) mixed_in
        (λ y. refl) (λ b y. counts_mixed b y) (λ b y. refl) x xs (r.allowances n) apart i;
  }

  -- where what stays is what would be put, all is put
  mixed_is : (xs : List BucketRow) (r : TableRows)
      → ((n : ℕ) (b : BucketRow) → bucket_in n xs ≡ Some b → k b ≡ true
      → r.allowances n ≡ counts_scoped b.scope b.kind (r.allowances n))
      → over_mixed xs r ≡ over_counted xs r
  mixed_is xs r stays = λ i. record (over_counted xs r) {
    allowances = λ n. same n (bucket_in n xs) refl i;
  }
    where
      same : (n : ℕ) (o : Option BucketRow) → bucket_in n xs ≡ o
          → mixed_in o (r.allowances n) ≡ counts_in o (r.allowances n)
      same n None e = refl
      same n (Some b) e = at (k b) refl
        where
          at : (t : Bool) → k b ≡ t
              → (if t then r.allowances n else counts_scoped b.scope b.kind (r.allowances n))
              ≡ counts_scoped b.scope b.kind (r.allowances n)
          at true f = stays n b e f
          at false f = refl

-- ---- all buckets

module _ (a : List ℕ) (kept : Option KeptRows) where
  abbrev known : BucketRow → Bool
  known b = is_counted kept a b

  -- what stays, as if it were put
  as_put : (p : Bool) (v : Bool) → v ≡ (if p then v else v)
  as_put true v = refl
  as_put false v = refl

  known_put : (b : BucketRow) (c : TablesContent) → known b ≡ true →
      with_rows a (with_bucket (plain_bucket b)) c ≡ with_rows a (put_mixed known b) c
  known_put b c e =
      (λ i. with_rows a (λ r. record (with_bucket (plain_bucket b) r) {
        allowances = λ n. as_put (nat_eq b.number n) (r.allowances n) i;
      }) c)
      ∙ (λ i. with_rows a (λ r. record (with_bucket (plain_bucket b) r) {
        allowances = λ n. if nat_eq b.number n
            then (if sym e i then r.allowances n else counts_scoped b.scope b.kind (r.allowances n))
            else r.allowances n;
      }) c)

  unknown_put : (b : BucketRow) (c : TablesContent) → known b ≡ false →
      with_counted a b c ≡ with_rows a (put_mixed known b) c
  unknown_put b c e =
      counted_put a b c
      ∙ (λ i. with_rows a (λ r. record (with_bucket (plain_bucket b) r) {
        allowances = λ n. if nat_eq b.number n
            then (if sym e i then r.allowances n else counts_scoped b.scope b.kind (r.allowances n))
            else r.allowances n;
      }) c)

  one_put : (b : BucketRow) (c : TablesContent) →
      with_counted_over a kept b c ≡ with_rows a (put_mixed known b) c
  one_put b c = at (known b) refl
    where
      at : (t : Bool) → known b ≡ t →
          (if t then with_rows a (with_bucket (plain_bucket b)) c else with_counted a b c)
          ≡ with_rows a (put_mixed known b) c
      at true e = known_put b c e
      at false e = unknown_put b c e

  mixed_each : (xs : List BucketRow) (c : TablesContent) →
      with_all_counted_over a kept xs c ≡ each a (put_mixed known) xs c
  unfolding each
  mixed_each [] c = refl
  mixed_each (x ∷ xs) c =
      mixed_each xs (with_counted_over a kept x c)
      ∙ ap (each a (put_mixed known) xs) (one_put x c)

  mixed_over : (xs : List BucketRow) (c : TablesContent) → AreApart same_bucket xs →
      with_all_counted_over a kept xs c ≡ with_rows a (over_mixed known xs) c
  mixed_over xs c apart =
      mixed_each xs c
      ∙ each_over a same_bucket (put_mixed known) (over_mixed known) (λ r. refl)
      (mixed_step known) xs c apart

-- ---- over rows that are so

-- the row beside it is there as it would be put
abbrev pub IsCountedIn : TableRows → BucketRow → Type 0
IsCountedIn r b = r.allowances b.number ≡ counts_blocks b.kind

module _ (a : List ℕ) (kept : Option KeptRows) (h : HeadColumns) (xs : List BucketRow)
    (c : TablesContent) (apart : AreApart same_bucket xs)
    (stand : (b : BucketRow) → is_counted kept a b ≡ true → IsCountedIn (c.rows a) b) where
  still_counted : (n : ℕ) (b : BucketRow) → bucket_in n xs ≡ Some b → is_counted kept a b ≡ true
      → (c.rows a).allowances n ≡ counts_scoped b.scope b.kind ((c.rows a).allowances n)
  still_counted n b e k = at b.scope
    where
      here : b.number ≡ n
      here = number_from b.number n (find-passes (λ (x : BucketRow). nat_eq x.number n) xs b e)

      at : (o : Option ℕ)
          → (c.rows a).allowances n ≡ counts_scoped o b.kind ((c.rows a).allowances n)
      at None = refl
      at (Some g) = sym (ap (c.rows a).allowances here) ∙ stand b k

  -- rule: database-writes.counted
  pub all_counted_are : with_all_counted_over a kept xs (with_account a h c)
      ≡ with_all_counted a xs (with_account a h c)
  all_counted_are =
      mixed_over a kept xs (with_account a h c) apart
      ∙ with_opened a (over_mixed (λ b. is_counted kept a b) xs) (with_head h) c
      ∙ opened_same a (λ r. over_mixed (λ b. is_counted kept a b) xs (with_head h r))
      (λ r. over_counted xs (with_head h r)) c
      (mixed_is (λ b. is_counted kept a b) xs (with_head h (c.rows a)) still_counted)
      ∙ sym (with_opened a (over_counted xs) (with_head h) c)
      ∙ sym (counted_over a xs (with_account a h c) apart)

-- ---- what is kept

-- of what passes, what there is
passing : (live : BucketRow → Bool) (o : Option BucketRow) (y : BucketRow) → only live o ≡ Some y
    → o ≡ Some y
passing live None y e = absurd (no_some y e)
passing live (Some z) y e = at (live z) e
  where
    at : (t : Bool) → (if t then Some z else None) ≡ Some y → Some z ≡ Some y
    at true f = f
    at false f = absurd (no_some y f)

-- a bucket of one rating group counts what the row beside it says
said_alike : (s there : Bool) (k : BucketKind) → (s && is_alike (kind_in (s && there)) k) ≡ true
    → there ≡ counts_blocks k
said_alike true true Money e = absurd (not_both e)
said_alike true true Blocks e = refl
said_alike true false Money e = refl
said_alike true false Blocks e = absurd (not_both e)
said_alike false there k e = absurd (not_both e)

told_alike : (there : Bool) (o : Option BucketRow) (b : BucketRow)
    → is_alike_in (option_map (content.bucket_in there) o) b ≡ true → there ≡ counts_blocks b.kind
told_alike there None b e = absurd (not_both e)
told_alike there (Some z) b e = said_alike (is_some z.scope) there b.kind e

kept_alike : (there : Bool) (row : Option BucketRow) (o : Option BucketRow) (b : BucketRow)
    → o ≡ only (λ x. not (is_dead x)) (option_map (content.bucket_in there) row)
    → is_alike_in o b ≡ true → there ≡ counts_blocks b.kind
kept_alike there row None b is e = absurd (not_both e)
kept_alike there row (Some y) b is e = told_alike there row b
    (subst (λ p. is_alike_in p b ≡ true)
    (sym (passing (λ x. not (is_dead x)) (option_map (content.bucket_in there) row) y (sym is))) e)

-- rule: database-writes.counted
pub keeps_counted : (names : Names) (kept : Option KeptRows) (trees : Trees) (a : List ℕ)
    (b : BucketRow) → Keeps names kept trees → is_counted kept a b ≡ true
    → IsCountedIn (rows_in trees a) b
keeps_counted names None trees a b keeps e = absurd (not_both e)
keeps_counted names (Some x) trees a b keeps e =
    let both = and_parts (same_name x.account a)
    (is_alike_in (bucket_in b.number x.rows.purse) b) e in
    subst (λ n. IsCountedIn (rows_in trees n) b) (name_from x.account a both.0)
    (kept_alike ((rows_in trees x.account).allowances b.number)
    ((rows_in trees x.account).buckets b.number) (bucket_in b.number x.rows.purse) b
    (keeps.told.buckets b.number) both.1)
