-- What the text of `read_buckets_live` answers.
use Rattle.std.specs.Prelude.{codes, is_some, option_map}
use Rattle.std.proofs.Common.{◌≡◌, inl, inr, ℕ, pos, List, [], ◌∷◌, ◌++◌, map, drop, take, Bool}
use Rattle.std.proofs.Common.{true, false, ◌&&◌, ◌||◌, ◌⊎◌, Option, Some, None, is_eq, refl, sym}
use Rattle.std.proofs.Common.{ap, ap₂, subst, ◌∙◌, nat_eq, nat_lt, arith}
use Rattle.std.proofs.lemmas.Bool.{and_from, and_parts, cases_Bool}
use Rattle.std.proofs.lemmas.Bool.Decides.{nat_tests}
use Rattle.std.specs.Cmp.{unsigned_Decides}
use Rattle.std.specs.FinMap.{get-from_entries}
use Rattle.std.specs.FinMap.Entries.{find as look_in}
use Rattle.std.specs.List.{AllByRecursion, list_any}
use Rattle.sqlite_value.specs.declared.value.Value.{Value}
use Rattle.sqlite_value.specs.declared.value.Value.TheVariants.{Null, Int, Text}
use Rattle.sqlite_value.specs.declared.keys.Collation.{Collation}
use Rattle.sqlite_value.specs.declared.keys.Collation.TheVariants.{Binary}
use Rattle.sqlite_value.specs.declared.keys.Key.{Key}
use Rattle.sqlite_value.specs.Keys.{first_key}
use Rattle.sqlite_value.specs.Order.{Row, column, row_cmp}
use Rattle.sqlite_value.proofs.OrderLemmas.{row_cmp_total}
use Rattle.sqlite_trees.specs.Tree.{Trees}
use Rattle.sqlite_sql.specs.declared.ops.BinaryOp.TheVariants.{Compare}
use Rattle.sqlite_sql.specs.declared.ops.CompareOp.TheVariants.{Eq, Ge}
use Rattle.sqlite_sql.specs.Ops.{is_null}
use Rattle.sqlite_sql.specs.Term.{Term, lit, col, op2}
use Rattle.sqlite_schema.specs.declared.command.Command.TheVariants.{Select}
use Rattle.sqlite_schema.specs.Rules.{equal}
use Rattle.sqlite_rules.specs.Lists.{Has}
use Rattle.sqlite_tied.specs.Compute.{everything}
use Rattle.sqlite.specs.Given.{IsPlain}
use Rattle.sqlite.specs.Listing.{understood, reads_listing}
use Rattle.sqlite.specs.State.{State}
use Rattle.sqlite.proofs.Callers.{command_of}
use Rattle.sql_tables.specs.Keyed.{entries_of, key_of, look}
use Rattle.sql_tables.specs.Schema.{allowance_buckets, buckets, our_schema}
use Rattle.sql_tables.specs.Statements.{Answers}
use Rattle.sql_tables.proofs.ByKey.{answered_told}
use Rattle.sql_tables.proofs.Keys.{keys_back}
use Rattle.sql_tables.proofs.Selected.{AreAnswered}
use Rattle.sql_tables.proofs.Selections.{full_key, meets}
use Rattle.sql_tables.proofs.Steps.{and_last, mapped_from, mapped_to, same_test}
use Rattle.sql_tables.proofs.Ties.{agree_ties, equal_is}
use Rattle.buckets.specs.declared.bucket.columns.Columns.{Columns as BucketColumns}
use Rattle.buckets.specs.declared.kind.BucketKind.{BucketKind}
use Rattle.buckets.specs.declared.kind.BucketKind.TheVariants.{Money, Blocks}
use Rattle.buckets.specs.Row.{BucketRow}
use Rattle.sql_rows.specs.Values.{nat, nat_in, allowance_in, bucket_key, bucket_in_row}
use Rattle.sql_rows.specs.Values.{bucket_cells, cells_of, flag_number, money_cells}
use Rattle.sql_rows.specs.Content.{rows_in}
use Rattle.sql_rows.specs.Lists.{AreBuckets, is_held, is_left, is_live_bucket}
use Rattle.sql_rows.specs.Texts.{AreLive, bucket_row, columns_of, live_cells}
use Rattle.sql_rows.specs.declared.live_bucket_rows.LiveBucket.{LiveBucket}
use Rattle.sql_rows.proofs.queries.Beside.{beside_told, part_beside}
use Rattle.sql_rows.proofs.rules.BucketRules.{HasNumbers, has_numbers}
use Rattle.sql_rows.proofs.selections.ReadBuckets.{back, columns, front, names, rest, splits}
use Rattle.sql_rows.proofs.selections.ReadBuckets.{wanted}
use Rattle.sql_rows.proofs.queries.Tests.{any_told, is_any, none_told}
use Rattle.sql_rows.proofs.queries.Unioned.{AreUnited, union_of}

abbrev pub read_live_text : List ℕ
read_live_text =
    codes "SELECT number, starts, ends, scope, credited, available, reserved, charged, expired, "
    ++ codes "EXISTS (SELECT 1 FROM allowance_buckets "
    ++ codes "WHERE allowance_buckets.account = buckets.account "
    ++ codes "AND allowance_buckets.number = buckets.number) AS counts_blocks "
    ++ codes "FROM buckets WHERE account = ?1 AND available >= 1 UNION ALL "
    ++ codes "SELECT number, starts, ends, scope, credited, available, reserved, charged, expired, "
    ++ codes "EXISTS (SELECT 1 FROM allowance_buckets "
    ++ codes "WHERE allowance_buckets.account = buckets.account "
    ++ codes "AND allowance_buckets.number = buckets.number) AS counts_blocks "
    ++ codes "FROM buckets WHERE account = ?1 AND available = 0 AND reserved >= 1 "
    ++ codes "ORDER BY ends, number"

abbrev left_terms : List Term
left_terms =
    op2 (Compare Eq Binary) (col 1 1) (col 0 0)
    ∷ op2 (Compare Ge Binary) (col 1 7) (lit (Int (pos 1))) ∷ []

abbrev held_terms : List Term
held_terms =
    op2 (Compare Eq Binary) (col 1 1) (col 0 0)
    ∷ op2 (Compare Eq Binary) (col 1 7) (lit (Int (pos 0)))
    ∷ op2 (Compare Ge Binary) (col 1 8) (lit (Int (pos 1))) ∷ []

-- a row of blocks under the key of a bucket
abbrev beside_terms : List Term
beside_terms =
    op2 (Compare Eq Binary) (col 2 1) (col 1 1) ∷ op2 (Compare Eq Binary) (col 2 2) (col 1 2) ∷ []

-- of a part
abbrev project_all : List Term
project_all =
    col 1 2 ∷ col 1 3 ∷ col 1 4 ∷ col 1 5 ∷ col 1 6 ∷ col 1 7 ∷ col 1 8 ∷ col 1 9 ∷ col 1 10
    ∷ col 2 0 ∷ []

-- of the two parts joined
abbrev shown : List Term
shown =
    col 1 1 ∷ col 1 2 ∷ col 1 3 ∷ col 1 4 ∷ col 1 5 ∷ col 1 6 ∷ col 1 7 ∷ col 1 8 ∷ col 1 9
    ∷ col 1 10 ∷ []

abbrev by : List Collation
by =
    Binary ∷ Binary ∷ Binary ∷ Binary ∷ Binary ∷ Binary ∷ Binary ∷ Binary ∷ Binary ∷ Binary
    ∷ Binary ∷ []

abbrev order : List (Term × Key)
order = (col 1 3, record { collation = Binary; descending = false }) ∷
    (col 1 1, record { collation = Binary; descending = false }) ∷ []

abbrev names_all : List (List ℕ)
names_all = names ++ codes "counts_blocks" ∷ []

text_is : (command_of (understood our_schema read_live_text)
    ≡ Select (union_of 11 (part_beside 4 left_terms 27 beside_terms project_all)
    (part_beside 4 held_terms 27 beside_terms project_all) by shown order) names_all) ×
    (reads_listing our_schema read_live_text ≡ false)
unfolding understood everything
text_is = (refl, refl)

pub read_live_plain : IsPlain (understood our_schema read_live_text)
unfolding understood everything
read_live_plain = (refl, refl)

-- ---- the tests

abbrev left_tested : Row → Bool
left_tested r = is_any (column r 7)

abbrev held_tested : Row → Bool
held_tested r = equal Binary (column r 7) (nat 0) && is_any (column r 8)

left_same : (r : Row) → HasNumbers r → left_tested r ≡ is_left (bucket_in_row (drop 1 r))
left_same [] has = absurd (let none : Null ≡ nat 0 = has.available in cc)
left_same (v ∷ vs) has = ap is_any has.available ∙ any_told (nat_in (column vs 6))

held_same : (r : Row) → HasNumbers r → held_tested r ≡ is_held (bucket_in_row (drop 1 r))
held_same [] has = absurd (let none : Null ≡ nat 0 = has.available in cc)
held_same (v ∷ vs) has =
    ap₂ ◌&&◌ (ap (λ w. equal Binary w (nat 0)) has.available ∙ none_told (nat_in (column vs 6)))
    (ap is_any has.reserved ∙ any_told (nat_in (column vs 7)))

-- one of the two passes, where one that isn't spent does
or_right : (p q : Bool) → q ≡ true → (p || q) ≡ true
or_right true q e = refl
or_right false q e = e

nothing_left : (m : ℕ) (z : Bool) → nat_lt 0 m ≡ false → nat_eq 0 m ≡ z → z ≡ true
nothing_left m true none e = refl
nothing_left m false none e = absurd (grind (arith, nat_tests, none, e))

left_lives : (b : BucketRow) → is_left b ≡ true → is_live_bucket b ≡ true
left_lives b e = ap (λ t. t || nat_lt 0 b.reserved) e

held_lives : (b : BucketRow) → is_held b ≡ true → is_live_bucket b ≡ true
held_lives b e = or_right (nat_lt 0 b.available) (nat_lt 0 b.reserved)
    (and_parts (nat_eq 0 b.available) (nat_lt 0 b.reserved) e).1

lives_held : (b : BucketRow) → is_left b ≡ false → is_live_bucket b ≡ true → is_held b ≡ true
lives_held b none e =
    and_from (nat_eq 0 b.available) (nat_lt 0 b.reserved)
    (nothing_left b.available (nat_eq 0 b.available) none refl)
    (sym (ap (λ t. t || nat_lt 0 b.reserved) none) ∙ e)

-- ---- the row beside

abbrev places : List ℕ
places = 1 ∷ 2 ∷ []

-- a row of blocks has the key of a bucket's row
abbrev is_beside : Row → Row → Bool
is_beside r s =
    equal Binary (column s 1) (column r 1) && (equal Binary (column s 2) (column r 2) && true)

-- one that has it is found under the key
any_looked : (key : Row) (rows : List Row)
    → list_any (meets places key) rows
    ≡ is_some (look_in row_cmp key (entries_of places rows))
any_looked key [] = refl
any_looked key (r ∷ rows) = elim (cases_Bool (meets places key r)) [
  | inl e ↦ rw e refl
  | inr e ↦ rw (e, any_looked key rows) refl
]

any_alike : (p q : Row → Bool) → ((r : Row) → p r ≡ q r) → (rows : List Row)
    → list_any p rows ≡ list_any q rows
any_alike p q same [] = refl
any_alike p q same (r ∷ rows) = rw (same r, any_alike p q same rows) refl

some_mapped : {X Y : Type 0} (f : X → Y) (o : Option X) → is_some (option_map f o) ≡ is_some o
some_mapped f None = refl
some_mapped f (Some x) = refl

-- with the key of a bucket, a row has the key of the bucket's row
beside_is : (key r : Row) → AllByRecursion (λ v. is_null v ≡ false) key
    → meets places key r ≡ true → (s : Row) → is_beside r s ≡ meets places key s
unfolding first_key
beside_is key r none e s =
    agree_ties places s r (full_key places key r none e)
    ∙ same_test _ _ (keys_back (key_of places s) (key_of places r))
    (keys_back (key_of places r) (key_of places s))
    ∙ ap is_eq (sym (row_cmp_total.congr key (key_of places r) (key_of places s) (equal_is _ e)))

-- ---- the rows as buckets

-- the columns of a row, and whether a row of blocks is beside it
abbrev full : List Row → Row → Row
full others r = columns r ++ nat (flag_number (list_any (is_beside r) others)) ∷ []

record IsBucketOf (x : LiveBucket) (r : Row) (v : Value) : Type 0 where
  columns : bucket_cells (bucket_row x.columns) ≡ columns r
  flag : nat (flag_number x.counts_blocks) ≡ v

bucket_of : (x : LiveBucket) (r : Row) (v : Value) → live_cells x ≡ columns r ++ v ∷ []
    → IsBucketOf x r v
bucket_of x r v is = go x.columns.kind refl is
  where
    go : (k : BucketKind) → x.columns.kind ≡ k
        → cells_of k (money_cells (bucket_row x.columns)) ++ nat (flag_number x.counts_blocks) ∷ []
        ≡ columns r ++ v ∷ [] → IsBucketOf x r v
    go Money e is = record {
      columns = ap (λ k. cells_of k (money_cells (bucket_row x.columns))) e ∙ ap (take 9) is;
      flag = ap (λ (w : Row). column w 9) is;
    }
    go Blocks e is = absurd (let none : [] ≡ drop 1 (columns r ++ v ∷ []) = ap (drop 1) is in cc)

-- without the last column
plain_list : (test : Row → Bool) (others stored : List Row) (xs : List LiveBucket)
    → AreAnswered test (full others) stored (map live_cells xs)
    → AreAnswered test columns stored (map bucket_cells (map bucket_row (columns_of xs)))
plain_list test others stored xs answered = record {
  from = λ v h.
      let b = mapped_from bucket_cells (map bucket_row (columns_of xs)) v h in
      let c = mapped_from bucket_row (columns_of xs) b.0 b.1 in
      let x = mapped_from (λ (x : LiveBucket). x.columns) xs c.0 c.1 in
      let it = answered.from (live_cells x.0) (mapped_to live_cells xs x.0 x.1) in
      let is = bucket_of x.0 it.0 _ it.3 in
      (it.0, it.1, it.2, b.2 ∙ ap bucket_cells (c.2 ∙ ap bucket_row x.2) ∙ is.columns);
  to = λ r h e.
      let x = mapped_from live_cells xs (full others r) (answered.to r h e) in
      let is = bucket_of x.0 r _ (sym x.2) in
      subst (Has (map bucket_cells (map bucket_row (columns_of xs)))) is.columns
      (mapped_to bucket_cells _ _ (mapped_to bucket_row _ _
      (mapped_to (λ (x : LiveBucket). x.columns) xs x.0 x.1)));
}

flag_back : (p q : Bool) → nat (flag_number p) ≡ nat (flag_number q) → p ≡ q
flag_back true true e = refl
flag_back true false e = absurd (let f : flag_number true ≡ flag_number false = ap nat_in e in cc)
flag_back false true e = absurd (let f : flag_number false ≡ flag_number true = ap nat_in e in cc)
flag_back false false e = refl

each_kind : (f : BucketColumns → Bool) (xs : List LiveBucket)
    → ((x : LiveBucket) → Has xs x → x.counts_blocks ≡ f x.columns)
    → map (λ (x : LiveBucket). x.counts_blocks) xs ≡ map f (columns_of xs)
each_kind f [] each = refl
each_kind f (x ∷ xs) each =
    ap₂ ◌∷◌ (each x (inl refl)) (each_kind f xs (λ y h. each y (inr h)))

-- ---- the buckets

module _ (a : List ℕ) where
  abbrev passes : Row → Bool
  passes r = front a r && is_live_bucket (bucket_in_row (drop 1 r))

  abbrev left_passes : Row → Bool
  left_passes r = front a r && left_tested r

  abbrev held_passes : Row → Bool
  held_passes r = front a r && held_tested r

  left_pass : (r : Row) → HasNumbers r → left_passes r ≡ true → passes r ≡ true
  left_pass r has e =
      let both = and_parts (front a r) (left_tested r) e in
      and_from (front a r) (is_live_bucket (bucket_in_row (drop 1 r))) both.0
      (left_lives (bucket_in_row (drop 1 r)) (sym (left_same r has) ∙ both.1))

  held_pass : (r : Row) → HasNumbers r → held_passes r ≡ true → passes r ≡ true
  held_pass r has e =
      let both = and_parts (front a r) (held_tested r) e in
      and_from (front a r) (is_live_bucket (bucket_in_row (drop 1 r))) both.0
      (held_lives (bucket_in_row (drop 1 r)) (sym (held_same r has) ∙ both.1))

  pass_either : (r : Row) → HasNumbers r → passes r ≡ true →
      (left_passes r ≡ true) ⊎ (held_passes r ≡ true)
  pass_either r has e =
      let both = and_parts (front a r) (is_live_bucket (bucket_in_row (drop 1 r))) e in
      elim (cases_Bool (is_left (bucket_in_row (drop 1 r)))) [
        | inl some ↦ inl
            (and_from (front a r) (left_tested r) both.0 (left_same r has ∙ some))
        | inr none ↦ inr
            (and_from (front a r) (held_tested r) both.0
            (held_same r has ∙ lives_held (bucket_in_row (drop 1 r)) none both.1))
      ]

  -- both parts are one list of those that aren't spent
  one_list : (shows : Row → Row) (stored out : List Row)
      → ((r : Row) → Has stored r → HasNumbers r)
      → AreUnited left_passes held_passes shows shows stored stored out
      → AreAnswered passes shows stored out
  one_list shows stored out numbers united = record {
    from = λ v h.
        elim (united.from v h) [
          | inl x ↦ (x.0, x.1, left_pass x.0 (numbers x.0 x.1) x.2, x.3)
          | inr x ↦ (x.0, x.1, held_pass x.0 (numbers x.0 x.1) x.2, x.3)
        ];
    to = λ r h e.
        elim (pass_either r (numbers r h) e) [
          | inl p ↦ united.to_one r h p
          | inr p ↦ united.to_two r h p
        ];
  }

  told_live : (x : BucketRow) (r : Row) → is_live_bucket (bucket_in_row (drop 1 r)) ≡ true
      → bucket_cells x ≡ columns r → is_live_bucket x ≡ true
  told_live x r e is = ap is_live_bucket (sym (back x r is)) ∙ e

  answered : (old new : State) (rows : List Row) → Answers read_live_text (Text a ∷ []) old new rows
      → AreAnswered passes (full (old.now.trees 27)) (old.now.trees 4) rows
  answered old new rows got =
      one_list (full (old.now.trees 27)) (old.now.trees 4) rows
      (λ r h. has_numbers old.now.trees got.fits r h)
      (beside_told 4 4 27 refl refl refl left_terms held_terms beside_terms project_all 11 by shown
      order (Text a ∷ []) left_passes held_passes is_beside (λ r v. columns r ++ v ∷ [])
      (λ r w. and_last (front a r) (left_tested r))
      (λ r w. ap (λ t. front a r && t)
      (and_last (equal Binary (column r 7) (nat 0)) (is_any (column r 8))))
      (λ r s. refl) (λ r v. refl) (λ r v. refl) read_live_text names_all text_is read_live_plain
      old new rows got)

  -- what is read of a row counts blocks where a row is under its key
  kind_told : (trees : Trees) (x : LiveBucket) (r : Row) → passes r ≡ true
      → live_cells x ≡ full (trees 27) r
      → x.counts_blocks ≡ (rows_in trees a).allowances x.columns.number
  kind_told trees x r e same =
      let is = bucket_of x r _ same in
      let n = x.columns.number in
      let key = bucket_key a n in
      let meet : meets places key r ≡ true =
      splits a n r
      ∙ and_from (front a r) (rest a n r)
      (and_parts (front a r) (is_live_bucket (bucket_in_row (drop 1 r))) e).0
      (wanted a n (bucket_row x.columns) r is.columns ∙ (unsigned_Decides n n).1 refl) in
      flag_back _ _ is.flag
      ∙ any_alike (is_beside r) (meets places key) (beside_is key r (refl, (refl, tt)) meet)
      (trees 27)
      ∙ any_looked key (trees 27)
      ∙ ap is_some (sym (get-from_entries row_cmp_total (entries_of places (trees 27)) key))
      ∙ sym (some_mapped allowance_in (look allowance_buckets trees key))

  live_buckets : (old new : State) (rows : List Row) (xs : List LiveBucket)
      → Answers read_live_text (Text a ∷ []) old new rows
      → AreAnswered passes columns (old.now.trees 4)
      (map bucket_cells (map bucket_row (columns_of xs)))
      → AreBuckets is_live_bucket (rows_in old.now.trees a) (map bucket_row (columns_of xs))
  live_buckets old new rows xs got list n =
      answered_told buckets (inr (inr (inl refl))) (inr (inr (inl refl))) refl old.now.trees
      got.fits (got.book.stored.1.1.0) bucket_in_row bucket_cells columns
      passes (bucket_key a n) (refl, (refl, tt)) (λ x r m. back x r)
      (λ x. nat_eq x.number n) is_live_bucket (front a) (rest a n)
      (λ r. is_live_bucket (bucket_in_row (drop 1 r)))
      (λ r. refl) (splits a n) (wanted a n) (λ r m h. h) told_live
      (map bucket_row (columns_of xs)) list

  pub live_read : (old new : State) (rows : List Row) (xs : List LiveBucket)
      → Answers read_live_text (Text a ∷ []) old new rows
      → map live_cells xs ≡ rows → AreLive (rows_in old.now.trees a) xs
  live_read old new rows xs got is =
      let trees = old.now.trees in
      let list : AreAnswered passes (full (trees 27)) (trees 4) (map live_cells xs) =
      subst (AreAnswered passes (full (trees 27)) (trees 4)) (sym is) (answered old new rows got) in
      record {
        buckets = live_buckets old new rows xs got
            (plain_list passes (trees 27) (trees 4) xs list);
        kinds = each_kind (λ c. (rows_in trees a).allowances c.number) xs (λ x h.
            let it = list.from (live_cells x) (mapped_to live_cells xs x h) in
            kind_told trees x it.0 it.2 it.3);
      }
