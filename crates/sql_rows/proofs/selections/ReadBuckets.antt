-- What the text of `read_buckets_all` answers.
use Rattle.std.specs.Prelude.{codes}
use Rattle.std.proofs.Common.{◌≡◌, inl, inr, ℕ, List, [], ◌∷◌, ◌++◌, map, drop, Bool, true, false}
use Rattle.std.proofs.Common.{◌&&◌, is_eq, refl, sym, ap, ap₂, subst, ◌∙◌, nat_eq}
use Rattle.sqlite_value.specs.declared.value.Value.TheVariants.{Null, Text}
use Rattle.sqlite_value.specs.declared.keys.Collation.TheVariants.{Binary}
use Rattle.sqlite_value.specs.declared.keys.Key.{Key}
use Rattle.sqlite_value.specs.Order.{Row, column, value_cmp}
use Rattle.sqlite_sql.specs.declared.ops.BinaryOp.TheVariants.{Compare}
use Rattle.sqlite_sql.specs.declared.ops.CompareOp.TheVariants.{Eq}
use Rattle.sqlite_sql.specs.Term.{Term, col, op2}
use Rattle.sqlite_schema.specs.declared.command.Command.TheVariants.{Select}
use Rattle.sqlite_schema.specs.Rules.{equal}
use Rattle.sqlite_tied.specs.Compute.{everything}
use Rattle.sqlite.specs.Given.{IsPlain}
use Rattle.sqlite.specs.Listing.{understood, reads_listing}
use Rattle.sqlite.specs.State.{State}
use Rattle.sqlite.proofs.Callers.{command_of}
use Rattle.sql_tables.specs.Schema.{buckets, our_schema}
use Rattle.sql_tables.specs.Selects.{Selects}
use Rattle.sql_tables.specs.Statements.{Answers}
use Rattle.sql_tables.proofs.ByKey.{listed_told}
use Rattle.sql_tables.proofs.Columns.{equal_turned}
use Rattle.sql_tables.proofs.Keys.{keys_split, int_tie}
use Rattle.sql_tables.proofs.Selected.{select_from, told}
use Rattle.sql_tables.proofs.Selections.{meets}
use Rattle.sql_tables.proofs.Steps.{and_true}
use Rattle.buckets.specs.declared.kind.BucketKind.{BucketKind}
use Rattle.buckets.specs.declared.kind.BucketKind.TheVariants.{Money, Blocks}
use Rattle.buckets.specs.Row.{BucketRow}
use Rattle.sql_rows.specs.Values.{nat, bucket_key, bucket_in_row, bucket_cells, cells_of}
use Rattle.sql_rows.specs.Values.{money_cells}
use Rattle.sql_rows.specs.Content.{rows_in}
use Rattle.sql_rows.specs.Lists.{AreBuckets}
use Rattle.sql_rows.proofs.puts.PutBucket.{bucket_told}

abbrev pub project : List Term
project =
    col 1 2 ∷ col 1 3 ∷ col 1 4 ∷ col 1 5 ∷ col 1 6 ∷ col 1 7 ∷ col 1 8 ∷ col 1 9 ∷ col 1 10 ∷ []

abbrev pub names : List (List ℕ)
names = codes "number" ∷ codes "starts" ∷ codes "ends" ∷ codes "scope" ∷ codes "credited"
    ∷ codes "available" ∷
    codes "reserved" ∷ codes "charged" ∷ codes "expired" ∷ []

abbrev pub columns : Row → Row
columns r = column r 2 ∷ column r 3 ∷ column r 4 ∷ column r 5 ∷ column r 6 ∷ column r 7 ∷ column r 8
    ∷ column r 9 ∷
    column r 10 ∷ []

pub same_columns : (r : Row) → bucket_in_row (drop 1 r) ≡ bucket_in_row (Null ∷ columns r)
same_columns [] = refl
same_columns (v ∷ vs) = refl

-- a bucket that is read counts money
counted : (x : BucketRow) (r : Row) → bucket_cells x ≡ columns r → x.kind ≡ Money
counted x r is = go x.kind refl is
  where
    go : (k : BucketKind) → x.kind ≡ k → cells_of k (money_cells x) ≡ columns r → x.kind ≡ Money
    go Money e is = e
    go Blocks e is = absurd (let none : [] ≡ columns r = is in cc)

money_read : (x : BucketRow) (r : Row) → bucket_cells x ≡ columns r → money_cells x ≡ columns r
money_read x r is = ap (λ k. cells_of k (money_cells x)) (sym (counted x r is)) ∙ is

pub back : (x : BucketRow) (r : Row) → bucket_cells x ≡ columns r → bucket_in_row (drop 1 r) ≡ x
back x r is = same_columns r ∙ ap (λ w. bucket_in_row (Null ∷ w)) (sym (money_read x r is))
    ∙ bucket_told Null x (counted x r is)

abbrev pub read_buckets_all_text : List ℕ
read_buckets_all_text =
    codes "SELECT number, starts, ends, scope, credited, available, reserved, charged, expired "
    ++ codes "FROM buckets WHERE account = ?1 ORDER BY number"

abbrev buckets_all_terms : List Term
buckets_all_terms =
    op2 (Compare Eq Binary) (col 1 1) (col 0 0) ∷ []

abbrev buckets_all_order : List (Term × Key)
buckets_all_order = (col 1 2, record { collation = Binary; descending = false }) ∷ []

buckets_all_is : (command_of (understood our_schema read_buckets_all_text)
    ≡ Select (record {
      lets = [];
      body = select_from 4 buckets_all_terms project buckets_all_order;
    }) names) ×
    (reads_listing our_schema read_buckets_all_text ≡ false)
unfolding understood everything
buckets_all_is = (refl, refl)

pub read_buckets_all_plain : IsPlain (understood our_schema read_buckets_all_text)
unfolding understood everything
read_buckets_all_plain = (refl, refl)

module _ (a : List ℕ) where
  abbrev pub front : Row → Bool
  front r = equal Binary (column r 1) (Text a)

  abbrev pub rest : ℕ → Row → Bool
  rest n r = is_eq (value_cmp (nat n) (column r 2))

  pub splits : (n : ℕ) (r : Row) → meets (1 ∷ 2 ∷ []) (bucket_key a n) r ≡ (front r && rest n r)
  splits n r =
      keys_split (Text a) (column r 1) (nat n ∷ []) (column r 2 ∷ [])
      ∙ ap₂ ◌&&◌ (sym (equal_turned (column r 1) (Text a) refl))
      (keys_split (nat n) (column r 2) [] [] ∙ and_true _)

  pub wanted : (n : ℕ) (x : BucketRow) (r : Row) → bucket_cells x ≡ columns r →
      rest n r ≡ nat_eq x.number n
  wanted n x r is =
      ap (λ (w : Row). is_eq (value_cmp (nat n) (column w 0))) (sym (money_read x r is))
      ∙ int_tie x.number n

  pub all_read : (old new : State) (rows : List Row) (bs : List BucketRow) →
      Answers read_buckets_all_text (Text a ∷ []) old new rows
      → map bucket_cells bs ≡ rows → AreBuckets (λ b. true) (rows_in old.now.trees a) bs
  all_read old new rows bs got is n =
      listed_told buckets (inr (inr (inl refl))) (inr (inr (inl refl))) refl old.now.trees got.fits
      (got.book.stored.1.1.0) bucket_in_row bucket_cells columns
      (λ r. front r && true) (bucket_key a n) (refl, (refl, tt)) (λ x r m. back x r)
      (λ x. nat_eq x.number n) (λ b. true) front (rest n) (λ r. true) (λ r. refl)
      (splits n) (wanted n) (λ r m h. refl) (λ x r e same. refl) bs
      (subst (Selects (λ r. front r && true) columns (old.now.trees 4)) (sym is)
      (told read_buckets_all_text names 4 buckets_all_terms project buckets_all_order buckets_all_is
      read_buckets_all_plain (Text a ∷ [])
      (λ r. front r && true) columns (λ r. refl) (λ r. refl) old new rows got))
