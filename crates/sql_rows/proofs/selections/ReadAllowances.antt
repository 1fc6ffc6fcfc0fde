-- What the text of `read_allowances` answers.
use Rattle.std.specs.Prelude.{codes, is_some}
use Rattle.std.proofs.Common.{◌≡◌, inl, inr, ℕ, List, [], ◌∷◌, map, drop, Bool, true, false}
use Rattle.std.proofs.Common.{◌&&◌, is_eq, nat_eq, ap₂, refl, sym, ap, subst, ◌∙◌}
use Rattle.sqlite_value.specs.declared.value.Value.TheVariants.{Null, Text}
use Rattle.sqlite_value.specs.declared.keys.Collation.TheVariants.{Binary}
use Rattle.sqlite_value.specs.declared.keys.Key.{Key}
use Rattle.sqlite_value.specs.Order.{Row, column, value_cmp}
use Rattle.sqlite_sql.specs.declared.ops.BinaryOp.TheVariants.{Compare}
use Rattle.sqlite_sql.specs.declared.ops.CompareOp.TheVariants.{Eq}
use Rattle.sqlite_sql.specs.Term.{Term, col, op2}
use Rattle.sqlite_schema.specs.declared.command.Command.TheVariants.{Select}
use Rattle.sqlite_schema.specs.Rules.{equal}
use Rattle.sqlite_tied.specs.Compute.{everything}
use Rattle.sqlite.specs.Given.{IsPlain}
use Rattle.sqlite.specs.Listing.{understood, reads_listing}
use Rattle.sqlite.specs.State.{State}
use Rattle.sqlite.proofs.Callers.{command_of}
use Rattle.sql_tables.specs.Schema.{allowance_buckets, our_schema}
use Rattle.sql_tables.specs.Selects.{Selects}
use Rattle.sql_tables.specs.Statements.{Answers}
use Rattle.sql_tables.proofs.ByKey.{listed_told, only_all}
use Rattle.sql_tables.proofs.Columns.{equal_turned}
use Rattle.sql_tables.proofs.Keys.{keys_split, int_tie}
use Rattle.sql_tables.proofs.Selected.{select_from, told}
use Rattle.sql_tables.proofs.Selections.{meets}
use Rattle.sql_tables.proofs.Steps.{and_true}
use Rattle.sql_rows.specs.Values.{nat, bucket_key, allowance_in, number_cells}
use Rattle.sql_rows.specs.Content.{rows_in}
use Rattle.sql_rows.specs.Lists.{AreAllowances}

abbrev pub project : List Term
project = col 1 2 ∷ []

abbrev pub names : List (List ℕ)
names = codes "number" ∷ []

abbrev pub columns : Row → Row
columns r = column r 2 ∷ []

pub same_columns : (r : Row) → allowance_in (drop 1 r) ≡ allowance_in (Null ∷ columns r)
same_columns [] = refl
same_columns (v ∷ vs) = refl

back : (x : ℕ) (r : Row) → number_cells x ≡ columns r → allowance_in (drop 1 r) ≡ x
back x r is = same_columns r ∙ ap (λ w. allowance_in (Null ∷ w)) (sym is) ∙ refl

abbrev pub read_allowances_text : List ℕ
read_allowances_text =
    codes "SELECT number FROM allowance_buckets WHERE account = ?1 ORDER BY number"

abbrev pub of_account : List Term
of_account = op2 (Compare Eq Binary) (col 1 1) (col 0 0) ∷ []

abbrev pub order : List (Term × Key)
order = (col 1 2, record { collation = Binary; descending = false }) ∷ []

pub text_is : (command_of (understood our_schema read_allowances_text)
    ≡ Select (record { lets = []; body = select_from 27 of_account project order }) names) ×
    (reads_listing our_schema read_allowances_text ≡ false)
unfolding understood everything
text_is = (refl, refl)

pub read_allowances_plain : IsPlain (understood our_schema read_allowances_text)
unfolding understood everything
read_allowances_plain = (refl, refl)

module _ (a : List ℕ) where
  abbrev pub front : Row → Bool
  front r = equal Binary (column r 1) (Text a)

  abbrev pub rest : ℕ → Row → Bool
  rest n r = is_eq (value_cmp (nat n) (column r 2))

  pub splits : (n : ℕ) (r : Row) → meets (1 ∷ 2 ∷ []) (bucket_key a n) r ≡ (front r && rest n r)
  splits n r =
      keys_split (Text a) (column r 1) (nat n ∷ []) (column r 2 ∷ [])
      ∙ ap₂ ◌&&◌ (sym (equal_turned (column r 1) (Text a) refl))
      (keys_split (nat n) (column r 2) [] [] ∙ and_true _)

  wanted : (n x : ℕ) (r : Row) → number_cells x ≡ columns r → rest n r ≡ nat_eq x n
  wanted n x r is =
      ap (λ (w : Row). is_eq (value_cmp (nat n) (column w 0))) (sym is) ∙ int_tie x n

  pub allowances_selected : (old new : State) (rows : List Row)
      → Answers read_allowances_text (Text a ∷ []) old new rows
      → Selects (λ r. front r && true) columns (old.now.trees 27) rows
  allowances_selected old new rows got =
      told read_allowances_text names 27 of_account project order text_is
      read_allowances_plain (Text a ∷ [])
      (λ r. front r && true) columns (λ r. refl) (λ r. refl) old new rows got

  pub allowances_read : (old new : State) (rows : List Row) (xs : List ℕ)
      → Answers read_allowances_text (Text a ∷ []) old new rows
      → map number_cells xs ≡ rows → AreAllowances (rows_in old.now.trees a) xs
  allowances_read old new rows xs got is n =
      ap is_some
      (listed_told allowance_buckets
      (inr (inr (inr (inr (inr (inr (inr (inr (inr (inr (inr (inr (inl refl)))))))))))))
      (inr (inr (inr (inr (inr (inr (inr (inr
      (inr (inr (inr (inr (inr (inr (inr (inl refl))))))))))))))))
      refl old.now.trees got.fits (got.book.stored.1.1.1.1.1.1.1.1.1.1.1.1.0) allowance_in
      number_cells columns (λ r. front r && true) (bucket_key a n) (refl, (refl, tt))
      (λ x r m. back x r) (λ x. nat_eq x n) (λ x. true) front (rest n)
      (λ r. true) (λ r. refl) (splits n) (wanted n) (λ r m h. refl) (λ x r e same. refl) xs
      (subst (Selects (λ r. front r && true) columns (old.now.trees 27)) (sym is)
      (allowances_selected old new rows got))
      ∙ only_all _)
