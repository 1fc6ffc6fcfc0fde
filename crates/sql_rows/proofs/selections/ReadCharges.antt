-- What the text of `read_charges_within` answers.
use Rattle.std.specs.Prelude.{codes}
use Rattle.std.proofs.Common.{◌≡◌, inl, inr, ℕ, zero, suc, List, [], ◌∷◌, ◌++◌, map, drop}
use Rattle.std.proofs.Common.{Bool, true, false, ◌&&◌, is_eq, refl, sym, ap, ap₂}
use Rattle.std.proofs.Common.{subst, ◌∙◌, nat_eq}
use Rattle.sqlite_value.specs.declared.value.Value.TheVariants.{Null, Text}
use Rattle.sqlite_value.specs.declared.keys.Collation.TheVariants.{Binary}
use Rattle.sqlite_value.specs.declared.keys.Key.{Key}
use Rattle.sqlite_value.specs.Order.{Row, column, value_cmp}
use Rattle.sqlite_sql.specs.declared.ops.BinaryOp.TheVariants.{Compare}
use Rattle.sqlite_sql.specs.declared.ops.CompareOp.TheVariants.{Eq, Gt, Le}
use Rattle.sqlite_sql.specs.Term.{Term, col, op2}
use Rattle.sqlite_schema.specs.declared.command.Command.TheVariants.{Select}
use Rattle.sqlite_schema.specs.Rules.{equal}
use Rattle.sqlite_tied.specs.Compute.{everything}
use Rattle.sqlite.specs.Given.{IsPlain}
use Rattle.sqlite.specs.Listing.{understood, reads_listing}
use Rattle.sqlite.specs.State.{State}
use Rattle.sqlite.proofs.Callers.{command_of}
use Rattle.sql_tables.specs.Schema.{charges, our_schema}
use Rattle.sql_tables.specs.Selects.{Selects}
use Rattle.sql_tables.specs.Statements.{Answers}
use Rattle.sql_tables.proofs.ByKey.{listed_told}
use Rattle.sql_tables.proofs.Columns.{equal_turned}
use Rattle.sql_tables.proofs.Keys.{keys_split, int_tie}
use Rattle.sql_tables.proofs.Selected.{select_from, told}
use Rattle.sql_tables.proofs.Selections.{meets}
use Rattle.sql_tables.proofs.Steps.{and_last, and_true}
use Rattle.ledger.specs.declared.charge.ChargeRow.{ChargeRow}
use Rattle.sql_rows.specs.Values.{nat, charge_key, charge_in_row, charge_cells, cells_beside}
use Rattle.sql_rows.specs.Values.{priced_cells}
use Rattle.sql_rows.specs.Content.{rows_in}
use Rattle.sql_rows.specs.Lists.{AreChargeRows, is_row_within}
use Rattle.sql_rows.proofs.puts.PutCharge.{charge_told}
use Rattle.sql_rows.proofs.queries.Ranges.{is_beyond, is_up_to, lies_within, within_told}
use Rattle.sql_rows.proofs.queries.Ranges.{number_within}

abbrev project : List Term
project = col 1 2 ∷ col 1 3 ∷ col 1 4 ∷ col 1 5 ∷ col 1 6 ∷ col 1 7 ∷ col 1 8 ∷ col 1 9 ∷ []

abbrev names : List (List ℕ)
names = codes "number" ∷ codes "moment" ∷ codes "session" ∷ codes "rating_group" ∷ codes "blocks"
    ∷ codes "rated" ∷
    codes "collected" ∷ codes "uncollected" ∷ []

abbrev columns : Row → Row
columns r = column r 2 ∷ column r 3 ∷ column r 4 ∷ column r 5 ∷ column r 6 ∷ column r 7 ∷ column r 8
    ∷ column r 9 ∷ []

same_columns : (r : Row) → charge_in_row (drop 1 r) ≡ charge_in_row (Null ∷ columns r)
same_columns [] = refl
same_columns (v ∷ vs) = refl

-- no block of a charge that is read is covered
uncovered : (x : ChargeRow) (r : Row) → charge_cells x ≡ columns r → x.covered.0 ≡ 0
uncovered x r is = go x.covered.0 refl is
  where
    go : (n : ℕ) → x.covered.0 ≡ n → cells_beside n (priced_cells x) ≡ columns r →
        x.covered.0 ≡ 0
    go zero e is = e
    go (suc n) e is = absurd (let none : [] ≡ columns r = is in cc)

priced_read : (x : ChargeRow) (r : Row) → charge_cells x ≡ columns r →
    priced_cells x ≡ columns r
priced_read x r is = ap (λ n. cells_beside n (priced_cells x)) (sym (uncovered x r is)) ∙ is

back : (x : ChargeRow) (r : Row) → charge_cells x ≡ columns r → charge_in_row (drop 1 r) ≡ x
back x r is = same_columns r ∙ ap (λ w. charge_in_row (Null ∷ w)) (sym (priced_read x r is))
    ∙ charge_told Null x (uncovered x r is)

abbrev pub read_charges_within_text : List ℕ
read_charges_within_text =
    codes "SELECT number, moment, session, rating_group, blocks, rated, collected, uncollected "
    ++ codes "FROM charges WHERE account = ?1 AND number > ?2 AND number <= ?3 ORDER BY number"

abbrev charges_terms : List Term
charges_terms =
    op2 (Compare Eq Binary) (col 1 1) (col 0 0)
    ∷ op2 (Compare Gt Binary) (col 1 2) (col 0 1)
    ∷ op2 (Compare Le Binary) (col 1 2) (col 0 2) ∷ []

abbrev charges_order : List (Term × Key)
charges_order = (col 1 2, record { collation = Binary; descending = false }) ∷ []

charges_is : (command_of (understood our_schema read_charges_within_text)
    ≡ Select (record {
      lets = [];
      body = select_from 18 charges_terms project charges_order;
    }) names) ×
    (reads_listing our_schema read_charges_within_text ≡ false)
unfolding understood everything
charges_is = (refl, refl)

pub read_charges_within_plain : IsPlain (understood our_schema read_charges_within_text)
unfolding understood everything
read_charges_within_plain = (refl, refl)

module _ (a : List ℕ) (after last : ℕ) where
  abbrev front : Row → Bool
  front r = equal Binary (column r 1) (Text a)

  abbrev rest : ℕ → Row → Bool
  rest n r = is_eq (value_cmp (nat n) (column r 2))

  abbrev extra : Row → Bool
  extra r = lies_within after last (column r 2)

  splits : (n : ℕ) (r : Row) → meets (1 ∷ 2 ∷ []) (charge_key a n) r ≡ (front r && rest n r)
  splits n r =
      keys_split (Text a) (column r 1) (nat n ∷ []) (column r 2 ∷ [])
      ∙ ap₂ ◌&&◌ (sym (equal_turned (column r 1) (Text a) refl))
      (keys_split (nat n) (column r 2) [] [] ∙ and_true _)

  wanted : (n : ℕ) (x : ChargeRow) (r : Row) → charge_cells x ≡ columns r →
      rest n r ≡ nat_eq x.number n
  wanted n x r is =
      ap (λ (w : Row). is_eq (value_cmp (nat n) (column w 0))) (sym (priced_read x r is))
      ∙ int_tie x.number n

  lies : (r : Row) → is_row_within after last (charge_in_row (drop 1 r)) ≡ true → extra r ≡ true
  lies [] h = number_within after last Null h
  lies (v ∷ vs) h = number_within after last (column vs 1) h

  lies_told : (x : ChargeRow) (r : Row) → extra r ≡ true → charge_cells x ≡ columns r →
      is_row_within after last x ≡ true
  lies_told x r e is =
      sym (within_told after last x.number)
      ∙ ap (λ (w : Row). lies_within after last (column w 0)) (priced_read x r is) ∙ e

  pub charges_read : (old new : State) (rows : List Row) (xs : List ChargeRow) →
      Answers read_charges_within_text (Text a ∷ nat after ∷ nat last ∷ []) old new rows
      → map charge_cells xs ≡ rows → AreChargeRows (is_row_within after last)
      (rows_in old.now.trees a) xs
  charges_read old new rows xs got is n =
      listed_told charges (inr (inr (inr (inr (inr (inr (inr (inr (inr (inl refl))))))))))
      (inr (inr (inr (inr (inr (inr (inr (inr (inr (inl refl)))))))))) refl old.now.trees got.fits
      (got.book.stored.1.1.1.1.1.1.1.1.1.0) charge_in_row charge_cells columns
      (λ r. front r && extra r) (charge_key a n) (refl, (refl, tt)) (λ x r m. back x r)
      (λ x. nat_eq x.number n) (is_row_within after last) front (rest n) extra (λ r. refl)
      (splits n) (wanted n) (λ r m. lies r) lies_told xs
      (subst (Selects (λ r. front r && extra r) columns (old.now.trees 18)) (sym is)
      (told read_charges_within_text names 18 charges_terms project charges_order charges_is
      read_charges_within_plain (Text a ∷ nat after ∷ nat last ∷ [])
      (λ r. front r && extra r) columns
      (λ r. ap (λ t. front r && t)
      (and_last (is_beyond (column r 2) (nat after)) (is_up_to (column r 2) (nat last))))
      (λ r. refl) old new rows got))
